use Rattle.std.proofs.Common.{◌≡◌, inl, inr, rules, subst}
use Rattle.std.specs.Option.{option_copied}
use Rattle.pem_stores.specs.Entries.{IsOwned}
use Rattle.pem_stores.specs.declared.ownership.Owned.TheVariants.{Own, Untold}
use Rattle.pem_stores.proofs.text_entries.entries_of_texts.Goals as goal

pub returns-in_ok-entered-in-Own-clause-ok : goal.returns-in_ok-entered-in-Own-clause-ok
returns-in_ok-entered-in-Own-clause-ok c =
    let same : c.in_ok-own.field-0 ≡ Own c.in-Own.own = first_of (cc, search rules) in
    record {
      key_text = c.in_ok-key.key;
      has_key = c.in_ok-key.ensures.ok;
      all = c.in_ok-certificates.certificates.items;
      has_certificates = c.in_ok-certificates.ensures.ok;
      own = c.in-Own.own;
      owned = inl (subst (IsOwned c.in_ok-key.key c.in_ok-certificates.certificates.items (option_copied c.args.texts.now.name)) same c.in_ok-own.ensures);
      entered = c.in_ok-entered-in-Own.ensures;
    }

pub returns-in_ok-entered-in-Untold-clause-ok : goal.returns-in_ok-entered-in-Untold-clause-ok
returns-in_ok-entered-in-Untold-clause-ok c =
    let same : c.in_ok-own.field-0 ≡ Untold c.in-Untold.own = first_of (cc, search rules) in
    record {
      key_text = c.in_ok-key.key;
      has_key = c.in_ok-key.ensures.ok;
      all = c.in_ok-certificates.certificates.items;
      has_certificates = c.in_ok-certificates.ensures.ok;
      own = c.in-Untold.own;
      owned = inr (subst (IsOwned c.in_ok-key.key c.in_ok-certificates.certificates.items (option_copied c.args.texts.now.name)) same c.in_ok-own.ensures);
      entered = c.in_ok-entered-in-Untold.ensures;
    }
