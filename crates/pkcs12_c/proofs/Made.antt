-- What making a store of entries comes to, over random octets that are given.
use Rattle.std.proofs.Common.{ℕ, ◌≡◌, ◌≤◌, ◌<◌, ◌^◌, ◌∙◌, List, ap, subst}
use Rattle.std.specs.Prelude.{Option, Some, Result, Ok, Err, IfOk, IfErr}
use Rattle.create_core.specs.Created.{DrawsAndCreates, RefusesToCreate}
use Rattle.create_core.specs.Laws.{CreatedOpens}
use Rattle.create_core.specs.declared.entry.CertificateEntry.{CertificateEntry}
use Rattle.create_core.specs.declared.entry.KeyEntry.{KeyEntry}
use Rattle.create_core.specs.declared.error.CreateError.{CreateError}
use Rattle.pem_stores.specs.declared.text_entries.TextEntries.{TextEntries}
use Rattle.pkcs12_c.specs.Created.{Asked, IsMade, RefusesToMake}

module _ (a : Asked) (e : TextEntries) (random : List ℕ) (ks : List KeyEntry) (cs : List CertificateEntry) (left : List ℕ) (keys : ks ≡ e.keys.items) (certificates : cs ≡ e.further.certificates.items) (told : left ≡ random) where
  pub entries_made : (spare b : List ℕ) → 1 ≤ a.rounds → a.rounds < 2 ^ 32 → CreatedOpens → DrawsAndCreates ks cs a.password a.rounds (Some left) (Some spare) b → IsMade a e random b
  entries_made spare b some fits laws d =
      let with_keys : DrawsAndCreates e.keys.items cs a.password a.rounds (Some left) (Some spare) b = subst (λ (l : List KeyEntry). DrawsAndCreates l cs a.password a.rounds (Some left) (Some spare) b) keys d in
      let with_both : DrawsAndCreates e.keys.items e.further.certificates.items a.password a.rounds (Some left) (Some spare) b =
      subst (λ (l : List CertificateEntry). DrawsAndCreates e.keys.items l a.password a.rounds (Some left) (Some spare) b) certificates with_keys in
      record {
        spare = spare;
        creates = subst (λ (l : List ℕ). DrawsAndCreates e.keys.items e.further.certificates.items a.password a.rounds (Some l) (Some spare) b) told with_both;
        opens = laws e.keys.items e.further.certificates.items a.password a.rounds with_both.drawn b some fits with_both.creates;
      }

  pub entries_refused : (before after : ℕ) (f : CreateError) → before ≡ 0 → RefusesToCreate ks cs a.rounds before after (Some left) f → RefusesToMake a e random f
  entries_refused before after f zero r =
      let with_keys : RefusesToCreate e.keys.items cs a.rounds before after (Some left) f = subst (λ (l : List KeyEntry). RefusesToCreate l cs a.rounds before after (Some left) f) keys r in
      let with_both : RefusesToCreate e.keys.items e.further.certificates.items a.rounds before after (Some left) f =
      subst (λ (l : List CertificateEntry). RefusesToCreate e.keys.items l a.rounds before after (Some left) f) certificates with_keys in (
        after,
        subst (λ (n : ℕ). RefusesToCreate e.keys.items e.further.certificates.items a.rounds n after (Some random) f) zero
            (subst (λ (l : List ℕ). RefusesToCreate e.keys.items e.further.certificates.items a.rounds before after (Some l) f) told with_both),
      )

pub made_ok : {T E : Type 0} (r : Result T E) (P Q : T → Type 0) → ((t : T) → P t → Q t) → IfOk r P → IfOk r Q
made_ok (Ok t) P Q f h = f t h
made_ok (Err e) P Q f h = tt

pub made_err : {T E : Type 0} (r : Result T E) (P Q : E → Type 0) → ((e : E) → P e → Q e) → IfErr r P → IfErr r Q
made_err (Ok t) P Q f h = tt
made_err (Err e) P Q f h = f e h

abbrev pub asked : List ℕ → List ℕ → ℕ → ℕ → Option (List ℕ) → Option (List ℕ) → List ℕ → Asked
asked key certificates limit rounds key_password name password = record {
  key = key;
  certificates = certificates;
  key_password = key_password;
  name = name;
  limit = limit;
  password = password;
  rounds = rounds;
}

-- the same is asked for where passwords and name are the same
pub same_asked : (key certificates : List ℕ) (limit rounds : ℕ) (k l m n : Option (List ℕ)) (p q : List ℕ) → k ≡ l → m ≡ n → p ≡ q → asked key certificates limit rounds k m p ≡ asked key certificates limit rounds l n q
same_asked key certificates limit rounds k l m n p q first second third =
    ap (λ x. asked key certificates limit rounds x m p) first ∙ ap (λ x. asked key certificates limit rounds l x p) second ∙ ap (λ x. asked key certificates limit rounds l n x) third
