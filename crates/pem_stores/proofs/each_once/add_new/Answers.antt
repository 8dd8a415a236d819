use Rattle.std.proofs.Common.{◌≡◌, ℕ, List, true, false, ap, sym, subst, ◌∙◌}
use Rattle.std.specs.Prelude.{OnOk}
use Rattle.std.specs.BTreeMap as tree
use Rattle.std.specs.Cmp.Lexicographic.{slice_cmp}
use Rattle.std.specs.Option.{is_some}
use Rattle.std.specs.Ordering.{nat_cmp}
use Rattle.pem_stores.specs.EachOnce.{has_octets}
use Rattle.pem_stores.proofs.Noted.{one_new, one_there}
use Rattle.pem_stores.proofs.each_once.add_new.Goals as goal

pub returns-then-contains_key-clause-all : goal.returns-then-contains_key-clause-all
returns-then-contains_key-clause-all c =
    let q = c.args.certificate.now in
    let same = ap (λ (d : List ℕ). is_some (tree.get_by (λ n. slice_cmp nat_cmp d n.now) c.args.noted.now)) c.as_slice.ensures in
    let there : has_octets c.args.all.now.items q ≡ true = sym (c.requires q) ∙ sym same ∙ sym c.contains_key.ensures ∙ c.if-contains_key.true in
    one_there c.args.all.now.items q there

pub returns-clause-all : goal.returns-clause-all
returns-clause-all c =
    let q = c.args.certificate.now in
    let same = ap (λ (d : List ℕ). is_some (tree.get_by (λ n. slice_cmp nat_cmp d n.now) c.args.noted.now)) c.as_slice.ensures in
    let apart : has_octets c.args.all.now.items q ≡ false = sym (c.requires q) ∙ sym same ∙ sym c.contains_key.ensures ∙ c.if-contains_key.false in
    subst (λ (l : List (List ℕ)). OnOk c.add_noted.result (c.add_noted.new.all.items ≡ l)) (one_new c.args.all.now.items q apart) c.add_noted.ensures.all
