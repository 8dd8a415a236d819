use Rattle.std.proofs.Common.{◌≡◌, ap, sym, subst, ◌∙◌}
use Rattle.std.specs.Prelude.{true}
use Rattle.std.specs.BTreeMap as tree
use Rattle.std.specs.Cmp.Lexicographic.{slice_cmp}
use Rattle.std.specs.List.{slice_get}
use Rattle.std.specs.Ordering.{nat_cmp}
use Rattle.inventory_core.specs.Chains.{IsLeast}
use Rattle.inventory_core.specs.Lines.{IsStart, has_key_id}
use Rattle.inventory_core.proofs.first_ids.start_of.Goals as goal

pub returns-in-Some : goal.returns-in-Some
returns-in-Some c = λ ids are.
    let firsts = c.args.firsts.now in
    let is : c.copied.result ≡ tree.get_by (λ n. slice_cmp nat_cmp c.in-Some.id n.now) firsts =
    c.copied.ensures ∙ c.get.ensures.value ∙ ap (λ t. tree.get_by (λ n. slice_cmp nat_cmp t n.now) firsts) c.as_slice.ensures in
    subst (λ id. IsStart ids id c.copied.result) (sym c.in-Some.is) (subst (IsLeast (λ j. has_key_id (slice_get ids j) c.in-Some.id ≡ true)) (sym is) (are c.in-Some.id))
