use Rattle.std.proofs.Common.{◌≡◌, ◌<◌, ◌+◌, ◌-◌, ℕ, length, ap, sym, subst, ◌∙◌, refl, arith}
use Rattle.std.specs.Prelude.{Some, None, true}
use Rattle.std.specs.BTreeMap as tree
use Rattle.std.specs.Cmp.Lexicographic.{slice_cmp}
use Rattle.std.specs.List.{slice_get}
use Rattle.std.specs.Ordering.{nat_cmp}
use Rattle.std.proofs.lemmas.Option.{slice_get_read}
use Rattle.inventory_core.specs.Chains.{IsLeast}
use Rattle.inventory_core.specs.Lines.{has_key_id}
use Rattle.inventory_core.specs.SubjectIndex.{least_from}
use Rattle.inventory_core.proofs.KeyIds.{id_below}
use Rattle.inventory_core.proofs.Least.{least_all, least_noted, least_past}
use Rattle.inventory_core.proofs.first_ids.first_ids.Goals as goal

pub loop-k-init : goal.loop-k-init
loop-k-init c = λ q.
    let ids = c.args.ids.now in
    let none : tree.get_by (λ n. slice_cmp nat_cmp q n.now) c.new-firsts.result ≡ None = rw c.new-firsts.ensures.empty refl in
    none ∙ sym (least_past (λ j. has_key_id (slice_get ids j) q) (length ids) (length ids) (omega arith))

pub loop-k-preserved : goal.loop-k-preserved
loop-k-preserved c = λ q.
    let ids = c.args.ids.now in
    let i : ℕ = c.loop-k.k - 1 in
    let next : c.loop-k.k ≡ i + 1 = omega arith in
    let lt : i < length ids = omega arith in
    let at : slice_get ids i ≡ Some c.index-ids-k.result = slice_get_read ids (length ids) i c.index-ids-k.result refl lt c.index-ids-k.is in
    least_noted (λ j. has_key_id (slice_get ids j) q) (length ids) i c.loop-k.k (has_key_id (Some c.index-ids-k.result) q) _ _ next lt (ap (λ y. has_key_id y q) at) (c.loop-k.invariant q) (c.in_ok-note_id.ensures q)

pub returns : goal.returns
returns c = λ q.
    let ids = c.args.ids.now in
    let e : c.loop-k.k ≡ 0 = omega arith in
    let is = c.loop-k.invariant q ∙ ap (λ k. least_from (λ j. has_key_id (slice_get ids j) q) k (length ids - k)) e in
    subst (IsLeast (λ j. has_key_id (slice_get ids j) q ≡ true)) (sym is) (least_all (λ j. has_key_id (slice_get ids j) q) (length ids) (id_below ids q))
