use Rattle.std.proofs.Common.{◌≡◌, ◌-◌, ℕ, List, length}
use Rattle.std.specs.BTreeMap as tree
use Rattle.std.specs.Cmp.Lexicographic.{slice_cmp}
use Rattle.std.specs.List.{slice_get}
use Rattle.std.specs.Ordering.{nat_cmp}
use Rattle.inventory_core.specs.Lines.{has_key_id}
use Rattle.inventory_core.specs.SubjectIndex.{least_from}
use Rattle.inventory_core.proofs.first_ids.first_ids.Given as goal

abbrev pub invariant-loop-k : goal.invariant-loop-k
invariant-loop-k l = (q : List ℕ) → tree.get_by (λ n. slice_cmp nat_cmp q n.now) l.firsts ≡ least_from (λ j. has_key_id (slice_get l.ids j) q) l.k (length l.ids - l.k)
