use Rattle.std.proofs.Common.{◌≡◌, ◌≤◌, ℕ, List, get_or, length}
use Rattle.std.specs.Prelude.{None}
use Rattle.std.specs.BTreeMap as tree
use Rattle.std.specs.Cmp.Lexicographic.{slice_cmp}
use Rattle.std.specs.Ordering.{nat_cmp}
use Rattle.inventory_core.specs.SubjectIndex.{named_from, namesake_of}
use Rattle.inventory_core.specs.View.{seen_all}
use Rattle.inventory_core.proofs.subjects.namesakes_of.Given as goal

abbrev pub invariant-loop-k : goal.invariant-loop-k
invariant-loop-k l = record {
  counted : length l.namesakes.items ≡ length l.certificates;
  firsts : (name : List ℕ) → tree.get_by (λ n. slice_cmp nat_cmp name n.now) l.firsts ≡ named_from (seen_all l.certificates) l.k name;
  namesakes : (j : ℕ) → l.k ≤ j → get_or l.namesakes.items j None ≡ namesake_of (seen_all l.certificates) j;
}
