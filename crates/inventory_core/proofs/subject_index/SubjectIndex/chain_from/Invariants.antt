use Rattle.std.proofs.Common.{◌++◌, List, ℕ, length}
use Rattle.std.specs.BTreeMap as tree
use Rattle.std.specs.Ordering.{nat_cmp}
use Rattle.inventory_core.specs.Chains.{Continues, IsChain}
use Rattle.inventory_core.specs.SubjectIndex.{AreCursors, cursor_of}
use Rattle.inventory_core.specs.View.{seen_all}
use Rattle.inventory_core.proofs.Pigeons.{left_out}
use Rattle.inventory_core.proofs.subject_index.SubjectIndex.chain_from.Given as goal

abbrev pub invariant-links : goal.invariant-links
invariant-links l = record {
  so_far : (rest : List ℕ) → Continues (seen_all l.self.certificates.now) l.chain l.last rest → IsChain (seen_all l.self.certificates.now) l.start (l.chain ++ rest);
  cursors : AreCursors (seen_all l.self.certificates.now) l.start l.chain (cursor_of (tree.get nat_cmp l.cursors));
}

abbrev pub decreases-links : goal.decreases-links
decreases-links l = left_out l.chain (length (seen_all l.self.certificates.now))
