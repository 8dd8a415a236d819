use Rattle.std.proofs.Common.{◌≡◌, ◌++◌, ℕ, List}
use Rattle.std.specs.Slice.Iter.{chunks_rest, chunks_size}
use Rattle.transfer.specs.Sealing.{SealsAll}
use Rattle.transfer.proofs.store.seal.seal_all.Given as goal

abbrev pub invariant-loop-group : goal.invariant-loop-group
invariant-loop-group g l = record {
  size : chunks_size l.group-iterator ≡ 4;
  done : List (List ℕ);
  split : l.texts ≡ done ++ chunks_rest l.group-iterator;
  sealed : SealsAll l.rounds l.new_password (g.D.Draw.left l.fn.draw) (g.D.Draw.left l.draw) done l.documents;
  faults : g.D.Draw.faults l.draw ≡ g.D.Draw.faults l.fn.draw;
}
