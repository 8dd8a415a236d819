use Rattle.std.proofs.Common.{◌≡◌, ◌++◌, length}
use Rattle.std.specs.Vec.Iter.{into_iter_items, into_iter_len}
use Rattle.transfer.proofs.store.seal.add_documents.Given as goal

abbrev pub invariant-loop-document : goal.invariant-loop-document
invariant-loop-document l =
    (l.documents ++ into_iter_items l.document-iterator ≡ l.initial.documents ++ into_iter_items l.initial.document-iterator)
    × (into_iter_len l.document-iterator ≡ length (into_iter_items l.document-iterator))
