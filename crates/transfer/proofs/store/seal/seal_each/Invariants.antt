use Rattle.std.proofs.Common.{◌≡◌, ℕ, List, take}
use Rattle.transfer.specs.InPlace.{texts_of}
use Rattle.sealing_core.specs.Drawn.{octets_of}
use Rattle.transfer.specs.Sealing.{AreDrawn, document_keys}
use Rattle.transfer.proofs.store.seal.seal_each.Given as goal

abbrev pub invariant-loop-index : goal.invariant-loop-index
invariant-loop-index l = (q : List ℕ) → l.derived ≡ document_keys l.rounds q l.drawn
    → AreDrawn l.rounds q (texts_of (take l.index l.keys)) l.documents (octets_of (take l.index l.drawn))
