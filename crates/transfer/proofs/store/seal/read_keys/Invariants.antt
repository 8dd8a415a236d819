use Rattle.std.proofs.Common.{◌≡◌, take}
use Rattle.std.specs.Prelude.{All}
use Rattle.transfer.specs.InPlace.{IsOpenedKey, texts_of}
use Rattle.transfer.proofs.store.seal.read_keys.Given as goal

abbrev pub invariant-loop-text : goal.invariant-loop-text
invariant-loop-text l = record {
  read : texts_of l.keys ≡ take l.text-index l.texts;
  are : All IsOpenedKey l.keys;
}
