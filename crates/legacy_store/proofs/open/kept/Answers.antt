use Rattle.std.proofs.Common.{arith}
use Rattle.std.specs.Prelude.{IsTrue}
use Rattle.legacy_store.proofs.ContentTexts.{keys_stored, short_by}
use Rattle.legacy_store.proofs.open.kept.Goals as goal

pub with_keys-requires : goal.with_keys-requires
with_keys-requires c =
    let short : IsTrue c.are_short.result = grind (arith, c.if-not-are_short.false) in
    keys_stored c.args.keys c.requires (short_by c.as_slice.result.now c.args.keys c.as_slice.ensures (c.are_short.ensures short))
