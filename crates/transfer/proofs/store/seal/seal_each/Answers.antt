use Rattle.std.proofs.Common.{arith}
use Rattle.transfer.proofs.Drawn.{key_at, sealed_next}
use Rattle.transfer.proofs.store.seal.seal_each.Goals as goal

pub loop-index-preserved : goal.loop-index-preserved
loop-index-preserved c = λ q e.
    let r = c.args.rounds in
    let i = c.loop-index.index in
    let d = c.index-drawn-index.result in
    let drawn = c.args.drawn.now in
    let key = key_at r q drawn c.args.derived.now i d c.index-derived-index.result (omega (arith, c.requires.drawn.1)) e c.index-derived-index.is c.index-drawn-index.is in
    rw (c.in_ok-push.ensures.ok)
    (sealed_next r q c.args.keys.now i c.index-keys-index.result drawn d c.loop-index.documents c.in_ok-document.document
    (omega arith) (omega (arith, c.requires.drawn.1)) c.index-keys-index.is c.index-drawn-index.is c.requires.drawn.0 (c.loop-index.invariant q e)
    (c.in_ok-document.ensures.ok q key))
