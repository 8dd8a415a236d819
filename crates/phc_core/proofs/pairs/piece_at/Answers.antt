use Rattle.std.proofs.Common.{rules}
use Rattle.std.specs.Prelude.{refl}
use Rattle.phc_core.proofs.Append.{last_left, step_left, some_pieces}
use Rattle.phc_core.proofs.pairs.piece_at.Goals as goal

pub loop-k-init : goal.loop-k-init
loop-k-init c = (c.utf8.text, some_pieces c.args.text.now, refl)

pub returns-in_default : goal.returns-in_default
returns-in_default c = last_left _ c.loop-k.k c.args.i c.loop-k.rest.now _ c.loop-k.invariant.1 c.loop-k.invariant.2 c.in_default.ensures c.loop-k-test.true

pub loop-k-preserved : goal.loop-k-preserved
loop-k-preserved c =
    let s = step_left _ c.loop-k.k c.loop-k.rest.now _ c.in-Some.more.now c.loop-k.invariant.1 c.loop-k.invariant.2 c.in-Some.ensures.0 in
    ((search (rules)), s.0, s.1)
