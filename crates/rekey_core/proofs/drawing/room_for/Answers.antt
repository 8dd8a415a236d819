use Rattle.std.proofs.Common.{◌≡◌, []}
use Rattle.rekey_core.proofs.Supplying.{empty_is, room_is}
use Rattle.rekey_core.proofs.drawing.room_for.Goals as goal

pub returns-clause-ok : goal.returns-clause-ok
returns-clause-ok c =
    let none : c.loop-held.rest_bags.now ≡ [] = empty_is c.loop-held.rest_bags.now c.in_default-split_first.ensures.cases in
    room_is c.args.to _ c.loop-held.rest_bags.now c.args.contents.now c.args.bags.now none c.loop-held.invariant
