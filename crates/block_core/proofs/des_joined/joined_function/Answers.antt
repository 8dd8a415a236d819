use Rattle.std.proofs.Common.{arith}
use Rattle.block_core.proofs.DesParts.{function_is}
use Rattle.block_core.proofs.des_joined.joined_function.Goals as goal

pub returns : goal.returns
returns c =
    function_is c.args.half c.args.even c.args.odd _ _ _ _ (omega arith)
    c.rotate_right.ensures c.rotate_left.ensures c.to_be_bytes-p.ensures c.to_be_bytes-q.ensures
