use Rattle.std.proofs.Common.{arith, ◌<◌, ◌≤◌, length}
use Rattle.mac_modes.proofs.KeyBlocks.{long_key, whole_key}
use Rattle.mac_modes.proofs.hmac.key_block.Goals as goal

pub returns-then-key-BLOCK : goal.returns-then-key-BLOCK
returns-then-key-BLOCK g c =
    let sizes = g.met.H.HashFn.sizes in
    let long : g.H.HashFn.BLOCK < length c.args.key.now = omega (arith, c.BLOCK.ensures, c.if-key-BLOCK.true) in
    long_key g.H.HashFn.digest g.H.HashFn.BLOCK g.H.HashFn.OUTPUT c.OUTPUT.result c.args.key.now c.finish.new.out _ c.put_front.new.out c.OUTPUT.ensures (g.met.H.HashFn.digest_length _)
    sizes.within_block sizes.block_fits long (c.finish.ensures _ (c.update.ensures _ c.start-hasher.ensures)) c.put_front.ensures

pub returns-else-key-BLOCK : goal.returns-else-key-BLOCK
returns-else-key-BLOCK g c =
    let short : length c.args.key.now ≤ g.H.HashFn.BLOCK = omega (arith, c.BLOCK.ensures, c.if-key-BLOCK.false) in
    whole_key g.H.HashFn.digest g.H.HashFn.BLOCK c.args.key.now c.put_front-else-key-BLOCK.new.out g.met.H.HashFn.sizes.block_fits short c.put_front-else-key-BLOCK.ensures
