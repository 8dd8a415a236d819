use Rattle.mac_modes.proofs.KeyBlocks.{masked_front}
use Rattle.mac_modes.proofs.hmac.hmac_blocks.Goals as goal

pub returns-clause-inner : goal.returns-clause-inner
returns-clause-inner g c =
    masked_front g.H.HashFn.digest g.H.HashFn.BLOCK 0x36 c.args.key.now c.key_block-inner_block.result c.mask_all.new.block c.key_block-inner_block.ensures c.mask_all.ensures

pub returns-clause-outer : goal.returns-clause-outer
returns-clause-outer g c =
    masked_front g.H.HashFn.digest g.H.HashFn.BLOCK 0x5c c.args.key.now c.key_block-inner_block.result c.mask_all-2.new.block c.key_block-inner_block.ensures c.mask_all-2.ensures
