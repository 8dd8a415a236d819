use Rattle.sha2_lanes.proofs.TwoBlocks.{finished}
use Rattle.sha2_lanes.proofs.hashing.finish_96.Goals as goal
use Rattle.sha2_lanes.specs.Lanes.{lane}

pub returns : goal.returns
returns c = λ j lt block after.
    finished (lane j c.args.state.now) block (lane j c.args.words.now) _ after
    (c.compress.ensures j lt _ (c.last_block.ensures j lt))
