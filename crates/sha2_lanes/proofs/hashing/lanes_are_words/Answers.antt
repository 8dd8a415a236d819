use Rattle.sha2_lanes.proofs.LaneLemmas.{lane_lt}
use Rattle.sha2_lanes.proofs.hashing.lanes_are_words.Goals as goal

pub returns : goal.returns
returns c = λ j lt. lane_lt c.args._vector j c.fits-_vector lt
