use Rattle.std.proofs.Common.{refl}
use Rattle.sha2_lanes.proofs.words.to_octets.Goals as goal

pub returns : goal.returns
returns c = rw (c.lane_octets.ensures, c.lane_octets-2.ensures, c.lane_octets-3.ensures, c.lane_octets-4.ensures) refl
