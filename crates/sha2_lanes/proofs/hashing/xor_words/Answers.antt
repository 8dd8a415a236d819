use Rattle.sha2_lanes.proofs.TwoBlocks.{octets-xor}
use Rattle.sha2_lanes.proofs.LaneLemmas.{below_eight, slice_index-lane}
use Rattle.sha2_lanes.proofs.hashing.xor_words.Goals as goal
use Rattle.sha2_lanes.specs.Lanes.{lane}

pub returns : goal.returns
returns c = λ j lt.
    let a = c.args.a.now in
    let b = c.args.b.now in
    octets-xor _ (lane j a) (lane j b) (below_eight _
    (rw (slice_index-lane a j 0, slice_index-lane b j 0) (c.xor.ensures j lt))
    (rw (slice_index-lane a j 1, slice_index-lane b j 1) (c.xor-2.ensures j lt))
    (rw (slice_index-lane a j 2, slice_index-lane b j 2) (c.xor-3.ensures j lt))
    (rw (slice_index-lane a j 3, slice_index-lane b j 3) (c.xor-4.ensures j lt))
    (rw (slice_index-lane a j 4, slice_index-lane b j 4) (c.xor-5.ensures j lt))
    (rw (slice_index-lane a j 5, slice_index-lane b j 5) (c.xor-6.ensures j lt))
    (rw (slice_index-lane a j 6, slice_index-lane b j 6) (c.xor-7.ensures j lt))
    (rw (slice_index-lane a j 7, slice_index-lane b j 7) (c.xor-8.ensures j lt)))
