use Rattle.sha2_lanes.proofs.TwoBlocks.{are_last_words, lane_of_last}
use Rattle.sha2_lanes.proofs.LaneLemmas.{below_eight, slice_index-lane}
use Rattle.sha2_lanes.proofs.hashing.last_block.Goals as goal
use Rattle.sha2_lanes.specs.Lanes.{lane}

pub returns : goal.returns
returns c = λ j lt.
    let words = c.args.words.now in
    are_last_words (lane j words) _ (below_eight _
    (rw (slice_index-lane words j 0) (c.lanes_are_words.ensures j lt))
    (rw (slice_index-lane words j 1) (c.lanes_are_words-2.ensures j lt))
    (rw (slice_index-lane words j 2) (c.lanes_are_words-3.ensures j lt))
    (rw (slice_index-lane words j 3) (c.lanes_are_words-4.ensures j lt))
    (rw (slice_index-lane words j 4) (c.lanes_are_words-5.ensures j lt))
    (rw (slice_index-lane words j 5) (c.lanes_are_words-6.ensures j lt))
    (rw (slice_index-lane words j 6) (c.lanes_are_words-7.ensures j lt))
    (rw (slice_index-lane words j 7) (c.lanes_are_words-8.ensures j lt)))
    (lane_of_last words j lt)
