use Rattle.std.proofs.Common.{◌≡◌, [], length, slice_index_or, ap, ◌∙◌}
use Rattle.sha2.specs.Sha256.{compress}
use Rattle.sha2_lanes.proofs.LaneLemmas.{below_four}
use Rattle.sha2_lanes.proofs.words.after_block.Goals as goal

pub returns : goal.returns
returns c = λ j lt.
    let block = slice_index_or c.args.blocks.now j [] in (
      below_four (λ j. length (slice_index_or c.args.blocks.now j []) ≡ 64)
          c.blocks_are_long.ensures c.blocks_are_long-2.ensures c.blocks_are_long-3.ensures c.blocks_are_long-4.ensures j lt,
      c.compress.ensures j lt block (c.block_words.ensures j lt) ∙ ap (λ h. compress h block) (c.initial.ensures j lt),
    )
