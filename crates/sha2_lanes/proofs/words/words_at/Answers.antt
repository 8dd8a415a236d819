use Rattle.sha2_lanes.proofs.LaneLemmas.{below_four}
use Rattle.sha2_lanes.proofs.words.words_at.Goals as goal

pub returns : goal.returns
returns g c = below_four _ c.word_at.ensures c.word_at-2.ensures c.word_at-3.ensures c.word_at-4.ensures
