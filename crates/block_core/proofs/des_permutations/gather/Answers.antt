use Rattle.block_core.proofs.DesBlock.{gather_words}
use Rattle.block_core.proofs.des_permutations.gather.Goals as goal

pub returns : goal.returns
returns c = gather_words c.args.first c.args.second _ _ c.to_be_bytes-p.ensures c.to_be_bytes-q.ensures
