use Rattle.p12.proofs.Paddings.{unpadded_is, unpadded_some}
use Rattle.p12.proofs.uniqueness.unpadding_undoes_padding.Goals as goal

pub returns : goal.returns
returns c n t m h = (unpadded_is n t m, unpadded_some n t m h)
