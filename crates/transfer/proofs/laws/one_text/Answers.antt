use Rattle.transfer.proofs.OneText.{one_text}
use Rattle.transfer.proofs.laws.one_text.Goals as goal

pub returns : goal.returns
returns c = one_text c.one_document.ensures
