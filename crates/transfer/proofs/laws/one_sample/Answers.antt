use Rattle.transfer.proofs.OneText.{sample_same}
use Rattle.transfer.proofs.laws.one_sample.Goals as goal

pub returns : goal.returns
returns c = sample_same c.one_document.ensures c.one_ciphertext_opens_to_a_text.ensures
