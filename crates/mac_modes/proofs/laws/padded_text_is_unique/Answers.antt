use Rattle.mac_modes.proofs.PaddedTexts.{one_text}
use Rattle.mac_modes.proofs.laws.padded_text_is_unique.Goals as goal

pub returns : goal.returns
returns c = one_text
