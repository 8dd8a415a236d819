use Rattle.terminal_text.proofs.Messages.{without_values_is_text}
use Rattle.terminal_text.proofs.laws.without_values_is_text.Goals as goal

pub returns : goal.returns
returns c = without_values_is_text
