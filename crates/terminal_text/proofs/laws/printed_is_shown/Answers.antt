use Rattle.terminal_text.proofs.Shown.{printed_is_shown}
use Rattle.terminal_text.proofs.laws.printed_is_shown.Goals as goal

pub returns : goal.returns
returns c = printed_is_shown
