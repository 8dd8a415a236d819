use Rattle.terminal_text.proofs.Shell.{shell_word_is_read}
use Rattle.terminal_text.proofs.laws.shell_word_is_read.Goals as goal

pub returns : goal.returns
returns c = shell_word_is_read
