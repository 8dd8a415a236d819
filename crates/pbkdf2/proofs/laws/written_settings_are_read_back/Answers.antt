use Rattle.pbkdf2.proofs.Written.{written_is_read_back}
use Rattle.pbkdf2.proofs.laws.written_settings_are_read_back.Goals as goal

pub returns : goal.returns
returns c = written_is_read_back
