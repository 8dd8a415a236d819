use Rattle.passdb_core.proofs.Files.{written_is_read}
use Rattle.passdb_core.proofs.laws.written_files_are_read_again.Goals as goal

pub returns : goal.returns
returns c = written_is_read
