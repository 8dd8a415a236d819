use Rattle.passdb_core.proofs.Files.{one_file}
use Rattle.passdb_core.proofs.laws.one_text_has_one_file.Goals as goal

pub returns : goal.returns
returns c = one_file
