use Rattle.std.proofs.Common.{rules}
use Rattle.pkcs5.proofs.pbes2.parameters.read_parameters.Goals as goal

pub returns : goal.returns
returns c = search rules
