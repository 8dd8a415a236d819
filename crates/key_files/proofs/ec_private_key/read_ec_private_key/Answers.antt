use Rattle.key_files.specs.Ec.{seen_ec}
use Rattle.key_files.proofs.KeyTexts.{parses_ec}
use Rattle.key_files.proofs.ec_private_key.read_ec_private_key.Goals as goal

pub returns : goal.returns
returns c = parses_ec seen_ec c.args.octets.now c.read_whole.result c.read_whole.ensures
