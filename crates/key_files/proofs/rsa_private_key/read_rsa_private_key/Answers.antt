use Rattle.key_files.specs.Rsa.{seen_rsa}
use Rattle.key_files.proofs.KeyTexts.{parses_rsa}
use Rattle.key_files.proofs.rsa_private_key.read_rsa_private_key.Goals as goal

pub returns : goal.returns
returns c = parses_rsa seen_rsa c.args.octets.now c.read_whole.result c.read_whole.ensures
