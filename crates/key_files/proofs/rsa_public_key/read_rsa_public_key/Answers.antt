use Rattle.key_files.specs.Rsa.{seen_rsa}
use Rattle.key_files.proofs.KeyTexts.{parses_rsa_public}
use Rattle.key_files.proofs.rsa_public_key.read_rsa_public_key.Goals as goal

pub returns : goal.returns
returns c = parses_rsa_public seen_rsa c.args.octets.now c.read_whole.result c.read_whole.ensures
