use Rattle.pkcs8.proofs.Faults.{parses_private_key}
use Rattle.pkcs8.proofs.private_key_info.read_whole.Goals as goal

pub returns : goal.returns
returns c = parses_private_key _ c.args.bytes.now c.from_der.result c.from_der.ensures
