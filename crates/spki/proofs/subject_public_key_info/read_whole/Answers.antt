use Rattle.spki.specs.AnyLaws.{parses_public_key}
use Rattle.spki.proofs.subject_public_key_info.read_whole.Goals as goal

pub returns : goal.returns
returns c = parses_public_key _ c.args.bytes.now c.from_der.result c.from_der.ensures
