use Rattle.pkcs8.proofs.ShortKeys.{written_shortest}
use Rattle.pkcs8.proofs.laws.written_keys_are_shortest.Goals as goal

pub returns : goal.returns
returns c = written_shortest
