use Rattle.std.proofs.Common.{map}
use Rattle.x509_names.specs.Names.{seen_attribute}
use Rattle.x509_names.proofs.NameTexts.{parses_name}
use Rattle.x509_names.proofs.name.read_name.Goals as goal

pub returns : goal.returns
returns c = parses_name (map (map seen_attribute)) _ _ c.read_whole.ensures
