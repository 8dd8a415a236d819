use Rattle.p12_laws.proofs.Spelled.{params_spelled}
use Rattle.p12_laws.proofs.SpelledStores.{cert_bag_spelled}
use Rattle.p12_laws.proofs.spellings.values_have_one_text.Goals as goal

pub returns-clause-params : goal.returns-clause-params
returns-clause-params c = params_spelled

pub returns-clause-certificate : goal.returns-clause-certificate
returns-clause-certificate c = cert_bag_spelled
