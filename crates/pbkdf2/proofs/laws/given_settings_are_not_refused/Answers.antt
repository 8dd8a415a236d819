use Rattle.pbkdf2.proofs.OneReading.{settings_not_refused}
use Rattle.pbkdf2.proofs.laws.given_settings_are_not_refused.Goals as goal

pub returns : goal.returns
returns c = settings_not_refused
