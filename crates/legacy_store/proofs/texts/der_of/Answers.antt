use Rattle.legacy_store.proofs.Normal.{no_ber}
use Rattle.legacy_store.proofs.texts.der_of.Goals as goal

pub returns-in-Err-Malformed-clause-none : goal.returns-in-Err-Malformed-clause-none
returns-in-Err-Malformed-clause-none c = no_ber c.args.ber.now c.in-Err-Malformed.field-0 c.in-Err-Malformed.field-0-is c.in-Err-Malformed.ensures
