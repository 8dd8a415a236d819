use Rattle.std.proofs.Common.{arith}
use Rattle.passdb_core.proofs.EntryTexts.{settings_refused, too_many_rounds}
use Rattle.passdb_core.proofs.entry.Entry.of.Goals as goal

pub returns-in_default-try_from : goal.returns-in_default-try_from
returns-in_default-try_from c = settings_refused c.args.phc.now c.in_default-try_from.field-0 c.in_default-try_from.ensures

pub returns-then-rounds-gt-ROUNDS_LIMIT : goal.returns-then-rounds-gt-ROUNDS_LIMIT
returns-then-rounds-gt-ROUNDS_LIMIT c = too_many_rounds c.args.phc.now c.in-Ok-try_from.params c.in-Ok-try_from.ensures (omega arith)
