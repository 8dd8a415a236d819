use Rattle.std.specs.Prelude.{map}
use Rattle.std.specs.String.{string_bytes}
use Rattle.frame.proofs.Commands.{answers_as, asks_for, where_none}
use Rattle.passdb_core.specs.Program.{on_inputs}
use Rattle.passdb_core.specs.Words.{asked_in}
use Rattle.passdb_core.proofs.Asking.{kept_as, one_asked}
use Rattle.passdb_core.proofs.program.top_call.passdb_run.Goals as goal

pub returns-clause-answers : goal.returns-clause-answers
returns-clause-answers g c =
    answers_as (on_inputs (map string_bytes c.args.words.now)) asked_in c.command_of.result _ _ _
    (asks_for (on_inputs (map string_bytes c.args.words.now)) asked_in c.command_of.result c.command_of.ensures (one_asked (map string_bytes c.args.words.now)))
    c.answer.ensures.answers

pub returns-clause-untouched : goal.returns-clause-untouched
returns-clause-untouched g c = where_none (on_inputs (map string_bytes c.args.words.now)) asked_in c.command_of.result _ c.command_of.ensures c.answer.ensures.untouched

pub returns-clause-kept : goal.returns-clause-kept
returns-clause-kept g c = kept_as asked_in (map string_bytes c.args.words.now) c.command_of.result _ _ c.command_of.ensures c.answer.ensures.kept
