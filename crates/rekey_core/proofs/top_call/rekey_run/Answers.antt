use Rattle.std.specs.Prelude.{map}
use Rattle.std.specs.String.{string_bytes}
use Rattle.frame.specs.Lined.{lined}
use Rattle.frame.proofs.Commands.{answers_as, asks_for, where_none}
use Rattle.rekey_core.specs.Answers.{on_stores}
use Rattle.rekey_core.specs.Asked.{command_asked}
use Rattle.rekey_core.proofs.Lines.{line_kept}
use Rattle.rekey_core.proofs.WordLists.{one_command}
use Rattle.rekey_core.proofs.top_call.rekey_run.Goals as goal

pub returns-clause-answers : goal.returns-clause-answers
returns-clause-answers g c =
    answers_as (lined (on_stores (map string_bytes c.args.words.now))) command_asked c.command_of.result _ _ _
    (asks_for (lined (on_stores (map string_bytes c.args.words.now))) command_asked c.command_of.result c.command_of.ensures (one_command (map string_bytes c.args.words.now)))
    c.answer.ensures.answers

pub returns-clause-untouched : goal.returns-clause-untouched
returns-clause-untouched g c =
    where_none (lined (on_stores (map string_bytes c.args.words.now))) command_asked c.command_of.result _ c.command_of.ensures c.answer.ensures.untouched

pub returns-clause-line : goal.returns-clause-line
returns-clause-line g c = line_kept c.command_of.result _ _ (λ none. (c.answer.ensures.untouched none).1) c.answer.ensures.kept
