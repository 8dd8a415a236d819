use Rattle.std.specs.Prelude.{map}
use Rattle.std.specs.String.{string_bytes}
use Rattle.std.proofs.Common.{refl}
use Rattle.frame.proofs.Commands.{answers_as, asks_for, undrawn, where_none}
use Rattle.inventory_core.specs.Answers.{no_draw, on_lines}
use Rattle.inventory_core.specs.Asked.{command_in}
use Rattle.inventory_core.proofs.Commands.{one_command}
use Rattle.inventory_core.proofs.top_call.inventory_run.Goals as goal

pub returns-clause-answers : goal.returns-clause-answers
returns-clause-answers g c =
    let words = map string_bytes c.args.words.now in
    undrawn (on_lines words) _ _ no_draw _ _ _ _ (record { makes = λ c x t h. h; refuses = λ c x s h. h; exact = λ c x s h. h }) refl (answers_as (on_lines words) command_in c.command_of.result _ _ _
    (asks_for (on_lines words) command_in c.command_of.result c.command_of.ensures (one_command words)) c.answer.ensures.answers)

pub returns-clause-untouched : goal.returns-clause-untouched
returns-clause-untouched g c = λ none.
    let still = where_none (on_lines (map string_bytes c.args.words.now)) command_in c.command_of.result _ c.command_of.ensures c.answer.ensures.untouched none in
    (still.0, still.2)
