use Rattle.std.specs.Prelude.{map}
use Rattle.std.specs.String.{string_bytes}
use Rattle.frame.specs.Lined.{lined}
use Rattle.frame.proofs.Commands.{answers_as, asks_for, where_none}
use Rattle.transfer.specs.Answers.{on_stores}
use Rattle.transfer.specs.Asked.{command_asked}
use Rattle.transfer.proofs.Answering.{line_kept, one_command}
use Rattle.transfer.proofs.SampleAnswering.{sample_answers}
use Rattle.transfer.proofs.program.top_call.run.Goals as goal

pub returns-in-None-clause-answers : goal.returns-in-None-clause-answers
returns-in-None-clause-answers g c = λ none.
    answers_as (lined (on_stores (map string_bytes c.args.words.now))) command_asked c.command_of.result _ _ _
    (asks_for (lined (on_stores (map string_bytes c.args.words.now))) command_asked c.command_of.result c.command_of.ensures (one_command (map string_bytes c.args.words.now)))
    c.answer.ensures.answers

pub returns-in-None-clause-untouched : goal.returns-in-None-clause-untouched
returns-in-None-clause-untouched g c = λ none.
    let still = where_none (lined (on_stores (map string_bytes c.args.words.now))) command_asked c.command_of.result _ c.command_of.ensures c.answer.ensures.untouched none in
    (still.0, still.1, λ other. still.2)

pub returns-in-None-clause-line : goal.returns-in-None-clause-line
returns-in-None-clause-line g c =
    line_kept c.command_of.result _ _ (λ none. (c.answer.ensures.untouched none).1) c.answer.ensures.kept

pub returns-in-Some-clause-sample : goal.returns-in-Some-clause-sample
returns-in-Some-clause-sample g c = λ keys is.
    sample_answers _ c.in-Some.keys keys _ _ _ c.sample_lines.result _ c.in-Some.ensures.found is c.write_decision.ensures.count
    c.sample_lines.ensures.made c.sample_lines.ensures.memory c.sample_lines.ensures.at_most c.write_decision.ensures.written
