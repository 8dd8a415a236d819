use Rattle.std.proofs.Common.{ap, map, ◌∙◌}
use Rattle.frame.specs.Calls.{effects}
use Rattle.frame.specs.Stream.{stream}
use Rattle.frame.specs.DueText.{joined}
use Rattle.passdb_core.specs.Asked.{command_in}
use Rattle.passdb_core.specs.Digits.{digits_in}
use Rattle.passdb_core.specs.Words.{asked_in}
use Rattle.passdb_core.proofs.Exact.{drawn_exact, input_as, plain_exact}
use Rattle.passdb_core.proofs.program.work.WordsJob.work.Goals as goal

pub octets_of-requires : goal.octets_of-requires
octets_of-requires g c = c.args.self.now.drawn c.in-Some.digits.now (ap digits_in c.in-Some.is)

pub returns-in-None-clause-exact : goal.returns-in-None-clause-exact
returns-in-None-clause-exact g c =
    plain_exact joined (asked_in c.args.self.now) c.args.input.items c.read_input.new.db (map command_in c.as_slice-in-None.result.now) _ _ _ _ _ _ c.lines_of.result
    (ap digits_in c.in-None.is) (c.read_input.ensures.rounds ∙ c.empty-db.ensures.rounds)
    (input_as c.as_slice.result.now c.args.input.items c.read_input.new.db.entries _ (map command_in c.as_slice-in-None.result.now) c.as_slice.ensures.value (ap (map command_in) c.as_slice-in-None.ensures) c.in-Ok.ensures.read)
    c.lines_of.ensures.made c.lines_of.ensures.refused

pub returns-clause-exact : goal.returns-clause-exact
returns-clause-exact g c =
    drawn_exact joined (asked_in c.args.self.now) c.args.input.items c.in-Some.digits.now c.in-Ok-octets_of.octets c.new-drawn.result c.read_input.new.db (map command_in c.as_slice-in-Some.result.now) _ _
    (effects (stream (g.D.Draw.left c.args.draw.now) (g.D.Draw.left c.args.draw.now) (g.D.Draw.faults c.args.draw.now) (g.D.Draw.faults c.args.draw.now)) c.args.steps.now c.lines_of-in-Some.new.steps)
    c.lines_of-in-Some.result (ap digits_in c.in-Some.is) c.in-Ok-octets_of.ensures c.new-drawn.ensures (c.read_input.ensures.rounds ∙ c.empty-db.ensures.rounds)
    (input_as c.as_slice.result.now c.args.input.items c.read_input.new.db.entries _ (map command_in c.as_slice-in-Some.result.now) c.as_slice.ensures.value (ap (map command_in) c.as_slice-in-Some.ensures) c.in-Ok.ensures.read)
    c.lines_of-in-Some.ensures.made c.lines_of-in-Some.ensures.refused
