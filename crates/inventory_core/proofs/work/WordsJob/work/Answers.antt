use Rattle.std.proofs.Common.{inl, subst, sym}
use Rattle.frame.specs.Calls.{effects}
use Rattle.frame.specs.Stream.{stream}
use Rattle.inventory_core.specs.Asked.{command_in}
use Rattle.inventory_core.specs.InputLine.{IsLine}
use Rattle.inventory_core.proofs.Decisions.{exact_made, exact_malformed, exact_refused, refused_for}
use Rattle.inventory_core.proofs.work.WordsJob.work.Goals as goal

pub returns-in-Err-Malformed-clause-exact : goal.returns-in-Err-Malformed-clause-exact
returns-in-Err-Malformed-clause-exact g c = inl (exact_malformed (command_in c.args.self.now) c.args.input.items (rw c.in-Err-Malformed.field-0-is at c.in-Err-Malformed.ensures.cause))

pub returns-in-Ok-lines_of-clause-exact : goal.returns-in-Ok-lines_of-clause-exact
returns-in-Ok-lines_of-clause-exact g c =
    inl (exact_made (command_in c.args.self.now) c.args.input.items c.as_slice.result.now c.in-Ok-lines_of.lines
    (subst (λ store. IsLine c.args.input.items store) (sym c.as_slice.ensures) c.in-Ok.ensures.found) c.in-Ok-lines_of.ensures.exact)

pub returns-clause-refused : goal.returns-clause-refused
returns-clause-refused g c =
    refused_for (command_in c.args.self.now)
    (effects (stream (g.D.Draw.left c.args.draw.now) (g.D.Draw.left c.args.draw.now) (g.D.Draw.faults c.args.draw.now) (g.D.Draw.faults c.args.draw.now)) c.args.steps.now c.lines_of.new.steps)
    c.args.input.items c.as_slice.result.now c.in-Err.error c.from.result c.from.ensures
    (subst (λ store. IsLine c.args.input.items store) (sym c.as_slice.ensures) c.in-Ok.ensures.found) c.in-Err.ensures.refused

pub returns-clause-exact : goal.returns-clause-exact
returns-clause-exact g c =
    exact_refused _ (command_in c.args.self.now) c.args.input.items c.as_slice.result.now c.in-Err.error c.from.result c.from.ensures
    (subst (λ store. IsLine c.args.input.items store) (sym c.as_slice.ensures) c.in-Ok.ensures.found) c.in-Err.ensures.exact
