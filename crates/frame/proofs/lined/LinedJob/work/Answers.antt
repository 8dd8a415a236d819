use Rattle.std.proofs.Common.{refl}
use Rattle.frame.specs.Calls.{effects}
use Rattle.frame.specs.Stream.{stream}
use Rattle.frame.proofs.LinedInputs.{drawn_exact, no_line, plain_exact}
use Rattle.frame.proofs.lined.LinedJob.work.Goals as goal

pub returns-in-Some-clause-exact : goal.returns-in-Some-clause-exact
returns-in-Some-clause-exact g c =
    drawn_exact (λ store f t. g.W.StoreJob.exact c.args.self.now.job f store t) c.args.input.items _ _ _ _ c.new-drawn.result
    (effects (stream (g.D.Draw.left c.args.draw.now) (g.D.Draw.left c.args.draw.now) (g.D.Draw.faults c.args.draw.now) (g.D.Draw.faults c.args.draw.now)) c.args.steps.now c.work.new.steps)
    _ _ _ c.in-Ok.ensures.found c.in-Some.is refl c.new-drawn.ensures c.work.ensures.exact

pub returns-in-None-clause-exact : goal.returns-in-None-clause-exact
returns-in-None-clause-exact g c =
    plain_exact (λ store f t. g.W.StoreJob.exact c.args.self.now.job f store t) c.args.input.items _ _ _
    (effects (stream (g.D.Draw.left c.args.draw.now) (g.D.Draw.left c.work-in-None.new.draw) (g.D.Draw.faults c.args.draw.now) (g.D.Draw.faults c.work-in-None.new.draw)) c.args.steps.now c.work-in-None.new.steps)
    _ c.in-Ok.ensures.found c.in-None.is refl c.work-in-None.ensures.exact

pub returns-in-None-clause-kept : goal.returns-in-None-clause-kept
returns-in-None-clause-kept g c = no_line c.args.input.items _ _ c.in-Ok.ensures.found c.in-None.is
