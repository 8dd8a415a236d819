use Rattle.std.proofs.Common.{arith, refl, ◌∙◌}
use Rattle.std.proofs.lemmas.Result.{err_from_is_err_and}
use Rattle.passdb_core.specs.Asked.{command_in}
use Rattle.passdb_core.proofs.Runs.{map_more, runs_more, runs_none, stops}
use Rattle.passdb_core.proofs.database.Db.obey_all.Goals as goal

pub loop-command-init : goal.loop-command-init
loop-command-init g c = record {
  count = refl;
  rounds = refl;
  least = omega arith;
  most = omega arith;
  done = rw c.new-replies.ensures (runs_none _ _ _);
}

pub loop-command-preserved : goal.loop-command-preserved
loop-command-preserved g c =
    let i = c.loop-command.invariant in
    record {
      count = c.in_ok-reply.ensures.no_fault ∙ i.count;
      rounds = c.obey.ensures.rounds ∙ i.rounds;
      least = omega (arith, i.least, c.obey.ensures.at_most);
      most = omega (arith, i.most, c.obey.ensures.at_most);
      done = rw (c.in-Ok.ensures.ok, map_more command_in c.args.commands.now c.loop-command.command-index c.command-item.result (omega arith) c.command-item.is)
          (runs_more _ _ _ (command_in c.command-item.result) _ _ _ _ _ _ _ c.in_ok-reply.reply _ i.rounds i.done c.in_ok-reply.ensures.done);
    }

pub returns-in_err-reply-clause-cause : goal.returns-in_err-reply-clause-cause
returns-in_err-reply-clause-cause g c =
    let p = err_from_is_err_and c.from_residual.result c.from_residual.ensures.1 in
    let i = c.loop-command.invariant in
    rw (p.1, p.2) (stops command_in c.args.commands.now c.loop-command.command-index c.command-item.result _ _ _ _ _ _ _ c.loop-command.replies _ _ _ c.in_err-reply.field-0.0 (omega arith) c.command-item.is i.rounds (omega (arith, i.count))
    i.done c.in_err-reply.ensures.cause)
