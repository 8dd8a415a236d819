use Rattle.std.proofs.lemmas.Result.{IfErr-weaker, IfOk-weaker, err_from_is_err_and}
use Rattle.std.specs.Prelude.{◌*◌, length}
use Rattle.frame.specs.Calls.{effects}
use Rattle.frame.specs.Stream.{stream_of}
use Rattle.octet_core.specs.Draw.{Lacks}
use Rattle.transfer.specs.OpenedSafe.{BagsAndKeys}
use Rattle.transfer.specs.TransferError.{RefusedBy}
use Rattle.transfer.specs.Transferred.{IsRefused, RunsShort, SealsOpened, Transfers}
use Rattle.transfer.specs.Words.{command}
use Rattle.transfer.specs.declared.store.transfer.Transferred.{Transferred}
use Rattle.transfer.proofs.Faults.{refused_as}
use Rattle.transfer.proofs.Settling.{settles_sealed, settles_unopened}
use Rattle.transfer.proofs.Valid.{open_comes, transfer_in_two}
use Rattle.transfer.proofs.store.transfer.transfer.Goals as goal

pub returns-in_err-safe-clause-exact : goal.returns-in_err-safe-clause-exact
returns-in_err-safe-clause-exact g c =
    let p = err_from_is_err_and c.from_residual.result c.from_residual.ensures.1 in
    rw (p.1, p.2) (settles_unopened BagsAndKeys Transferred c.args.store.now c.args.password.now c.args.limit _ c.in_err-safe.field-0.0 c.in_err-safe.ensures.exact)

pub returns-clause-opened : goal.returns-clause-opened
returns-clause-opened g c =
    let o = c.in_ok-safe.ensures.opened in
    let s = c.in_ok-safe.safe in
    let left = g.D.Draw.left in
    let drawn = stream_of left g.D.Draw.faults c.args.draw.now c.seal.new.draw in
    let e = effects drawn c.args.steps.now c.open_safe.new.steps in
    let words = command c.args.password.now c.args.new_password.now c.args.rounds c.args.limit in
    IfOk-weaker c.seal.result (λ t. SealsOpened c.args.rounds c.args.new_password.now (left c.args.draw.now) (left c.seal.new.draw) s.contents s.keys t.certificates t.documents)
    (λ t. Transfers words e c.args.store.now t.certificates t.documents)
    (λ t seals. (transfer_in_two words e c.args.store.now t.certificates t.documents).1
    (record { bags = s.contents; keys = s.keys; work = o.0; opens = o.1; within = o.2; counted = o.3; seals = seals }))
    c.seal.ensures.sealed

pub returns-clause-refused : goal.returns-clause-refused
returns-clause-refused g c =
    let o = c.in_ok-safe.ensures.opened in
    let s = c.in_ok-safe.safe in
    let left = g.D.Draw.left in
    let faults = g.D.Draw.faults in
    let drawn = stream_of left faults c.args.draw.now c.seal.new.draw in
    let e = effects drawn c.args.steps.now c.open_safe.new.steps in
    let words = command c.args.password.now c.args.new_password.now c.args.rounds c.args.limit in
    let short = Lacks (faults c.args.draw.now) (faults c.seal.new.draw) (left c.args.draw.now) (32 * length s.keys) in
    IfErr-weaker c.seal.result (RefusedBy (λ e. ⊥) short) (RefusedBy (IsRefused words e c.args.store.now) (RunsShort words e c.args.store.now))
    (λ f h. refused_as (λ e. ⊥) (IsRefused words e c.args.store.now) short (RunsShort words e c.args.store.now) (λ f h. absurd h)
    (λ lacks. record {
      bags = s.contents;
      keys = s.keys;
      work = o.0;
      verdict = open_comes c.args.store.now c.args.password.now c.args.limit s.contents s.keys o.0 o.1 o.2;
      short = lacks;
      counted = o.3;
    }) f h)
    c.seal.ensures.refused

pub returns-clause-exact : goal.returns-clause-exact
returns-clause-exact g c =
    let o = c.in_ok-safe.ensures.opened in
    let s = c.in_ok-safe.safe in
    settles_sealed c.args.store.now c.args.password.now c.args.limit (g.D.Draw.left c.args.draw.now) c.seal.result s.contents s.keys o.0 _
    (open_comes c.args.store.now c.args.password.now c.args.limit s.contents s.keys o.0 o.1 o.2) c.seal.ensures.exact c.seal.ensures.refused
