use Rattle.std.proofs.Common.{◌≡◌, ◌⊎◌, List, ℕ, sym, ap, ◌∙◌, subst}
use Rattle.std.specs.Prelude.{Result, Ok, Err}
use Rattle.frame.specs.Status.{status_in}
use Rattle.frame.specs.declared.status.Status.TheVariants.{Memory}
use Rattle.transfer.specs.Answers.{ExactStore}
use Rattle.transfer.specs.Asked.{command_in}
use Rattle.transfer.specs.Status.{status_of}
use Rattle.transfer.specs.declared.store.error.TransferError.{TransferError}
use Rattle.transfer.specs.declared.store.error.TransferError.TheVariants as error
use Rattle.transfer.specs.declared.store.transfer.Transferred.{Transferred}
use Rattle.transfer.proofs.Answering.{exact_made, exact_refused}
use Rattle.transfer.proofs.program.work.WordsStoreJob.work.Goals as goal

one_refusal : (e f : TransferError) → (let r : Result Transferred TransferError = Err e in r) ≡ Err f → e ≡ f
one_refusal e f h = cc

pub returns-in-Ok-clause-exact : goal.returns-in-Ok-clause-exact
returns-in-Ok-clause-exact g c =
    subst (λ (store : List ℕ). ExactStore (command_in c.args.self.now) (g.D.Draw.left c.args.draw.now) store (status_in c.lines_of.result) ⊎ (status_in c.lines_of.result ≡ Memory)) c.as_slice.ensures
    (exact_made (command_in c.args.self.now) _ _ c.in-Ok.transferred c.lines_of.result c.in-Ok.ensures.exact c.lines_of.ensures.memory)

pub returns-in-Err-clause-exact : goal.returns-in-Err-clause-exact
returns-in-Err-clause-exact g c =
    subst (λ (store : List ℕ). ExactStore (command_in c.args.self.now) (g.D.Draw.left c.args.draw.now) store c.from.result ⊎ (c.from.result ≡ Memory)) c.as_slice.ensures
    (exact_refused _ (command_in c.args.self.now) _ _ c.in-Err.error c.from.result c.from.ensures c.in-Err.ensures.exact)

pub returns-in-Ok-clause-failed_draw : goal.returns-in-Ok-clause-failed_draw
returns-in-Ok-clause-failed_draw g c = λ rose. absurd (let e : Ok c.in-Ok.transferred ≡ Err error.Rng = sym c.in-Ok.is ∙ c.transfer-decided.ensures.last rose in cc)

pub returns-in-Err-clause-failed_draw : goal.returns-in-Err-clause-failed_draw
returns-in-Err-clause-failed_draw g c = λ rose.
    let e : Err c.in-Err.error ≡ Err error.Rng = sym c.in-Err.is ∙ c.transfer-decided.ensures.last rose in
    let same : c.in-Err.error ≡ error.Rng = one_refusal c.in-Err.error error.Rng e in
    ap Err (c.from.ensures ∙ ap status_of same)
