use Rattle.std.proofs.Common.{◌≡◌, ◌+◌, ◌<◌, ◌^◌, length, subst, sym}
use Rattle.std.specs.Prelude.{Some, IfOk, IfErr}
use Rattle.transfer.specs.Opening.{RefusedAfter}
use Rattle.legacy_store.specs.Algorithm.{SchemeOf, legacy_taken, legacy_unlock, scheme_cost, scheme_salt, scheme_unlock}
use Rattle.legacy_store.specs.Budget.{Spends}
use Rattle.legacy_store.specs.Forms.{seen_forms}
use Rattle.legacy_store.specs.Opening.{SchemeLockFault}
use Rattle.legacy_store.proofs.Opened.{short_salt}
use Rattle.legacy_store.proofs.lock.open_text.Goals as goal

pub open_scheme-requires-clause-salt : goal.open_scheme-requires-clause-salt
open_scheme-requires-clause-salt g c =
    subst (λ (s : SchemeOf). length (scheme_salt s) < 2 ^ 59) (sym c.of-scheme.ensures) (short_salt c.args.algorithm.now c.requires.salt)

pub returns-clause-opened : goal.returns-clause-opened
unfolding legacy_unlock
returns-clause-opened g c =
    let b = c.args.budget.now in
    subst (λ (s : SchemeOf). IfOk c.open_scheme.result (λ m. (scheme_unlock (seen_forms c.args.secret.now) s c.args.ciphertext.now ≡ Some m) × Spends b c.open_scheme.new.budget (scheme_cost s)
    × (c.open_scheme.new.steps ≡ c.args.steps.now + scheme_cost s))) c.of-scheme.ensures c.open_scheme.ensures.opened

pub returns-clause-refused : goal.returns-clause-refused
unfolding legacy_unlock legacy_taken
returns-clause-refused g c =
    let b = c.args.budget.now in
    subst (λ (s : SchemeOf). IfErr c.open_scheme.result (RefusedAfter (SchemeLockFault (seen_forms c.args.secret.now) b.limit b.spent s c.args.ciphertext.now (λ _ _ _. ⊥)) c.args.steps.now c.open_scheme.new.steps))
    c.of-scheme.ensures c.open_scheme.ensures.refused
