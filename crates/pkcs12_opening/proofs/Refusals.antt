-- How a store fails to open, by what a call says of its refusal.
use Rattle.std.proofs.Common.{inl, inr, ◌≡◌, ℕ, true, List, refl}
use Rattle.std.specs.Prelude.{Some}
use Rattle.legacy_store.specs.Laws.{stays_refused}
use Rattle.legacy_store.specs.Opening.{FirstCauseUnder, HasVerdictUnder}
use Rattle.legacy_store.specs.declared.mac_rule.MacRule.{MacRule}
use Rattle.legacy_store.specs.declared.mac_rule.MacRule.TheVariants.{Required, Optional}
use Rattle.legacy_store.specs.Verdicts.{LegacyOpens}
use Rattle.legacy_store.proofs.Conservative.{opens_as_before}
use Rattle.legacy_store.proofs.Refused.{stores_refused}
use Rattle.p12.specs.declared.safe_bag.SafeBag.{SafeBag}
use Rattle.pkcs12_opening.specs.Ending.{ending_of_refusal}
use Rattle.pkcs12_arguments.specs.declared.accepted.Accepted.{Accepted}
use Rattle.pkcs12_arguments.specs.declared.accepted.Accepted.TheVariants.{Modern, Old}
use Rattle.pkcs12_opening.specs.Opens.{FailsToOpen, IsCause, accepted_by}
use Rattle.transfer.specs.Opening.{HasVerdict, RefusedAfter, refused}
use Rattle.transfer.specs.Verdicts.{StoreOpens}
use Rattle.transfer.specs.declared.store.error.TransferError.{TransferError}
use Rattle.transfer.specs.declared.store.error.TransferError.TheVariants as refusals

fails_by : (accepted : Accepted) (b p : List ℕ) (limit old new : ℕ) (F : TransferError → ℕ → Type 0) (e : TransferError) → ((n : ℕ) → F e n → IsCause accepted b p limit e)
    → RefusedAfter F old new e → FailsToOpen accepted b p limit (ending_of_refusal e)
fails_by m b p limit old new F refusals.TooLong f (n, v, s) = inr (refusals.TooLong, f n v, refl)
fails_by m b p limit old new F refusals.Malformed f (n, v, s) = inr (refusals.Malformed, f n v, refl)
fails_by m b p limit old new F refusals.Unsupported f (n, v, s) = inr (refusals.Unsupported, f n v, refl)
fails_by m b p limit old new F refusals.MacMissing f (n, v, s) = inr (refusals.MacMissing, f n v, refl)
fails_by m b p limit old new F refusals.MacUnsupported f (n, v, s) = inr (refusals.MacUnsupported, f n v, refl)
fails_by m b p limit old new F refusals.ZeroIterations f (n, v, s) = inr (refusals.ZeroIterations, f n v, refl)
fails_by m b p limit old new F refusals.WorkLimit f (n, v, s) = inr (refusals.WorkLimit, f n v, refl)
fails_by m b p limit old new F refusals.MacMismatch f (n, v, s) = inr (refusals.MacMismatch, f n v, refl)
fails_by m b p limit old new F refusals.ContentMalformed f (n, v, s) = inr (refusals.ContentMalformed, f n v, refl)
fails_by m b p limit old new F refusals.DecryptFailed f (n, v, s) = inr (refusals.DecryptFailed, f n v, refl)
fails_by m b p limit old new F refusals.KeyMalformed f (n, v, s) = inr (refusals.KeyMalformed, f n v, refl)
fails_by m b p limit old new F refusals.Rng f h = absurd h
fails_by m b p limit old new F refusals.Memory f h = inl refl

pub fails_to_open : (b p : List ℕ) (limit old new : ℕ) (e : TransferError) → RefusedAfter (λ e n. HasVerdict b p limit (refused e) n) old new e
    → FailsToOpen Modern b p limit (ending_of_refusal e)
fails_to_open b p limit old new e h = fails_by Modern b p limit old new (λ e n. HasVerdict b p limit (refused e) n) e (λ n v. (n, v)) h

cause_under : (rule : MacRule) (b p : List ℕ) (limit : ℕ) (e : TransferError) → FirstCauseUnder rule b p limit (Some e) → IsCause (accepted_by rule) b p limit e
cause_under Required b p limit e h = h
cause_under Optional b p limit e h = h

pub old_fails_to_open : (rule : MacRule) (b p : List ℕ) (limit old new : ℕ) (e : TransferError) → RefusedAfter (λ e n. HasVerdictUnder rule b p limit (refused e) n) old new e
    → FailsToOpen (accepted_by rule) b p limit (ending_of_refusal e)
old_fails_to_open rule b p limit old new e h =
    fails_by (accepted_by rule) b p limit old new (λ e n. HasVerdictUnder rule b p limit (refused e) n) e (λ n v. cause_under rule b p limit e (n, v)) h

-- A refusal that no old store has.
pub stays_to_fail : (b p : List ℕ) (limit old new : ℕ) (e : TransferError) → stays_refused p e ≡ true → RefusedAfter (λ e n. HasVerdict b p limit (refused e) n) old new e
    → FailsToOpen Old b p limit (ending_of_refusal e)
stays_to_fail b p limit old new e s h = fails_by Old b p limit old new (λ e n. HasVerdict b p limit (refused e) n) e (λ n v. (n, stores_refused b p limit e n s v)) h

-- What is opened as a store of today opens as an old one.
pub opens_as_old : (b p : List ℕ) (gss : List (List SafeBag)) (ks : List (List ℕ)) (n : ℕ) → StoreOpens b p gss ks n → LegacyOpens b p gss ks n
opens_as_old b p gss ks n o = opens_as_before b p gss ks n o
