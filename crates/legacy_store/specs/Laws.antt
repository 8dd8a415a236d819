-- What was opened before is opened as before; and a store opens in one way.
use Rattle.std.specs.Prelude.{◌≡◌, ℕ, ◌≤◌, ◌↔◌, nat_lt, Bool, true, false, List, length, Some}
use Rattle.pkcs5.specs.Opening.{TakesCosts}
use Rattle.pkcs5.specs.declared.pbes2.kdf.Kdf.TheVariants.{Scrypt}
use Rattle.pkcs5.specs.declared.pbes2.scrypt_params.ScryptParams.{ScryptParams}
use Rattle.p12.specs.AlgorithmIdentifier.{unlock}
use Rattle.p12.specs.declared.algorithm_identifier.AlgorithmIdentifier.{AlgorithmIdentifier}
use Rattle.p12.specs.ContentInfo.{IsContents}
use Rattle.p12.specs.declared.content_info.ContentInfo.{ContentInfo}
use Rattle.p12.specs.declared.mac_data.MacData.{MacData}
use Rattle.p12.specs.declared.pfx.PFX.{PFX}
use Rattle.p12.specs.declared.safe_bag.SafeBag.{SafeBag}
use Rattle.transfer.specs.Opening.{HasVerdict, Verdict, opened, refused}
use Rattle.transfer.specs.declared.store.error.TransferError.{TransferError}
use Rattle.transfer.specs.declared.store.error.TransferError.TheVariants.{Malformed, Unsupported, MacUnsupported, MacMismatch, ContentMalformed}
use Rattle.transfer.specs.Verdicts.{Sole}
use Rattle.legacy_store.specs.Algorithm.{legacy_unlock}
use Rattle.legacy_store.specs.Forms.{forms_of}
use Rattle.legacy_store.specs.Joined.{JoinedSafe}
use Rattle.legacy_store.specs.declared.mac_rule.MacRule.{MacRule}
use Rattle.legacy_store.specs.Opening.{HasLegacyVerdict, HasVerdictUnder}
use Rattle.legacy_store.specs.Scrypt.{scrypt_fits, scrypt_memory, scrypt_memory_limit}
use Rattle.legacy_store.specs.Texts.{IsLegacyStore}
use Rattle.legacy_store.specs.Verdicts.{OpensUnder}

-- A text that p12 opens opens to the same octets.
abbrev pub OpensTextsAsBefore : Type 0
OpensTextsAsBefore = (a : AlgorithmIdentifier) (p c m : List ℕ) → unlock a p c ≡ Some m
    → legacy_unlock (forms_of p) a c ≡ Some m

-- A store that `transfer` opens opens to the same bags and keys, by the same work.
abbrev pub OpensStoresAsBefore : Type 0
OpensStoresAsBefore = (b p : List ℕ) (limit : ℕ) (gss : List (List SafeBag)) (ks : List (List ℕ))
    (n : ℕ) → HasVerdict b p limit (opened gss ks) n
    → HasLegacyVerdict b p limit (opened gss ks) n

-- whether a store that `transfer` refuses for this cause under the password is refused for it here too:
-- each other cause is one that an old store may have there
abbrev pub stays_refused : List ℕ → TransferError → Bool
stays_refused p Malformed = false
stays_refused p Unsupported = false
stays_refused p MacUnsupported = false
stays_refused p MacMismatch = nat_lt 0 (length p)
stays_refused p ContentMalformed = false
stays_refused p e = true

-- A store that `transfer` refuses for a cause that no old store has is refused for it, by the same work.
abbrev pub RefusesStoresAsBefore : Type 0
RefusesStoresAsBefore = (b p : List ℕ) (limit : ℕ) (e : TransferError) (n : ℕ)
    → stays_refused p e ≡ true → HasVerdict b p limit (refused e) n
    → HasLegacyVerdict b p limit (refused e) n

-- One store has one verdict, after one number of steps.
abbrev pub OneLegacyVerdict : Type 0
OneLegacyVerdict = (rule : MacRule) (b p : List ℕ) (limit : ℕ) → Sole (HasVerdictUnder rule b p limit)

-- A store comes to be opened exactly where it opens within the limit, and then its work is the
-- number of steps.
abbrev pub LegacyOpenedExactly : Type 0
LegacyOpenedExactly = (rule : MacRule) (b p : List ℕ) (limit : ℕ) (gss : List (List SafeBag))
    (ks : List (List ℕ)) (n : ℕ)
    → HasVerdictUnder rule b p limit (opened gss ks) n ↔ (OpensUnder rule b p gss ks n × (n ≤ limit))

-- A store with a MAC comes to the same whether one is required or not.
abbrev pub SameWithMac : Type 0
SameWithMac = (one other : MacRule) (b p : List ℕ) (limit : ℕ) (s : PFX) (m : MacData) (w : Verdict)
    (n : ℕ) → IsLegacyStore b s → s.mac_data ≡ Some m → HasVerdictUnder one b p limit w n
    → HasVerdictUnder other b p limit w n

-- A list of contents in DER is its own text: nothing is joined in it.
abbrev pub DerListsStay : Type 0
DerListsStay = (v : List ℕ) (cs : List ContentInfo) → IsContents v cs → JoinedSafe v v

-- The costs that fit are those that scrypt takes within the bound on memory.
abbrev pub ScryptFitsExactly : Type 0
ScryptFitsExactly = (s : ScryptParams) → (scrypt_fits s ≡ true)
    ↔ (TakesCosts (Scrypt s) × (scrypt_memory s ≤ scrypt_memory_limit))
