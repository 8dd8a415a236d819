-- What an old store is opened to, or refused for: the causes in their order, each with the steps
-- that were taken by then. The table is that of `transfer`, over a wider way of opening, and with a
-- second try of the MAC where the password is empty.
use Rattle.std.specs.Prelude.{◌⊎◌, ℕ, ◌+◌, ◌<◌, ◌≡◌, ◌≢◌, true, false, List, [], length, Option, Some, None}
use Rattle.std.specs.List.{sum_by}
use Rattle.p12.specs.declared.algorithm_identifier.AlgorithmIdentifier.{AlgorithmIdentifier}
use Rattle.p12.specs.declared.pfx.PFX.{PFX}
use Rattle.p12.specs.declared.mac_data.MacData.{MacData}
use Rattle.p12.specs.declared.content_info.ContentInfo.{ContentInfo}
use Rattle.p12.specs.declared.content_info.ContentInfo.TheVariants as content
use Rattle.p12.specs.declared.safe_bag.SafeBag.{SafeBag}
use Rattle.p12.specs.declared.encrypted_private_key_info.EncryptedPrivateKeyInfo.{EncryptedPrivateKeyInfo}
use Rattle.p12.specs.SafeBag.{IsBags, NoBags}
use Rattle.transfer.specs.Limits.{store_limit}
use Rattle.transfer.specs.Opening.{IsKeyText, NoKeyText, PartsTable, Verdict, all_shrouded, opened, refused}
use Rattle.transfer.specs.Parts.{Of, PartKind, Row}
use Rattle.transfer.specs.declared.store.error.TransferError.{TransferError}
use Rattle.transfer.specs.declared.store.error.TransferError.TheVariants.{TooLong, Malformed, Unsupported, MacMissing, MacUnsupported, ZeroIterations, WorkLimit, MacMismatch, ContentMalformed, DecryptFailed, KeyMalformed}
use Rattle.legacy_store.specs.Algorithm.{SchemeOf, legacy_cost, legacy_count, legacy_openable, legacy_taken, legacy_unlock, scheme_cost, scheme_count, scheme_openable, scheme_taken, scheme_unlock}
use Rattle.legacy_store.specs.Forms.{Forms, forms_of, forms_without_mac, null_forms}
use Rattle.legacy_store.specs.declared.mac_rule.MacRule.{MacRule}
use Rattle.legacy_store.specs.declared.mac_rule.MacRule.TheVariants.{Required, Optional}
use Rattle.legacy_store.specs.Mac.{is_legacy_digest, legacy_agrees, mac_cost, mac_count}
use Rattle.legacy_store.specs.Texts.{IsLegacySafe, IsLegacyStore, NoLegacySafe, NoLegacyStore}

-- ---- Locked texts

-- A locked text under a running sum: the first of its faults before it is opened. `rest` says what
-- is wrong with the opened text. The third column: the steps that were taken at this text.
abbrev pub LegacyLockFault : Forms → ℕ → ℕ → AlgorithmIdentifier → List ℕ
    → (List ℕ → TransferError → ℕ → Type 0) → TransferError → ℕ → Type 0
LegacyLockFault f limit sum a c rest =
    Row (legacy_openable f.has_mac a ≡ false) Unsupported 0
    (Row (legacy_count a ≡ 0) ZeroIterations 0
    (Row (limit < sum + legacy_cost a) WorkLimit 0
    (Row (legacy_unlock f a c ≡ None) DecryptFailed (legacy_taken a c)
    (Of (λ m. legacy_unlock f a c ≡ Some m) rest))))

-- The same of a scheme.
abbrev pub SchemeLockFault : Forms → ℕ → ℕ → SchemeOf → List ℕ
    → (List ℕ → TransferError → ℕ → Type 0) → TransferError → ℕ → Type 0
SchemeLockFault f limit sum s c rest =
    Row (scheme_openable f.has_mac s ≡ false) Unsupported 0
    (Row (scheme_count s ≡ 0) ZeroIterations 0
    (Row (limit < sum + scheme_cost s) WorkLimit 0
    (Row (scheme_unlock f s c ≡ None) DecryptFailed (scheme_taken s c)
    (Of (λ m. scheme_unlock f s c ≡ Some m) rest))))

-- ---- Contents

abbrev pub legacy_share : ContentInfo → ℕ
legacy_share (content.Data v) = 0
legacy_share (content.EncryptedData d) =
    legacy_cost d.encrypted_content_info.content_encryption_algorithm
legacy_share (content.OtherContext o) = 0

-- the plain octets of a content
abbrev pub legacy_plain : Forms → ContentInfo → Option (List ℕ)
legacy_plain f (content.Data v) = Some v
legacy_plain f (content.EncryptedData d) =
    legacy_unlock f d.encrypted_content_info.content_encryption_algorithm
    d.encrypted_content_info.encrypted_content
legacy_plain f (content.OtherContext o) = None

-- a content opens to octets that list these bags
abbrev pub LegacyHolds : Forms → ContentInfo → List SafeBag → Type 0
LegacyHolds f c gs = (m : List ℕ) × (legacy_plain f c ≡ Some m) × IsBags m gs

-- A content under a running sum has this fault, after so many steps of its own.
abbrev pub LegacyContentCause : Forms → ℕ → ℕ → ContentInfo → TransferError → ℕ → Type 0
LegacyContentCause f limit sum (content.Data v) e n =
    NoBags v × (e ≡ ContentMalformed) × (n ≡ 0)
LegacyContentCause f limit sum (content.EncryptedData d) e n =
    let a = d.encrypted_content_info.content_encryption_algorithm in
    LegacyLockFault f limit sum a d.encrypted_content_info.encrypted_content
    (λ m e n. NoBags m × (e ≡ ContentMalformed) × (n ≡ legacy_cost a)) e n
LegacyContentCause f limit sum (content.OtherContext o) e n = (e ≡ Unsupported) × (n ≡ 0)

abbrev pub legacy_contents : Forms → ℕ → PartKind ContentInfo (List SafeBag) TransferError
legacy_contents f limit = record {
  share = legacy_share;
  OpensTo = LegacyHolds f;
  Fault = LegacyContentCause f limit;
}

-- ---- Keys

abbrev pub legacy_key_share : EncryptedPrivateKeyInfo → ℕ
legacy_key_share k = legacy_cost k.encryption_algorithm

-- An encrypted key opens to this text, which is that of a private key.
abbrev pub LegacyKeyOpens : Forms → EncryptedPrivateKeyInfo → List ℕ → Type 0
LegacyKeyOpens f k m = (legacy_unlock f k.encryption_algorithm k.encrypted_data ≡ Some m)
    × IsKeyText m

-- An encrypted key under a running sum has this fault, after so many steps of its own.
abbrev pub LegacyKeyFault : Forms → ℕ → ℕ → EncryptedPrivateKeyInfo → TransferError → ℕ → Type 0
LegacyKeyFault f limit sum k e n =
    let a = k.encryption_algorithm in
    LegacyLockFault f limit sum a k.encrypted_data
    (λ m e n. NoKeyText m × (e ≡ KeyMalformed) × (n ≡ legacy_cost a)) e n

abbrev pub legacy_keys : Forms → ℕ → PartKind EncryptedPrivateKeyInfo (List ℕ) TransferError
legacy_keys f limit = record {
  share = legacy_key_share;
  OpensTo = LegacyKeyOpens f;
  Fault = LegacyKeyFault f limit;
}

-- ---- Stores

-- The encrypted keys among the bags, in store order, come after all contents.
abbrev pub LegacyKeysTable : Forms → ℕ → ℕ → List (List SafeBag) → Verdict → ℕ → Type 0
LegacyKeysTable f limit sum gss = PartsTable (legacy_keys f limit) limit sum (all_shrouded gss)
    (λ ks w n. (w ≡ opened gss ks) × (n ≡ sum + sum_by legacy_key_share (all_shrouded gss)))

unfoldable pub LegacyContentsTable : Forms → ℕ → ℕ → List ContentInfo → Verdict → ℕ → Type 0
LegacyContentsTable f limit sum cs =
    PartsTable (legacy_contents f limit) limit sum cs
    (LegacyKeysTable f limit (sum + sum_by legacy_share cs))

-- The text of a store whose MAC agrees, after so many steps.
unfoldable pub LegacyTextTable : Forms → ℕ → ℕ → List ℕ → Verdict → ℕ → Type 0
LegacyTextTable f limit sum v =
    Row (NoLegacySafe v) (refused ContentMalformed) sum
    (Of (λ cs. IsLegacySafe v cs) (λ cs. LegacyContentsTable f limit sum cs))

-- One table or another, by whether P holds.
abbrev pub Either : Type 0 → (Verdict → ℕ → Type 0) → (Verdict → ℕ → Type 0) → Verdict → ℕ → Type 0
Either P T U w n = (P × T w n) ⊎ ((P → ⊥) × U w n)

-- Where the MAC did not agree under the password: the null password is tried if that was empty.
unfoldable pub NullTable : List ℕ → ℕ → List ℕ → MacData → Verdict → ℕ → Type 0
NullTable p limit v m =
    Row (p ≢ []) (refused MacMismatch) (mac_cost m)
    (Row (limit < mac_cost m + mac_cost m) (refused WorkLimit) (mac_cost m)
    (Row (legacy_agrees m null_forms v ≡ false) (refused MacMismatch) (mac_cost m + mac_cost m)
    (LegacyTextTable null_forms limit (mac_cost m + mac_cost m) v)))

unfoldable pub LegacyMacTable : List ℕ → ℕ → List ℕ → MacData → Verdict → ℕ → Type 0
LegacyMacTable p limit v m =
    Row (is_legacy_digest m.mac.digest_algorithm ≡ false) (refused MacUnsupported) 0
    (Row (mac_count m ≡ 0) (refused ZeroIterations) 0
    (Row (limit < mac_cost m) (refused WorkLimit) 0
    (Either (legacy_agrees m (forms_of p) v ≡ true)
    (LegacyTextTable (forms_of p) limit (mac_cost m) v)
    (NullTable p limit v m))))

-- A store without a MAC: it is refused where one is required, and else opened under the password,
-- and never under the null password.
abbrev pub BareTable : MacRule → List ℕ → ℕ → List ℕ → Verdict → ℕ → Type 0
BareTable Required p limit v w n = (w ≡ refused MacMissing) × (n ≡ 0)
BareTable Optional p limit v w n = LegacyTextTable (forms_without_mac p) limit 0 v w n

abbrev pub LegacyStoreTable : MacRule → List ℕ → ℕ → PFX → Verdict → ℕ → Type 0
LegacyStoreTable rule p limit s =
    Row ((v : List ℕ) → s.auth_safe ≡ content.Data v → ⊥) (refused Unsupported) 0
    (Of (λ v. s.auth_safe ≡ content.Data v) (λ v.
    Either (s.mac_data ≡ None) (BareTable rule p limit v)
    (Of (λ m. s.mac_data ≡ Some m) (λ m. LegacyMacTable p limit v m))))

-- The octets b under the password p and the limit: the first row that holds decides what the store
-- comes to, and the steps that were taken by then.
unfoldable pub HasVerdictUnder : MacRule → List ℕ → List ℕ → ℕ → Verdict → ℕ → Type 0
HasVerdictUnder rule b p limit =
    Row (store_limit < length b) (refused TooLong) 0
    (Row (NoLegacyStore b) (refused Malformed) 0
    (Of (IsLegacyStore b) (λ s. LegacyStoreTable rule p limit s)))

-- The same where a MAC is required.
abbrev pub HasLegacyVerdict : List ℕ → List ℕ → ℕ → Verdict → ℕ → Type 0
HasLegacyVerdict = HasVerdictUnder Required

-- The first cause to refuse the store, or none.
abbrev pub FirstCauseUnder : MacRule → List ℕ → List ℕ → ℕ → Option TransferError → Type 0
FirstCauseUnder rule b p limit (Some e) = (n : ℕ) × HasVerdictUnder rule b p limit (refused e) n
FirstCauseUnder rule b p limit None = (gss : List (List SafeBag)) × (ks : List (List ℕ)) × (n : ℕ)
    × HasVerdictUnder rule b p limit (opened gss ks) n

abbrev pub FirstLegacyCause : List ℕ → List ℕ → ℕ → Option TransferError → Type 0
FirstLegacyCause = FirstCauseUnder Required
