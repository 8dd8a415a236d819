-- The faults of a locked text, and what is wrong with the text that it opens to.
use Rattle.std.proofs.Common.{ℕ, ◌≡◌, ◌+◌, ◌≤◌, List, inl, inr, refl, arith}
use Rattle.std.specs.Prelude.{Some}
use Rattle.p12.specs.declared.algorithm_identifier.AlgorithmIdentifier.{AlgorithmIdentifier}
use Rattle.p12.specs.declared.content_info.ContentInfo.TheVariants as content
use Rattle.p12.specs.declared.encrypted_data.EncryptedData.{EncryptedData}
use Rattle.p12.specs.declared.encrypted_private_key_info.EncryptedPrivateKeyInfo.{EncryptedPrivateKeyInfo}
use Rattle.p12.specs.SafeBag.{NoBags}
use Rattle.transfer.specs.Opening.{NoKeyText}
use Rattle.transfer.specs.declared.store.error.TransferError.{TransferError}
use Rattle.transfer.specs.declared.store.error.TransferError.TheVariants.{ContentMalformed, KeyMalformed}
use Rattle.legacy_store.specs.Algorithm.{legacy_cost, legacy_unlock}
use Rattle.legacy_store.specs.Forms.{Forms}
use Rattle.legacy_store.specs.Opening.{LegacyContentCause, LegacyKeyFault, LegacyLockFault}
use Rattle.legacy_store.proofs.Opened.{legacy_opened}
use Rattle.transfer.proofs.Faults.{some_none, true_false}

-- A fault before the text is opened is one whatever is wrong with the opened text.
lock_before : (f : Forms) (limit sum : ℕ) (a : AlgorithmIdentifier) (c : List ℕ) (rest : List ℕ → TransferError → ℕ → Type 0) (e : TransferError) (n : ℕ)
    → LegacyLockFault f limit sum a c (λ _ _ _. ⊥) e n → LegacyLockFault f limit sum a c rest e n
lock_before f limit sum a c rest e n (inl h) = inl h
lock_before f limit sum a c rest e n (inr (x, inl h)) = inr (x, inl h)
lock_before f limit sum a c rest e n (inr (x, inr (y, inl h))) = inr (x, inr (y, inl h))
lock_before f limit sum a c rest e n (inr (x, inr (y, inr (z, inl h)))) = inr (x, inr (y, inr (z, inl h)))
lock_before f limit sum a c rest e n (inr (x, inr (y, inr (z, inr (w, (m, is, bad)))))) = absurd bad

pub content_before : (f : Forms) (limit sum : ℕ) (d : EncryptedData) (e : TransferError) (n : ℕ)
    → LegacyLockFault f limit sum d.encrypted_content_info.content_encryption_algorithm d.encrypted_content_info.encrypted_content (λ _ _ _. ⊥) e n
    → LegacyContentCause f limit sum (content.EncryptedData d) e n
content_before f limit sum d e n h =
    let a = d.encrypted_content_info.content_encryption_algorithm in
    lock_before f limit sum a d.encrypted_content_info.encrypted_content (λ m e n. NoBags m × (e ≡ ContentMalformed) × (n ≡ legacy_cost a)) e n h

pub key_before : (f : Forms) (limit sum : ℕ) (k : EncryptedPrivateKeyInfo) (e : TransferError) (n : ℕ)
    → LegacyLockFault f limit sum k.encryption_algorithm k.encrypted_data (λ _ _ _. ⊥) e n → LegacyKeyFault f limit sum k e n
key_before f limit sum k e n h =
    lock_before f limit sum k.encryption_algorithm k.encrypted_data (λ m e n. NoKeyText m × (e ≡ KeyMalformed) × (n ≡ legacy_cost k.encryption_algorithm)) e n h

-- What is wrong with the opened text is wrong with the locked one.
pub lock_holds : (f : Forms) (limit sum : ℕ) (a : AlgorithmIdentifier) (c : List ℕ) (rest : List ℕ → TransferError → ℕ → Type 0) (m : List ℕ) (e : TransferError) (n : ℕ)
    → legacy_unlock f a c ≡ Some m → sum + legacy_cost a ≤ limit → rest m e n → LegacyLockFault f limit sum a c rest e n
lock_holds f limit sum a c rest m e n is le bad =
    let o = legacy_opened f a c m is in
    inr (λ h. true_false _ o.openable h, inr (λ h. omega (arith, h, o.some_rounds), inr (λ h. omega (arith, h, le), inr (λ h. some_none _ m is h, (m, is, bad)))))

pub content_bad : (f : Forms) (limit sum : ℕ) (d : EncryptedData) (m : List ℕ)
    → legacy_unlock f d.encrypted_content_info.content_encryption_algorithm d.encrypted_content_info.encrypted_content ≡ Some m
    → sum + legacy_cost d.encrypted_content_info.content_encryption_algorithm ≤ limit → NoBags m
    → LegacyContentCause f limit sum (content.EncryptedData d) ContentMalformed (legacy_cost d.encrypted_content_info.content_encryption_algorithm)
content_bad f limit sum d m opens le bad =
    let a = d.encrypted_content_info.content_encryption_algorithm in
    lock_holds f limit sum a d.encrypted_content_info.encrypted_content (λ m e n. NoBags m × (e ≡ ContentMalformed) × (n ≡ legacy_cost a)) m ContentMalformed (legacy_cost a) opens le (bad, refl, refl)

pub key_bad : (f : Forms) (limit sum : ℕ) (k : EncryptedPrivateKeyInfo) (m : List ℕ) → legacy_unlock f k.encryption_algorithm k.encrypted_data ≡ Some m
    → sum + legacy_cost k.encryption_algorithm ≤ limit → NoKeyText m → LegacyKeyFault f limit sum k KeyMalformed (legacy_cost k.encryption_algorithm)
key_bad f limit sum k m opens le bad =
    let a = k.encryption_algorithm in
    lock_holds f limit sum a k.encrypted_data (λ m e n. NoKeyText m × (e ≡ KeyMalformed) × (n ≡ legacy_cost a)) m KeyMalformed (legacy_cost a) opens le (bad, refl, refl)
