-- What a store is opened to, or refused for: the causes in their order, each with the steps that
-- were taken by then.
use Rattle.std.specs.Prelude.{◌⊎◌, ℕ, ◌+◌, ◌<◌, ◌≤◌, ◌≡◌, false, List, [], ◌∷◌, length, Option, Some, None}
use Rattle.std.specs.List.{flat_map, sum_by}
use Rattle.p12.specs.declared.algorithm_identifier.AlgorithmIdentifier.{AlgorithmIdentifier}
use Rattle.p12.specs.declared.pfx.PFX.{PFX}
use Rattle.p12.specs.declared.mac_data.MacData.{MacData}
use Rattle.p12.specs.declared.content_info.ContentInfo.{ContentInfo}
use Rattle.p12.specs.declared.content_info.ContentInfo.TheVariants as content
use Rattle.p12.specs.declared.safe_bag.SafeBag.{SafeBag}
use Rattle.p12.specs.declared.safe_bag.SafeBagKind.{SafeBagKind}
use Rattle.p12.specs.declared.safe_bag.SafeBagKind.TheVariants as bag
use Rattle.p12.specs.declared.encrypted_private_key_info.EncryptedPrivateKeyInfo.{EncryptedPrivateKeyInfo}
use Rattle.p12.specs.AlgorithmIdentifier.{cost, count, openable, taken, unlock}
use Rattle.p12.specs.Collected.{HoldsBags, certificates_among}
use Rattle.p12.specs.ContentInfo.{IsContents, NoContents}
use Rattle.p12.specs.MacData.{is_mac_digest, mac_agrees}
use Rattle.pkcs12_kdf.specs.Password.{bmp_password}
use Rattle.p12.specs.Pfx.{IsStore, NoStore}
use Rattle.p12.specs.SafeBag.{NoBags}
use Rattle.pkcs8.specs.Seen.{AnyPrivateKey, IsPrivateKey}
use Rattle.transfer.specs.Limits.{store_limit}
use Rattle.transfer.specs.declared.store.error.TransferError.{TransferError}
use Rattle.transfer.specs.declared.store.error.TransferError.TheVariants.{TooLong, Malformed, Unsupported, MacMissing, MacUnsupported, ZeroIterations, WorkLimit, MacMismatch, ContentMalformed, DecryptFailed, KeyMalformed}
use Rattle.transfer.specs.Parts.{AreOpen, IsFirstFault, PartKind, Of, Row}
use Rattle.transfer.specs.TransferError.{RefusedBy}

-- ---- Locked texts

-- A locked text under a running sum: the first of its faults before it is opened. `rest` says what
-- is wrong with the opened text. The third column: the steps that were taken at this text.
abbrev pub LockFault : List ℕ → ℕ → ℕ → AlgorithmIdentifier → List ℕ
    → (List ℕ → TransferError → ℕ → Type 0) → TransferError → ℕ → Type 0
LockFault p limit sum a c rest =
    Row (openable a ≡ false) Unsupported 0
    (Row (count a ≡ 0) ZeroIterations 0
    (Row (limit < sum + cost a) WorkLimit 0
    (Row (unlock a p c ≡ None) DecryptFailed (taken a c)
    (Of (λ m. unlock a p c ≡ Some m) rest))))

-- ---- Contents

-- the share of the work that a content has
abbrev pub content_share : ContentInfo → ℕ
content_share (content.Data v) = 0
content_share (content.EncryptedData d) = cost d.encrypted_content_info.content_encryption_algorithm
content_share (content.OtherContext o) = 0

-- A content under a running sum has this fault, after so many steps of its own.
abbrev pub ContentCause : List ℕ → ℕ → ℕ → ContentInfo → TransferError → ℕ → Type 0
ContentCause p limit sum (content.Data v) e n = NoBags v × (e ≡ ContentMalformed) × (n ≡ 0)
ContentCause p limit sum (content.EncryptedData d) e n =
    let a = d.encrypted_content_info.content_encryption_algorithm in
    LockFault p limit sum a d.encrypted_content_info.encrypted_content
    (λ m e n. NoBags m × (e ≡ ContentMalformed) × (n ≡ cost a)) e n
ContentCause p limit sum (content.OtherContext o) e n = (e ≡ Unsupported) × (n ≡ 0)

abbrev pub of_contents : List ℕ → ℕ → PartKind ContentInfo (List SafeBag) TransferError
of_contents p limit = record {
  share = content_share;
  OpensTo = HoldsBags p;
  Fault = ContentCause p limit;
}

-- ---- Bags

-- the X.509 certificates of all contents, in order
abbrev pub all_certificates : List (List SafeBag) → List (List ℕ)
all_certificates gss = flat_map certificates_among gss

-- the encrypted key in a bag, if it is one
abbrev pub shrouded_in : SafeBagKind → List EncryptedPrivateKeyInfo
shrouded_in (bag.Pkcs8ShroudedKeyBag k) = k ∷ []
shrouded_in (bag.CertBag c) = []
shrouded_in (bag.OtherBagKind o) = []

abbrev pub shrouded_among : List SafeBag → List EncryptedPrivateKeyInfo
shrouded_among gs = flat_map (λ (g : SafeBag). shrouded_in g.bag) gs

-- those of all contents, in order
abbrev pub all_shrouded : List (List SafeBag) → List EncryptedPrivateKeyInfo
all_shrouded gss = flat_map shrouded_among gss

-- ---- Keys

-- the encrypted key of an algorithm and its octets
abbrev pub key_with : AlgorithmIdentifier → List ℕ → EncryptedPrivateKeyInfo
key_with a c = record { encryption_algorithm = a; encrypted_data = c }

-- the share of the work that an encrypted key has
abbrev pub key_share : EncryptedPrivateKeyInfo → ℕ
key_share k = cost k.encryption_algorithm

-- A text is that of a private key (RFC 5958 section 2).
abbrev pub IsKeyText : List ℕ → Type 0
IsKeyText m = (k : AnyPrivateKey) × IsPrivateKey m k

-- It is that of none.
abbrev pub NoKeyText : List ℕ → Type 0
NoKeyText m = (k : AnyPrivateKey) → IsPrivateKey m k → ⊥

-- It is that of one, and was part of a store. (Not to be that of none says the same, and is a fact
-- with one proof, as a field of a type has to be.)
abbrev pub IsStoredKey : List ℕ → Type 0
IsStoredKey m = (NoKeyText m → ⊥) × (length m ≤ store_limit)

-- An encrypted key opens to this text, which is that of a private key.
abbrev pub KeyOpens : List ℕ → EncryptedPrivateKeyInfo → List ℕ → Type 0
KeyOpens p k m = (unlock k.encryption_algorithm p k.encrypted_data ≡ Some m) × IsKeyText m

-- An encrypted key under a running sum has this fault, after so many steps of its own.
abbrev pub KeyFault : List ℕ → ℕ → ℕ → EncryptedPrivateKeyInfo → TransferError → ℕ → Type 0
KeyFault p limit sum k e n =
    let a = k.encryption_algorithm in
    LockFault p limit sum a k.encrypted_data
    (λ m e n. NoKeyText m × (e ≡ KeyMalformed) × (n ≡ cost a)) e n

abbrev pub of_keys : List ℕ → ℕ → PartKind EncryptedPrivateKeyInfo (List ℕ) TransferError
of_keys p limit = record { share = key_share; OpensTo = KeyOpens p; Fault = KeyFault p limit }

-- ---- Stores

-- What a store comes to: a refusal, or the bags of each content and the texts of its private keys.
pub data Verdict : Type 0 where
  refused : TransferError → Verdict
  opened : List (List SafeBag) → List (List ℕ) → Verdict

-- The rows for parts in their order: the first that has a fault, or else what they open to decides
-- further.
abbrev pub PartsTable : {A B : Type 0} → PartKind A B TransferError → ℕ → ℕ → List A
    → (List B → Verdict → ℕ → Type 0) → Verdict → ℕ → Type 0
PartsTable {A} {B} K limit sum xs rest w n =
    ((e : TransferError) × (k : ℕ) × IsFirstFault K limit sum xs e k × (w ≡ refused e)
    × (n ≡ sum + k))
    ⊎ ((ys : List B) × AreOpen K limit sum xs ys × rest ys w n)

-- The encrypted keys among the bags, in store order, come after all contents.
abbrev pub KeysTable : List ℕ → ℕ → ℕ → List (List SafeBag) → Verdict → ℕ → Type 0
KeysTable p limit sum gss = PartsTable (of_keys p limit) limit sum (all_shrouded gss)
    (λ ks w n. (w ≡ opened gss ks) × (n ≡ sum + sum_by key_share (all_shrouded gss)))

unfoldable pub ContentsTable : List ℕ → ℕ → ℕ → List ContentInfo → Verdict → ℕ → Type 0
ContentsTable p limit sum cs =
    PartsTable (of_contents p limit) limit sum cs
    (KeysTable p limit (sum + sum_by content_share cs))

unfoldable pub MacTable : List ℕ → ℕ → List ℕ → MacData → Verdict → ℕ → Type 0
MacTable p limit v m =
    Row (is_mac_digest m.mac.digest_algorithm ≡ false) (refused MacUnsupported) 0
    (Row (m.iterations ≡ 0) (refused ZeroIterations) 0
    (Row (limit < m.iterations) (refused WorkLimit) 0
    (Row (mac_agrees m (bmp_password p) v ≡ false) (refused MacMismatch) m.iterations
    (Row (NoContents v) (refused ContentMalformed) m.iterations
    (Of (λ cs. IsContents v cs) (λ cs. ContentsTable p limit m.iterations cs))))))

abbrev pub StoreTable : List ℕ → ℕ → PFX → Verdict → ℕ → Type 0
StoreTable p limit s =
    Row ((v : List ℕ) → s.auth_safe ≡ content.Data v → ⊥) (refused Unsupported) 0
    (Of (λ v. s.auth_safe ≡ content.Data v) (λ v.
    Row (s.mac_data ≡ None) (refused MacMissing) 0
    (Of (λ m. s.mac_data ≡ Some m) (λ m. MacTable p limit v m))))

-- The octets b under the password p and the limit: the first row that holds decides what the store
-- comes to, and the steps that were taken by then.
unfoldable pub HasVerdict : List ℕ → List ℕ → ℕ → Verdict → ℕ → Type 0
HasVerdict b p limit =
    Row (store_limit < length b) (refused TooLong) 0
    (Row (NoStore b) (refused Malformed) 0
    (Of (IsStore b) (λ s. StoreTable p limit s)))

-- The first cause to refuse the store, or none.
abbrev pub FirstCause : List ℕ → List ℕ → ℕ → Option TransferError → Type 0
FirstCause b p limit (Some e) = (n : ℕ) × HasVerdict b p limit (refused e) n
FirstCause b p limit None = (gss : List (List SafeBag)) × (ks : List (List ℕ)) × (n : ℕ)
    × HasVerdict b p limit (opened gss ks) n

-- A refusal other than when out of memory has F, with the steps that were taken.
abbrev pub RefusedAfter : (TransferError → ℕ → Type 0) → ℕ → ℕ → TransferError → Type 0
RefusedAfter F old new e = RefusedBy (λ e. (n : ℕ) × F e n × (new ≡ old + n)) ⊥ e
