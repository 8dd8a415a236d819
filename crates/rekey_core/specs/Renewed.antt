-- Stores whose parts are all under PBES2 with PBKDF2 over HMAC-SHA-256 and AES-256-CBC.
use Rattle.std.specs.Prelude.{ℕ, ◌+◌, ◌*◌, ◌≡◌, All, List, length, ⊤}
use Rattle.std.specs.List.{sum_by}
use Rattle.p12.specs.declared.algorithm_identifier.AlgorithmIdentifier.{AlgorithmIdentifier}
use Rattle.p12.specs.declared.algorithm_identifier.AlgorithmIdentifier.TheVariants.{Sha256, Pbes2}
use Rattle.p12.specs.declared.content_info.ContentInfo.{ContentInfo}
use Rattle.p12.specs.declared.content_info.ContentInfo.TheVariants as content
use Rattle.p12.specs.declared.encrypted_private_key_info.EncryptedPrivateKeyInfo.{EncryptedPrivateKeyInfo}
use Rattle.p12.specs.declared.mac_data.MacData.{MacData}
use Rattle.p12.specs.declared.safe_bag.SafeBag.{SafeBag}
use Rattle.transfer.specs.Opening.{all_shrouded}
use Rattle.transfer.specs.Verdicts.{StoreOpens}
use Rattle.rekey_core.specs.Anew.{sha256_anew}
use Rattle.rekey_core.specs.Change.{ChangesTo}
use Rattle.rekey_core.specs.Work.{work_to}
use Rattle.rekey_core.specs.declared.kinds.Kinds.TheVariants.{Renewed}
use Rattle.rekey_core.specs.declared.kinds.Rounds.{Rounds}

-- the algorithm is that of so many rounds, with an IV and a salt of 16 octets each
abbrev pub IsRenewed : ℕ → AlgorithmIdentifier → Type 0
IsRenewed rounds a = (z : List ℕ) × (length z ≡ 32) × (a ≡ Pbes2 (sha256_anew rounds z))

abbrev pub ContentRenewed : ℕ → ContentInfo → Type 0
ContentRenewed rounds (content.Data v) = ⊤
ContentRenewed rounds (content.EncryptedData d) =
    IsRenewed rounds d.encrypted_content_info.content_encryption_algorithm
ContentRenewed rounds (content.OtherContext o) = ⊤

abbrev pub KeyRenewed : ℕ → EncryptedPrivateKeyInfo → Type 0
KeyRenewed rounds k = IsRenewed rounds k.encryption_algorithm

-- Where the store opens, its MAC is one of HMAC-SHA-256 in so many rounds with a salt of 16 octets,
-- and each encrypted content and key is under such an algorithm.
pub record StoreRenewed (rounds : ℕ) (b p : List ℕ) : Type 0 where
  pub renewed : (gss : List (List SafeBag)) (ks : List (List ℕ)) (n : ℕ)
      → (o : StoreOpens b p gss ks n)
      → (o.mac.mac.digest_algorithm ≡ Sha256) × (o.mac.iterations ≡ rounds)
      × (length o.mac.salt ≡ 16) × All (ContentRenewed rounds) o.parts
      × All (KeyRenewed rounds) (all_shrouded gss)

-- A store that is changed to renewed kinds is such a store.
abbrev pub ChangesRenew : Type 0
ChangesRenew = (rounds : Rounds) (b p q c d : List ℕ)
    → ChangesTo (Renewed rounds) b p c q d → StoreRenewed rounds.count c q

-- ---- the work

-- whether a content is encrypted, as a number
abbrev pub encrypted_in : ContentInfo → ℕ
encrypted_in (content.Data v) = 0
encrypted_in (content.EncryptedData d) = 1
encrypted_in (content.OtherContext o) = 0

-- how many encrypted contents and keys a store has
abbrev pub encrypted_parts : List ContentInfo → List (List SafeBag) → ℕ
encrypted_parts cs gss = sum_by encrypted_in cs + length (all_shrouded gss)

-- The work of opening a renewed store is the count of rounds for its MAC and for each of its parts.
abbrev pub RenewedWork : Type 0
RenewedWork = (rounds : Rounds) (m : MacData) (cs : List ContentInfo) (gss : List (List SafeBag))
    → work_to (Renewed rounds) m cs gss ≡ rounds.count * (1 + encrypted_parts cs gss)
