-- How the parts of a store open, whatever opens them.
use Rattle.std.specs.Prelude.{ℕ, ◌≡◌, List, Option, Some, None}
use Rattle.p12.specs.AlgorithmIdentifier.{unlock}
use Rattle.p12.specs.SafeBag.{IsBags}
use Rattle.p12.specs.declared.algorithm_identifier.AlgorithmIdentifier.{AlgorithmIdentifier}
use Rattle.p12.specs.declared.content_info.ContentInfo.{ContentInfo}
use Rattle.p12.specs.declared.content_info.ContentInfo.TheVariants as content
use Rattle.p12.specs.declared.encrypted_private_key_info.EncryptedPrivateKeyInfo.{EncryptedPrivateKeyInfo}
use Rattle.p12.specs.declared.safe_bag.SafeBag.{SafeBag}
use Rattle.transfer.specs.Opening.{IsKeyText}

-- what octets that are encrypted under an algorithm open to
abbrev pub Unlocking : Type 0
Unlocking = AlgorithmIdentifier → List ℕ → Option (List ℕ)

-- what they open to under a password, as p12 opens them
abbrev pub under : List ℕ → Unlocking
under p a c = unlock a p c

-- the plain octets of a content
abbrev pub plain_by : Unlocking → ContentInfo → Option (List ℕ)
plain_by u (content.Data v) = Some v
plain_by u (content.EncryptedData d) =
    u d.encrypted_content_info.content_encryption_algorithm d.encrypted_content_info.encrypted_content
plain_by u (content.OtherContext o) = None

-- a content opens to octets that list these bags
abbrev pub HoldsBy : Unlocking → ContentInfo → List SafeBag → Type 0
HoldsBy u c gs = (m : List ℕ) × (plain_by u c ≡ Some m) × IsBags m gs

-- an encrypted key opens to the text m of a key
abbrev pub KeyOpensBy : Unlocking → EncryptedPrivateKeyInfo → List ℕ → Type 0
KeyOpensBy u k m = (u k.encryption_algorithm k.encrypted_data ≡ Some m) × IsKeyText m
