-- Why a key type gives no key: of octets, of a sealed document, and of a file.
use Rattle.std.specs.Prelude.{◌≡◌, ◌⊎◌, ℕ, List}
use Rattle.asn1_core.specs.Gives.{Fails, IsNone}
use Rattle.asn1_core.specs.Reading.{left, whole, within}
use Rattle.asn1_core.specs.declared.error.Error.{Error as Below}
use Rattle.asn1_core.specs.declared.error.Error.TheVariants as below
use Rattle.pkcs5.specs.SchemeOpening.{SchemeOpens}
use Rattle.pkcs5.specs.declared.encryption_scheme.EncryptionScheme.{EncryptionScheme}
use Rattle.pkcs8.specs.declared.error.Error.{Error}
use Rattle.pkcs8.specs.declared.error.Error.TheVariants as errors
use Rattle.pkcs8.specs.EncryptedPrivateKeyInfo.{IsEncryptedKey, encrypted_key, encrypted_key_at}
use Rattle.pkcs8.specs.Error.{of_asn1}
use Rattle.pkcs8.specs.Sealing.{RefusesToDecrypt}
use Rattle.pkcs8.specs.Seen.{AnyPrivateKey, IsPrivateKey}

-- the text m is that of a private key, for which P holds
abbrev pub OfKey : (AnyPrivateKey → Type 0) → List ℕ → Type 0
OfKey P m = (i : AnyPrivateKey) × IsPrivateKey m i × P i

-- octets are no private key, or the key type refuses it
abbrev pub IsNoKey : (AnyPrivateKey → Error → Type 0) → List ℕ → Error → Type 0
IsNoKey refuses m e = ((e ≡ errors.Asn1 below.Malformed) × IsNone IsPrivateKey m)
    ⊎ OfKey (λ i. refuses i e) m

-- octets are no encrypted key, by the first fault of their text
abbrev pub IsNoEncryptedKey : List ℕ → Error → Type 0
IsNoEncryptedKey b e = (f : Below) × (e ≡ of_asn1 f)
    × Fails ⊥ f (whole (encrypted_key_at (within 0x04 left)) b)

-- the octets b are a document that opens under the password q to the text m
abbrev pub IsUnlocked : List ℕ → List ℕ → List ℕ → Type 0
IsUnlocked b q m = (s : EncryptionScheme) × (c : List ℕ) × IsEncryptedKey b (encrypted_key s c)
    × SchemeOpens s q c m

-- why a sealed document gives no key: it is none, it does not open, or it opens to a text that
-- gives none
abbrev pub IsLocked : (AnyPrivateKey → Error → Type 0) → List ℕ → List ℕ → Error → Type 0
IsLocked refuses b q e =
    IsNoEncryptedKey b e
    ⊎ ((s : EncryptionScheme) × (c : List ℕ) × IsEncryptedKey b (encrypted_key s c)
    × RefusesToDecrypt s q c e)
    ⊎ ((m : List ℕ) × IsUnlocked b q m × IsNoKey refuses m e)

-- why no key is read from a file: a call on the file failed, it has too many octets, it is no
-- private key, or the key is refused
abbrev pub IsUnread : (AnyPrivateKey → Error → Type 0) → Error → Type 0
IsUnread refuses e =
    (e ≡ errors.Asn1 below.File) ⊎ (e ≡ errors.Asn1 below.Overlength)
    ⊎ (e ≡ errors.Asn1 below.Malformed) ⊎ (e ≡ errors.Memory)
    ⊎ ((i : AnyPrivateKey) × refuses i e)
