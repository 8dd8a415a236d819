-- EncryptedPrivateKeyInfo (RFC 5958 section 3): SEQUENCE { encryptionAlgorithm AlgorithmIdentifier,
-- encryptedData OCTET STRING }.
use Rattle.std.specs.Prelude.{◌≡◌, ℕ, List, ◌++◌}
use Rattle.asn1_core.specs.Der.{el, seq, octets, IsShort}
use Rattle.asn1_core.specs.Reading.{Front, All, on, ended, within}
use Rattle.asn1_core.specs.Texts.{Within, Inside}
use Rattle.pkcs5.specs.Scheme.{SchemeText, scheme_content, SpellsScheme}
use Rattle.pkcs5.specs.declared.encryption_scheme.EncryptionScheme.{EncryptionScheme}
use Rattle.pkcs8.specs.declared.encrypted_private_key_info.EncryptedPrivateKeyInfo.{EncryptedPrivateKeyInfo}
use Rattle.pkcs5.specs.Reading.{scheme_at}

-- an encrypted key: the scheme, and the ciphertext
abbrev pub encrypted_key : {W : Type 0} → EncryptionScheme → W → EncryptedPrivateKeyInfo W
encrypted_key s d = record { encryption_algorithm = s; encrypted_data = d }

-- the value octets of an encrypted key, whose ciphertext has texts by D
abbrev pub EncryptedKeyOf : {W : Type 0} → (List ℕ → W → Type 0) → List ℕ
    → EncryptedPrivateKeyInfo W → Type 0
EncryptedKeyOf D b v = (s : List ℕ) × (d : List ℕ) × SchemeText s v.encryption_algorithm
    × D d v.encrypted_data × (b ≡ s ++ d)

abbrev pub EncryptedKeyText : {W : Type 0} → (List ℕ → W → Type 0) → List ℕ
    → EncryptedPrivateKeyInfo W → Type 0
EncryptedKeyText D = Within 0x30 (EncryptedKeyOf D)

-- b is a text of the encrypted key, of at most 2 ^ 32 - 1 octets
abbrev pub IsEncryptedKey : List ℕ → EncryptedPrivateKeyInfo (List ℕ) → Type 0
IsEncryptedKey b v = EncryptedKeyText (Inside 0x04) b v × IsShort b

-- ---- writing

-- the value octets that are written
abbrev pub encrypted_key_content : {B : Type 0} → (B → List ℕ) → EncryptionScheme → B → List ℕ
encrypted_key_content canon s d = el 0x30 (scheme_content s) ++ canon d

-- the text of a ciphertext under a scheme
abbrev pub encrypted_key_text : EncryptionScheme → List ℕ → List ℕ
encrypted_key_text s c = seq (encrypted_key_content octets s c)

-- which texts spell an encrypted key: a spelling of its scheme, and one of its ciphertext
abbrev pub SpellsEncryptedKey : {B : Type 0} → (List ℕ → B → Type 0) → List ℕ → EncryptionScheme → B
    → Type 0
SpellsEncryptedKey spell b s d = (a : List ℕ) × (q : List ℕ) × SpellsScheme a s × spell q d
    × (b ≡ el 0x30 (a ++ q))

-- ---- reading

abbrev pub encrypted_key_of : {W : Type 0} → Front W → All (EncryptedPrivateKeyInfo W)
encrypted_key_of q = on scheme_at (λ s. on q (λ d. ended (encrypted_key s d)))

abbrev pub encrypted_key_at : {W : Type 0} → Front W → Front (EncryptedPrivateKeyInfo W)
encrypted_key_at q = within 0x30 (encrypted_key_of q)
