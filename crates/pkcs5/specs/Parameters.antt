-- PBES2-params (RFC 8018 appendix A.4): SEQUENCE { keyDerivationFunc, encryptionScheme }.
use Rattle.std.specs.Prelude.{◌≡◌, ℕ, List, ◌++◌}
use Rattle.asn1_core.specs.Der.{seq, el}
use Rattle.asn1_core.specs.Texts.{Within}
use Rattle.pkcs5.specs.Kdf.{KdfText, kdf_content, IsKdf, SpellsKdf}
use Rattle.pkcs5.specs.Cipher.{CipherText, cipher_content, IsCipher}
use Rattle.pkcs5.specs.declared.pbes2.kdf.Kdf.{Kdf}
use Rattle.pkcs5.specs.declared.pbes2.encryption_scheme.EncryptionScheme.{EncryptionScheme}
use Rattle.pkcs5.specs.declared.pbes2.parameters.Parameters.{Parameters}

abbrev pub parameters : Kdf → EncryptionScheme → Parameters
parameters k c = record { kdf = k; encryption = c }

-- the value octets: the function, and the cipher
abbrev pub ParametersOf : List ℕ → Parameters → Type 0
ParametersOf b v = (k : List ℕ) × (c : List ℕ) × KdfText k v.kdf × CipherText c v.encryption
    × (b ≡ k ++ c)

abbrev pub ParametersText : List ℕ → Parameters → Type 0
ParametersText = Within 0x30 ParametersOf

-- ---- writing

-- the value octets that are written
abbrev pub parameters_content : Parameters → List ℕ
parameters_content v = el 0x30 (kdf_content v.kdf) ++ el 0x30 (cipher_content v.encryption)

abbrev pub AreParameters : Parameters → Type 0
AreParameters v = IsKdf v.kdf × IsCipher v.encryption

-- which texts spell the parameters: a spelling of the function, and the cipher
abbrev pub SpellsParameters : List ℕ → Parameters → Type 0
SpellsParameters b v = (k : List ℕ) × SpellsKdf k v.kdf
    × (b ≡ seq (k ++ seq (cipher_content v.encryption)))
