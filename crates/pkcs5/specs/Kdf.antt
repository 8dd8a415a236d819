-- The key derivation function of PBES2 (RFC 8018 appendix A.4): an algorithm, PBKDF2 (appendix A.2)
-- or scrypt (RFC 7914 section 7).
use Rattle.std.specs.Prelude.{◌≡◌, ℕ, List, ◌++◌}
use Rattle.asn1_core.specs.Der.{oid, seq, el}
use Rattle.asn1_core.specs.Texts.{Within}
use Rattle.pkcs5.specs.Identifiers.{pbkdf2_oid, scrypt_oid}
use Rattle.pkcs5.specs.Pbkdf2Params.{Pbkdf2ParamsText, pbkdf2_params_content, ArePbkdf2Params, SpellsPbkdf2Params}
use Rattle.pkcs5.specs.ScryptParams.{ScryptParamsText, scrypt_params_content, AreScryptParams}
use Rattle.pkcs5.specs.declared.pbes2.kdf.Kdf.{Kdf}
use Rattle.pkcs5.specs.declared.pbes2.kdf.Kdf.TheVariants.{Pbkdf2, Scrypt}

-- the value octets: the function's identifier, and its parameters
abbrev pub KdfOf : List ℕ → Kdf → Type 0
KdfOf b (Pbkdf2 v) = (p : List ℕ) × Pbkdf2ParamsText p v × (b ≡ oid pbkdf2_oid ++ p)
KdfOf b (Scrypt v) = (p : List ℕ) × ScryptParamsText p v × (b ≡ oid scrypt_oid ++ p)

abbrev pub KdfText : List ℕ → Kdf → Type 0
KdfText = Within 0x30 KdfOf

-- ---- writing

-- the value octets that are written
abbrev pub kdf_content : Kdf → List ℕ
kdf_content (Pbkdf2 v) = oid pbkdf2_oid ++ el 0x30 (pbkdf2_params_content v)
kdf_content (Scrypt v) = oid scrypt_oid ++ el 0x30 (scrypt_params_content v)

abbrev pub IsKdf : Kdf → Type 0
IsKdf (Pbkdf2 v) = ArePbkdf2Params v
IsKdf (Scrypt v) = AreScryptParams v

-- which texts spell a function: its identifier, and a spelling of its parameters; those of scrypt
-- have one
abbrev pub SpellsKdf : List ℕ → Kdf → Type 0
SpellsKdf b (Pbkdf2 v) = (p : List ℕ) × SpellsPbkdf2Params p v × (b ≡ seq (oid pbkdf2_oid ++ p))
SpellsKdf b (Scrypt v) = b ≡ seq (kdf_content (Scrypt v))
