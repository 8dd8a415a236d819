-- scrypt-params (RFC 7914 section 7.1): SEQUENCE { salt, costParameter, blockSize,
-- parallelizationParameter, keyLength OPTIONAL }.
use Rattle.std.specs.Prelude.{◌≡◌, ◌≤◌, ℕ, List, ◌++◌, Option}
use Rattle.asn1_core.specs.Der.{octets, uint}
use Rattle.asn1_core.specs.Texts.{Within, Uint, Perhaps}
use Rattle.der_core.specs.Optional.{canon_option, writable_option}
use Rattle.pkcs5.specs.Salt.{IsSalt, SaltOf}
use Rattle.pkcs5.specs.declared.pbes2.scrypt_params.ScryptParams.{ScryptParams}

abbrev pub scrypt_params : List ℕ → ℕ → ℕ → ℕ → Option ℕ → ScryptParams
scrypt_params s n r p k = record {
  salt = s;
  cost_parameter = n;
  block_size = r;
  parallelization = p;
  key_length = k;
}

-- the value octets: the five parts
abbrev pub ScryptParamsOf : List ℕ → ScryptParams → Type 0
ScryptParamsOf b v = (s : List ℕ) × (n : List ℕ) × (r : List ℕ) × (p : List ℕ) × (k : List ℕ)
    × Within 0x04 SaltOf s v.salt × Uint 18446744073709551615 n v.cost_parameter
    × Uint 65535 r v.block_size × Uint 65535 p v.parallelization
    × Perhaps (Uint 65535) k v.key_length × (b ≡ s ++ n ++ r ++ p ++ k)

abbrev pub ScryptParamsText : List ℕ → ScryptParams → Type 0
ScryptParamsText = Within 0x30 ScryptParamsOf

-- ---- writing

-- the value octets that are written
abbrev pub scrypt_params_content : ScryptParams → List ℕ
scrypt_params_content v = octets v.salt ++ uint v.cost_parameter ++ uint v.block_size
    ++ uint v.parallelization ++ canon_option uint v.key_length

-- each number fits its type, and the salt is not too long
abbrev pub AreScryptParams : ScryptParams → Type 0
AreScryptParams v = IsSalt v.salt × (v.cost_parameter ≤ 18446744073709551615)
    × (v.block_size ≤ 65535) × (v.parallelization ≤ 65535)
    × writable_option (λ n. n ≤ 65535) v.key_length
