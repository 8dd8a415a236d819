-- Parameters of PBES2 that are made from their parts (RFC 8018 appendix A, RFC 7914 section 7).
use Rattle.std.specs.Prelude.{◌≤◌, ◌<◌, ◌⊎◌, ℕ, ◌^◌, List, length, None}
use Rattle.pkcs5.specs.Pbkdf2Params.{pbkdf2_params}
use Rattle.pkcs5.specs.ScryptParams.{scrypt_params}
use Rattle.pkcs5.specs.declared.pbes2.encryption_scheme.EncryptionScheme.{EncryptionScheme}
use Rattle.pkcs5.specs.declared.pbes2.encryption_scheme.EncryptionScheme.TheVariants.{Aes256Cbc}
use Rattle.pkcs5.specs.declared.pbes2.kdf.Kdf.TheVariants.{Pbkdf2, Scrypt}
use Rattle.pkcs5.specs.declared.pbes2.parameters.Parameters.{Parameters}
use Rattle.pkcs5.specs.declared.pbes2.pbkdf2_prf.Pbkdf2Prf.TheVariants.{HmacWithSha256}
use Rattle.pkcs5.specs.declared.pbes2.scrypt_params.ScryptParams.{ScryptParams}
use Rattle.scrypt_core.specs.declared.params.Params.{Params as Costs}

-- PBKDF2 over HMAC-SHA-256 in so many rounds, with no stated length of the key, and a cipher
abbrev pub pbkdf2_sha256 : ℕ → List ℕ → EncryptionScheme → Parameters
pbkdf2_sha256 rounds salt cipher =
    record { kdf = Pbkdf2 (pbkdf2_params salt rounds None HmacWithSha256); encryption = cipher }

-- scrypt under these costs, with no stated length of the key
abbrev pub scrypt_of : Costs → List ℕ → ScryptParams
scrypt_of costs salt = scrypt_params salt (2 ^ costs.log_n) costs.r costs.p None

abbrev pub scrypt_with : Costs → List ℕ → EncryptionScheme → Parameters
scrypt_with costs salt cipher = record { kdf = Scrypt (scrypt_of costs salt); encryption = cipher }

-- the salt is not too long, and the costs fit parameters
abbrev pub TakesScrypt : Costs → List ℕ → Type 0
TakesScrypt costs salt = (length salt ≤ 32) × (costs.r ≤ 65535) × (costs.p ≤ 65535)

-- they do not
abbrev pub RefusesScrypt : Costs → List ℕ → Type 0
RefusesScrypt costs salt = (32 < length salt) ⊎ ((65535 < costs.r) ⊎ (65535 < costs.p))

-- what is recommended: scrypt of 2^14 turns, blocks of 8 and one piece, and AES-256 in CBC mode
abbrev pub recommended : List ℕ → List ℕ → Parameters
recommended iv salt = record {
  kdf = Scrypt (scrypt_params salt 16384 8 1 None);
  encryption = Aes256Cbc iv;
}

-- the same by PBKDF2, in 600,000 rounds
abbrev pub by_pbkdf2 : List ℕ → List ℕ → Parameters
by_pbkdf2 iv salt = pbkdf2_sha256 600000 salt (Aes256Cbc iv)
