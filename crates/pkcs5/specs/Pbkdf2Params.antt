-- PBKDF2-params (RFC 8018 appendix A.2): SEQUENCE { salt, iterationCount, keyLength OPTIONAL, prf
-- DEFAULT algid-hmacWithSHA1 }.
use Rattle.std.specs.Prelude.{◌≡◌, ◌≤◌, ℕ, List, ◌++◌, Option, Some, None}
use Rattle.asn1_core.specs.Der.{octets, uint, seq, el}
use Rattle.asn1_core.specs.Fields.{OrNothing}
use Rattle.asn1_core.specs.Texts.{Within, Uint, Perhaps}
use Rattle.der_core.specs.Optional.{canon_option, writable_option}
use Rattle.pkcs5.specs.Salt.{IsSalt, SaltOf}
use Rattle.pkcs5.specs.Pbkdf2Prf.{PrfText, SpellsPrf, prf_content}
use Rattle.pkcs5.specs.declared.pbes2.pbkdf2_params.Pbkdf2Params.{Pbkdf2Params}
use Rattle.pkcs5.specs.declared.pbes2.pbkdf2_prf.Pbkdf2Prf.{Pbkdf2Prf}
use Rattle.pkcs5.specs.declared.pbes2.pbkdf2_prf.Pbkdf2Prf.TheVariants.{HmacWithSha1, HmacWithSha224, HmacWithSha256, HmacWithSha384, HmacWithSha512}

abbrev pub pbkdf2_params : List ℕ → ℕ → Option ℕ → Pbkdf2Prf → Pbkdf2Params
pbkdf2_params s n k f = record { salt = s; iteration_count = n; key_length = k; prf = f }

-- the value octets: the four parts; HMAC over SHA-1 may be left out
abbrev pub Pbkdf2ParamsOf : List ℕ → Pbkdf2Params → Type 0
Pbkdf2ParamsOf b v = (s : List ℕ) × (n : List ℕ) × (k : List ℕ) × (f : List ℕ)
    × Within 0x04 SaltOf s v.salt × Uint 4294967295 n v.iteration_count
    × Perhaps (Uint 65535) k v.key_length × OrNothing HmacWithSha1 PrfText f v.prf
    × (b ≡ s ++ n ++ k ++ f)

abbrev pub Pbkdf2ParamsText : List ℕ → Pbkdf2Params → Type 0
Pbkdf2ParamsText = Within 0x30 Pbkdf2ParamsOf

-- ---- writing

-- the function that is written: HMAC over SHA-1 is left out
abbrev pub stated_prf : Pbkdf2Prf → Option Pbkdf2Prf
stated_prf HmacWithSha1 = None
stated_prf HmacWithSha224 = Some HmacWithSha224
stated_prf HmacWithSha256 = Some HmacWithSha256
stated_prf HmacWithSha384 = Some HmacWithSha384
stated_prf HmacWithSha512 = Some HmacWithSha512

-- what is before the function
abbrev pub before_prf : Pbkdf2Params → List ℕ
before_prf v = octets v.salt ++ uint v.iteration_count ++ canon_option uint v.key_length

-- the value octets that are written
abbrev pub pbkdf2_params_content : Pbkdf2Params → List ℕ
pbkdf2_params_content v = before_prf v ++ canon_option
    (λ f. el 0x30 (prf_content f)) (stated_prf v.prf)

-- each number fits its type, and the salt is not too long
abbrev pub ArePbkdf2Params : Pbkdf2Params → Type 0
ArePbkdf2Params v = IsSalt v.salt × (v.iteration_count ≤ 4294967295)
    × writable_option (λ n. n ≤ 65535) v.key_length

-- which texts spell the parameters: HMAC over SHA-1 is left out, or the function is spelled
abbrev pub SpellsPbkdf2Params : List ℕ → Pbkdf2Params → Type 0
SpellsPbkdf2Params b v = (f : List ℕ) × OrNothing HmacWithSha1 SpellsPrf f v.prf
    × (b ≡ seq (before_prf v ++ f))
