-- PBMAC1 (RFC 8018 section 7.1 and appendix A.5) as the MAC of a store (RFC 9579): HMAC under a key
-- that PBKDF2 derives from the password in UTF-8. The salt and the count of MacData have no part in
-- it.
use Rattle.std.specs.Prelude.{ℕ, ◌*◌, nat_lt, if◌then◌else◌, List, [], ◌∷◌, Option, Some, None, Result, Ok, Err}
use Rattle.asn1_core.specs.Reading.{Fault, Front, ended, on, whole, within}
use Rattle.pbkdf2.specs.Pbkdf2.{block_count}
use Rattle.pkcs5.specs.Opening.{derived, prf_of, prf_output}
use Rattle.pkcs5.specs.Reading.{kdf_at, prf_at}
use Rattle.pkcs5.specs.declared.pbes2.kdf.Kdf.{Kdf}
use Rattle.pkcs5.specs.declared.pbes2.kdf.Kdf.TheVariants.{Pbkdf2, Scrypt}
use Rattle.pkcs5.specs.declared.pbes2.pbkdf2_params.Pbkdf2Params.{Pbkdf2Params}
use Rattle.pkcs5.specs.declared.pbes2.pbkdf2_prf.Pbkdf2Prf.{Pbkdf2Prf}
use Rattle.legacy_store.specs.declared.pbmac1.Pbmac1.{Pbmac1}
use Rattle.legacy_store.specs.declared.pbmac1.Pbmac1Params.{Pbmac1Params}

-- id-PBMAC1
abbrev pub pbmac1_oid : List ℕ
pbmac1_oid = 0x2a ∷ 0x86 ∷ 0x48 ∷ 0x86 ∷ 0xf7 ∷ 0x0d ∷ 0x01 ∷ 0x05 ∷ 0x0e ∷ []

abbrev pub pbmac1_params : Kdf → Pbkdf2Prf → Pbmac1Params
pbmac1_params k h = record { kdf = k; hmac = h }

-- PBMAC1-params ::= SEQUENCE { keyDerivationFunc AlgorithmIdentifier, messageAuthScheme
-- AlgorithmIdentifier }
unfoldable pub pbmac1_params_at : Front Pbmac1Params
pbmac1_params_at = within 0x30 (on kdf_at (λ k. on prf_at (λ h. ended (pbmac1_params k h))))

-- The least octets of a key, which are those of the shortest digest, SHA-1's: a shorter key could be
-- guessed, so that a MAC would agree that was made without the password.
abbrev pub least_key_octets : ℕ
least_key_octets = 20

-- with a length of the key that is stated, and not less than the least
abbrev pub with_length : Pbkdf2Params → Pbkdf2Prf → Option ℕ → Option Pbmac1
with_length p h None = None
with_length p h (Some n) = if nat_lt n least_key_octets then None
    else Some (record { derivation = p; key_length = n; hmac = h })

-- by PBKDF2 alone
abbrev pub by_pbkdf2 : Kdf → Pbkdf2Prf → Option Pbmac1
by_pbkdf2 (Pbkdf2 p) h = with_length p h p.key_length
by_pbkdf2 (Scrypt p) h = None

abbrev pub found_pbmac1 : Result Pbmac1Params Fault → Option Pbmac1
found_pbmac1 (Ok p) = by_pbkdf2 p.kdf p.hmac
found_pbmac1 (Err e) = None

-- the MAC whose parameters an element writes, if it can be tested
abbrev pub pbmac1_in : Option (List ℕ) → Option Pbmac1
pbmac1_in None = None
pbmac1_in (Some b) = found_pbmac1 (whole pbmac1_params_at b)

-- the key that is derived from the password q
abbrev pub pbmac1_key : Pbmac1 → List ℕ → List ℕ
pbmac1_key s q = derived (Pbkdf2 s.derivation) q s.key_length

-- its share of the work: the outputs of the pseudorandom function that make the key
abbrev pub pbmac1_cost : Pbmac1 → ℕ
pbmac1_cost s = s.derivation.iteration_count
    * block_count s.key_length (prf_output s.derivation.prf)

-- the MAC of the content v under the password q
abbrev pub pbmac1_value : Pbmac1 → List ℕ → List ℕ → List ℕ
pbmac1_value s q v = prf_of s.hmac (pbmac1_key s q) v
