-- The pseudorandom function of PBKDF2 (RFC 8018 appendix B.1): an algorithm whose parameters are
-- NULL, and here may be left out.
use Rattle.std.specs.Prelude.{◌≡◌, ◌⊎◌, ℕ, List, [], ◌++◌}
use Rattle.asn1_core.specs.Der.{oid, null, seq}
use Rattle.asn1_core.specs.Texts.{Within}
use Rattle.der_core.specs.Null.{nothing}
use Rattle.pkcs5.specs.Kinds.{prf_oid}
use Rattle.pkcs5.specs.declared.pbes2.pbkdf2_prf.Pbkdf2Prf.{Pbkdf2Prf}

-- the value octets: the function's identifier, and NULL or nothing
abbrev pub PrfOf : List ℕ → Pbkdf2Prf → Type 0
PrfOf b f = (p : List ℕ) × ((p ≡ []) ⊎ (p ≡ null)) × (b ≡ oid (prf_oid f) ++ p)

abbrev pub PrfText : List ℕ → Pbkdf2Prf → Type 0
PrfText = Within 0x30 PrfOf

-- ---- writing

-- the value octets that are written
abbrev pub prf_content : Pbkdf2Prf → List ℕ
prf_content f = oid (prf_oid f) ++ null

-- without NULL
abbrev pub prf_without_null : List ℕ → Pbkdf2Prf → Type 0
prf_without_null b f = b ≡ seq (oid (prf_oid f))

-- which texts spell a function: with NULL, which is written, or without
abbrev pub SpellsPrf : List ℕ → Pbkdf2Prf → Type 0
SpellsPrf b f = (b ≡ seq (prf_content f)) ⊎ prf_without_null b f
