-- Schemes of RFC 7292 appendix C that p12 does not open: RC2 with keys of 40 and of 128 bits, and
-- Triple DES with two keys.
use Rattle.std.specs.Prelude.{ℕ, ◌*◌, ◌++◌, ◌&&◌, nat_lt, if◌then◌else◌, option_map, Bool, true, false, List, [], ◌∷◌, length, take, Option, Some, None, Result, Ok, Err}
use Rattle.std.specs.Str.{bytes_eq}
use Rattle.asn1_core.specs.Oid.{oid_octets}
use Rattle.asn1_core.specs.Reading.{Fault, whole}
use Rattle.sha1.specs.Sha1.{sha1}
use Rattle.block_core.specs.Tdes.{inv_tdes}
use Rattle.mac_modes.specs.Cbc.{uncbc}
use Rattle.pkcs5.specs.Opening.{unpadded}
use Rattle.pkcs12_kdf.specs.Derivation.{derive12}
use Rattle.legacy_ciphers.specs.Rc2.{inv_rc2}
use Rattle.p12.specs.declared.pkcs12_pbe_params.Pkcs12PbeParams.{Pkcs12PbeParams}
use Rattle.p12.specs.declared.other_algorithm_identifier.OtherAlgorithmIdentifier.{OtherAlgorithmIdentifier}
use Rattle.p12.specs.declared.algorithm_identifier.AlgorithmIdentifier.{AlgorithmIdentifier}
use Rattle.p12.specs.declared.algorithm_identifier.AlgorithmIdentifier.TheVariants.{PbewithSHAAnd40BitRC2CBC, OtherAlg}
use Rattle.p12.specs.AlgorithmIdentifier.{is_blocks}
use Rattle.p12.specs.Reading.{params_at}
use Rattle.legacy_store.specs.declared.scheme.OldCipher.{OldCipher}
use Rattle.legacy_store.specs.declared.scheme.OldCipher.TheVariants.{Rc2Of40, Rc2Of128, TwoKeyTripleDes}
use Rattle.legacy_store.specs.declared.scheme.OldScheme.{OldScheme}
use Rattle.legacy_store.specs.declared.scheme.Params.{Params}

-- pbeWithSHAAnd2-KeyTripleDES-CBC
abbrev pub two_key_oid : List ℕ
two_key_oid = 0x2a ∷ 0x86 ∷ 0x48 ∷ 0x86 ∷ 0xf7 ∷ 0x0d ∷ 0x01 ∷ 0x0c ∷ 0x01 ∷ 0x04 ∷ []

-- pbeWithSHAAnd128BitRC2-CBC
abbrev pub rc2_128_oid : List ℕ
rc2_128_oid = 0x2a ∷ 0x86 ∷ 0x48 ∷ 0x86 ∷ 0xf7 ∷ 0x0d ∷ 0x01 ∷ 0x0c ∷ 0x01 ∷ 0x05 ∷ []

-- a cipher, and what its key is derived from
pub record SchemeParts : Type 0 where
  pub cipher : OldCipher
  pub salt : List ℕ
  pub iterations : ℕ

abbrev pub with_cipher : OldCipher → Pkcs12PbeParams → SchemeParts
with_cipher k p = record { cipher = k; salt = p.salt; iterations = p.iterations }

abbrev pub found_params : Result Pkcs12PbeParams Fault → Option Pkcs12PbeParams
found_params (Ok p) = Some p
found_params (Err e) = None

-- the parameters that an element writes, if it is pkcs-12PbeParams
abbrev pub params_in : Option (List ℕ) → Option Pkcs12PbeParams
params_in None = None
params_in (Some b) = found_params (whole params_at b)

-- the cipher of an identifier, if it is one of those without a variant of their own
abbrev pub cipher_named : List ℕ → Option OldCipher
cipher_named k = if bytes_eq k rc2_128_oid then Some Rc2Of128
    else (if bytes_eq k two_key_oid then Some TwoKeyTripleDes else None)

abbrev pub scheme_under : Option OldCipher → Option Pkcs12PbeParams → Option SchemeParts
scheme_under (Some k) p = option_map (with_cipher k) p
scheme_under None p = None

-- the scheme of an algorithm that has no variant of its own, if it is one of these
unfoldable pub other_scheme : OtherAlgorithmIdentifier → Option SchemeParts
other_scheme o = scheme_under (cipher_named (oid_octets o.algorithm_type)) (params_in o.params)

-- the scheme of an algorithm, if it is one of these
abbrev pub old_scheme : AlgorithmIdentifier → Option SchemeParts
old_scheme (PbewithSHAAnd40BitRC2CBC p) = Some (with_cipher Rc2Of40 p)
old_scheme (OtherAlg o) = other_scheme o
old_scheme _ = None

-- ---- opening

-- More octets than a salt in a store has: a store has at most 16,777,215.
abbrev pub salt_limit : ℕ
salt_limit = 16777216

-- the octets of a key
abbrev pub key_octets : OldCipher → ℕ
key_octets Rc2Of40 = 5
key_octets Rc2Of128 = 16
key_octets TwoKeyTripleDes = 16

-- whether texts under it are opened, with a MAC or without one: a key of 40 bits is found by trying
-- all, so without a MAC nothing says that who wrote the text knew the password
abbrev pub opens_with : Bool → OldCipher → Bool
opens_with true k = true
opens_with false Rc2Of40 = false
opens_with false Rc2Of128 = true
opens_with false TwoKeyTripleDes = true

-- a block decrypted under a key; of two keys of Triple DES the first is the third too
abbrev pub old_inverse : OldCipher → List ℕ → List ℕ → List ℕ
old_inverse Rc2Of40 key = inv_rc2 40 key
old_inverse Rc2Of128 key = inv_rc2 128 key
old_inverse TwoKeyTripleDes key = inv_tdes (key ++ take 8 key)

-- what a text decrypts to, whose key and IV come of the password in UTF-16
unfoldable pub old_text : SchemeParts → List ℕ → List ℕ → List ℕ
old_text s q c =
    uncbc (old_inverse s.cipher (derive12 sha1 20 q s.salt s.iterations 1 (key_octets s.cipher))) 8
    (derive12 sha1 20 q s.salt s.iterations 2 8) c

-- whether there are a salt of a store, rounds, and whole blocks
abbrev pub old_fits : SchemeParts → List ℕ → Bool
old_fits s c = nat_lt (length s.salt) salt_limit && (nat_lt 0 s.iterations && is_blocks c)

-- the text that it opens to
unfoldable pub old_unlock : SchemeParts → List ℕ → List ℕ → Option (List ℕ)
old_unlock s q c = if old_fits s c then unpadded 8 (old_text s q c) else None

-- the steps of opening it: the SHA-1 digests of the key's one block and of the IV's one block
unfoldable pub old_taken : SchemeParts → List ℕ → ℕ
old_taken s c = if old_fits s c then 2 * s.iterations else 0

-- ---- what is seen of values that lend the salt

abbrev pub seen_params : Params → Pkcs12PbeParams
seen_params p = record { salt = p.salt.now; iterations = p.iterations }

abbrev pub seen_old : OldScheme → SchemeParts
seen_old s = record { cipher = s.cipher; salt = s.salt.now; iterations = s.iterations }
