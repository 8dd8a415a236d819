-- Algorithms of PKCS#12 (RFC 7292 appendix C; PBES2 of RFC 8018 appendix A.4; AlgorithmIdentifier
-- of RFC 5280 section 4.1.1.2), and what they open under a password.
use Rattle.std.specs.Prelude.{◌≡◌, ◌≢◌, ◌⊎◌, ℕ, ◌<◌, ◌≤◌, ◌+◌, ◌-◌, ◌*◌, ◌^◌, ◌%◌, ◌==◌, ◌&&◌, nat_lt, if◌then◌else◌, Bool, true, false, List, [], length, Option, Some, None, ⊤}
use Rattle.asn1_core.specs.Texts.{On, Perhaps, Raw, Uint, Oid, Inside}
use Rattle.asn1_core.specs.Fields.{Field, End, Sequence}
use Rattle.asn1_core.specs.Oid.{oid_octets}
use Rattle.asn1_core.specs.declared.identifier.ObjectIdentifier.{ObjectIdentifier}
use Rattle.asn1_core.specs.Der.{IsShort, null}
use Rattle.sha1.specs.Sha1.{sha1}
use Rattle.block_core.specs.Tdes.{inv_tdes}
use Rattle.mac_modes.specs.Cbc.{uncbc}
use Rattle.mac_modes.specs.Padding.{pad_count}
use Rattle.pbkdf2.specs.Pbkdf2.{pbkdf2}
use Rattle.pkcs5.specs.Identifiers.{pbes2_oid}
use Rattle.pkcs5.specs.Opening.{opened_by, prf_of, prf_output, states_length, steps_of, unpadded}
use Rattle.pkcs5.specs.Kinds.{IsDes, is_pbkdf2, key_size, rounds_of}
use Rattle.pkcs5.specs.Parameters.{ParametersText}
use Rattle.pkcs5.specs.declared.pbes2.kdf.Kdf.{Kdf}
use Rattle.pkcs5.specs.declared.pbes2.kdf.Kdf.TheVariants.{Pbkdf2, Scrypt}
use Rattle.pkcs5.specs.declared.pbes2.parameters.Parameters.{Parameters}
use Rattle.pkcs12_kdf.specs.Derivation.{derive12}
use Rattle.pkcs12_kdf.specs.Password.{bmp_password}
use Rattle.p12.specs.Identifiers.{sha1_oid, sha256_oid, rc2_scheme_oid, triple_des_scheme_oid}
use Rattle.p12.specs.declared.error.Error.{Error}
use Rattle.p12.specs.declared.error.Error.TheVariants as errors
use Rattle.p12.specs.declared.pkcs12_pbe_params.Pkcs12PbeParams.{Pkcs12PbeParams}
use Rattle.p12.specs.declared.algorithm_identifier.AlgorithmIdentifier.{AlgorithmIdentifier}
use Rattle.p12.specs.declared.algorithm_identifier.AlgorithmIdentifier.TheVariants.{Sha1, Sha256, PbewithSHAAnd40BitRC2CBC, PbeWithSHAAnd3KeyTripleDESCBC, Pbes2, OtherAlg}

-- pkcs-12PbeParams ::= SEQUENCE { salt OCTET STRING, iterations INTEGER }, the count below 2 ^ 64
abbrev pub ParamsText : List ℕ → Pkcs12PbeParams → Type 0
ParamsText = Sequence (Field (Inside 0x04) (λ p. p.salt)
    (Field (Uint (2 ^ 64 - 1)) (λ p. p.iterations) End))

-- parameters that are none of PBES2
abbrev pub NoScheme : List ℕ → Type 0
NoScheme q = (par : Parameters) → ParametersText q par → IsShort q → ⊥

-- what comes after the identifier k of an algorithm
abbrev pub AlgorithmCase : ObjectIdentifier → List ℕ → AlgorithmIdentifier → Type 0
AlgorithmCase k q Sha1 = (oid_octets k ≡ sha1_oid) × ((q ≡ []) ⊎ (q ≡ null))
AlgorithmCase k q Sha256 = (oid_octets k ≡ sha256_oid) × ((q ≡ []) ⊎ (q ≡ null))
AlgorithmCase k q (PbewithSHAAnd40BitRC2CBC p) = (oid_octets k ≡ rc2_scheme_oid) × ParamsText q p
AlgorithmCase k q (PbeWithSHAAnd3KeyTripleDESCBC p) = (oid_octets k ≡ triple_des_scheme_oid)
    × ParamsText q p
AlgorithmCase k q (Pbes2 par) = (oid_octets k ≡ pbes2_oid) × ParametersText q par
AlgorithmCase k q (OtherAlg o) =
    (oid_octets k ≢ sha1_oid) × (oid_octets k ≢ sha256_oid) × (oid_octets k ≢ rc2_scheme_oid)
    × (oid_octets k ≢ triple_des_scheme_oid)
    × (oid_octets k ≡ pbes2_oid → NoScheme q) × (o.algorithm_type ≡ k) × Perhaps Raw q o.params

-- AlgorithmIdentifier ::= SEQUENCE { algorithm OBJECT IDENTIFIER, parameters ANY OPTIONAL }
abbrev pub AlgorithmText : List ℕ → AlgorithmIdentifier → Type 0
AlgorithmText = Sequence (On Oid AlgorithmCase)

-- ---- opening (RFC 7292 appendix B and C; RFC 8018 section 6.2)

-- whether a text under it can be opened: Triple DES, and PBES2 with PBKDF2 where a length of the
-- key that is stated is the cipher's
abbrev pub openable : AlgorithmIdentifier → Bool
openable (PbeWithSHAAnd3KeyTripleDESCBC p) = true
openable (Pbes2 par) = is_pbkdf2 par.kdf && states_length par.kdf (key_size par.encryption)
openable _ = false

-- whether it is PBES2 with DES, under which nothing is encrypted anew
abbrev pub IsUnderDes : AlgorithmIdentifier → Type 0
IsUnderDes (Pbes2 par) = IsDes par.encryption
IsUnderDes _ = ⊥

-- its count of rounds
abbrev pub count : AlgorithmIdentifier → ℕ
count (PbeWithSHAAnd3KeyTripleDESCBC p) = p.iterations
count (Pbes2 par) = rounds_of par.kdf
count _ = 0

-- its share of the work: for Triple DES the SHA-1 digests of the key's two blocks and of the IV's
-- one block, for PBES2 the outputs of the pseudorandom function that make the key
abbrev pub cost : AlgorithmIdentifier → ℕ
cost (PbeWithSHAAnd3KeyTripleDESCBC p) = 3 * p.iterations
cost (Pbes2 par) = rounds_of par.kdf * steps_of par
cost _ = 0

-- the salt that a key and an IV are derived from, where it is a scheme of RFC 7292
abbrev pub salt_of : AlgorithmIdentifier → List ℕ
salt_of (PbewithSHAAnd40BitRC2CBC p) = p.salt
salt_of (PbeWithSHAAnd3KeyTripleDESCBC p) = p.salt
salt_of _ = []

-- a positive multiple of 8 octets
abbrev pub is_blocks : List ℕ → Bool
is_blocks c = nat_lt 0 (length c) && (length c % 8 == 0)

-- the steps of opening a text of RFC 7292: none where its length is wrong
unfoldable pub taken_pbe : AlgorithmIdentifier → List ℕ → ℕ
taken_pbe (PbeWithSHAAnd3KeyTripleDESCBC p) c = if is_blocks c then 3 * p.iterations else 0
taken_pbe _ c = 0

-- the steps of opening a text
unfoldable pub taken : AlgorithmIdentifier → List ℕ → ℕ
taken (PbeWithSHAAnd3KeyTripleDESCBC p) c = taken_pbe (PbeWithSHAAnd3KeyTripleDESCBC p) c
taken (Pbes2 par) c = if states_length par.kdf (key_size par.encryption)
    then rounds_of par.kdf * steps_of par else 0
taken _ c = 0

-- what a text decrypts to under Triple DES, whose key and IV come of the password in UTF-16
unfoldable pub triple_des_text : List ℕ → List ℕ → ℕ → List ℕ → List ℕ
triple_des_text q salt r c =
    uncbc (inv_tdes (derive12 sha1 20 q salt r 1 24)) 8 (derive12 sha1 20 q salt r 2 8) c

-- a text of RFC 7292 opened under a password in UTF-16: none under another algorithm, with no
-- rounds, of a wrong length, or with a wrong padding
unfoldable pub unlock_pbe : AlgorithmIdentifier → List ℕ → List ℕ → Option (List ℕ)
unlock_pbe (PbeWithSHAAnd3KeyTripleDESCBC p) q c = if nat_lt 0 p.iterations && is_blocks c
    then unpadded 8 (triple_des_text q p.salt p.iterations c) else None
unlock_pbe _ q c = None

-- the key of n octets that PBKDF2 derives from a password: none where there are no rounds, or where
-- the length of the key that is stated is not n; and none by scrypt
unfoldable pub pbkdf2_key : Kdf → List ℕ → ℕ → Option (List ℕ)
pbkdf2_key (Pbkdf2 k) p n = if states_length (Pbkdf2 k) n && nat_lt 0 k.iteration_count
    then Some (pbkdf2 (prf_of k.prf p) (prf_output k.prf) k.salt k.iteration_count n) else None
pbkdf2_key (Scrypt k) p n = None

-- a text opened by PBES2 under a password: none where there is no such key, and where the
-- ciphertext opens to none
unfoldable pub unlock_pbes2 : Parameters → List ℕ → List ℕ → Option (List ℕ)
unlock_pbes2 par p c = elim (pbkdf2_key par.kdf p (key_size par.encryption)) [
  | Some key ↦ opened_by par.encryption key c
  | None ↦ None
]

-- a text opened under a password, given by its UTF-8: schemes of RFC 7292 take it in UTF-16, PBES2
-- as it is
unfoldable pub unlock : AlgorithmIdentifier → List ℕ → List ℕ → Option (List ℕ)
unlock (PbeWithSHAAnd3KeyTripleDESCBC params) p c =
    unlock_pbe (PbeWithSHAAnd3KeyTripleDESCBC params) (bmp_password p) c
unlock (Pbes2 par) p c = unlock_pbes2 par p c
unlock _ p c = None

-- what opening a text shows
pub record IsOpened (a : AlgorithmIdentifier) (c : List ℕ) : Type 0 where
  pub openable : openable a ≡ true
  pub some_rounds : 0 < count a
  pub all : taken a c ≡ cost a

-- ---- sealing

-- whether texts are opened under it by a password in UTF-16
abbrev pub is_triple_des : AlgorithmIdentifier → Bool
is_triple_des (PbeWithSHAAnd3KeyTripleDESCBC p) = true
is_triple_des _ = false

-- the octets of a ciphertext under Triple DES, whose text has n: 1 to 8 more, up to a multiple of 8
abbrev pub ciphertext_length : ℕ → ℕ
ciphertext_length n = n + pad_count 8 n

-- c is a ciphertext of the text m, by what opens it, and has at most 2 ^ 32 - 1 octets
abbrev pub IsSealed : (List ℕ → Option (List ℕ)) → List ℕ → List ℕ → Type 0
IsSealed opens m c = (opens c ≡ Some m) × (length c < 2 ^ 32)

-- when sealing the text m is refused, by cases on the error: one with ⊥ never comes, running out of
-- memory may come at any point, and a text is too long where its ciphertext has more than 2 ^ 32 -
-- 1 octets
abbrev pub RefusesToSeal : (List ℕ → Option (List ℕ)) → List ℕ → Error → Type 0
RefusesToSeal opens m errors.Malformed = ⊥
RefusesToSeal opens m errors.Invalid = ⊥
RefusesToSeal opens m errors.Rng = ⊥
RefusesToSeal opens m errors.TooLong = (c : List ℕ) × (opens c ≡ Some m) × (2 ^ 32 ≤ length c)
RefusesToSeal opens m errors.Memory = ⊤
