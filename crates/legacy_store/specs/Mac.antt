-- The MAC of a store: that of RFC 7292 appendix B.4 under SHA-1 and each hash function of the SHA-2
-- family, and PBMAC1.
use Rattle.std.specs.Prelude.{ℕ, is_some, if◌then◌else◌, option_map, Bool, true, false, List, [], ◌∷◌, Option, Some, None}
use Rattle.std.specs.Str.{bytes_eq}
use Rattle.asn1_core.specs.Oid.{oid_octets}
use Rattle.sha1.specs.Sha1.{sha1}
use Rattle.sha2.specs.Sha256.{sha224, sha256}
use Rattle.sha2.specs.Sha512.{sha384, sha512}
use Rattle.pkcs12_kdf.specs.Mac.{mac_under_in}
use Rattle.p12.specs.declared.other_algorithm_identifier.OtherAlgorithmIdentifier.{OtherAlgorithmIdentifier}
use Rattle.p12.specs.declared.algorithm_identifier.AlgorithmIdentifier.{AlgorithmIdentifier}
use Rattle.p12.specs.declared.algorithm_identifier.AlgorithmIdentifier.TheVariants as algorithm
use Rattle.p12.specs.declared.mac_data.MacData.{MacData}
use Rattle.legacy_store.specs.Forms.{Forms}
use Rattle.legacy_store.specs.Pbmac1.{pbmac1_cost, pbmac1_in, pbmac1_oid, pbmac1_value}
use Rattle.legacy_store.specs.declared.mac.MacHash.{MacHash}
use Rattle.legacy_store.specs.declared.mac.MacHash.TheVariants.{Sha1, Sha224, Sha256, Sha384, Sha512}
use Rattle.legacy_store.specs.declared.mac.MacScheme.{MacScheme}
use Rattle.legacy_store.specs.declared.mac.MacScheme.TheVariants.{ByHash, ByPbmac1}

-- id-sha224, id-sha384 and id-sha512 (RFC 8017 appendix B.1)
abbrev pub sha224_oid : List ℕ
sha224_oid = 0x60 ∷ 0x86 ∷ 0x48 ∷ 0x01 ∷ 0x65 ∷ 0x03 ∷ 0x04 ∷ 0x02 ∷ 0x04 ∷ []

abbrev pub sha384_oid : List ℕ
sha384_oid = 0x60 ∷ 0x86 ∷ 0x48 ∷ 0x01 ∷ 0x65 ∷ 0x03 ∷ 0x04 ∷ 0x02 ∷ 0x02 ∷ []

abbrev pub sha512_oid : List ℕ
sha512_oid = 0x60 ∷ 0x86 ∷ 0x48 ∷ 0x01 ∷ 0x65 ∷ 0x03 ∷ 0x04 ∷ 0x02 ∷ 0x03 ∷ []

-- the parameters of a digest: none, or NULL
abbrev pub no_params : Option (List ℕ) → Bool
no_params None = true
no_params (Some b) = bytes_eq b (0x05 ∷ 0x00 ∷ [])

-- the hash function of an identifier
abbrev pub hash_named : List ℕ → Option MacHash
hash_named k = if bytes_eq k sha224_oid then Some Sha224
    else (if bytes_eq k sha384_oid then Some Sha384
    else (if bytes_eq k sha512_oid then Some Sha512 else None))

unfoldable pub other_hash : OtherAlgorithmIdentifier → Option MacHash
other_hash o = if no_params o.params then hash_named (oid_octets o.algorithm_type) else None

unfoldable pub other_mac : OtherAlgorithmIdentifier → Option MacScheme
other_mac o = if bytes_eq (oid_octets o.algorithm_type) pbmac1_oid
    then option_map ByPbmac1 (pbmac1_in o.params) else option_map ByHash (other_hash o)

-- how a MAC under a digest is made, if it can be tested
unfoldable pub mac_scheme : AlgorithmIdentifier → Option MacScheme
mac_scheme algorithm.Sha1 = Some (ByHash Sha1)
mac_scheme algorithm.Sha256 = Some (ByHash Sha256)
mac_scheme (algorithm.OtherAlg o) = other_mac o
mac_scheme _ = None

abbrev pub is_legacy_digest : AlgorithmIdentifier → Bool
is_legacy_digest a = is_some (mac_scheme a)

-- ---- the work

abbrev pub count_by : Option MacScheme → MacData → ℕ
count_by (Some (ByPbmac1 s)) m = s.derivation.iteration_count
count_by (Some (ByHash h)) m = m.iterations
count_by None m = m.iterations

-- the count of rounds: that of MacData, and under PBMAC1 that of PBKDF2
unfoldable pub mac_count : MacData → ℕ
mac_count m = count_by (mac_scheme m.mac.digest_algorithm) m

abbrev pub cost_by : Option MacScheme → MacData → ℕ
cost_by (Some (ByPbmac1 s)) m = pbmac1_cost s
cost_by (Some (ByHash h)) m = m.iterations
cost_by None m = m.iterations

-- the steps of testing it
unfoldable pub mac_cost : MacData → ℕ
mac_cost m = cost_by (mac_scheme m.mac.digest_algorithm) m

-- ---- the value

-- the MAC of the content v under the password q, in UTF-16, and a salt, in r iterations
unfoldable pub hash_mac : MacHash → List ℕ → List ℕ → ℕ → List ℕ → List ℕ
hash_mac Sha1 = mac_under_in 64 sha1 20
hash_mac Sha224 = mac_under_in 64 sha224 28
hash_mac Sha256 = mac_under_in 64 sha256 32
hash_mac Sha384 = mac_under_in 128 sha384 48
hash_mac Sha512 = mac_under_in 128 sha512 64

-- the digest is the MAC of the content
abbrev pub agrees_by : Option MacScheme → MacData → Forms → List ℕ → Bool
agrees_by (Some (ByHash h)) m f v =
    bytes_eq (hash_mac h f.units m.salt m.iterations v) m.mac.digest
agrees_by (Some (ByPbmac1 s)) m f v = bytes_eq (pbmac1_value s f.utf8 v) m.mac.digest
agrees_by None m f v = false

-- the MAC of a content agrees under a password in both forms
unfoldable pub legacy_agrees : MacData → Forms → List ℕ → Bool
legacy_agrees m f v = agrees_by (mac_scheme m.mac.digest_algorithm) m f v
