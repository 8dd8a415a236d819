-- The algorithms of private keys that are told apart.
use Rattle.std.specs.Prelude.{ℕ, List, [], ◌∷◌, cond}
use Rattle.std.specs.Str.{bytes_eq}
use Rattle.asn1_core.specs.Oid.{oid_octets}
use Rattle.asn1_core.specs.declared.identifier.ObjectIdentifier.{ObjectIdentifier}
use Rattle.key_files.specs.declared.algorithms.AlgorithmKind.{AlgorithmKind}
use Rattle.key_files.specs.declared.algorithms.AlgorithmKind.TheVariants.{Rsa, Ec, Other}

-- rsaEncryption (RFC 8017 appendix A.1), 1.2.840.113549.1.1.1
abbrev pub rsa_encryption : List ℕ
rsa_encryption = 0x2a ∷ 0x86 ∷ 0x48 ∷ 0x86 ∷ 0xf7 ∷ 0x0d ∷ 1 ∷ 1 ∷ 1 ∷ []

-- id-ecPublicKey (RFC 5480 section 2.1.1), 1.2.840.10045.2.1
abbrev pub ec_public_key : List ℕ
ec_public_key = 0x2a ∷ 0x86 ∷ 0x48 ∷ 0xce ∷ 0x3d ∷ 2 ∷ 1 ∷ []

-- which of these an identifier is
abbrev pub kind_of : ObjectIdentifier → AlgorithmKind
kind_of o =
    cond (bytes_eq (oid_octets o) rsa_encryption) Rsa
    (cond (bytes_eq (oid_octets o) ec_public_key) Ec Other)
