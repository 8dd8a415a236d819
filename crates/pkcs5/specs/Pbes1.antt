-- PBES1 (RFC 8018 section 6.1 and appendix A.3): an algorithm of six, SEQUENCE { algorithm,
-- PBEParameter }.
use Rattle.std.specs.Prelude.{◌≡◌, ◌≤◌, ℕ, List, ◌++◌, length}
use Rattle.asn1_core.specs.Der.{oid, octets, uint, el}
use Rattle.asn1_core.specs.Texts.{Within, Uint}
use Rattle.pkcs5.specs.Identifiers.{pbe_with_md2_and_des_cbc_oid, pbe_with_md5_and_des_cbc_oid, pbe_with_md2_and_rc2_cbc_oid, pbe_with_md5_and_rc2_cbc_oid, pbe_with_sha1_and_des_cbc_oid, pbe_with_sha1_and_rc2_cbc_oid}
use Rattle.pkcs5.specs.declared.pbes1.algorithm.Algorithm.{Algorithm}
use Rattle.pkcs5.specs.declared.pbes1.parameters.Parameters.{Parameters}
use Rattle.pkcs5.specs.declared.pbes1.encryption_scheme.EncryptionScheme.{EncryptionScheme}
use Rattle.pkcs5.specs.declared.pbes1.encryption_scheme.EncryptionScheme.TheVariants.{PbeWithMd2AndDesCbc, PbeWithMd2AndRc2Cbc, PbeWithMd5AndDesCbc, PbeWithMd5AndRc2Cbc, PbeWithSha1AndDesCbc, PbeWithSha1AndRc2Cbc}
use Rattle.pkcs5.specs.declared.pbes1.encryption_scheme.DigestAlgorithm.{DigestAlgorithm}
use Rattle.pkcs5.specs.declared.pbes1.encryption_scheme.DigestAlgorithm.TheVariants.{Md2, Md5, Sha1}
use Rattle.pkcs5.specs.declared.pbes1.encryption_scheme.SymmetricCipher.{SymmetricCipher}
use Rattle.pkcs5.specs.declared.pbes1.encryption_scheme.SymmetricCipher.TheVariants.{DesCbc, Rc2Cbc}

-- ---- the six

abbrev pub pbe_oid : EncryptionScheme → List ℕ
pbe_oid PbeWithMd2AndDesCbc = pbe_with_md2_and_des_cbc_oid
pbe_oid PbeWithMd2AndRc2Cbc = pbe_with_md2_and_rc2_cbc_oid
pbe_oid PbeWithMd5AndDesCbc = pbe_with_md5_and_des_cbc_oid
pbe_oid PbeWithMd5AndRc2Cbc = pbe_with_md5_and_rc2_cbc_oid
pbe_oid PbeWithSha1AndDesCbc = pbe_with_sha1_and_des_cbc_oid
pbe_oid PbeWithSha1AndRc2Cbc = pbe_with_sha1_and_rc2_cbc_oid

abbrev pub pbe_digest : EncryptionScheme → DigestAlgorithm
pbe_digest PbeWithMd2AndDesCbc = Md2
pbe_digest PbeWithMd2AndRc2Cbc = Md2
pbe_digest PbeWithMd5AndDesCbc = Md5
pbe_digest PbeWithMd5AndRc2Cbc = Md5
pbe_digest PbeWithSha1AndDesCbc = Sha1
pbe_digest PbeWithSha1AndRc2Cbc = Sha1

abbrev pub pbe_cipher : EncryptionScheme → SymmetricCipher
pbe_cipher PbeWithMd2AndDesCbc = DesCbc
pbe_cipher PbeWithMd2AndRc2Cbc = Rc2Cbc
pbe_cipher PbeWithMd5AndDesCbc = DesCbc
pbe_cipher PbeWithMd5AndRc2Cbc = Rc2Cbc
pbe_cipher PbeWithSha1AndDesCbc = DesCbc
pbe_cipher PbeWithSha1AndRc2Cbc = Rc2Cbc

-- ---- PBEParameter (appendix A.3): SEQUENCE { salt OCTET STRING (SIZE(8)), iterationCount INTEGER
-- }

abbrev pub pbe_params : List ℕ → ℕ → Parameters
pbe_params s n = record { salt = s; iteration_count = n }

abbrev pub PbeSaltOf : List ℕ → List ℕ → Type 0
PbeSaltOf b s = (s ≡ b) × (length s ≡ 8)

abbrev pub PbeParamsOf : List ℕ → Parameters → Type 0
PbeParamsOf b v = (s : List ℕ) × (n : List ℕ) × Within 0x04 PbeSaltOf s v.salt
    × Uint 65535 n v.iteration_count × (b ≡ s ++ n)

abbrev pub PbeParamsText : List ℕ → Parameters → Type 0
PbeParamsText = Within 0x30 PbeParamsOf

abbrev pub pbe_params_content : Parameters → List ℕ
pbe_params_content v = octets v.salt ++ uint v.iteration_count

abbrev pub ArePbeParams : Parameters → Type 0
ArePbeParams v = (length v.salt ≡ 8) × (v.iteration_count ≤ 65535)

-- ---- the algorithm

abbrev pub pbe : EncryptionScheme → Parameters → Algorithm
pbe e v = record { encryption = e; parameters = v }

-- the value octets: the identifier, and its parameters
abbrev pub PbeOf : List ℕ → Algorithm → Type 0
PbeOf b a = (p : List ℕ) × PbeParamsText p a.parameters × (b ≡ oid (pbe_oid a.encryption) ++ p)

abbrev pub PbeText : List ℕ → Algorithm → Type 0
PbeText = Within 0x30 PbeOf

-- the value octets that are written: no others
abbrev pub pbe_content : Algorithm → List ℕ
pbe_content a = oid (pbe_oid a.encryption) ++ el 0x30 (pbe_params_content a.parameters)
