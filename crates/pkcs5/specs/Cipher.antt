-- The cipher of PBES2 (RFC 8018 appendices A.4 and B.2, RFC 5084 section 3.2): an algorithm whose
-- parameters are its initialization vector or nonce.
use Rattle.std.specs.Prelude.{◌≡◌, ℕ, List, ◌++◌, length}
use Rattle.asn1_core.specs.Der.{oid, octets}
use Rattle.asn1_core.specs.Texts.{Within}
use Rattle.pkcs5.specs.Kinds.{cipher_oid, iv_of, iv_size}
use Rattle.pkcs5.specs.declared.pbes2.encryption_scheme.EncryptionScheme.{EncryptionScheme}

-- the initialization vector or nonce has its length
abbrev pub IsCipher : EncryptionScheme → Type 0
IsCipher c = length (iv_of c) ≡ iv_size c

-- the value octets that are written
abbrev pub cipher_content : EncryptionScheme → List ℕ
cipher_content c = oid (cipher_oid c) ++ octets (iv_of c)

-- the value octets: no others
abbrev pub CipherOf : List ℕ → EncryptionScheme → Type 0
CipherOf b c = IsCipher c × (b ≡ cipher_content c)

abbrev pub CipherText : List ℕ → EncryptionScheme → Type 0
CipherText = Within 0x30 CipherOf
