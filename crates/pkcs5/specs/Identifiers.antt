-- The octets of the object identifiers of PBES1 and PBES2.
use Rattle.std.specs.Prelude.{ℕ, List, [], ◌∷◌}

-- id-PBES2 (RFC 8018 appendix A.4)
abbrev pub pbes2_oid : List ℕ
pbes2_oid = 0x2a ∷ 0x86 ∷ 0x48 ∷ 0x86 ∷ 0xf7 ∷ 0x0d ∷ 0x01 ∷ 0x05 ∷ 0x0d ∷ []

-- id-PBKDF2 (RFC 8018 appendix A.2)
abbrev pub pbkdf2_oid : List ℕ
pbkdf2_oid = 0x2a ∷ 0x86 ∷ 0x48 ∷ 0x86 ∷ 0xf7 ∷ 0x0d ∷ 0x01 ∷ 0x05 ∷ 0x0c ∷ []

-- id-hmacWithSHA1 (RFC 8018 appendix B.1.1)
abbrev pub hmac_with_sha1_oid : List ℕ
hmac_with_sha1_oid = 0x2a ∷ 0x86 ∷ 0x48 ∷ 0x86 ∷ 0xf7 ∷ 0x0d ∷ 0x02 ∷ 0x07 ∷ []

-- id-hmacWithSHA224 (RFC 8018 appendix B.1.2)
abbrev pub hmac_with_sha224_oid : List ℕ
hmac_with_sha224_oid = 0x2a ∷ 0x86 ∷ 0x48 ∷ 0x86 ∷ 0xf7 ∷ 0x0d ∷ 0x02 ∷ 0x08 ∷ []

-- id-hmacWithSHA256 (RFC 8018 appendix B.1.2)
abbrev pub hmac_with_sha256_oid : List ℕ
hmac_with_sha256_oid = 0x2a ∷ 0x86 ∷ 0x48 ∷ 0x86 ∷ 0xf7 ∷ 0x0d ∷ 0x02 ∷ 0x09 ∷ []

-- id-hmacWithSHA384 (RFC 8018 appendix B.1.2)
abbrev pub hmac_with_sha384_oid : List ℕ
hmac_with_sha384_oid = 0x2a ∷ 0x86 ∷ 0x48 ∷ 0x86 ∷ 0xf7 ∷ 0x0d ∷ 0x02 ∷ 0x0a ∷ []

-- id-hmacWithSHA512 (RFC 8018 appendix B.1.2)
abbrev pub hmac_with_sha512_oid : List ℕ
hmac_with_sha512_oid = 0x2a ∷ 0x86 ∷ 0x48 ∷ 0x86 ∷ 0xf7 ∷ 0x0d ∷ 0x02 ∷ 0x0b ∷ []

-- aes128-CBC-PAD (RFC 8018 appendix B.2.5)
abbrev pub aes_128_cbc_oid : List ℕ
aes_128_cbc_oid = 0x60 ∷ 0x86 ∷ 0x48 ∷ 0x01 ∷ 0x65 ∷ 0x03 ∷ 0x04 ∷ 0x01 ∷ 0x02 ∷ []

-- aes192-CBC-PAD (RFC 8018 appendix B.2.5)
abbrev pub aes_192_cbc_oid : List ℕ
aes_192_cbc_oid = 0x60 ∷ 0x86 ∷ 0x48 ∷ 0x01 ∷ 0x65 ∷ 0x03 ∷ 0x04 ∷ 0x01 ∷ 0x16 ∷ []

-- aes256-CBC-PAD (RFC 8018 appendix B.2.5)
abbrev pub aes_256_cbc_oid : List ℕ
aes_256_cbc_oid = 0x60 ∷ 0x86 ∷ 0x48 ∷ 0x01 ∷ 0x65 ∷ 0x03 ∷ 0x04 ∷ 0x01 ∷ 0x2a ∷ []

-- id-scrypt (RFC 7914 section 7)
abbrev pub scrypt_oid : List ℕ
scrypt_oid = 0x2b ∷ 0x06 ∷ 0x01 ∷ 0x04 ∷ 0x01 ∷ 0xda ∷ 0x47 ∷ 0x04 ∷ 0x0b ∷ []

-- id-aes128-GCM (RFC 5084 section 3.2)
abbrev pub aes_128_gcm_oid : List ℕ
aes_128_gcm_oid = 0x60 ∷ 0x86 ∷ 0x48 ∷ 0x01 ∷ 0x65 ∷ 0x03 ∷ 0x04 ∷ 0x01 ∷ 0x06 ∷ []

-- id-aes256-GCM (RFC 5084 section 3.2)
abbrev pub aes_256_gcm_oid : List ℕ
aes_256_gcm_oid = 0x60 ∷ 0x86 ∷ 0x48 ∷ 0x01 ∷ 0x65 ∷ 0x03 ∷ 0x04 ∷ 0x01 ∷ 0x2e ∷ []

-- des-EDE3-CBC (RFC 8018 appendix B.2.2)
abbrev pub des_ede3_cbc_oid : List ℕ
des_ede3_cbc_oid = 0x2a ∷ 0x86 ∷ 0x48 ∷ 0x86 ∷ 0xf7 ∷ 0x0d ∷ 0x03 ∷ 0x07 ∷ []

-- desCBC (RFC 8018 appendix B.2.1)
abbrev pub des_cbc_oid : List ℕ
des_cbc_oid = 0x2b ∷ 0x0e ∷ 0x03 ∷ 0x02 ∷ 0x07 ∷ []

-- pbeWithMD2AndDES-CBC (RFC 8018 appendix A.3)
abbrev pub pbe_with_md2_and_des_cbc_oid : List ℕ
pbe_with_md2_and_des_cbc_oid = 0x2a ∷ 0x86 ∷ 0x48 ∷ 0x86 ∷ 0xf7 ∷ 0x0d ∷ 0x01 ∷ 0x05 ∷ 0x01 ∷ []

-- pbeWithMD5AndDES-CBC (RFC 8018 appendix A.3)
abbrev pub pbe_with_md5_and_des_cbc_oid : List ℕ
pbe_with_md5_and_des_cbc_oid = 0x2a ∷ 0x86 ∷ 0x48 ∷ 0x86 ∷ 0xf7 ∷ 0x0d ∷ 0x01 ∷ 0x05 ∷ 0x03 ∷ []

-- pbeWithMD2AndRC2-CBC (RFC 8018 appendix A.3)
abbrev pub pbe_with_md2_and_rc2_cbc_oid : List ℕ
pbe_with_md2_and_rc2_cbc_oid = 0x2a ∷ 0x86 ∷ 0x48 ∷ 0x86 ∷ 0xf7 ∷ 0x0d ∷ 0x01 ∷ 0x05 ∷ 0x04 ∷ []

-- pbeWithMD5AndRC2-CBC (RFC 8018 appendix A.3)
abbrev pub pbe_with_md5_and_rc2_cbc_oid : List ℕ
pbe_with_md5_and_rc2_cbc_oid = 0x2a ∷ 0x86 ∷ 0x48 ∷ 0x86 ∷ 0xf7 ∷ 0x0d ∷ 0x01 ∷ 0x05 ∷ 0x06 ∷ []

-- pbeWithSHA1AndDES-CBC (RFC 8018 appendix A.3)
abbrev pub pbe_with_sha1_and_des_cbc_oid : List ℕ
pbe_with_sha1_and_des_cbc_oid = 0x2a ∷ 0x86 ∷ 0x48 ∷ 0x86 ∷ 0xf7 ∷ 0x0d ∷ 0x01 ∷ 0x05 ∷ 0x0a ∷ []

-- pbeWithSHA1AndRC2-CBC (RFC 8018 appendix A.3)
abbrev pub pbe_with_sha1_and_rc2_cbc_oid : List ℕ
pbe_with_sha1_and_rc2_cbc_oid = 0x2a ∷ 0x86 ∷ 0x48 ∷ 0x86 ∷ 0xf7 ∷ 0x0d ∷ 0x01 ∷ 0x05 ∷ 0x0b ∷ []
