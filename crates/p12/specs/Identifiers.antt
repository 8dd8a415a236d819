-- The octets of the object identifiers of PKCS#12.
use Rattle.std.specs.Prelude.{ℕ, List, [], ◌∷◌, refl}
use Rattle.asn1_core.specs.Oid.{oid_of}
use Rattle.asn1_core.specs.declared.identifier.ObjectIdentifier.{ObjectIdentifier}

-- id-sha1 (RFC 8017 appendix B.1)
abbrev pub sha1_oid : List ℕ
sha1_oid = 0x2b ∷ 0x0e ∷ 0x03 ∷ 0x02 ∷ 0x1a ∷ []

-- id-sha256 (RFC 8017 appendix B.1)
abbrev pub sha256_oid : List ℕ
sha256_oid = 0x60 ∷ 0x86 ∷ 0x48 ∷ 0x01 ∷ 0x65 ∷ 0x03 ∷ 0x04 ∷ 0x02 ∷ 0x01 ∷ []

-- id-data (RFC 5652 section 4)
abbrev pub data_oid : List ℕ
data_oid = 0x2a ∷ 0x86 ∷ 0x48 ∷ 0x86 ∷ 0xf7 ∷ 0x0d ∷ 0x01 ∷ 0x07 ∷ 0x01 ∷ []

-- id-encryptedData (RFC 5652 section 8)
abbrev pub encrypted_data_oid : List ℕ
encrypted_data_oid = 0x2a ∷ 0x86 ∷ 0x48 ∷ 0x86 ∷ 0xf7 ∷ 0x0d ∷ 0x01 ∷ 0x07 ∷ 0x06 ∷ []

-- friendlyName (RFC 2985 section 5.5.1)
abbrev pub friendly_name_oid : List ℕ
friendly_name_oid = 0x2a ∷ 0x86 ∷ 0x48 ∷ 0x86 ∷ 0xf7 ∷ 0x0d ∷ 0x01 ∷ 0x09 ∷ 0x14 ∷ []

-- localKeyId (RFC 2985 section 5.5.2)
abbrev pub local_key_id_oid : List ℕ
local_key_id_oid = 0x2a ∷ 0x86 ∷ 0x48 ∷ 0x86 ∷ 0xf7 ∷ 0x0d ∷ 0x01 ∷ 0x09 ∷ 0x15 ∷ []

-- x509Certificate (RFC 7292 section 4.2.3)
abbrev pub x509_certificate_oid : List ℕ
x509_certificate_oid = 0x2a ∷ 0x86 ∷ 0x48 ∷ 0x86 ∷ 0xf7 ∷ 0x0d ∷ 0x01 ∷ 0x09 ∷ 0x16 ∷ 0x01 ∷ []

-- sdsiCertificate (RFC 7292 section 4.2.3)
abbrev pub sdsi_certificate_oid : List ℕ
sdsi_certificate_oid = 0x2a ∷ 0x86 ∷ 0x48 ∷ 0x86 ∷ 0xf7 ∷ 0x0d ∷ 0x01 ∷ 0x09 ∷ 0x16 ∷ 0x02 ∷ []

-- pkcs8ShroudedKeyBag (RFC 7292 section 4.2.2)
abbrev pub shrouded_key_bag_oid : List ℕ
shrouded_key_bag_oid = 0x2a ∷ 0x86 ∷ 0x48 ∷ 0x86 ∷ 0xf7 ∷ 0x0d ∷ 0x01 ∷ 0x0c ∷ 0x0a ∷ 0x01 ∷ 0x02
    ∷ []

-- certBag (RFC 7292 section 4.2.3)
abbrev pub cert_bag_oid : List ℕ
cert_bag_oid = 0x2a ∷ 0x86 ∷ 0x48 ∷ 0x86 ∷ 0xf7 ∷ 0x0d ∷ 0x01 ∷ 0x0c ∷ 0x0a ∷ 0x01 ∷ 0x03 ∷ []

-- pbeWithSHAAnd3-KeyTripleDES-CBC (RFC 7292 appendix C)
abbrev pub triple_des_scheme_oid : List ℕ
triple_des_scheme_oid = 0x2a ∷ 0x86 ∷ 0x48 ∷ 0x86 ∷ 0xf7 ∷ 0x0d ∷ 0x01 ∷ 0x0c ∷ 0x01 ∷ 0x03 ∷ []

-- pbeWithSHAAnd40BitRC2-CBC (RFC 7292 appendix C)
abbrev pub rc2_scheme_oid : List ℕ
rc2_scheme_oid = 0x2a ∷ 0x86 ∷ 0x48 ∷ 0x86 ∷ 0xf7 ∷ 0x0d ∷ 0x01 ∷ 0x0c ∷ 0x01 ∷ 0x06 ∷ []

-- id-data as an identifier
abbrev pub data_identifier : ObjectIdentifier
data_identifier = oid_of data_oid refl
