-- Encrypted private keys in a bag (RFC 7292 section 4.2.2; RFC 5958 section 3).
use Rattle.std.specs.Prelude.{ℕ, List}
use Rattle.asn1_core.specs.Texts.{Inside}
use Rattle.asn1_core.specs.Fields.{Field, End, Sequence}
use Rattle.p12.specs.AlgorithmIdentifier.{AlgorithmText}
use Rattle.p12.specs.declared.encrypted_private_key_info.EncryptedPrivateKeyInfo.{EncryptedPrivateKeyInfo}

-- EncryptedPrivateKeyInfo ::= SEQUENCE { encryptionAlgorithm AlgorithmIdentifier, encryptedData
-- OCTET STRING }
abbrev pub EncryptedKeyText : List ℕ → EncryptedPrivateKeyInfo → Type 0
EncryptedKeyText = Sequence (Field AlgorithmText (λ e. e.encryption_algorithm)
    (Field (Inside 0x04) (λ e. e.encrypted_data) End))
