-- Encrypted contents (RFC 7292 section 4.1; RFC 5652 sections 6.1 and 8). The encrypted octets,
-- which RFC 5652 lets be left out, are always there in a store that is read here.
use Rattle.std.specs.Prelude.{ℕ, List}
use Rattle.asn1_core.specs.Texts.{Uint, Oid, Inside}
use Rattle.asn1_core.specs.Fields.{Field, End, Sequence, The}
use Rattle.p12.specs.Identifiers.{data_identifier}
use Rattle.p12.specs.AlgorithmIdentifier.{AlgorithmText}
use Rattle.p12.specs.declared.encrypted_data.EncryptedContentInfo.{EncryptedContentInfo}
use Rattle.p12.specs.declared.encrypted_data.EncryptedData.{EncryptedData}

-- EncryptedContentInfo ::= SEQUENCE { contentType id-data, contentEncryptionAlgorithm
-- AlgorithmIdentifier, encryptedContent [0] IMPLICIT OCTET STRING }
abbrev pub EncryptedContentText : List ℕ → EncryptedContentInfo → Type 0
EncryptedContentText = Sequence (Field (The Oid data_identifier) (λ e. tt)
    (Field AlgorithmText (λ e. e.content_encryption_algorithm)
    (Field (Inside 0x80) (λ e. e.encrypted_content) End)))

-- EncryptedData ::= SEQUENCE { version INTEGER (0), encryptedContentInfo EncryptedContentInfo }
abbrev pub EncryptedDataText : List ℕ → EncryptedData → Type 0
EncryptedDataText = Sequence (Field (The (Uint 0xff) 0) (λ e. tt)
    (Field EncryptedContentText (λ e. e.encrypted_content_info) End))
