-- Contents (RFC 7292 section 4.1; RFC 5652 section 3).
use Rattle.std.specs.Prelude.{◌≡◌, ◌≢◌, ℕ, ◌<◌, ◌≤◌, ◌^◌, List, [], length, Option, Some, None}
use Rattle.asn1_core.specs.Texts.{On, Within, Many, Raw, Oid, Inside}
use Rattle.asn1_core.specs.Fields.{Sequence}
use Rattle.asn1_core.specs.Oid.{oid_octets}
use Rattle.asn1_core.specs.declared.identifier.ObjectIdentifier.{ObjectIdentifier}
use Rattle.asn1_core.specs.Der.{IsShort}
use Rattle.p12.specs.Identifiers.{data_oid, encrypted_data_oid}
use Rattle.p12.specs.EncryptedData.{EncryptedDataText}
use Rattle.p12.specs.AlgorithmIdentifier.{salt_of, unlock_pbe}
use Rattle.p12.specs.declared.content_info.ContentInfo.{ContentInfo}
use Rattle.p12.specs.declared.content_info.ContentInfo.TheVariants as content

-- what comes after the identifier k of a content
abbrev pub ContentCase : ObjectIdentifier → List ℕ → ContentInfo → Type 0
ContentCase k q (content.Data v) = (oid_octets k ≡ data_oid) × Within 0xa0 (Inside 0x04) q v
ContentCase k q (content.EncryptedData e) = (oid_octets k ≡ encrypted_data_oid)
    × Within 0xa0 EncryptedDataText q e
ContentCase k q (content.OtherContext o) = (oid_octets k ≢ data_oid)
    × (oid_octets k ≢ encrypted_data_oid) × (o.content_type ≡ k) × Within 0xa0 Raw q o.content

-- ContentInfo ::= SEQUENCE { contentType OBJECT IDENTIFIER, content [0] EXPLICIT ANY }
abbrev pub ContentText : List ℕ → ContentInfo → Type 0
ContentText = Sequence (On Oid ContentCase)

-- AuthenticatedSafe ::= SEQUENCE OF ContentInfo: these octets list these contents
unfoldable pub IsContents : List ℕ → List ContentInfo → Type 0
IsContents b cs = Within 0x30 (Many ContentText) b cs × IsShort b

-- they list no contents
abbrev pub NoContents : List ℕ → Type 0
NoContents b = (cs : List ContentInfo) → IsContents b cs → ⊥

-- ---- opening

-- the octets that a content holds
abbrev pub held : ContentInfo → List ℕ
held (content.Data v) = v
held (content.EncryptedData d) = d.encrypted_content_info.encrypted_content
held (content.OtherContext o) = o.content

-- the encrypted ones among them
abbrev pub encrypted_of : ContentInfo → List ℕ
encrypted_of (content.Data v) = []
encrypted_of (content.EncryptedData d) = d.encrypted_content_info.encrypted_content
encrypted_of (content.OtherContext o) = []

-- the salt that they are encrypted under
abbrev pub held_salt : ContentInfo → List ℕ
held_salt (content.Data v) = []
held_salt (content.EncryptedData d) = salt_of d.encrypted_content_info.content_encryption_algorithm
held_salt (content.OtherContext o) = []

-- those of a plain one
abbrev pub plain_of : ContentInfo → List ℕ
plain_of (content.Data v) = v
plain_of (content.EncryptedData d) = []
plain_of (content.OtherContext o) = []

-- the encrypted octets are fewer than 2 ^ 32, and their salt has fewer than 2 ^ 59
abbrev pub SealFits : ContentInfo → Type 0
SealFits c = (length (encrypted_of c) < 2 ^ 32) × (length (held_salt c) < 2 ^ 59)

-- a content holds at most n octets, and so does its salt
abbrev pub ContentFits : ℕ → ContentInfo → Type 0
ContentFits n c = (length (held c) ≤ n) × (length (held_salt c) ≤ n)

-- the plain octets of a content under a password in UTF-16
abbrev pub plain_pbe : List ℕ → ContentInfo → Option (List ℕ)
plain_pbe q (content.Data v) = Some v
plain_pbe q (content.EncryptedData d) =
    unlock_pbe d.encrypted_content_info.content_encryption_algorithm q
    d.encrypted_content_info.encrypted_content
plain_pbe q (content.OtherContext o) = None

-- the identifier of a content's kind
abbrev pub content_oid : ContentInfo → List ℕ
content_oid (content.Data v) = data_oid
content_oid (content.EncryptedData d) = encrypted_data_oid
content_oid (content.OtherContext o) = oid_octets o.content_type
