-- Lists of contents with encrypted octets in parts. They are under [0] IMPLICIT OCTET STRING (RFC 5652
-- section 6.1), which BER may write as OCTET STRINGs one after the other under the constructed tag
-- 0xa0. Only their place tells that from an explicit [0].
use Rattle.std.specs.Prelude.{◌≡◌, ◌⊎◌, ℕ, List, ◌++◌, refl}
use Rattle.asn1_core.specs.Der.{IsElement, IsShort, ctx, joined, oid, pctx, seq, uint}
use Rattle.asn1_core.specs.Fields.{End, Field, Sequence, The}
use Rattle.asn1_core.specs.Gives.{IsNone}
use Rattle.asn1_core.specs.Oid.{oid_of}
use Rattle.asn1_core.specs.Texts.{Inside, Made, Many, Oid, Raw, Uint, Within}
use Rattle.asn1_core.specs.declared.identifier.ObjectIdentifier.{ObjectIdentifier}
use Rattle.p12.specs.Identifiers.{data_identifier, data_oid, encrypted_data_oid}

-- id-encryptedData as an identifier
abbrev pub encrypted_data_identifier : ObjectIdentifier
encrypted_data_identifier = oid_of encrypted_data_oid refl

-- an encrypted content: the element of its algorithm, and its encrypted octets
pub record PartedContent : Type 0 where
  pub algorithm : List ℕ
  pub octets : List ℕ

-- OCTET STRINGs one after the other, of the octets v
abbrev pub Strings : List ℕ → List ℕ → Type 0
Strings = Made joined (Many (Inside 0x04))

-- EncryptedContentInfo (RFC 5652 section 6.1) in parts
abbrev pub PartedInfoText : List ℕ → PartedContent → Type 0
PartedInfoText = Sequence (Field (The Oid data_identifier) (λ p. tt)
    (Field Raw (λ p. p.algorithm) (Field (Within 0xa0 Strings) (λ p. p.octets) End)))

-- EncryptedData (section 8) in parts
abbrev pub PartedDataText : List ℕ → PartedContent → Type 0
PartedDataText = Sequence (Field (The (Uint 0xff) 0) (λ p. tt) (Field PartedInfoText (λ p. p) End))

-- ContentInfo (section 3) in parts
abbrev pub PartedText : List ℕ → PartedContent → Type 0
PartedText = Sequence (Field (The Oid encrypted_data_identifier) (λ p. tt)
    (Field (Within 0xa0 PartedDataText) (λ p. p) End))

-- the DER text of the same content
abbrev pub encrypted_text : PartedContent → List ℕ
encrypted_text p = seq (oid encrypted_data_oid ++ ctx 0 (seq (uint 0
    ++ seq (oid data_oid ++ p.algorithm ++ pctx 0 p.octets))))

-- a content, and its text with the encrypted octets in one
abbrev pub JoinedContent : List ℕ → List ℕ → Type 0
JoinedContent q e = ((p : PartedContent) × PartedText q p × (e ≡ encrypted_text p))
    ⊎ (IsElement q × IsNone PartedText q × (e ≡ q))

-- a list of contents, and its text with the encrypted octets of each in one
unfoldable pub JoinedSafe : List ℕ → List ℕ → Type 0
JoinedSafe d e = (es : List (List ℕ)) × Within 0x30 (Many JoinedContent) d es
    × (e ≡ seq (joined es)) × IsShort d
