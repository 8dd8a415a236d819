-- Names (RFC 5280 section 4.1.2.4) and their text (RFC 4514 section 2).
use Rattle.std.specs.Prelude.{ℕ, ◌≡◌, ◌⊎◌, Bool, List, [], ◌∷◌, ◌++◌, Option, Some, None, codes, cond, length, map, nat_lt, reverse}
use Rattle.std.specs.List.{join_with_byte}
use Rattle.std.specs.Str.{bytes_eq}
use Rattle.asn1_core.specs.Arcs.{arcs, arcs_text}
use Rattle.asn1_core.specs.Der.{IsShort}
use Rattle.asn1_core.specs.Fields.{Passing, Sequence}
use Rattle.asn1_core.specs.Oid.{as_oid}
use Rattle.asn1_core.specs.Texts.{Ended, Inside, Many, On, Raw, Within}
use Rattle.asn1_core.specs.declared.identifier.ObjectIdentifier.{ObjectIdentifier}
use Rattle.x509_names.specs.HexText.{hex_text}
use Rattle.x509_names.specs.Values.{value_text}
use Rattle.x509_names.specs.declared.attribute.Attribute.{Attribute}
use Rattle.x509_names.specs.declared.attribute.TypeName.{TypeName}

-- The octets of an identifier, and a whole element.
pub record NameAttribute : Type 0 where
  pub kind : List ℕ
  pub value : List ℕ

-- an attribute of this type and value
abbrev pub name_attribute : List ℕ → List ℕ → NameAttribute
name_attribute kind value = record { kind = kind; value = value }

-- AttributeTypeAndValue ::= SEQUENCE { type OBJECT IDENTIFIER, value ANY }
abbrev pub AttributeText : List ℕ → NameAttribute → Type 0
AttributeText = Sequence (On (Inside 0x06) (λ kind.
    On Raw (λ value. Ended (name_attribute kind value))))

-- there is an attribute
abbrev pub has_some : List NameAttribute → Bool
has_some attributes = nat_lt 0 (length attributes)

-- RelativeDistinguishedName ::= SET SIZE (1..MAX) OF AttributeTypeAndValue
abbrev pub RelativeText : List ℕ → List NameAttribute → Type 0
RelativeText = Within 0x31 (Passing has_some (Many AttributeText))

-- Name ::= SEQUENCE OF RelativeDistinguishedName, of at most 2 ^ 32 - 1 octets
abbrev pub IsName : List ℕ → List (List NameAttribute) → Type 0
IsName b names = Sequence (Many RelativeText) b names × IsShort b

-- ---- the text

-- the octets of the identifiers of common types, and their names, as OpenSSL has them
abbrev pub type_names : List (List ℕ × List ℕ)
type_names =
    (0x55 ∷ 4 ∷ 3 ∷ [], codes "CN") ∷ (0x55 ∷ 4 ∷ 4 ∷ [], codes "SN")
    ∷ (0x55 ∷ 4 ∷ 5 ∷ [], codes "serialNumber")
    ∷ (0x55 ∷ 4 ∷ 6 ∷ [], codes "C") ∷ (0x55 ∷ 4 ∷ 7 ∷ [], codes "L")
    ∷ (0x55 ∷ 4 ∷ 8 ∷ [], codes "ST")
    ∷ (0x55 ∷ 4 ∷ 9 ∷ [], codes "street") ∷ (0x55 ∷ 4 ∷ 10 ∷ [], codes "O")
    ∷ (0x55 ∷ 4 ∷ 11 ∷ [], codes "OU")
    ∷ (0x55 ∷ 4 ∷ 12 ∷ [], codes "title") ∷ (0x55 ∷ 4 ∷ 13 ∷ [], codes "description")
    ∷ (0x55 ∷ 4 ∷ 17 ∷ [], codes "postalCode")
    ∷ (0x55 ∷ 4 ∷ 42 ∷ [], codes "GN") ∷ (0x55 ∷ 4 ∷ 43 ∷ [], codes "initials")
    ∷ (0x55 ∷ 4 ∷ 46 ∷ [], codes "dnQualifier")
    ∷ (0x09 ∷ 0x92 ∷ 0x26 ∷ 0x89 ∷ 0x93 ∷ 0xf2 ∷ 0x2c ∷ 0x64 ∷ 1 ∷ 1 ∷ [], codes "UID")
    ∷ (0x09 ∷ 0x92 ∷ 0x26 ∷ 0x89 ∷ 0x93 ∷ 0xf2 ∷ 0x2c ∷ 0x64 ∷ 1 ∷ 25 ∷ [], codes "DC")
    ∷ (0x2a ∷ 0x86 ∷ 0x48 ∷ 0x86 ∷ 0xf7 ∷ 0x0d ∷ 1 ∷ 9 ∷ 1 ∷ [], codes "emailAddress") ∷ []

-- the name that the first row with this kind has
abbrev pub name_in : List (List ℕ × List ℕ) → List ℕ → Option (List ℕ)
name_in [] kind = None
name_in (row ∷ rows) kind = cond (bytes_eq kind row.0) (Some row.1) (name_in rows kind)

-- the name of a type, where it has one here
unfoldable pub type_name : List ℕ → Option (List ℕ)
type_name kind = name_in type_names kind

-- the text of a kind, and the identifier that it is
abbrev pub numbers_of : List ℕ → Option ObjectIdentifier → List ℕ
numbers_of kind (Some o) = arcs_text (arcs kind)
numbers_of kind None = hex_text kind

-- the numbers of an identifier with points between them; where the octets are no identifier, `#`
-- and their digits
unfoldable pub numbers_text : List ℕ → List ℕ
numbers_text kind = numbers_of kind (as_oid kind)

-- the text of an attribute, by the name of its type
abbrev pub attribute_as : NameAttribute → Option (List ℕ) → List ℕ
attribute_as a (Some name) = name ++ 61 ∷ value_text a.value
attribute_as a None = numbers_text a.kind ++ 61 ∷ hex_text a.value

-- TYPE=VALUE; of a type that has no name here, its numbers, and `#` and the digits of the value
unfoldable pub attribute_text : NameAttribute → List ℕ
attribute_text a = attribute_as a (type_name a.kind)

-- texts with an octet between them, that of the last item first
abbrev pub last_first : {A : Type 0} → ℕ → (A → List ℕ) → List A → List ℕ
last_first between text items = join_with_byte between (map text (reverse items))

-- attributes with `+` (43) between them
unfoldable pub relative_text : List NameAttribute → List ℕ
relative_text attributes = last_first 43 attribute_text attributes

-- relative names with `,` (44) between them
unfoldable pub name_text : List (List NameAttribute) → List ℕ
name_text names = last_first 44 relative_text names

-- b is no name
abbrev pub NoName : List ℕ → Type 0
NoName b = (names : List (List NameAttribute)) → IsName b names → ⊥

-- t is the text of the octets b: of the name that they are, or `#` and their digits
abbrev pub IsNameText : List ℕ → List ℕ → Type 0
IsNameText b t = ((names : List (List NameAttribute)) × IsName b names × (t ≡ name_text names))
    ⊎ (NoName b × (t ≡ hex_text b))

-- what is seen of attributes that are lent
abbrev pub seen_attribute : Attribute → NameAttribute
seen_attribute a = name_attribute a.kind.now a.value.now

-- what is seen of a row of the table
abbrev pub seen_row : TypeName → List ℕ × List ℕ
seen_row row = (row.octets.now, row.name.now)
