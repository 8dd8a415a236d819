-- Attributes of a bag (RFC 7292 section 4.2; RFC 2985 section 5.5).
use Rattle.std.specs.Prelude.{◌≡◌, ◌≢◌, ℕ, List, []}
use Rattle.asn1_core.specs.Texts.{On, Within, Many, Raw, Oid, Inside}
use Rattle.asn1_core.specs.Fields.{Sequence, Latest, OrNothing}
use Rattle.asn1_core.specs.Oid.{oid_octets}
use Rattle.asn1_core.specs.declared.identifier.ObjectIdentifier.{ObjectIdentifier}
use Rattle.asn1_core.specs.Unicode.{Bmp}
use Rattle.p12.specs.Identifiers.{friendly_name_oid, local_key_id_oid}
use Rattle.p12.specs.declared.attribute.PKCS12Attribute.{PKCS12Attribute}
use Rattle.p12.specs.declared.attribute.PKCS12Attribute.TheVariants.{FriendlyName, LocalKeyId, Other}

-- what comes after the identifier k of an attribute; of several names or key ids the last counts
abbrev pub AttributeCase : ObjectIdentifier → List ℕ → PKCS12Attribute → Type 0
AttributeCase k q (FriendlyName t) = (oid_octets k ≡ friendly_name_oid)
    × Within 0x31 (Latest Bmp) q t
AttributeCase k q (LocalKeyId v) = (oid_octets k ≡ local_key_id_oid)
    × Within 0x31 (Latest (Inside 0x04)) q v
AttributeCase k q (Other o) = (oid_octets k ≢ friendly_name_oid) × (oid_octets k ≢ local_key_id_oid)
    × (o.oid ≡ k) × Within 0x31 (Many Raw) q o.values

-- PKCS12Attribute ::= SEQUENCE { attrId OBJECT IDENTIFIER, attrValues SET OF ANY }
abbrev pub AttributeText : List ℕ → PKCS12Attribute → Type 0
AttributeText = Sequence (On Oid AttributeCase)

-- bagAttributes SET OF PKCS12Attribute OPTIONAL: the attributes in the order read; no set is no
-- attributes
abbrev pub AttributesText : List ℕ → List PKCS12Attribute → Type 0
AttributesText = OrNothing [] (Within 0x31 (Many AttributeText))
