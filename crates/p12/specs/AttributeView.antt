-- What is seen of an attribute that lends its parts: the same in memory of its own.
use Rattle.std.specs.Prelude.{◌≡◌, ℕ, List, [], Ok, ⊤}
use Rattle.asn1_core.specs.Reading.{many, raw_at, whole}
use Rattle.asn1_core.specs.Unicode.{bmp_at}
use Rattle.p12.specs.Reading.{attribute_at}
use Rattle.p12.specs.Walk.{read_or_none}
use Rattle.p12.specs.declared.attribute.PKCS12Attribute.{PKCS12Attribute}
use Rattle.p12.specs.declared.attribute.PKCS12Attribute.TheVariants as owned
use Rattle.p12.specs.declared.attribute.AttributeView.{AttributeView}
use Rattle.p12.specs.declared.attribute.AttributeView.TheVariants as view

-- the text of a BMPString, as it is
abbrev pub bmp_text : List ℕ → List ℕ
bmp_text b = read_or_none (whole bmp_at b)

-- the elements, or the attributes, that are in these octets
abbrev pub seen_elements : List ℕ → List (List ℕ)
seen_elements b = read_or_none (many raw_at b)

abbrev pub seen_list : List ℕ → List PKCS12Attribute
seen_list b = read_or_none (many attribute_at b)

abbrev pub seen_attribute : AttributeView → PKCS12Attribute
seen_attribute (view.Name x) = owned.FriendlyName (bmp_text x.now)
seen_attribute (view.KeyId x) = owned.LocalKeyId x.now
seen_attribute (view.Other o values) =
    owned.Other (record { oid = o; values = seen_elements values.now })

-- what is in a view that was read
abbrev pub IsAttribute : AttributeView → Type 0
IsAttribute (view.Name x) = bmp_at x.now ≡ Ok (bmp_text x.now, [])
IsAttribute (view.KeyId x) = ⊤
IsAttribute (view.Other o values) = many raw_at values.now ≡ Ok (seen_elements values.now)
