-- Reading names from left to right. Nothing to believe here: it reads exactly the relation.
use Rattle.std.specs.Prelude.{List}
use Rattle.asn1_core.specs.Reading.{All, Front, ended, inside_at, many, on, raw_at, within}
use Rattle.asn1_core.specs.Fields.{checked}
use Rattle.x509_names.specs.Names.{NameAttribute, has_some, name_attribute}

unfoldable pub attribute_all : All NameAttribute
attribute_all = on (inside_at 0x06) (λ kind. on raw_at (λ value. ended (name_attribute kind value)))

unfoldable pub attribute_at : Front NameAttribute
attribute_at = within 0x30 attribute_all

unfoldable pub relative_at : Front (List NameAttribute)
relative_at = within 0x31 (checked has_some (many attribute_at))

unfoldable pub name_at : Front (List (List NameAttribute))
name_at = within 0x30 (many relative_at)
