-- How the refusals are printed.
use Rattle.std.specs.Prelude.{ℕ, List, ◌++◌, codes}
use Rattle.asn1_core.specs.Arcs.{arcs, arcs_text}
use Rattle.asn1_core.specs.Oid.{oid_octets}
use Rattle.asn1_core.specs.declared.error.Error.{Error}
use Rattle.asn1_core.specs.declared.error.Error.TheVariants.{Malformed, OidUnknown, Overlength, NoRoom, File, Memory}

abbrev pub error_text : Error → List ℕ
error_text Malformed = codes "malformed DER"
error_text (OidUnknown o) = codes "unknown OID: " ++ arcs_text (arcs (oid_octets o))
error_text Overlength = codes "length overflow"
error_text NoRoom = codes "no room"
error_text File = codes "file failure"
error_text Memory = codes "out of memory"
