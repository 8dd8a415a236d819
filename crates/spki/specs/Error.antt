-- Errors of public keys, by those of the layer below, and how they are printed.
use Rattle.std.specs.Prelude.{◌++◌, List, ℕ, codes}
use Rattle.asn1_core.specs.Arcs.{arcs, arcs_text}
use Rattle.asn1_core.specs.Oid.{oid_octets}
use Rattle.asn1_core.specs.Error.{error_text as text_below}
use Rattle.asn1_core.specs.declared.error.Error.{Error as Below}
use Rattle.asn1_core.specs.declared.error.Error.TheVariants as below
use Rattle.spki.specs.declared.error.Error.{Error}
use Rattle.spki.specs.declared.error.Error.TheVariants as errors

-- an error of the layer below, here
abbrev pub raised : Below → Error
raised below.Malformed = errors.Asn1 below.Malformed
raised (below.OidUnknown o) = errors.OidUnknown o
raised below.Overlength = errors.Asn1 below.Overlength
raised below.NoRoom = errors.Asn1 below.NoRoom
raised below.File = errors.Asn1 below.File
raised below.Memory = errors.Memory

-- how the refusals are printed
abbrev pub error_text : Error → List ℕ
error_text errors.AlgorithmParametersMissing = codes "AlgorithmIdentifier parameters missing"
error_text (errors.Asn1 e) = codes "ASN.1 error: " ++ text_below e
error_text errors.KeyMalformed = codes "SPKI cryptographic key data malformed"
error_text (errors.OidUnknown o) =
    codes "unknown/unsupported algorithm OID: " ++ arcs_text (arcs (oid_octets o))
error_text errors.Memory = codes "out of memory"
