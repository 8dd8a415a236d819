-- What is gathered from bags, as it is read. Nothing to believe here.
use Rattle.std.specs.Prelude.{ℕ, ◌≡◌, List, Option, Some, None, Result, Ok, Err, map}
use Rattle.std.specs.List.{slice_get}
use Rattle.asn1_core.specs.Der.{IsShort}
use Rattle.spki.specs.Spelling.{public_key_text}
use Rattle.p12.specs.Collected.{at_most_one}
use Rattle.p12.specs.SafeBag.{x509_of}
use Rattle.asn1_core.specs.Reading.{Fault, whole}
use Rattle.p12.specs.declared.safe_bag.SafeBag.{SafeBag}
use Rattle.inventory_core.specs.Certificate.{Certificate}
use Rattle.inventory_core.specs.CertificateReading.{certificate_at}

abbrev pub if_read : Result Certificate Fault → Option Certificate
if_read (Ok c) = Some c
if_read (Err f) = None

-- what is read of octets
unfoldable pub certificate_of : List ℕ → Option Certificate
certificate_of b = if_read (whole certificate_at b)

-- what is read of the certificate in a bag, if it has one
abbrev pub certificate_part : SafeBag → List (Option Certificate)
certificate_part g = map certificate_of (at_most_one (x509_of g.bag))

-- The text of the key of each certificate has at most 2 ^ 32 - 1 octets.
abbrev pub HaveShortKeys : List (Option Certificate) → Type 0
HaveShortKeys cs = (j : ℕ) (c : Certificate) → slice_get cs j ≡ Some (Some c)
    → IsShort (public_key_text c.key)
