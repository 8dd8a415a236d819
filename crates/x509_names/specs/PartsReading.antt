-- Reading the parts of a certificate from left to right. Nothing to believe here: it reads exactly
-- the relation.
use Rattle.std.specs.Prelude.{ℕ, ◌==◌, List, Option, Some, None, Result, Ok, Err}
use Rattle.asn1_core.specs.Reading.{All, Fault, Front, ended, inside_at, on, option_at, raw_at, within}
use Rattle.x509_names.specs.Parts.{CertificateParts, certificate_parts}

abbrev pub anything : {A : Type 0} → A → All A
anything x b = Ok x

abbrev pub some_or_none : {A : Type 0} → Result A Fault → Result (Option A) Fault
some_or_none (Ok v) = Ok (Some v)
some_or_none (Err f) = Ok None

-- what is read, or none where it is refused
abbrev pub or_none : {A : Type 0} → All A → All (Option A)
or_none all b = some_or_none (all b)

unfoldable pub version_at : Front (Option (List ℕ))
version_at = option_at (λ t. t == 0xa0) (inside_at 0xa0)

unfoldable pub two_elements : All (List ℕ × List ℕ)
two_elements = on raw_at (λ first. on raw_at (λ second. ended (first, second)))

unfoldable pub validity_at : Front (Option (List ℕ × List ℕ))
validity_at = within 0x30 (or_none two_elements)

unfoldable pub signed_all : All CertificateParts
signed_all = on version_at (λ v. on (inside_at 0x02) (λ n. on (inside_at 0x30) (λ a. on raw_at (λ i.
    on validity_at (λ w. on raw_at (λ s. anything (certificate_parts n i w s)))))))

unfoldable pub signed_at : Front CertificateParts
signed_at = within 0x30 signed_all

unfoldable pub certificate_at : Front CertificateParts
certificate_at = within 0x30 (on signed_at anything)
