-- Which of several certificates is a private key's.
use Rattle.std.specs.Prelude.{ℕ, ◌≡◌, ◌<◌, ◌⊎◌, Bool, true, false, List, Some, None, position, ⊤}
use Rattle.asn1_core.specs.Gives.{IsNone}
use Rattle.pkcs8.specs.Seen.{AnyPrivateKey, IsPrivateKey}
use Rattle.inventory_core.specs.Certificate.{Certificate, IsCertificate}
use Rattle.key_files.specs.Matching.{IsMatch}
use Rattle.key_files.specs.declared.matching.Match.{Match}
use Rattle.key_files.specs.declared.matching.Match.TheVariants as match
use Rattle.pem_stores.specs.declared.own_certificate.Choice.{Choice}
use Rattle.pem_stores.specs.declared.own_certificate.Choice.TheVariants.{Own, Untold, Nowhere}

-- How the certificate in these octets matches the private key of this text. Of what is no key or no
-- certificate it is another's.
abbrev pub IsMatchOfTexts : List ℕ → List ℕ → Match → Type 0
IsMatchOfTexts key b m =
    ((k : AnyPrivateKey) × (c : Certificate) × IsPrivateKey key k × IsCertificate b c
    × IsMatch k c.key m)
    ⊎ ((IsNone IsPrivateKey key ⊎ IsNone IsCertificate b) × (m ≡ match.Another))

abbrev pub is_own : Match → Bool
is_own match.Own = true
is_own match.Another = false
is_own match.Untold = false

abbrev pub is_untold : Match → Bool
is_untold match.Own = false
is_untold match.Another = false
is_untold match.Untold = true

-- The first certificate that is the key's own, or where there is none the first of which that is
-- not told.
abbrev pub IsChoice : List Match → Choice → Type 0
IsChoice ms (Own place) = position is_own ms ≡ Some place
IsChoice ms (Untold place) = (position is_own ms ≡ None) × (position is_untold ms ≡ Some place)
IsChoice ms Nowhere = (position is_own ms ≡ None) × (position is_untold ms ≡ None)

-- It is one of so many certificates.
abbrev pub IsPlaceOf : ℕ → Choice → Type 0
IsPlaceOf n (Own place) = place < n
IsPlaceOf n (Untold place) = place < n
IsPlaceOf n Nowhere = ⊤
