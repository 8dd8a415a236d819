-- What a store is made of: a private key with its certificate, and the further certificates.
use Rattle.std.specs.Prelude.{ℕ, ◌≡◌, ◌-◌, List, [], ◌∷◌, Option, Some, None, length, remove}
use Rattle.std.specs.List.{AllZip, flat_map, slice_get}
use Rattle.create_core.specs.declared.entry.CertificateEntry.{CertificateEntry}
use Rattle.create_core.specs.declared.entry.KeyEntry.{KeyEntry}
use Rattle.key_files.specs.declared.matching.Match.{Match}
use Rattle.pem_stores.specs.ChainOrder.{IsOrder}
use Rattle.pem_stores.specs.Choice.{IsChoice, IsMatchOfTexts}
use Rattle.pem_stores.specs.EachOnce.{own_certificates, with_new}
use Rattle.pem_stores.specs.declared.further.Further.{Further}
use Rattle.pem_stores.specs.declared.own_certificate.Choice.{Choice}
use Rattle.pem_stores.specs.declared.own_certificate.Choice.TheVariants as choice
use Rattle.pem_stores.specs.declared.ownership.OwnEntry.{OwnEntry}
use Rattle.pem_stores.specs.declared.ownership.Owned.{Owned}
use Rattle.pem_stores.specs.declared.ownership.Owned.TheVariants.{Own, Untold, Nowhere}

-- ---- a private key with its certificate

-- The entry has the key, the certificate at this place and the name; the other certificates are
-- beside it.
pub record IsEntryWith (key : List ℕ) (certificates : List (List ℕ)) (place : ℕ)
    (name : Option (List ℕ)) (o : OwnEntry) : Type 0 where
  pub is_key : o.entry.key ≡ key
  pub certificate : slice_get certificates place ≡ Some o.entry.certificate
  pub named : o.entry.name ≡ name
  pub others : o.others.items ≡ remove certificates place

-- The choice among these certificates for the key.
pub record IsChosen (key : List ℕ) (certificates : List (List ℕ)) (c : Choice) : Type 0 where
  pub matches : List Match
  pub each : AllZip (IsMatchOfTexts key) certificates matches
  pub is : IsChoice matches c

-- The key with the certificate that is chosen for it; or each is that of another key.
abbrev pub IsOwned : List ℕ → List (List ℕ) → Option (List ℕ) → Owned → Type 0
IsOwned key certificates name (Own o) = (place : ℕ)
    × IsChosen key certificates (choice.Own place) × IsEntryWith key certificates place name o
IsOwned key certificates name (Untold o) = (place : ℕ)
    × IsChosen key certificates (choice.Untold place) × IsEntryWith key certificates place name o
IsOwned key certificates name Nowhere = IsChosen key certificates choice.Nowhere

-- ---- the further certificates

-- the certificate at a place, without a name
abbrev pub unnamed : Option (List ℕ) → List CertificateEntry
unnamed (Some b) = record { certificate = b; name = None } ∷ []
unnamed None = []

abbrev pub certificate_at : List (List ℕ) → ℕ → List CertificateEntry
certificate_at all place = unnamed (slice_get all place)

abbrev pub certificates_at : List (List ℕ) → List ℕ → List CertificateEntry
certificates_at all places = flat_map (certificate_at all) places

-- all certificates, those of the keys first and then each further one once
abbrev pub all_once : List KeyEntry → List (List ℕ) → List (List ℕ)
all_once keys further = with_new (own_certificates keys) further

-- Of all certificates these are the ones that are no key's own: first those in the chains of the
-- keys, and then those that are in none, which are counted.
pub record AreFurther (keys : List KeyEntry) (further : List (List ℕ)) (f : Further) : Type 0 where
  pub places : List ℕ
  pub chained : ℕ
  pub order : IsOrder (all_once keys further) (length keys) places chained
  pub are : f.certificates.items ≡ certificates_at (all_once keys further) places
  pub counted : f.apart ≡ length places - chained
