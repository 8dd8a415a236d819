-- What a store of one private key is made of, as PEM texts have it (RFC 7468).
use Rattle.std.specs.Prelude.{ℕ, ◌≡◌, ◌⊎◌, List, [], ◌∷◌, Option, Ok, Err, ⊤}
use Rattle.create_core.specs.declared.entry.KeyEntry.{KeyEntry}
use Rattle.pem_text.specs.Reading.{blocks}
use Rattle.pem_text.specs.declared.block.Block.{Block}
use Rattle.pem_text.specs.declared.block.PemError.{PemError}
use Rattle.pem_stores.specs.Certificates.{AreCertificates, LacksCertificates}
use Rattle.pem_stores.specs.Entries.{AreFurther, IsChosen, IsOwned}
use Rattle.pem_stores.specs.Keys.{HasKey, LacksKey}
use Rattle.pem_stores.specs.declared.ownership.OwnEntry.{OwnEntry}
use Rattle.pem_stores.specs.declared.own_certificate.Choice.TheVariants as choice
use Rattle.pem_stores.specs.declared.ownership.Owned.TheVariants.{Own, Untold}
use Rattle.pem_stores.specs.declared.text_entries.TextEntries.{TextEntries}
use Rattle.pem_stores.specs.declared.text_refusal.TextRefusal.{TextRefusal}
use Rattle.pem_stores.specs.declared.text_refusal.TextRefusal.TheVariants as refusal

-- The text has a block that is not read.
abbrev pub IsUnread : List ℕ → Type 0
IsUnread text = (e : PemError) × (blocks text ≡ Err e)

-- ---- the private key

-- The text k is the PKCS#8 text of the one private key that the PEM text has.
abbrev pub HasKeyIn : List ℕ → Option (List ℕ) → ℕ → List ℕ → Type 0
HasKeyIn text password limit k = (bs : List Block) × (blocks text ≡ Ok bs)
    × HasKey bs password limit k

abbrev pub LacksKeyIn : List ℕ → Option (List ℕ) → ℕ → TextRefusal → Type 0
LacksKeyIn text password limit refusal.KeyPem = IsUnread text
LacksKeyIn text password limit (refusal.Key e) = (bs : List Block) × (blocks text ≡ Ok bs)
    × LacksKey bs password limit e
LacksKeyIn text password limit refusal.Memory = ⊤
LacksKeyIn text password limit _ = ⊥

-- ---- the certificates

-- These are the certificates that the PEM text has, in order.
abbrev pub HasCertificatesIn : List ℕ → List (List ℕ) → Type 0
HasCertificatesIn text cs = (bs : List Block) × (blocks text ≡ Ok bs) × AreCertificates bs cs

abbrev pub LacksCertificatesIn : List ℕ → TextRefusal → Type 0
LacksCertificatesIn text refusal.CertificatePem = IsUnread text
LacksCertificatesIn text (refusal.Certificates e) = (bs : List Block) × (blocks text ≡ Ok bs)
    × LacksCertificates bs e
LacksCertificatesIn text refusal.Memory = ⊤
LacksCertificatesIn text _ = ⊥

-- ---- both

-- One entry, and the certificates beside it.
pub record IsEntered (k : KeyEntry) (others : List (List ℕ)) (e : TextEntries) : Type 0 where
  pub keys : e.keys.items ≡ k ∷ []
  pub further : AreFurther (k ∷ []) others e.further

-- The entries are those of the private key in the one PEM text and of the certificates in the other.
pub record AreEntries (key certificates : List ℕ) (name password : Option (List ℕ)) (limit : ℕ)
    (e : TextEntries) : Type 0 where
  pub key_text : List ℕ
  pub has_key : HasKeyIn key password limit key_text
  pub all : List (List ℕ)
  pub has_certificates : HasCertificatesIn certificates all
  pub own : OwnEntry
  pub owned : IsOwned key_text all name (Own own) ⊎ IsOwned key_text all name (Untold own)
  pub entered : IsEntered own.entry own.others.items e

-- There is a private key in the one text.
abbrev pub IsKeyThere : List ℕ → Option (List ℕ) → ℕ → Type 0
IsKeyThere key password limit = (k : List ℕ) × HasKeyIn key password limit k

-- There are none, by cases on the refusal: the first cause in this order, or running out of memory at
-- any point.
abbrev pub LacksEntries : List ℕ → List ℕ → Option (List ℕ) → ℕ → TextRefusal → Type 0
LacksEntries key certificates password limit refusal.KeyPem = IsUnread key
LacksEntries key certificates password limit (refusal.Key e) =
    LacksKeyIn key password limit (refusal.Key e)
LacksEntries key certificates password limit refusal.CertificatePem =
    IsKeyThere key password limit × IsUnread certificates
LacksEntries key certificates password limit (refusal.Certificates e) =
    IsKeyThere key password limit × LacksCertificatesIn certificates (refusal.Certificates e)
LacksEntries key certificates password limit refusal.OtherKey = (k : List ℕ)
    × (cs : List (List ℕ)) × HasKeyIn key password limit k × HasCertificatesIn certificates cs
    × IsChosen k cs choice.Nowhere
LacksEntries key certificates password limit refusal.Memory = ⊤
