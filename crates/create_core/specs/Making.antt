-- The steps of making a store.
use Rattle.std.specs.Prelude.{ℕ, ◌≤◌, ◌≡◌, List, Some, length, take}
use Rattle.std.specs.List.{slice_get}
use Rattle.p12.specs.Canonical.{bags_canon, store_canon}
use Rattle.p12.specs.declared.content_info.ContentInfo.{ContentInfo}
use Rattle.p12.specs.declared.content_info.ContentInfo.TheVariants as content
use Rattle.p12.specs.declared.error.Error.{Error}
use Rattle.p12.specs.declared.error.Error.TheVariants as errors
use Rattle.p12.specs.declared.safe_bag.SafeBag.{SafeBag}
use Rattle.transfer.specs.Limits.{store_limit}
use Rattle.create_core.specs.Size.{created_size}
use Rattle.create_core.specs.Bags.{KeysSealed, certificate_bags}
use Rattle.create_core.specs.Created.{sealed_content, store_of, two_contents}
use Rattle.create_core.specs.Parts.{Seals}
use Rattle.sealing_core.specs.declared.drawn.IvAndSalt.{IvAndSalt}
use Rattle.create_core.specs.declared.entry.CertificateEntry.{CertificateEntry}
use Rattle.create_core.specs.declared.entry.KeyEntry.{KeyEntry}

-- why a value that can be written is not
abbrev pub IsWritingRefusal : Error → Type 0
IsWritingRefusal errors.TooLong = Unit {0}
IsWritingRefusal errors.Memory = Unit {0}
IsWritingRefusal errors.Malformed = ⊥
IsWritingRefusal errors.Invalid = ⊥
IsWritingRefusal errors.Rng = ⊥

-- The content holds the certificates, sealed under what was drawn at the place after the keys.
pub record HoldsCertificates (r : ℕ) (p : List ℕ) (keys : List KeyEntry)
    (certificates : List CertificateEntry) (drawn : List IvAndSalt) (c : ContentInfo)
    : Type 0 where
  pub part : IvAndSalt
  pub at : slice_get drawn (length keys) ≡ Some part
  pub sealed : List ℕ
  pub seals : Seals r p part (bags_canon (certificate_bags keys certificates)) sealed
  pub is : c ≡ sealed_content r part sealed

-- The content holds the keys, each sealed under what was drawn at its place.
pub record HoldsKeys (r : ℕ) (p : List ℕ) (keys : List KeyEntry) (drawn : List IvAndSalt)
    (c : ContentInfo) : Type 0 where
  pub bags : List SafeBag
  pub sealed : KeysSealed r p keys (take (length keys) drawn) bags
  pub is : c ≡ content.Data (bags_canon bags)

-- These are the two contents.
pub record AreContents (r : ℕ) (p : List ℕ) (keys : List KeyEntry)
    (certificates : List CertificateEntry) (drawn : List IvAndSalt) (cs : List ContentInfo)
    : Type 0 where
  pub part : IvAndSalt
  pub at : slice_get drawn (length keys) ≡ Some part
  pub sealed : List ℕ
  pub bags : List SafeBag
  pub certificates_sealed : Seals r p part (bags_canon (certificate_bags keys certificates)) sealed
  pub keys_sealed : KeysSealed r p keys (take (length keys) drawn) bags
  pub are : cs ≡ two_contents r part sealed bags

-- The text b is that of the store of the two contents, short enough, and as long as it is stated.
pub record IsSealedText (r : ℕ) (p : List ℕ) (keys : List KeyEntry)
    (certificates : List CertificateEntry) (drawn : List IvAndSalt) (salt b : List ℕ)
    : Type 0 where
  pub contents : List ContentInfo
  pub are : AreContents r p keys certificates drawn contents
  pub is : b ≡ store_canon (store_of r p salt contents)
  pub short : length b ≤ store_limit
  pub sized : length b ≡ created_size r keys certificates
