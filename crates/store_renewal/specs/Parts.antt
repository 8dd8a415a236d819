-- The version of a store, and the contents that it lists.
use Rattle.std.specs.Prelude.{◌≡◌, ℕ, List}
use Rattle.p12.specs.ContentInfo.{IsContents}
use Rattle.p12.specs.Pfx.{IsStore}
use Rattle.p12.specs.declared.content_info.ContentInfo.{ContentInfo}
use Rattle.p12.specs.declared.content_info.ContentInfo.TheVariants as content
use Rattle.p12.specs.declared.pfx.PFX.{PFX}
use Rattle.legacy_store.specs.Texts.{IsLegacySafe, IsLegacyStore}

-- The DER text b is of a store of this version, which lists these contents.
abbrev pub HasDerParts : List ℕ → ℕ → List ContentInfo → Type 0
HasDerParts b n cs = (s : PFX) × (v : List ℕ) × IsStore b s × (s.version ≡ n)
    × (s.auth_safe ≡ content.Data v) × IsContents v cs

-- The same of a text in DER or in BER.
abbrev pub HasParts : List ℕ → ℕ → List ContentInfo → Type 0
HasParts b n cs = (s : PFX) × (v : List ℕ) × IsLegacyStore b s × (s.version ≡ n)
    × (s.auth_safe ≡ content.Data v) × IsLegacySafe v cs
