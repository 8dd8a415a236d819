-- The texts of an old store: each is read as DER, and as BER (X.690) only where it is no DER text.
use Rattle.std.specs.Prelude.{◌⊎◌, ℕ, List}
use Rattle.ber_core.specs.Ber.{Ber}
use Rattle.p12.specs.declared.content_info.ContentInfo.{ContentInfo}
use Rattle.p12.specs.declared.pfx.PFX.{PFX}
use Rattle.p12.specs.ContentInfo.{IsContents, NoContents}
use Rattle.p12.specs.Pfx.{IsStore, NoStore}
use Rattle.legacy_store.specs.Joined.{JoinedSafe}

-- These octets are this store.
unfoldable pub IsLegacyStore : List ℕ → PFX → Type 0
IsLegacyStore b s = IsStore b s ⊎ ((d : List ℕ) × NoStore b × Ber b d × IsStore d s)

-- They are no store.
abbrev pub NoLegacyStore : List ℕ → Type 0
NoLegacyStore b = (s : PFX) → IsLegacyStore b s → ⊥

-- v is a BER text of a list of contents, and e its DER text with the encrypted octets of each in one.
abbrev pub BerSafe : List ℕ → List ℕ → Type 0
BerSafe v e = (d : List ℕ) × Ber v d × JoinedSafe d e

-- These octets list these contents.
unfoldable pub IsLegacySafe : List ℕ → List ContentInfo → Type 0
IsLegacySafe v cs = IsContents v cs ⊎ ((e : List ℕ) × NoContents v × BerSafe v e × IsContents e cs)

-- They list no contents.
abbrev pub NoLegacySafe : List ℕ → Type 0
NoLegacySafe v = (cs : List ContentInfo) → IsLegacySafe v cs → ⊥
