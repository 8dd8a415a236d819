-- The text in DER of a store that is in BER: for looking at, since its MAC is over the list of contents
-- as it was.
use Rattle.std.specs.Prelude.{◌⊎◌, ◌≡◌, ℕ, List}
use Rattle.p12.specs.declared.content_info.ContentInfo.{ContentInfo}
use Rattle.p12.specs.declared.content_info.ContentInfo.TheVariants as content
use Rattle.p12.specs.declared.pfx.PFX.{PFX}
use Rattle.p12.specs.ContentInfo.{IsContents}
use Rattle.p12.specs.Canonical.{store_canon}
use Rattle.p12.specs.Pfx.{IsStore}
use Rattle.legacy_store.specs.Texts.{IsLegacySafe, IsLegacyStore}

-- e is the DER text of a list of the same contents.
abbrev pub IsSafeInDer : List ℕ → List ℕ → Type 0
IsSafeInDer v e = (cs : List ContentInfo) × IsLegacySafe v cs × IsContents e cs

-- the store with this list of contents
abbrev pub store_with : PFX → List ℕ → PFX
store_with s e = record { version = s.version; auth_safe = content.Data e; mac_data = s.mac_data }

-- d is the text of the store with its list of contents in DER.
abbrev pub IsWholeInDer : PFX → List ℕ → Type 0
IsWholeInDer s d = (v e : List ℕ) × (s.auth_safe ≡ content.Data v) × IsSafeInDer v e
    × (d ≡ store_canon (store_with s e))

-- The same of a text of the store.
abbrev pub IsStoreInDer : List ℕ → List ℕ → Type 0
IsStoreInDer b d = (s : PFX) × IsLegacyStore b s × IsWholeInDer s d

-- b is the DER text of a store, and the list of its contents is in DER too.
abbrev pub IsInDer : List ℕ → Type 0
IsInDer b = (s : PFX) × (v : List ℕ) × (cs : List ContentInfo) × IsStore b s
    × (s.auth_safe ≡ content.Data v) × IsContents v cs

-- The store lists no contents, neither in DER nor in BER.
abbrev pub ListsNothing : PFX → Type 0
ListsNothing s = (v : List ℕ) (cs : List ContentInfo) → s.auth_safe ≡ content.Data v
    → IsLegacySafe v cs → ⊥

-- b is no store that lists contents, neither in DER nor in BER.
abbrev pub NoListedStore : List ℕ → Type 0
NoListedStore b = (s : PFX) → IsLegacyStore b s → ListsNothing s

-- There is nothing to put into DER.
abbrev pub StaysAsItIs : List ℕ → Type 0
StaysAsItIs b = IsInDer b ⊎ NoListedStore b
