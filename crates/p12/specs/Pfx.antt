-- Stores (RFC 7292 section 4).
use Rattle.std.specs.Prelude.{ℕ, ◌<◌, ◌≤◌, ◌^◌, List, length, IfSome}
use Rattle.asn1_core.specs.Texts.{Perhaps, Uint}
use Rattle.asn1_core.specs.Fields.{Field, End, Sequence}
use Rattle.asn1_core.specs.Der.{IsShort}
use Rattle.p12.specs.ContentInfo.{ContentText, ContentFits, SealFits, plain_of}
use Rattle.p12.specs.MacData.{MacText}
use Rattle.p12.specs.declared.pfx.PFX.{PFX}

-- PFX ::= SEQUENCE { version INTEGER, authSafe ContentInfo, macData MacData OPTIONAL }, the version
-- below 256
abbrev pub PfxText : List ℕ → PFX → Type 0
PfxText = Sequence (Field (Uint 0xff) (λ s. s.version) (Field ContentText (λ s. s.auth_safe)
    (Field (Perhaps MacText) (λ s. s.mac_data) End)))

-- these octets are this store
unfoldable pub IsStore : List ℕ → PFX → Type 0
IsStore b s = PfxText b s × IsShort b

-- they are no store
abbrev pub NoStore : List ℕ → Type 0
NoStore b = (s : PFX) → IsStore b s → ⊥

-- its outer content holds at most n octets, and so does the salt of its MAC
abbrev pub StoreFits : ℕ → PFX → Type 0
StoreFits n s = ContentFits n s.auth_safe × IfSome s.mac_data (λ m. length m.salt ≤ n)

-- where it has a MAC, its outer content can be opened, the salt of the MAC has fewer than 2 ^ 59
-- octets, and a plain outer content fewer than 2 ^ 32
abbrev pub MacFits : PFX → Type 0
MacFits s = IfSome s.mac_data
    (λ m. SealFits s.auth_safe × (length m.salt < 2 ^ 59)
    × (length (plain_of s.auth_safe) < 2 ^ 32))

-- what the calls that open it ask of it
abbrev pub OpeningFits : PFX → Type 0
OpeningFits s = SealFits s.auth_safe × MacFits s
