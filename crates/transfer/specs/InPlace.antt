-- Contents that are opened in place, in a copy of the text that lists them.
use Rattle.std.specs.Prelude.{◌≡◌, ℕ, ◌+◌, ◌≤◌, All, List, [], ◌∷◌, length, map, take, drop, ⊤}
use Rattle.der_core.specs.BitString.{seen_bits}
use Rattle.p12.specs.ContentInfo.{ContentFits}
use Rattle.p12.specs.ContentView.{ContentBetween, seen_content}
use Rattle.p12.specs.Place.{at_place}
use Rattle.p12.specs.SafeBag.{IsBags}
use Rattle.p12.specs.declared.content_info.ContentView.{ContentView}
use Rattle.p12.specs.declared.place.Place.{Place}
use Rattle.p12.specs.declared.safe_bag.SafeBag.{SafeBag}
use Rattle.asn1_core.specs.Sets.{Each}
use Rattle.pkcs8.specs.Seen.{IsPrivateKey, seen_private_key}
use Rattle.spki.specs.Seen.{borrowed_any}
use Rattle.transfer.specs.Limits.{store_limit}
use Rattle.transfer.specs.declared.store.key_text.OpenedKey.{OpenedKey}
use Rattle.transfer.specs.declared.store.open.Listed.{Listed}
use Rattle.p12.specs.Collected.{HoldsBags}
use Rattle.transfer.specs.OpenedSafe.{ListsAt, contents_at}
use Rattle.transfer.specs.Opening.{ContentsTable, KeysTable, Verdict}

-- Only what lies between two numbers of octets was changed.
abbrev pub Kept : ℕ → ℕ → List ℕ → List ℕ → Type 0
Kept from to old new = (take from new ≡ take from old) × (drop to new ≡ drop to old)

-- Places one after the other, between two numbers of octets.
abbrev pub InOrder : ℕ → List Place → ℕ → Type 0
InOrder from [] to = ⊤
InOrder from (p ∷ ps) to = (from ≤ p.start) × (p.start + p.len ≤ to)
    × InOrder (p.start + p.len) ps to

-- Contents are listed, none is opened, and T is decided by what they come to.
pub record AreListed (T : Verdict → ℕ → Type 0) (p : List ℕ) (limit : ℕ) (l : Listed)
    : Type 0 where
  pub bytes : l.contents.bytes ≡ l.text.now
  pub short : length l.text.now ≤ store_limit
  pub fit : All (ContentFits store_limit) l.contents.left
  pub decides : (w : Verdict) (n : ℕ) → ContentsTable p limit l.budget.spent l.contents.left w n
      → T w n

-- Bags are at a place.
abbrev pub BagsAt : List ℕ → Place → List SafeBag → Type 0
BagsAt text place gs = IsBags (at_place place text) gs

-- A content opens to bags that then are at a place within its own; nothing else is changed.
pub record ContentOpensAt (p : List ℕ) (v : ContentView) (old new : List ℕ) (place : Place)
    : Type 0 where
  pub bags : List SafeBag
  pub opens : HoldsBags p (seen_content v) bags
  pub are : BagsAt new place bags
  pub kept : (from to : ℕ) → ContentBetween from to v → Kept from to old new
  pub within : (from to : ℕ) → ContentBetween from to v
      → (from ≤ place.start) × (place.start + place.len ≤ to)

-- The bags of contents are at places, one after the other.
pub record StandAt (text : List ℕ) (places : List Place) (gss : List (List SafeBag)) : Type 0 where
  pub each : Each (BagsAt text) places gss
  pub order : InOrder 0 places (length text)

-- Contents were opened by so much work: their bags are at places in a text, and T is decided by
-- what their keys come to.
pub record AreOpened (T : Verdict → ℕ → Type 0) (p : List ℕ) (limit : ℕ) (text : List ℕ)
    (places : List Place) (spent : ℕ) : Type 0 where
  pub short : length text ≤ store_limit
  pub lists : All (ListsAt text) places
  pub decides : (w : Verdict) (n : ℕ) → KeysTable p limit spent (contents_at text places) w n
      → T w n

-- A private key beside a text of it, which is part of a store.
abbrev pub IsOpenedKey : OpenedKey → Type 0
IsOpenedKey k = IsPrivateKey k.text.now (seen_private_key borrowed_any (λ s. s.octets.now)
    (λ s. seen_bits s.unused_bits s.octets.now) k.key)
    × (length k.text.now ≤ store_limit)

-- the texts of opened keys
abbrev pub texts_of : List OpenedKey → List (List ℕ)
texts_of ks = map (λ (k : OpenedKey). k.text.now) ks
