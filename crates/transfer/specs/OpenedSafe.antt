-- An opened store that is kept as one text, in which its contents were opened.
use Rattle.std.specs.Prelude.{ℕ, ◌+◌, ◌≤◌, All, List, length, map}
use Rattle.p12.specs.BagView.{ListsBags, bags_of}
use Rattle.p12.specs.Place.{at_place}
use Rattle.p12.specs.declared.place.Place.{Place}
use Rattle.p12.specs.declared.safe_bag.SafeBag.{SafeBag}
use Rattle.transfer.specs.Limits.{store_limit}
use Rattle.transfer.specs.Opening.{IsStoredKey}

-- what a store opens to: the bags of each content, and the texts of the private keys among them
pub record BagsAndKeys : Type 0 where
  pub contents : List (List SafeBag)
  pub keys : List (List ℕ)

-- the bags that a text lists at a place
abbrev pub bags_there : List ℕ → Place → List SafeBag
bags_there text place = bags_of (at_place place text)

-- those of contents, of which each is at a place
abbrev pub contents_at : List ℕ → List Place → List (List SafeBag)
contents_at text places = map (bags_there text) places

-- The place is in the text, which lists bags there.
abbrev pub ListsAt : List ℕ → Place → Type 0
ListsAt text place = (place.start + place.len ≤ length text) × ListsBags (at_place place text)

-- A text of a store, the places of the bags of its contents, and the texts of its private keys.
abbrev pub IsOpenedText : List ℕ → List Place → List (List ℕ) → Type 0
IsOpenedText text places keys = (length text ≤ store_limit) × All (ListsAt text) places
    × All IsStoredKey keys
