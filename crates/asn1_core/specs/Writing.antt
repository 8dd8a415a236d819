-- What the calls of a writer return.
use Rattle.std.specs.Prelude.{◌≡◌, ℕ, ◌-◌, ◌<◌, ◌≤◌, ◌⊎◌, List, ◌++◌, length, Option, Some, None, Result, Ok, Err}
use Rattle.octet_core.specs.Faults.{Rose}
use Rattle.asn1_core.specs.declared.error.Error.{Error}
use Rattle.asn1_core.specs.declared.error.Error.TheVariants as errors
use Rattle.asn1_core.specs.declared.header.Length.{Length}

-- What is known of a writer: the octets that it holds, the room that it has left where that is
-- bounded, its faults, whether it may lack memory, and the place that it writes to.
pub record Sink (W : Type 0) : Type 1 where
  pub holds : W → List ℕ → Type 0
  pub room : W → Option ℕ
  pub faults : W → ℕ
  pub memory : Type 0
  pub Place : Type 0
  pub place : W → Place

-- the room is bounded, and too small for this many octets
abbrev pub LacksRoom : Option ℕ → ℕ → Type 0
LacksRoom None n = ⊥
LacksRoom (Some room) n = room < n

-- the room that is left after this many octets
abbrev pub Falls : Option ℕ → ℕ → Option ℕ → Type 0
Falls None n after = after ≡ None
Falls (Some room) n after = (n ≤ room) × (after ≡ Some (room - n))

-- a text of this many octets is longer than 2 ^ 32 - 1
abbrev pub IsOverlong : ℕ → Type 0
IsOverlong n = 4294967296 ≤ n

-- why a call of a writer is refused
abbrev pub Cause : Type 0 → Type 0 → Type 0 → Option ℕ → ℕ → ℕ → ℕ → Error → Type 0
Cause bad over memory room n before now errors.Malformed = bad
Cause bad over memory room n before now (errors.OidUnknown o) = ⊥
Cause bad over memory room n before now errors.Overlength = over
Cause bad over memory room n before now errors.NoRoom = LacksRoom room n
Cause bad over memory room n before now errors.File = Rose before now
Cause bad over memory room n before now errors.Memory = memory

-- the text was written
pub record Wrote {W : Type 0} (S : Sink W) (text : List ℕ) (old new : W) : Type 0 where
  pub adds : (m : List ℕ) → S.holds old m → S.holds new (m ++ text)
  pub falls : Falls (S.room old) (length text) (S.room new)
  pub rises : S.faults old ≤ S.faults new
  pub stays : S.place old ≡ S.place new

-- a front of the text was written, and its rest was not
pub record Stopped {W : Type 0} (S : Sink W) (bad over : Type 0) (text : List ℕ) (old : W)
    (e : Error) (new : W) : Type 0 where
  pub front : List ℕ
  pub rest : List ℕ
  pub is : text ≡ front ++ rest
  pub adds : (m : List ℕ) → S.holds old m → S.holds new (m ++ front)
  pub falls : Falls (S.room old) (length front) (S.room new)
  pub cause : Cause bad over S.memory (S.room old) (length text) (S.faults old) (S.faults new) e
  pub rises : S.faults old ≤ S.faults new
  pub stays : S.place old ≡ S.place new

-- The text was written whole, or a front of it and the result says why. `bad` is when the value
-- cannot be written, `over` when its text is too long.
abbrev pub Writes : {W : Type 0} → Sink W → Type 0 → Type 0 → List ℕ → W → Result (Unit {0}) Error
    → W → Type 0
Writes S bad over text old (Ok u) new = Wrote S text old new
Writes S bad over text old (Err e) new = Stopped S bad over text old e new

-- the length of a text, or why it has none
abbrev pub Measures : Type 0 → List ℕ → Result Length Error → Type 0
Measures bad text (Ok n) = n.value ≡ length text
Measures bad text (Err e) = ((e ≡ errors.Malformed) × bad)
    ⊎ ((e ≡ errors.Overlength) × IsOverlong (length text))

-- the same writer, in a call that takes memory of its own
abbrev pub in_memory : {W : Type 0} → Sink W → Sink W
in_memory S = record {
  holds = S.holds;
  room = S.room;
  faults = S.faults;
  memory = Unit {0};
  Place = S.Place;
  place = S.place;
}
