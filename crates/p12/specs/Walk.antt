-- Walking over the parts of a list that was read whole before.
use Rattle.std.specs.Prelude.{◌≡◌, ℕ, ◌-◌, List, [], length, drop, Result, Ok, Err}
use Rattle.asn1_core.specs.Reading.{Fault, Front, many}
use Rattle.asn1_core.specs.Gives.{Fails}
use Rattle.asn1_core.specs.declared.error.Error.{Error}

-- a walk over the parts in these octets: how many octets lie after it, and the parts that are still
-- to come
pub record Walk (A : Type 0) : Type 0 where
  pub bytes : List ℕ
  pub passed : ℕ
  pub left : List A

abbrev pub read_or_none : {A : Type 0} → Result (List A) Fault → List A
read_or_none (Ok xs) = xs
read_or_none (Err f) = []

-- where a walk stands whose octets are not yet all read
abbrev pub walk_over : {A : Type 0} → Front A → List ℕ → List ℕ → Walk A
walk_over p bytes rest = record {
  bytes = bytes;
  passed = length bytes - length rest;
  left = read_or_none (many p rest);
}

-- what is left to read ends the octets, and is read to its end
abbrev pub IsWalk : {A : Type 0} → Front A → List ℕ → List ℕ → Type 0
IsWalk p bytes rest = (drop (length bytes - length rest) bytes ≡ rest)
    × (many p rest ≡ Ok (read_or_none (many p rest)))

-- what a call returns that reads and keeps nothing
abbrev pub Passes : {Y : Type 0} → Result (Unit {0}) Error → Result Y Fault → Type 0
Passes {Y} (Ok u) read = (y : Y) × (read ≡ Ok y)
Passes (Err e) read = Fails ⊥ e read
