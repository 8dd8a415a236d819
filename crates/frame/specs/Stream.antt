-- An object of the outside over a call.
use Rattle.std.specs.Prelude.{ℕ, List, Option}

-- A source, a sink or a draw, at the entry of a call and after it: the octets that it tells, and
-- the count of its faults.
pub record Stream : Type 0 where
  pub told : Option (List ℕ)
  pub told_after : Option (List ℕ)
  pub faults : ℕ
  pub faults_after : ℕ

abbrev pub stream : Option (List ℕ) → Option (List ℕ) → ℕ → ℕ → Stream
stream told told_after faults faults_after =
    record { told = told; told_after = told_after; faults = faults; faults_after = faults_after }

-- the same of an object that was `old` at the entry and is `new` after the call, where `told` and
-- `faults` say these of it
abbrev pub stream_of : {A : Type 0} → (A → Option (List ℕ)) → (A → ℕ) → A → A → Stream
stream_of told faults old new = stream (told old) (told new) (faults old) (faults new)
