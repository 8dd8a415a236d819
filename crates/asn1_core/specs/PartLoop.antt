-- What a loop over the parts of a text has read so far: items are read, and rest is left of b.
use Rattle.std.specs.Prelude.{◌≡◌, ℕ, ◌≤◌, List, ◌++◌, length, Result, Ok}
use Rattle.asn1_core.specs.Reading.{Fault, Front, ◌>>=◌, many_in, many}

abbrev pub with_front : {A : Type 0} → List A → Result (List A) Fault → Result (List A) Fault
with_front front read = read >>= λ xs. Ok (front ++ xs)

pub record SoFar {A : Type 0} (p : Front A) (b : List ℕ) (items : List A) (rest : List ℕ)
    : Type 0 where
  pub fuel : ℕ
  pub enough : length rest ≤ fuel
  pub same : with_front items (many_in p fuel rest) ≡ many p b
