-- Friendly names that two pairs have, but for the case of their letters.
use Rattle.std.specs.Prelude.{ℕ, ◌≡◌, ◌<◌, Bool, true, false, List, Option, Some, None, take}
use Rattle.std.specs.List.{list_any, slice_get}
use Rattle.std.specs.Option.{option_copied}
use Rattle.std.specs.Str.{bytes_eq}
use Rattle.std.specs.StrCase.Lower.{str_to_lowercase}
use Rattle.pkcs12_arguments.specs.declared.pairs.Pair.{Pair}

-- whether there is a name and it is this one in lower case
abbrev pub is_lowered : List ℕ → Option (List ℕ) → Bool
is_lowered lowered (Some name) = bytes_eq (str_to_lowercase name) lowered
is_lowered lowered None = false

abbrev pub has_name : List ℕ → Pair → Bool
has_name lowered p = is_lowered lowered (option_copied p.name)

-- whether there is a name and one of the pairs before has it
abbrev pub is_repeated : List Pair → Option (List ℕ) → Bool
is_repeated before (Some name) = list_any (has_name (str_to_lowercase name)) before
is_repeated before None = false

-- the same of the name of a pair
abbrev pub is_repeated_in : List Pair → Option Pair → Bool
is_repeated_in before (Some p) = is_repeated before (option_copied p.name)
is_repeated_in before None = false

abbrev pub repeats : List Pair → ℕ → Bool
repeats ps k = is_repeated_in (take k ps) (slice_get ps k)

-- The first name that an earlier pair has too, or none.
abbrev pub IsRepeatedName : List Pair → Option (List ℕ) → Type 0
IsRepeatedName ps (Some name) = (k : ℕ) × (p : Pair) × (slice_get ps k ≡ Some p)
    × (option_copied p.name ≡ Some name) × (repeats ps k ≡ true)
    × ((i : ℕ) → i < k → repeats ps i ≡ false)
IsRepeatedName ps None = (k : ℕ) → repeats ps k ≡ false
