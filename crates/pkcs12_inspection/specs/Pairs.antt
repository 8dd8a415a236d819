-- Which certificate belongs to a private key.
use Rattle.std.specs.Prelude.{ℕ, Bool, List, Option, Some, None, false, bytes_eq, cond, position, option_and_then}
use Rattle.std.specs.Option.{is_some}
use Rattle.pkcs12_inspection.specs.declared.listing.Label.{Label}

-- it is this local key id
abbrev pub is_id : List ℕ → Option (List ℕ) → Bool
is_id id None = false
is_id id (Some other) = bytes_eq id other

-- the bag of this label has this local key id
abbrev pub has_key_id : List ℕ → Label → Bool
has_key_id id label = is_id id label.local_key_id

-- the place of the first of these certificates that has the local key id of the key
abbrev pub pair_of : List Label → Label → Option ℕ
pair_of certificates key = option_and_then
    (λ id. position (has_key_id id) certificates) key.local_key_id

-- the place that there was; else this one, if the test passes
abbrev pub first_of : Option ℕ → Bool → ℕ → Option ℕ
first_of old test place = cond (is_some old) old (cond test (Some place) None)
