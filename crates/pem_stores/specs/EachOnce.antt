-- The certificates of a store, each further one once.
use Rattle.std.specs.Prelude.{ℕ, ◌≡◌, ◌∷◌, ◌++◌, List, [], Bool, cond, map}
use Rattle.std.specs.List.{list_any}
use Rattle.std.specs.Str.{bytes_eq}
use Rattle.create_core.specs.declared.entry.KeyEntry.{KeyEntry}

-- whether these octets are among those
abbrev pub has_octets : List (List ℕ) → List ℕ → Bool
has_octets bs q = list_any (λ b. bytes_eq b q) bs

-- one more, unless it is there
abbrev pub with_one : List (List ℕ) → List ℕ → List (List ℕ)
with_one sofar b = cond (has_octets sofar b) sofar (sofar ++ b ∷ [])

-- those that are there, and then each of the others once
abbrev pub with_new : List (List ℕ) → List (List ℕ) → List (List ℕ)
with_new sofar [] = sofar
with_new sofar (b ∷ bs) = with_new (with_one sofar b) bs

-- the certificates of keys
abbrev pub own_certificates : List KeyEntry → List (List ℕ)
own_certificates ks = map (λ (k : KeyEntry). k.certificate) ks

-- `found` tells of all octets whether they are among these.
abbrev pub AreNoted : (List ℕ → Bool) → List (List ℕ) → Type 0
AreNoted found bs = (q : List ℕ) → found q ≡ has_octets bs q
