-- lemmas only: nothing to believe here
-- Octets.
use Rattle.std.proofs.Common.{◌≡◌, ℕ, zero, suc, ◌/◌, ◌%◌, ◌<◌, ◌≤◌, Bool, true, false, List, [], ◌∷◌, ◌++◌, take, get_or, refl, arith, IsTrue, nat_lt, ◌&&◌, inl, inr}
use Rattle.std.proofs.lemmas.Bool.{cases_lt, ltb-true, lt-ltb, le-ltb}
use Rattle.asn1_core.specs.Reading.{are_octets}
use Rattle.asn1_core.specs.Der.{digits, digits_in, shortest, shortest_in}

abbrev pub IsOctets : List ℕ → Type 0
IsOctets [] = Unit {0}
IsOctets (b ∷ bs) = (b < 256) × IsOctets bs

and_left : (a b : Bool) → IsTrue (a && b) → IsTrue a
and_left true b h = refl
and_left false b h = absurd cc

and_right : (a b : Bool) → IsTrue (a && b) → IsTrue b
and_right true b h = h
and_right false b h = absurd cc

pub both : (a b : Bool) → IsTrue (a && b) → IsTrue a × IsTrue b
both a b h = (and_left a b h, and_right a b h)

pub and_true : (a b : Bool) → IsTrue a → IsTrue b → IsTrue (a && b)
and_true true true h i = refl
and_true true false h i = absurd cc
and_true false b h i = absurd cc

pub are : (b : List ℕ) → ((i : ℕ) → get_or b i 0 < 256) → are_octets b ≡ true
are [] h = refl
are (x ∷ xs) h = and_true (nat_lt x 256) (are_octets xs) (lt-ltb x 256 (h 0)) (are xs (λ i. h (suc i)))

pub taken : (k : ℕ) (b : List ℕ) → ((i : ℕ) → get_or b i 0 < 256) → are_octets (take k b) ≡ true
taken zero b h = refl
taken (suc k) [] h = refl
taken (suc k) (x ∷ xs) h = and_true (nat_lt x 256) (are_octets (take k xs)) (lt-ltb x 256 (h 0)) (taken k xs (λ i. h (suc i)))

pub is_octets : (b : List ℕ) → IsTrue (are_octets b) → IsOctets b
is_octets [] h = tt
is_octets (x ∷ xs) h = let t = both (nat_lt x 256) (are_octets xs) h in (ltb-true x 256 t.0, is_octets xs t.1)

joined : (a b : List ℕ) → IsTrue (are_octets a) → IsTrue (are_octets b) → IsTrue (are_octets (a ++ b))
joined [] b h i = i
joined (x ∷ xs) b h i = let t = both (nat_lt x 256) (are_octets xs) h in and_true (nat_lt x 256) (are_octets (xs ++ b)) t.0 (joined xs b t.1 i)

pub octet : (n : ℕ) (ns : List ℕ) → n < 256 → IsTrue (are_octets ns) → IsTrue (are_octets (n ∷ ns))
octet n ns h i = and_true (nat_lt n 256) (are_octets ns) (lt-ltb n 256 h) i

one : (n : ℕ) → n < 256 → IsTrue (are_octets (n ∷ []))
one n h = and_true (nat_lt n 256) true (lt-ltb n 256 h) refl

digits_in_octets : (k n : ℕ) → n ≤ k → IsTrue (are_octets (digits_in k n))
unfolding digits_in
digits_in_octets zero n h = one n (omega arith)
digits_in_octets (suc k) n h =
    elim (cases_lt n 256) [
      | inl lt ↦ rw (lt-ltb n 256 lt, digits_in) (one n lt)
      | inr le ↦ rw (le-ltb n 256 le, digits_in) (joined (digits_in k (n / 256)) ((n % 256) ∷ []) (digits_in_octets k (n / 256) (omega arith)) (one (n % 256) (omega arith)))
    ]

pub digits_octets : (n : ℕ) → IsTrue (are_octets (digits n))
unfolding digits
digits_octets n = digits_in_octets n n (omega arith)

shortest_in_octets : (k n : ℕ) → n ≤ k → IsTrue (are_octets (shortest_in k n))
unfolding shortest_in
shortest_in_octets zero n h = one n (omega arith)
shortest_in_octets (suc k) n h =
    elim (cases_lt n 128) [
      | inl lt ↦ rw (lt-ltb n 128 lt, shortest_in) (one n (omega arith))
      | inr le ↦ rw (le-ltb n 128 le, shortest_in) (joined (shortest_in k (n / 256)) ((n % 256) ∷ []) (shortest_in_octets k (n / 256) (omega arith)) (one (n % 256) (omega arith)))
    ]

pub shortest_octets : (n : ℕ) → IsTrue (are_octets (shortest n))
unfolding shortest
shortest_octets n = shortest_in_octets n n (omega arith)
