-- One octet of an identifier more.
use Rattle.std.proofs.Common.{◌≡◌, ℕ, suc, ◌+◌, ◌*◌, ◌<◌, ◌≤◌, List, [], ◌∷◌, length, drop, get_or, refl, sym, subst, add-one, drop-cons, nat_eq, false, Option, Some, None, arith}
use Rattle.std.proofs.Math.ListN.{drop_of_length-le}
use Rattle.asn1_core.specs.Reading.{number_on}
use Rattle.asn1_core.specs.Identifier.{subidentifiers, next_state}

one_stops : (n b : ℕ) (bs : List ℕ) → next_state n b ≡ None → subidentifiers n (b ∷ bs) ≡ false
one_stops n b bs e = subst (λ (o : Option ℕ). elim o [ None ↦ false | Some k ↦ subidentifiers k bs ] ≡ false) (sym e) refl

one_goes_on : (n m b : ℕ) (bs : List ℕ) → next_state n b ≡ Some m → subidentifiers n (b ∷ bs) ≡ subidentifiers m bs
one_goes_on n m b bs e = subst (λ (o : Option ℕ). elim o [ None ↦ false | Some k ↦ subidentifiers k bs ] ≡ subidentifiers m bs) (sym e) refl

pub sub_stops : (n i : ℕ) (xs : List ℕ) → i < length xs → next_state n (get_or xs i 0) ≡ None → subidentifiers n (drop i xs) ≡ false
sub_stops n i xs h e = rw (drop-cons xs i 0) (one_stops n (get_or xs i 0) (drop (suc i) xs) e)

pub sub_goes_on : (n m i : ℕ) (xs : List ℕ) → i < length xs → next_state n (get_or xs i 0) ≡ Some m → subidentifiers n (drop i xs) ≡ subidentifiers m (drop (i + 1) xs)
sub_goes_on n m i xs h e = rw (add-one, drop-cons xs i 0) (one_goes_on n m (get_or xs i 0) (drop (suc i) xs) e)

pub sub_ends : (n i : ℕ) (xs : List ℕ) → length xs ≤ i → subidentifiers n (drop i xs) ≡ nat_eq n 0
sub_ends n i xs h = rw (drop_of_length-le xs h) refl

number_grows : (n : ℕ) (bs : List ℕ) → n ≤ number_on n bs
number_grows n [] = omega arith
number_grows n (b ∷ bs) = omega (arith, number_grows (256 * n + b) bs)

-- one octet of a number more
pub number_more : (n i : ℕ) (xs : List ℕ) → i < length xs → 256 * n + get_or xs i 0 ≤ number_on n (drop i xs)
number_more n i xs h = rw (drop-cons xs i 0) (number_grows (256 * n + get_or xs i 0) (drop (suc i) xs))
