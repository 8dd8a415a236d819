-- The tables' places.
use Rattle.std.proofs.Common.{◌≡◌, sym, ℕ, ◌+◌, ◌<◌, ◌≤◌, List, length, get_or, refl, arith, Bool, true, nat_lt, ◌&&◌, subst}
use Rattle.std.proofs.lemmas.Bool.{and_parts}
use Rattle.std.proofs.lemmas.Bool.Decides.{Decides-ltb}
use Rattle.block_core.specs.Bits.{Places}
use Rattle.block_core.specs.DesTables.{permuted_choice_1, permuted_choice_2, left_shifts}
use Rattle.block_core.specs.Des.{final_permutation, place_of}
use Rattle.block_core.specs.TableLaws.{all_below, all_below_at}

place_in : ℕ → List ℕ → ℕ → Bool
place_in n table i = nat_lt 0 (get_or table i 0) && nat_lt (get_or table i 0) (n + 1)

places : (n : ℕ) (table : List ℕ) → all_below (place_in n table) (length table) ≡ true → Places n table
unfolding place_in
places n table t i h =
    let both = and_parts _ _ (all_below_at (place_in n table) (length table) t i h) in
    let low : 0 < get_or table i 0 = (Decides-ltb _ _).0 both.0 in
    let high : get_or table i 0 < n + 1 = (Decides-ltb _ _).0 both.1 in
    (omega (arith, low), omega (arith, high))

choice_1_all : all_below (place_in 64 permuted_choice_1) (length permuted_choice_1) ≡ true
unfolding place_in final_permutation place_of
choice_1_all = refl

pub choice_1_places : (bs : List ℕ) → length bs ≡ 64 → Places (length bs) permuted_choice_1
choice_1_places bs l = subst (λ (n : ℕ). Places n permuted_choice_1) (sym l) (places 64 permuted_choice_1 choice_1_all)

choice_2_all : all_below (place_in 56 permuted_choice_2) (length permuted_choice_2) ≡ true
unfolding place_in final_permutation place_of
choice_2_all = refl

pub choice_2_places : (bs : List ℕ) → length bs ≡ 56 → Places (length bs) permuted_choice_2
choice_2_places bs l = subst (λ (n : ℕ). Places n permuted_choice_2) (sym l) (places 56 permuted_choice_2 choice_2_all)

shifts_all : all_below (λ i. nat_lt (get_or left_shifts i 0) 29) 16 ≡ true
shifts_all = refl

pub shift_small : (i : ℕ) → i < 16 → get_or left_shifts i 0 ≤ 28
shift_small i h =
    let low : get_or left_shifts i 0 < 29 = (Decides-ltb _ _).0 (all_below_at (λ k. nat_lt (get_or left_shifts k 0) 29) 16 shifts_all i h) in
    omega (arith, low)
