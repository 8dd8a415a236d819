-- Lines in a buffer, and hexadecimal text by its parts.
use Rattle.std.proofs.Common.{◌≡◌, ℕ, ◌+◌, ◌*◌, ◌<◌, ◌≤◌, List, [], ◌∷◌, ◌++◌, length, take, drop, slice_index, refl, sym, ap, arith, ◌∙◌, Bool, true, false, ◌&&◌, Some, Ok, subst, zero, suc, get_or}
use Rattle.std.specs.Prelude.{codes}
use Rattle.std.proofs.lemmas.List.{append_assoc, drop-drop, drop_at, drop_more, get_or-drop, get_or-replicate, get_or-take, length-append, take_at}
use Rattle.std.specs.Simd.{first_chunks}
use Rattle.std.proofs.Math.ListN.{replicate}
use borrow.Rule.Slice.PartMut.{put_mid}
use Rattle.std.proofs.lemmas.List.Elements.{All-more}
use Rattle.std.specs.List.{AllPass}
use Rattle.hex.specs.Hex.{hex_digit_value, is_hex_digit, pair_value}

-- Two digits are an octet.
pub pair_of : (a b i x y : ℕ) → hex_digit_value a ≡ Some x → hex_digit_value b ≡ Some y → pair_value a b i ≡ Ok (x * 16 + y)
pair_of a b i x y p q = rw (p, q) refl

-- One octet more is tested, where the test of those before came to `all`.
pub digits_more : (xs : List ℕ) (i : ℕ) (all b : Bool) → i < length xs → (all ≡ true → AllPass is_hex_digit (take i xs)) → b ≡ is_hex_digit (slice_index xs i) → (all && b) ≡ true → AllPass is_hex_digit (take (i + 1) xs)
digits_more xs i true b lt before is e = All-more (λ x. is_hex_digit x ≡ true) xs i 0 lt (before refl) (sym is ∙ e)
digits_more xs i false b lt before is e = cc

pub digits_none : (xs : List ℕ) (i : ℕ) (all b : Bool) → i < length xs → (all ≡ false → AllPass is_hex_digit xs → ⊥) → b ≡ is_hex_digit (slice_index xs i) → (all && b) ≡ false → AllPass is_hex_digit xs → ⊥
digits_none xs i true b lt before is e h = let digit = h i 0 lt in cc
digits_none xs i false b lt before is e h = before refl h

-- A name in a buffer of 17 line feeds (10) after a front of 7 octets.
pub name_in_feeds : (front name : List ℕ) (n : ℕ) → length front ≡ 7 → length name ≤ 16 → n ≡ length name
    → take (8 + length name) (put_mid 7 n (front ++ replicate 17 10) name) ≡ front ++ (name ++ 10 ∷ [])
name_in_feeds front name n seven short is =
    let k = length name in
    let buffer = front ++ replicate 17 10 in
    let feed : drop n (drop 7 buffer) ≡ 10 ∷ drop (n + 1) (replicate 17 10) =
    ap (drop n) (drop_at front (replicate 17 10) 7 seven) ∙ drop_more (replicate 17 10) n 10 (omega (arith, is, short)) ∙ ap (λ (x : ℕ). x ∷ drop (n + 1) (replicate 17 10)) (get_or-replicate 17 n 10 10 (omega (arith, is, short))) in
    let parts : put_mid 7 n buffer name ≡ (front ++ (name ++ 10 ∷ [])) ++ drop (n + 1) (replicate 17 10) =
    ap (λ (z : List ℕ). z ++ (name ++ drop n (drop 7 buffer))) (take_at front (replicate 17 10) 7 seven) ∙ ap (λ (z : List ℕ). front ++ (name ++ z)) feed
    ∙ ap (λ (z : List ℕ). front ++ z) (sym (append_assoc name (10 ∷ []) (drop (n + 1) (replicate 17 10)))) ∙ sym (append_assoc front (name ++ 10 ∷ []) (drop (n + 1) (replicate 17 10))) in
    ap (take (8 + k)) parts ∙ take_at (front ++ (name ++ 10 ∷ [])) (drop (n + 1) (replicate 17 10)) (8 + k) (omega (arith, seven, length-append front (name ++ 10 ∷ []), length-append name (10 ∷ [])))

-- The line of a name.
pub named_line : (front said name : List ℕ) (n : ℕ) → front ≡ codes "error: " → said ≡ name → length said ≤ 16 → n ≡ length said → (m : ℕ) → m ≡ length said
    → take (8 + m) (put_mid 7 n (front ++ replicate 17 10) said) ≡ codes "error: " ++ name ++ codes "\n"
named_line front said name n p q short is m same =
    ap (λ (l : ℕ). take (8 + l) (put_mid 7 n (front ++ replicate 17 10) said)) same ∙ name_in_feeds front said n (ap length p) short is ∙ sym (append_assoc front said (10 ∷ [])) ∙ rw (p, q) refl

-- What is known of an octet of a pair.
pub known_as : (digit octet x : ℕ) → digit ≡ octet → is_hex_digit octet ≡ true → (is_hex_digit digit ≡ true → hex_digit_value digit ≡ Some x) → hex_digit_value octet ≡ Some x
known_as digit octet x same is known = subst (λ (d : ℕ). hex_digit_value d ≡ Some x) same (known (subst (λ (d : ℕ). is_hex_digit d ≡ true) (sym same) is))

-- The octets of a pair among pairs.
pub pair_at : (n : ℕ) (xs : List ℕ) (i : ℕ) (d : List ℕ) → i < n → get_or (first_chunks 2 n xs) i d ≡ take 2 (drop (2 * i) xs)
pair_at zero xs i d lt = absurd (omega arith)
pair_at (suc n) xs zero d lt = refl
pair_at (suc n) xs (suc i) d lt =
    let more : 2 + 2 * i ≡ 2 * suc i = omega arith in
    pair_at n (drop 2 xs) i d (omega arith) ∙ ap (take 2) (drop-drop (2 * i) 2 xs ∙ ap (λ (k : ℕ). drop k xs) more)

pub pair_octet : (pairs : List (List ℕ)) (xs : List ℕ) (n i k : ℕ) → pairs ≡ first_chunks 2 n xs → i < n → k < 2 → slice_index (get_or pairs i []) k ≡ slice_index xs (2 * i + k)
pair_octet pairs xs n i k is lt small =
    ap (λ (p : List ℕ). slice_index p k) (ap (λ (ps : List (List ℕ)). get_or ps i []) is ∙ pair_at n xs i [] lt) ∙ get_or-take 2 (drop (2 * i) xs) k 0 small ∙ get_or-drop (2 * i) xs k 0
