-- Pieces written one after the other.
use Rattle.std.proofs.Common.{◌≡◌, ◌∙◌, sym, ap, ℕ, suc, ◌+◌, ◌*◌, ◌<◌, ◌≤◌, List, [], ◌∷◌, ◌++◌, length, get_or, take, arith}
use borrow.Rule.Slice.PartMut.{put_mid}
use Rattle.std.specs.List.{flat_map}
use Rattle.std.proofs.lemmas.List.{take_more, append-nil, append_assoc}
use Rattle.std.proofs.lemmas.Slice.{take-put_mid}
use Rattle.scrypt_core.specs.BlockMix.{joined}

flat-snoc : (f : ℕ → List ℕ) (xs : List ℕ) (x : ℕ) → flat_map f (xs ++ x ∷ []) ≡ flat_map f xs ++ f x
flat-snoc f [] x = append-nil (f x)
flat-snoc f (y ∷ ys) x = ap (λ (t : List ℕ). f y ++ t) (flat-snoc f ys x) ∙ sym (append_assoc (f y) (flat_map f ys) (f x))

-- a piece of n octets more
pub piece_more : (n i k : ℕ) (b new front : List ℕ) → length new ≡ n → n * i + n ≤ length b → k ≡ n → take (n * i) b ≡ front
    → take (n * (i + 1)) (put_mid (n * i) k b new) ≡ front ++ new
piece_more n i k b new front l room ek is =
    let e : n * (i + 1) ≡ n * i + n = grind arith in
    take-put_mid (n * i) k b new (n * (i + 1)) (omega (arith, e)) (omega (arith, e)) ∙ ap (λ (t : List ℕ). t ++ new) is

pub flat_more : (f : ℕ → List ℕ) (xs : List ℕ) (i : ℕ) → i < length xs → flat_map f (take i xs) ++ f (get_or xs i 0) ≡ flat_map f (take (i + 1) xs)
flat_more f xs i h = sym (flat-snoc f (take i xs) (get_or xs i 0)) ∙ ap (flat_map f) (sym (take_more xs i 0 h))

pub joined_more : (f : ℕ → List ℕ) (i : ℕ) → joined f i ++ f i ≡ joined f (i + 1)
unfolding joined
joined_more f i = let e : suc i ≡ i + 1 = omega arith in ap (joined f) e
