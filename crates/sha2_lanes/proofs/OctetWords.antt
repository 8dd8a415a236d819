-- The octets of the words of 32 octets are those octets.
use Rattle.std.proofs.Common.{w32, ◌≡◌, ℕ, zero, suc, ◌+◌, ◌*◌, ◌<◌, ◌≤◌, List, [], ◌∷◌, ◌++◌, length, take, slice_index, ap, ap₂, sym, ◌∙◌, arith, lit<, refl}
use Rattle.std.proofs.lemmas.List.{take_all, take_more}
use Rattle.std.proofs.lemmas.Nat.{be_bytes_4}
use Rattle.std.specs.Int.{to_be_bytes}
use Rattle.sha2.specs.Sha256.{digest_bytes, word_at}
use Rattle.sha2_lanes.specs.Lanes.{octets}

each_small : (a b c d : ℕ) → a < 256 → b < 256 → c < 256 → d < 256 → (i : ℕ) → slice_index (a ∷ b ∷ c ∷ d ∷ []) i < 256
each_small a b c d p q r s zero = p
each_small a b c d p q r s (suc zero) = q
each_small a b c d p q r s (suc (suc zero)) = r
each_small a b c d p q r s (suc (suc (suc zero))) = s
each_small a b c d p q r s (suc (suc (suc (suc i)))) = lit< tt

four_pushed : (p : List ℕ) (a b c d : ℕ) → p ++ a ∷ b ∷ c ∷ d ∷ [] ≡ (((p ++ a ∷ []) ++ b ∷ []) ++ c ∷ []) ++ d ∷ []
four_pushed [] a b c d = refl
four_pushed (x ∷ p) a b c d = ap (λ l. x ∷ l) (four_pushed p a b c d)

one_more : (t : List ℕ) (i j : ℕ) → j ≡ i + 1 → i < length t → take i t ++ slice_index t i ∷ [] ≡ take j t
one_more t i j e lt = sym (ap (λ k. take k t) e ∙ take_more t i 0 lt)

four_more : (t : List ℕ) (i : ℕ) → i + 4 ≤ length t
    → take i t ++ slice_index t i ∷ slice_index t (i + 1) ∷ slice_index t (i + 2) ∷ slice_index t (i + 3) ∷ [] ≡ take (i + 4) t
four_more t i le =
    four_pushed (take i t) _ _ _ _
    ∙ ap (λ p. ((p ++ slice_index t (i + 1) ∷ []) ++ slice_index t (i + 2) ∷ []) ++ slice_index t (i + 3) ∷ []) (one_more t i (i + 1) refl (omega arith))
    ∙ ap (λ p. (p ++ slice_index t (i + 2) ∷ []) ++ slice_index t (i + 3) ∷ []) (one_more t (i + 1) (i + 2) (omega arith) (omega arith))
    ∙ ap (λ p. p ++ slice_index t (i + 3) ∷ []) (one_more t (i + 2) (i + 3) (omega arith) (omega arith))
    ∙ one_more t (i + 3) (i + 4) (omega arith) (omega arith)

module _ (u t : List ℕ) (long : length t ≡ 32) (small : (i : ℕ) → slice_index t i < 256)
    (words : (k : ℕ) → k < 8 → slice_index u k ≡ word_at t (4 * k)) where
  next_bytes : (n : ℕ) → n < 8 → to_be_bytes w32 (slice_index u n)
      ≡ slice_index t (4 * n) ∷ slice_index t (4 * n + 1) ∷ slice_index t (4 * n + 2) ∷ slice_index t (4 * n + 3) ∷ []
  next_bytes n lt =
      be_bytes_4 (slice_index t (4 * n) ∷ slice_index t (4 * n + 1) ∷ slice_index t (4 * n + 2) ∷ slice_index t (4 * n + 3) ∷ []) (slice_index u n) refl
      (each_small _ _ _ _ (small (4 * n)) (small (4 * n + 1)) (small (4 * n + 2)) (small (4 * n + 3))) (words n lt)

  front : (n : ℕ) → n ≤ 8 → digest_bytes u n ≡ take (4 * n) t
  unfolding digest_bytes
  front zero le = refl
  front (suc n) le =
      let e : 4 * n + 4 ≡ 4 * suc n = omega arith in
      ap₂ (λ (p q : List ℕ). p ++ q) (front n (omega arith)) (next_bytes n (omega arith))
      ∙ four_more t (4 * n) (omega arith) ∙ ap (λ k. take k t) e

  pub octets-words : octets u ≡ t
  octets-words = front 8 (omega arith) ∙ take_all 32 t (omega arith)
