-- Padding that is taken off again.
use Rattle.std.proofs.Common.{◌≡◌, ℕ, ◌+◌, ◌-◌, ◌<◌, Bool, true, false, List, ◌++◌, length, take, get_or, replicate, Option, Some, None, refl, sym, ap, ◌∙◌, arith, length-append, IsTrue}
use Rattle.std.specs.Prelude.{◌≢◌, slice_index, if◌then◌else◌}
use Rattle.std.specs.Str.{bytes_eq}
use Rattle.std.proofs.lemmas.Slice.Eq.{bytes_eq-Decides}
use Rattle.std.proofs.lemmas.List.{take_at, length-replicate, get_or-replicate}
use Rattle.std.proofs.Math.Seq.{get_or-append_right}
use Rattle.std.proofs.lemmas.Nat.{mod_below}
use Rattle.mac_modes.specs.Padding.{pad_count, padded}
use Rattle.pkcs5.specs.Opening.{unpadded}

if_some : {A : Type 0} (t : Bool) (m n : A) → (if t then Some m else None) ≡ Some n → IsTrue t × (m ≡ n)
if_some true m n e = (refl, cc)
if_some false m n e = absurd cc

-- the last octet of a padded text is the number of the padding's octets
last_is : (m : List ℕ) (k : ℕ) → 0 < k → slice_index (m ++ replicate k k) (length (m ++ replicate k k) - 1) ≡ k
last_is m k h =
    let size : length (m ++ replicate k k) ≡ length m + k = length-append m (replicate k k) ∙ ap (λ (n : ℕ). length m + n) (length-replicate k k) in
    let at : length (m ++ replicate k k) - 1 ≡ length m + (k - 1) = omega (arith, size, h) in
    let behind : length m + (k - 1) - length m ≡ k - 1 = omega arith in
    ap (slice_index (m ++ replicate k k)) at ∙ get_or-append_right m (replicate k k) (length m + (k - 1)) 0 (omega arith) ∙ ap (λ (i : ℕ). get_or (replicate k k) i 0) behind ∙ get_or-replicate k (k - 1) k 0 (omega (arith, h))

pub unpadded_of : (n : ℕ) (m : List ℕ) → 0 < n → unpadded n (padded m n) ≡ Some m
unfolding unpadded
unpadded_of n m h =
    let k = pad_count n (length m) in
    let some : 0 < k = let lt = mod_below (length m) n h in omega (arith, lt) in
    let last = last_is m k some in
    let size : length (padded m n) - k ≡ length m = omega (arith, length-append m (replicate k k), length-replicate k k) in
    let front : take (length (padded m n) - slice_index (padded m n) (length (padded m n) - 1)) (padded m n) ≡ m =
    ap (λ (j : ℕ). take (length (padded m n) - j) (padded m n)) last ∙ ap (λ (j : ℕ). take j (padded m n)) size ∙ take_at m (replicate k k) (length m) refl in
    rw (front, (bytes_eq-Decides (padded m n) (padded m n)).1 refl) refl

pub unpadded_is : (n : ℕ) (t m : List ℕ) → unpadded n t ≡ Some m → padded m n ≡ t
unfolding unpadded
unpadded_is n t m e =
    let front = take (length t - slice_index t (length t - 1)) t in
    let h = if_some (bytes_eq (padded front n) t) front m e in
    ap (λ (x : List ℕ). padded x n) (sym h.1) ∙ (bytes_eq-Decides (padded front n) t).0 h.0

pub unpadded_some : (n : ℕ) (t m : List ℕ) → 0 < n → padded m n ≡ t → unpadded n t ≡ Some m
unpadded_some n t m h e = ap (unpadded n) (sym e) ∙ unpadded_of n m h

pub unpadded_none : (n : ℕ) (t : List ℕ) → ((m : List ℕ) → padded m n ≢ t) → unpadded n t ≡ None
unpadded_none n t h = by_case (unpadded n t) refl
  where
    by_case : (r : Option (List ℕ)) → unpadded n t ≡ r → unpadded n t ≡ None
    by_case None e = e
    by_case (Some m) e = absurd (h m (unpadded_is n t m e))
