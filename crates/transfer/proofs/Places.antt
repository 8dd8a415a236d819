-- Drawn octets in their places.
use Rattle.std.proofs.Common.{ℕ, zero, suc, ◌≡◌, ◌+◌, ◌*◌, ◌<◌, List, [], ◌∷◌, ◌++◌, length, sym, ap, ◌∙◌, arith, take, drop, get_or}
use Rattle.std.proofs.lemmas.List.{append_assoc}
use Rattle.std.proofs.Math.Seq.{drop-append-add, take-append_seam}
use Rattle.transfer.specs.Document.{IsDocument}
use Rattle.transfer.specs.Sealing.{AreDrawn}
use Rattle.transfer.proofs.Drawn.{sealed_length}

cut : (d first rest : List ℕ) (n m : ℕ) → d ≡ first ++ rest → length first ≡ m → drop (m + n) d ≡ drop n rest
cut d first rest n m is of = ap (drop (m + n)) is ∙ ap (λ k. drop (k + n) (first ++ rest)) (sym of) ∙ drop-append-add first rest n

head_16 : (iv more : List ℕ) → length iv ≡ 16 → take 16 (iv ++ more) ≡ iv
head_16 iv more of = ap (λ k. take k (iv ++ more)) (sym of) ∙ take-append_seam iv more

pub in_place : (rounds : ℕ) (q : List ℕ) (ks : List (List ℕ)) (bs : List (List ℕ)) (d : List ℕ) → AreDrawn rounds q ks bs d
    → (i : ℕ) (k : List ℕ) (b : List ℕ) → i < length ks → k ≡ get_or ks i k → b ≡ get_or bs i b
    → IsDocument b rounds (take 16 (drop (32 * i) d)) (take 16 (drop (32 * i + 16) d)) q k
in_place rounds q [] [] d a i k b lt at is = absurd (omega (arith, lt))
in_place rounds q [] (c ∷ bs) d a i k b lt at is = absurd a
in_place rounds q (j ∷ ks) [] d a i k b lt at is = absurd a
in_place rounds q (j ∷ ks) (c ∷ bs) d a zero k b lt at is =
    let s = a.3 in
    let whole : d ≡ s.iv ++ (s.salt ++ a.1) = a.2 ∙ ap (λ t. t ++ a.1) s.are ∙ append_assoc s.iv s.salt a.1 in
    let front : take 16 (drop (32 * 0) d) ≡ s.iv = ap (λ t. take 16 t) whole ∙ head_16 s.iv (s.salt ++ a.1) s.of_16 in
    let next : take 16 (drop (32 * 0 + 16) d) ≡ s.salt = ap (λ t. take 16 t) (cut d s.iv (s.salt ++ a.1) 0 16 whole s.of_16) ∙ head_16 s.salt a.1 s.and_16 in
    let key : k ≡ j = at in
    let document : b ≡ c = is in
    rw (front, next, key, document) s.is
in_place rounds q (j ∷ ks) (c ∷ bs) d a (suc i) k b lt at is =
    let of = sealed_length rounds q a.0 j c a.3 in
    let times : 32 * suc i ≡ 32 + 32 * i = omega arith in
    let more : 32 * suc i + 16 ≡ 32 + (32 * i + 16) = omega arith in
    let one : drop (32 * suc i) d ≡ drop (32 * i) a.1 = ap (λ n. drop n d) times ∙ cut d a.0 a.1 (32 * i) 32 a.2 of in
    let two : drop (32 * suc i + 16) d ≡ drop (32 * i + 16) a.1 = ap (λ n. drop n d) more ∙ cut d a.0 a.1 (32 * i + 16) 32 a.2 of in
    rw (one, two) (in_place rounds q ks bs a.1 a.4 i k b (omega (arith, lt)) at is)
