-- The prefix law of elements, with no bound on them.
use Rattle.std.proofs.Common.{◌≡◌, ℕ, ◌+◌, List, ◌∷◌, ◌++◌, length, take, drop, refl, sym, ap, ◌∙◌, append_assoc, arith, inl, inr}
use Rattle.std.proofs.lemmas.Bool.{cases_lt}
use Rattle.std.proofs.lemmas.List.{take_at, drop_at}
use Rattle.asn1_core.specs.Der.{el, len, digits}
use Rattle.asn1_core.specs.Reading.{number_on}
use Rattle.asn1_core.specs.DigitLaws.{number_digits}
use Rattle.asn1_core.specs.ElementLaws.{len_small, len_large}

-- equal joins with fronts of one length
pub same_front : {A : Type 0} (a b x y : List A) → length a ≡ length b → a ++ x ≡ b ++ y → (a ≡ b) × (x ≡ y)
same_front a b x y size e =
    (sym (take_at a x (length a) refl) ∙ ap (λ (l : List _). take (length a) l) e ∙ take_at b y (length a) (sym size), sym (drop_at a x (length a) refl) ∙ ap (λ (l : List _). drop (length a) l) e ∙ drop_at b y (length a) (sym size))

head_is : (a b : ℕ) (x y : List ℕ) → a ∷ x ≡ b ∷ y → (a ≡ b) × (x ≡ y)
head_is a b x y e = (cc, cc)

digits_one_way : (m n : ℕ) → digits m ≡ digits n → m ≡ n
digits_one_way m n e = sym (number_digits m) ∙ ap (λ (l : List ℕ). number_on 0 l) e ∙ number_digits n

pub len_one : (m n : ℕ) (x y : List ℕ) → len m ++ x ≡ len n ++ y → (m ≡ n) × (x ≡ y)
len_one m n x y e =
    elim (cases_lt m 128) [
      | inl lt ↦ elim (cases_lt n 128) [
        | inl lt' ↦ head_is m n x y (rw (len_small m lt, len_small n lt') at e)
        | inr le' ↦ let h = head_is m (128 + length (digits n)) x (digits n ++ y) (rw (len_small m lt, len_large n le') at e) in absurd (omega (arith, h.0))
      ]
      | inr le ↦ elim (cases_lt n 128) [
        | inl lt' ↦ let h = head_is (128 + length (digits m)) n (digits m ++ x) y (rw (len_large m le, len_small n lt') at e) in absurd (omega (arith, h.0))
        | inr le' ↦
            let h = head_is (128 + length (digits m)) (128 + length (digits n)) (digits m ++ x) (digits n ++ y) (rw (len_large m le, len_large n le') at e) in
            let s = same_front (digits m) (digits n) x y (omega (arith, h.0)) h.1 in
            (digits_one_way m n s.0, s.1)
      ]
    ]

pub el_one : (t u : ℕ) (v w x y : List ℕ) → el t v ++ x ≡ el u w ++ y → (t ≡ u) × (v ≡ w) × (x ≡ y)
unfolding el
el_one t u v w x y e =
    let h = head_is t u ((len (length v) ++ v) ++ x) ((len (length w) ++ w) ++ y) e in
    let l = len_one (length v) (length w) (v ++ x) (w ++ y) (sym (append_assoc (len (length v)) v x) ∙ h.1 ∙ append_assoc (len (length w)) w y) in
    let s = same_front v w x y l.0 l.1 in
    (h.0, s.0, s.1)
