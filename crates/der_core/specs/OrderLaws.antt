-- lemmas only: nothing to believe here
-- The order of texts, element by element: tags first, then lengths, then values.
use Rattle.std.proofs.Common.{◌≡◌, ℕ, suc, ◌+◌, ◌*◌, ◌-◌, ◌<◌, ◌≤◌, List, [], ◌∷◌, ◌++◌, length, take, drop, refl, sym, ap, subst, ◌∙◌, append_assoc, append-nil, arith, inl, inr}
use Rattle.std.proofs.lemmas.Bool.{cases_lt}
use Rattle.std.proofs.lemmas.List.{take-append-drop, length-drop}
use Rattle.std.specs.declared.cmp.Ordering.{Ordering}
use Rattle.std.specs.declared.cmp.Ordering.TheVariants.{Less, Equal, Greater}
use Rattle.std.specs.Ordering.{ordering_then, ordering_reverse, nat_cmp}
use Rattle.std.specs.Cmp.{nat_cmp_is}
use Rattle.std.specs.Cmp.Lexicographic.{nat_list_cmp_total}
use Rattle.asn1_core.specs.Der.{el, len, digits}
use Rattle.asn1_core.specs.Reading.{number_on}
use Rattle.asn1_core.specs.OctetLaws.{IsOctets, is_octets, digits_octets}
use Rattle.asn1_core.specs.DigitLaws.{front, number_digits}
use Rattle.asn1_core.specs.ElementLaws.{len_small, len_large}
use Rattle.der_core.specs.Order.{octet_cmp, header_order, IsElementText}

is_less : (m n : ℕ) → m < n → nat_cmp m n ≡ Less
is_less m n h = sym (nat_cmp_is m n Less h)

is_same : (m n : ℕ) → m ≡ n → nat_cmp m n ≡ Equal
is_same m n h = sym (nat_cmp_is m n Equal h)

is_greater : (m n : ℕ) → n < m → nat_cmp m n ≡ Greater
is_greater m n h = sym (nat_cmp_is m n Greater h)

same_is : (m n : ℕ) → nat_cmp m n ≡ Equal → m ≡ n
same_is m n e =
    elim (cases_lt m n) [
      | inl lt ↦ let f : Less ≡ Equal = sym (is_less m n lt) ∙ e in absurd cc
      | inr le ↦ elim (cases_lt n m) [
        | inl gt ↦ let f : Greater ≡ Equal = sym (is_greater m n gt) ∙ e in absurd cc
        | inr ge ↦ omega arith
      ]
    ]

then_assoc : (p q r : Ordering) → ordering_then p (ordering_then q r) ≡ ordering_then (ordering_then p q) r
then_assoc Less q r = refl
then_assoc Equal q r = refl
then_assoc Greater q r = refl

-- lists with one front
front_cmp : (a x y : List ℕ) → octet_cmp (a ++ x) (a ++ y) ≡ octet_cmp x y
front_cmp [] x y = refl
front_cmp (b ∷ a) x y = rw (is_same b b refl) (front_cmp a x y)

-- lists with fronts of one length
long_cmp : (v w x y : List ℕ) → length v ≡ length w → octet_cmp (v ++ x) (w ++ y) ≡ ordering_then (octet_cmp v w) (octet_cmp x y)
long_cmp [] [] x y e = refl
long_cmp [] (b ∷ w) x y e = absurd (omega arith)
long_cmp (a ∷ v) [] x y e = absurd (omega arith)
long_cmp (a ∷ v) (b ∷ w) x y e =
    ap (λ (o : Ordering). ordering_then (nat_cmp a b) o) (long_cmp v w x y (omega arith)) ∙ then_assoc (nat_cmp a b) (octet_cmp v w) (octet_cmp x y)

-- ---- digits are ordered as their numbers

grows : (n : ℕ) (bs : List ℕ) → n ≤ number_on n bs
grows n [] = omega arith
grows n (b ∷ bs) = omega (arith, grows (256 * n + b) bs)

bigger : (x y : ℕ) (a b : List ℕ) → x < y → length a ≡ length b → IsOctets a → number_on x a < number_on y b
bigger x y [] [] h e fits = h
bigger x y [] (d ∷ b) h e fits = absurd (omega arith)
bigger x y (c ∷ a) [] h e fits = absurd (omega arith)
bigger x y (c ∷ a) (d ∷ b) h e fits = bigger (256 * x + c) (256 * y + d) a b (omega (arith, fits.0)) (omega arith) fits.1

digits_less : (x : ℕ) (a b v w : List ℕ) → length a ≡ length b → IsOctets a → IsOctets b → number_on x a < number_on x b → octet_cmp (a ++ v) (b ++ w) ≡ Less
digits_less x [] [] v w e f g h = absurd (omega arith)
digits_less x [] (d ∷ b) v w e f g h = absurd (omega arith)
digits_less x (c ∷ a) [] v w e f g h = absurd (omega arith)
digits_less x (c ∷ a) (d ∷ b) v w e f g h =
    elim (cases_lt c d) [
      | inl lt ↦ rw (is_less c d lt) refl
      | inr le ↦ elim (cases_lt d c) [
        | inl gt ↦ absurd (omega (arith, h, bigger (256 * x + d) (256 * x + c) b a (omega arith) (omega arith) g.1))
        | inr ge ↦
            let s : d ≡ c = omega arith in
            rw (is_same c d (sym s)) (digits_less (256 * x + c) a b v w (omega arith) f.1 g.1 (subst (λ (k : ℕ). number_on (256 * x + c) a < number_on (256 * x + k) b) s h))
      ]
    ]

number_append : (n : ℕ) (a b : List ℕ) → number_on n (a ++ b) ≡ number_on (number_on n a) b
number_append n [] b = refl
number_append n (c ∷ a) b = number_append (256 * n + c) a b

-- a smaller number has no more digits
digits_longer : (m n : ℕ) → 0 < m → m < n → length (digits m) ≤ length (digits n)
digits_longer m n pos h =
    elim (cases_lt (length (digits n)) (length (digits m))) [
      | inr le ↦ le
      | inl lt ↦
          let f = front m pos in
          let k = length f.others - length (digits n) in
          let size : length (digits m) ≡ suc (length f.others) = ap length f.is in
          let cut : take k f.others ++ drop k f.others ≡ f.others = take-append-drop k f.others in
          let back : length (digits n) ≡ length (drop k f.others) = omega (arith, length-drop k f.others, size, lt) in
          let up : 0 < number_on f.first (take k f.others) = omega (arith, grows f.first (take k f.others), f.positive) in
          let low : number_on 0 (digits n) < number_on (number_on f.first (take k f.others)) (drop k f.others) = bigger 0 (number_on f.first (take k f.others)) (digits n) (drop k f.others) up back (is_octets (digits n) (digits_octets n)) in
          let all : number_on (number_on f.first (take k f.others)) (drop k f.others) ≡ number_on 0 (f.first ∷ f.others) =
          sym (number_append f.first (take k f.others) (drop k f.others)) ∙ ap (λ (l : List ℕ). number_on f.first l) cut ∙ ap (λ (c : ℕ). number_on c f.others) (omega arith) in
          let is : number_on 0 (f.first ∷ f.others) ≡ m = ap (λ (l : List ℕ). number_on 0 l) (sym f.is) ∙ number_digits m in
          absurd (omega (arith, low, all, is, number_digits n, h))
    ]

-- ---- length octets are ordered as lengths

len_less : (m n : ℕ) (v w : List ℕ) → m < n → octet_cmp (len m ++ v) (len n ++ w) ≡ Less
len_less m n v w h =
    elim (cases_lt n 128) [
      | inl lt ↦ rw (len_small m (omega arith), len_small n lt, is_less m n h) refl
      | inr le ↦ elim (cases_lt m 128) [
        | inl lt ↦ rw (len_small m lt, len_large n le, is_less m (128 + length (digits n)) (omega arith)) refl
        | inr ge ↦ elim (cases_lt (length (digits m)) (length (digits n))) [
          | inl lt ↦ rw (len_large m ge, len_large n le, is_less (128 + length (digits m)) (128 + length (digits n)) (omega arith)) refl
          | inr same ↦
              let size : length (digits m) ≡ length (digits n) = omega (arith, digits_longer m n (omega arith) h, same) in
              rw (len_large m ge, len_large n le, is_same (128 + length (digits m)) (128 + length (digits n)) (omega (arith, size)))
              (digits_less 0 (digits m) (digits n) v w size (is_octets (digits m) (digits_octets m)) (is_octets (digits n) (digits_octets n)) (rw (number_digits m, number_digits n) h))
        ]
      ]
    ]

len_cmp : (m n : ℕ) (v w : List ℕ) → octet_cmp (len m ++ v) (len n ++ w) ≡ ordering_then (nat_cmp m n) (octet_cmp v w)
len_cmp m n v w =
    elim (cases_lt m n) [
      | inl lt ↦ rw (is_less m n lt) (len_less m n v w lt)
      | inr le ↦ elim (cases_lt n m) [
        | inl gt ↦ rw (is_greater m n gt) (nat_list_cmp_total.antisymm (len m ++ v) (len n ++ w) ∙ ap ordering_reverse (len_less n m w v gt))
        | inr ge ↦
            let s : m ≡ n = omega arith in
            rw (is_same m n s) (ap (λ (k : ℕ). octet_cmp (len k ++ v) (len n ++ w)) s ∙ front_cmp (len n) v w)
      ]
    ]

-- ---- elements

el_cmp : (t u : ℕ) (v w x y : List ℕ) → octet_cmp (el t v ++ x) (el u w ++ y) ≡ ordering_then (header_order t (length v) u (length w)) (octet_cmp (v ++ x) (w ++ y))
unfolding el
el_cmp t u v w x y =
    ap (λ (o : Ordering). ordering_then (nat_cmp t u) o)
    (ap (λ (l : List ℕ). octet_cmp l ((len (length w) ++ w) ++ y)) (append_assoc (len (length v)) v x) ∙ ap (λ (l : List ℕ). octet_cmp (len (length v) ++ (v ++ x)) l) (append_assoc (len (length w)) w y) ∙ len_cmp (length v) (length w) (v ++ x) (w ++ y))
    ∙ then_assoc (nat_cmp t u) (nat_cmp (length v) (length w)) (octet_cmp (v ++ x) (w ++ y))

pub element_cmp : (t u : ℕ) (v w : List ℕ) → octet_cmp (el t v) (el u w) ≡ ordering_then (header_order t (length v) u (length w)) (octet_cmp v w)
element_cmp t u v w =
    let e = el_cmp t u v w [] [] in
    rw (append-nil (el t v), append-nil (el u w), append-nil v, append-nil w) at e

then_same : (p q : Ordering) → ordering_then p q ≡ Equal → q ≡ Equal
then_same Less q e = absurd cc
then_same Equal q e = e
then_same Greater q e = absurd cc

join : (h p q r : Ordering) → (h ≡ Equal → p ≡ ordering_then q r) → ordering_then h p ≡ ordering_then (ordering_then h q) r
join Less p q r f = refl
join Equal p q r f = f refl
join Greater p q r f = refl

-- what follows elements counts only where they are equal
pub elements_cmp : (t u : ℕ) (v w x y : List ℕ) → octet_cmp (el t v ++ x) (el u w ++ y) ≡ ordering_then (octet_cmp (el t v) (el u w)) (octet_cmp x y)
elements_cmp t u v w x y =
    el_cmp t u v w x y
    ∙ join (header_order t (length v) u (length w)) (octet_cmp (v ++ x) (w ++ y)) (octet_cmp v w) (octet_cmp x y)
    (λ e. long_cmp v w x y (same_is (length v) (length w) (then_same (nat_cmp t u) (nat_cmp (length v) (length w)) e)))
    ∙ ap (λ (o : Ordering). ordering_then o (octet_cmp x y)) (sym (element_cmp t u v w))

pub elements_are_ordered : (a b x y : List ℕ) → IsElementText a → IsElementText b → octet_cmp (a ++ x) (b ++ y) ≡ ordering_then (octet_cmp a b) (octet_cmp x y)
elements_are_ordered a b x y (t, v, e) (u, w, f) = rw (e, f) (elements_cmp t u v w x y)

-- nothing comes before an element
pub nothing_first : (b : List ℕ) → IsElementText b → octet_cmp [] b ≡ Less
unfolding el
nothing_first b (u, w, f) = rw f refl

pub nothing_last : (a : List ℕ) → IsElementText a → octet_cmp a [] ≡ Greater
unfolding el
nothing_last a (t, v, e) = rw e refl

-- the header decides, and else the value
pub by_value : (t u m n : ℕ) (v w : List ℕ) (h : Ordering) → h ≡ header_order t m u n → m ≡ length v → n ≡ length w → ordering_then h (octet_cmp v w) ≡ octet_cmp (el t v) (el u w)
by_value t u m n v w h e k l = rw (e, k, l) (sym (element_cmp t u v w))
