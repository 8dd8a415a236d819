-- The arcs that are read from an identifier's octets are its arcs.
use Rattle.std.proofs.Common.{◌≡◌, ℕ, suc, ◌+◌, ◌*◌, ◌-◌, ◌<◌, ◌≤◌, true, List, [], ◌∷◌, length, drop, get_or, Option, Some, None, refl, sym, ap, subst, ◌∙◌, arith, inl, inr, IsTrue, nat_lt, if◌then◌else◌, drop-cons, add-one}
use Rattle.std.proofs.lemmas.Bool.{cases_lt, le-ltb, lt-ltb}
use Rattle.std.proofs.Math.ListN.{drop_of_length-le}
use Rattle.std.specs.Prelude.{slice_get}
use Rattle.asn1_core.specs.Identifier.{subidentifiers, is_identifier}
use Rattle.asn1_core.specs.Arcs.{values, first_arc, arcs_of, arcs, HasArcs}
use Rattle.asn1_core.proofs.Identifiers.{subs_read, test_found, test_again, values_nil, values_end, values_more, walked, Walked}

arcs_same : (a b n : ℕ) (ns : List ℕ) → first_arc n ≡ a → n - 40 * a ≡ b → arcs_of (n ∷ ns) ≡ a ∷ b ∷ ns
arcs_same a b n ns e f = rw (e, f) refl

-- the law, both ways: an identifier has the arcs that are read from its octets, and no others
pub arcs_found : (o : List ℕ) → IsTrue (is_identifier o) → HasArcs o (arcs o)
arcs_found o h =
    let (n, ns, u, is, le) = test_found o h in
    let v : values 0 o ≡ n ∷ ns = ap (values 0) is ∙ subs_read (n ∷ ns) u in
    let a = first_arc n in
    let back : 40 * a + (n - 40 * a) ≡ n = omega arith in
    (a, n - 40 * a, ns, ap arcs_of v, omega arith, (λ lt. omega (arith, lt)), rw back u, rw back is, le)

pub arcs_again : (o list : List ℕ) → HasArcs o list → IsTrue (is_identifier o) × (arcs o ≡ list)
arcs_again o list (a, b, ns, list_is, two, small, u, is, le) =
    let v : values 0 o ≡ (40 * a + b) ∷ ns = ap (values 0) is ∙ subs_read ((40 * a + b) ∷ ns) u in
    let first : first_arc (40 * a + b) ≡ a =
    elim (cases_lt a 2) [
      | inl lt ↦ let s = small lt in omega (arith, s)
      | inr ge ↦ omega (arith, ge, two)
    ]
    in
    let second : 40 * a + b - 40 * a ≡ b = omega arith in
    (test_again o (40 * a + b, ns, u, is, le), ap arcs_of v ∙ arcs_same a b (40 * a + b) ns first second ∙ sym list_is)

-- ---- walking over the octets

pub walk : (n i : ℕ) (xs : List ℕ) → i < length xs → subidentifiers n (drop i xs) ≡ true → Walked n (get_or xs i 0) (drop (i + 1) xs) (values n (drop i xs))
walk n i xs h e =
    let d = drop-cons xs i 0 h in
    subst (λ (v : List ℕ). Walked n (get_or xs i 0) (drop (i + 1) xs) (values n v)) (sym d) (subst (λ (k : ℕ). Walked n (get_or xs i 0) (drop k xs) (values n (get_or xs i 0 ∷ drop (suc i) xs))) (sym (add-one i)) (walked n (get_or xs i 0) (drop (suc i) xs) (subst (λ (v : List ℕ). subidentifiers n v ≡ true) d e)))

-- the octets under 128
abbrev pub ends : List ℕ → ℕ
ends [] = 0
ends (b ∷ bs) = (if nat_lt b 128 then 1 else 0) + ends bs

pub values_count : (n : ℕ) (bs : List ℕ) → length (values n bs) ≡ ends bs
values_count n [] = ap length (values_nil n)
values_count n (b ∷ bs) =
    elim (cases_lt b 128) [
      | inl lt ↦ rw (values_end n b bs lt, lt-ltb b 128 lt) (omega (arith, values_count 0 bs))
      | inr ge ↦ rw (values_more n b bs ge, le-ltb b 128 ge) (omega (arith, values_count (128 * n + (b - 128)) bs))
    ]

arcs_length : (v : List ℕ) → 0 < length v → length (arcs_of v) ≡ 1 + length v
arcs_length [] h = absurd (omega (arith, h))
arcs_length (n ∷ ns) h = omega arith

pub arcs_count : (o : List ℕ) → IsTrue (is_identifier o) → length (arcs o) ≡ 1 + ends o
arcs_count o h =
    let t = test_found o h in
    let v : values 0 o ≡ t.0 ∷ t.1 = ap (values 0) t.3 ∙ subs_read (t.0 ∷ t.1) t.2 in
    let some : 0 < length (values 0 o) = rw v (omega arith) in
    omega (arith, arcs_length (values 0 o) some, values_count 0 o)

later : (n : ℕ) (ns : List ℕ) (j : ℕ) → slice_get (arcs_of (n ∷ ns)) (suc (suc j)) ≡ slice_get (n ∷ ns) (suc j)
later n ns j = refl

-- ---- the steps of the search for a subidentifier

module _ (n b left : ℕ) (bs vs : List ℕ) (r : Option ℕ) (w : Walked n b bs vs) (now : slice_get vs left ≡ r) where
  pub hit : b < 128 → left ≡ 0 → Some (128 * n + b) ≡ r
  hit lt z = sym (ap (λ (k : ℕ). slice_get vs k) z ∙ ap (λ (v : List ℕ). slice_get v 0) (w.ends lt).1) ∙ now

  pub skips : b < 128 → 0 < left → (subidentifiers 0 bs ≡ true) × (slice_get (values 0 bs) (left - 1) ≡ r)
  skips lt pos =
      let e : left ≡ suc (left - 1) = omega arith in
      ((w.ends lt).0, sym (ap (λ (k : ℕ). slice_get vs k) e ∙ ap (λ (v : List ℕ). slice_get v (suc (left - 1))) (w.ends lt).1) ∙ now)

  pub more : 128 ≤ b → (subidentifiers (128 * n + (b - 128)) bs ≡ true) × (slice_get (values (128 * n + (b - 128)) bs) left ≡ r)
  more ge = ((w.goes_on ge).0, sym (ap (λ (v : List ℕ). slice_get v left) (w.goes_on ge).1) ∙ now)

pub past : (n i k : ℕ) (xs : List ℕ) (r : Option ℕ) → length xs ≤ i → slice_get (values n (drop i xs)) k ≡ r → None ≡ r
past n i k xs r h e = sym (ap (λ (v : List ℕ). slice_get (values n v) k) (drop_of_length-le xs h) ∙ ap (λ (v : List ℕ). slice_get v k) (values_nil n)) ∙ e
