-- The test in one pass is the grammar of identifiers.
use Rattle.std.proofs.Common.{◌≡◌, ℕ, zero, suc, ◌+◌, ◌*◌, ◌-◌, ◌/◌, ◌%◌, ◌^◌, ◌<◌, ◌≤◌, Bool, true, false, List, [], ◌∷◌, ◌++◌, length, Option, Some, None, refl, sym, ap, subst, ◌∙◌, append_assoc, arith, length-append, inl, inr, IsTrue, nat_lt, nat_eq, ◌&&◌, not, if◌then◌else◌}
use Rattle.std.proofs.lemmas.Bool.{cases_lt, ltb-true, le-ltb, lt-ltb, eqb-true, eq-eqb, cases_Bool}
use Rattle.asn1_core.specs.Identifier.{high_in, high, sub, subs, AllUnder, IsIdentifier, is_identifier}
use Rattle.asn1_core.specs.Identifier.{next_state as next, subidentifiers as pass}
use Rattle.asn1_core.specs.Arcs.{values}

-- ---- the test, in a form that opens only where a proof says so

unfoldable next_state : ℕ → ℕ → Option ℕ
next_state n b = if nat_lt n (2 ^ 25) && (nat_lt b 256 && not (nat_eq n 0 && nat_eq b 128)) then Some (if nat_lt b 128 then 0 else 128 * n + (b - 128)) else None

unfoldable subidentifiers : ℕ → List ℕ → Bool
subidentifiers n [] = nat_eq n 0
subidentifiers n (b ∷ bs) = elim (next_state n b) [ None ↦ false | Some m ↦ subidentifiers m bs ]

step_passes : (n b : ℕ) (bs : List ℕ) → ((m : ℕ) → pass m bs ≡ subidentifiers m bs) → pass n (b ∷ bs) ≡ subidentifiers n (b ∷ bs)
unfolding next_state subidentifiers
step_passes n b bs h = elim (next n b) as (λ o. elim o [ None ↦ false | Some m ↦ pass m bs ] ≡ elim o [ None ↦ false | Some m ↦ subidentifiers m bs ]) [ None ↦ refl | Some m ↦ h m ]

passes : (n : ℕ) (bs : List ℕ) → pass n bs ≡ subidentifiers n bs
unfolding subidentifiers
passes n [] = refl
passes n (b ∷ bs) = step_passes n b bs (λ m. passes m bs)

-- ---- the octets that are not the last

pub high_zero : high 0 ≡ []
unfolding high high_in
high_zero = refl

high_large : (k n : ℕ) → 0 < n → high_in (suc k) n ≡ high_in k (n / 128) ++ (128 + n % 128) ∷ []
unfolding high_in
high_large k n h = rw (lt-ltb 0 n h, high_in) refl

high_none : (k : ℕ) → high_in k 0 ≡ []
unfolding high_in
high_none zero = refl
high_none (suc k) = refl

high_enough : (j k n : ℕ) → n ≤ j → n ≤ k → high_in j n ≡ high_in k n
high_enough zero k n h i = let e : n ≡ 0 = omega arith in rw e (high_none 0 ∙ sym (high_none k))
high_enough (suc j) zero n h i = let e : n ≡ 0 = omega arith in rw e (high_none (suc j) ∙ sym (high_none 0))
high_enough (suc j) (suc k) n h i =
    elim (cases_lt 0 n) [
      | inl pos ↦ high_large j n pos ∙ ap (λ (x : List ℕ). x ++ (128 + n % 128) ∷ []) (high_enough j k (n / 128) (omega arith) (omega arith)) ∙ sym (high_large k n pos)
      | inr z ↦ let e : n ≡ 0 = omega arith in rw e (high_none (suc j) ∙ sym (high_none (suc k)))
    ]

pub high_split : (n : ℕ) → 0 < n → high n ≡ high (n / 128) ++ (128 + n % 128) ∷ []
unfolding high
high_split n h =
    let m = n - 1 in
    let e : n ≡ suc m = omega arith in
    let f : high_in n n ≡ high_in (suc m) n = high_enough n (suc m) n (omega arith) (omega arith) in
    f ∙ high_large m n h ∙ ap (λ (x : List ℕ). x ++ (128 + n % 128) ∷ []) (high_enough m (n / 128) (n / 128) (omega arith) (omega arith))

-- one octet more
high_more : (n b : ℕ) → 128 ≤ b → b < 256 → 0 < 128 * n + (b - 128) → high (128 * n + (b - 128)) ≡ high n ++ b ∷ []
high_more n b h i pos =
    let q : (128 * n + (b - 128)) / 128 ≡ n = omega arith in
    let r : 128 + (128 * n + (b - 128)) % 128 ≡ b = omega arith in
    high_split (128 * n + (b - 128)) pos ∙ rw (q, r) refl

-- ---- one step of the test

record Step (n b : ℕ) (next : ℕ) : Type 0 where
  pub small : n < 2 ^ 25
  pub octet : b < 256
  pub least : (n ≡ 0) → (b ≡ 128) → ⊥
  pub is : (if nat_lt b 128 then 0 else 128 * n + (b - 128)) ≡ next

module _ (n b : ℕ) where
  abbrev state_in : Bool → Bool → Bool → Option ℕ
  state_in x y z = if x && (y && not z) then Some (if nat_lt b 128 then 0 else 128 * n + (b - 128)) else None

  state_some : (x y z : Bool) (m : ℕ) → state_in x y z ≡ Some m → IsTrue x × IsTrue y × (z ≡ false) × ((if nat_lt b 128 then 0 else 128 * n + (b - 128)) ≡ m)
  state_some true true false m e = (refl, refl, refl, cc)
  state_some true true true m e = absurd cc
  state_some true false z m e = absurd cc
  state_some false y z m e = absurd cc

  state_is : (x y z : Bool) → IsTrue x → IsTrue y → z ≡ false → state_in x y z ≡ Some (if nat_lt b 128 then 0 else 128 * n + (b - 128))
  state_is x y z h i j = rw (h, i, j) refl

  not_both : (nat_eq n 0 && nat_eq b 128) ≡ false → n ≡ 0 → b ≡ 128 → ⊥
  not_both e f g = let k = rw (eq-eqb n 0 f, eq-eqb b 128 g) at e in absurd cc

  step_of : (m : ℕ) → next_state n b ≡ Some m → Step n b m
  unfolding next_state
  step_of m e =
      let s = state_some (nat_lt n (2 ^ 25)) (nat_lt b 256) (nat_eq n 0 && nat_eq b 128) m e in
      record { small = ltb-true n (2 ^ 25) s.0; octet = ltb-true b 256 s.1; least = not_both s.2; is = s.3 }

  one_of_two : ((n ≡ 0) → (b ≡ 128) → ⊥) → (nat_eq n 0 && nat_eq b 128) ≡ false
  one_of_two h =
      elim (cases_Bool (nat_eq n 0 && nat_eq b 128)) [
        | inl e ↦ absurd (h (eqb-true n 0 (and_l (nat_eq n 0) (nat_eq b 128) e)) (eqb-true b 128 (and_r (nat_eq n 0) (nat_eq b 128) e)))
        | inr e ↦ e
      ]
    where
      and_l : (x y : Bool) → (x && y) ≡ true → x ≡ true
      and_l true y e = refl
      and_l false y e = absurd cc

      and_r : (x y : Bool) → (x && y) ≡ true → y ≡ true
      and_r true y e = e
      and_r false y e = absurd cc

  step_is : n < 2 ^ 25 → b < 256 → ((n ≡ 0) → (b ≡ 128) → ⊥) → next_state n b ≡ Some (if nat_lt b 128 then 0 else 128 * n + (b - 128))
  unfolding next_state
  step_is h i least = state_is (nat_lt n (2 ^ 25)) (nat_lt b 256) (nat_eq n 0 && nat_eq b 128) (lt-ltb n (2 ^ 25) h) (lt-ltb b 256 i) (one_of_two least)

opened : (o : Option ℕ) (bs : List ℕ) → elim o [ None ↦ false | Some m ↦ subidentifiers m bs ] ≡ true → (m : ℕ) × (o ≡ Some m) × (subidentifiers m bs ≡ true)
opened None bs e = absurd cc
opened (Some m) bs e = (m, refl, e)

sub_step : (n b : ℕ) (bs : List ℕ) → subidentifiers n (b ∷ bs) ≡ true → (m : ℕ) × (next_state n b ≡ Some m) × (subidentifiers m bs ≡ true)
unfolding subidentifiers
sub_step n b bs e = opened (next_state n b) bs e

sub_next : (n b m : ℕ) (bs : List ℕ) → next_state n b ≡ Some m → subidentifiers n (b ∷ bs) ≡ subidentifiers m bs
unfolding subidentifiers
sub_next n b m bs e = rw (e, subidentifiers) refl

sub_nil : (n : ℕ) → subidentifiers n [] ≡ true → n ≡ 0
unfolding subidentifiers
sub_nil n e = eqb-true n 0 e

pub values_nil : (n : ℕ) → values n [] ≡ []
unfolding values
values_nil n = refl

pub values_end : (n b : ℕ) (bs : List ℕ) → b < 128 → values n (b ∷ bs) ≡ (128 * n + b) ∷ values 0 bs
unfolding values
values_end n b bs h = rw (lt-ltb b 128 h, values) refl

pub values_more : (n b : ℕ) (bs : List ℕ) → 128 ≤ b → values n (b ∷ bs) ≡ values (128 * n + (b - 128)) bs
unfolding values
values_more n b bs h = rw (le-ltb b 128 h, values) refl

next_end : (n b m : ℕ) → b < 128 → (if nat_lt b 128 then 0 else 128 * n + (b - 128)) ≡ m → m ≡ 0
next_end n b m h e = sym e ∙ rw (lt-ltb b 128 h) refl

next_more : (n b m : ℕ) → 128 ≤ b → (if nat_lt b 128 then 0 else 128 * n + (b - 128)) ≡ m → m ≡ 128 * n + (b - 128)
next_more n b m h e = sym e ∙ rw (le-ltb b 128 h) refl

sub_of : (n b : ℕ) → b < 128 → sub (128 * n + b) ≡ high n ++ b ∷ []
sub_of n b h =
    let q : (128 * n + b) / 128 ≡ n = omega arith in
    let r : (128 * n + b) % 128 ≡ b = omega arith in
    rw (q, r) refl

-- what passes the test is what its numbers give
found : (n : ℕ) (bs : List ℕ) → subidentifiers n bs ≡ true → high n ++ bs ≡ subs (values n bs)
found n [] e = let z = sub_nil n e in rw (z, values_nil 0, high_zero) refl
found n (b ∷ bs) e =
    let s = sub_step n b bs e in
    let t = step_of n b s.0 s.1 in
    elim (cases_lt b 128) [
      | inl lt ↦
          let z = next_end n b s.0 lt t.is in
          let ih = found 0 bs (subst (λ (k : ℕ). subidentifiers k bs ≡ true) z s.2) in
          let rest : bs ≡ subs (values 0 bs) = sym (ap (λ (x : List ℕ). x ++ bs) high_zero) ∙ ih in
          ap (λ (x : List ℕ). high n ++ b ∷ x) rest ∙ sym (append_assoc (high n) (b ∷ []) (subs (values 0 bs))) ∙ sym (ap (λ (x : List ℕ). x ++ subs (values 0 bs)) (sub_of n b lt)) ∙ sym (ap subs (values_end n b bs lt))
      | inr ge ↦
          let z = next_more n b s.0 ge t.is in
          let ih = found (128 * n + (b - 128)) bs (subst (λ (k : ℕ). subidentifiers k bs ≡ true) z s.2) in
          let pos : 0 < 128 * n + (b - 128) = not_zero n b ge t.least in
          sym (ap (λ (x : List ℕ). x ++ bs) (high_more n b ge t.octet pos) ∙ append_assoc (high n) (b ∷ []) bs) ∙ ih ∙ sym (ap subs (values_more n b bs ge))
    ]
  where
    not_zero : (n b : ℕ) → 128 ≤ b → ((n ≡ 0) → (b ≡ 128) → ⊥) → 0 < 128 * n + (b - 128)
    not_zero n b h least =
        elim (cases_lt 0 (128 * n + (b - 128))) [
          | inl pos ↦ pos
          | inr z ↦ absurd (least (omega (arith, z)) (omega (arith, z, h)))
        ]

under : (n : ℕ) (bs : List ℕ) → subidentifiers n bs ≡ true → AllUnder (2 ^ 32) (values n bs)
under n [] e = rw (values_nil n) tt
under n (b ∷ bs) e =
    let s = sub_step n b bs e in
    let t = step_of n b s.0 s.1 in
    elim (cases_lt b 128) [
      | inl lt ↦ rw (values_end n b bs lt) (omega (arith, t.small, lt), under 0 bs (subst (λ (k : ℕ). subidentifiers k bs ≡ true) (next_end n b s.0 lt t.is) s.2))
      | inr ge ↦ rw (values_more n b bs ge) (under (128 * n + (b - 128)) bs (subst (λ (k : ℕ). subidentifiers k bs ≡ true) (next_more n b s.0 ge t.is) s.2))
    ]

-- the octets that are not the last lead to their number
abbrev Runs : ℕ → List ℕ → List ℕ → Type 0
Runs n b rest = (subidentifiers 0 b ≡ subidentifiers n rest) × (values 0 b ≡ values n rest)

runs : (k n : ℕ) (rest : List ℕ) → n ≤ k → n < 2 ^ 25 → Runs n (high n ++ rest) rest
runs zero n rest h lt = let z : n ≡ 0 = omega arith in rw (z, high_zero) (refl, refl)
runs (suc k) n rest h lt =
    elim (cases_lt 0 n) [
      | inr z ↦ let e : n ≡ 0 = omega arith in rw (e, high_zero) (refl, refl)
      | inl pos ↦
          let c = 128 + n % 128 in
          let ih = runs k (n / 128) (c ∷ rest) (omega arith) (omega arith) in
          let is : high n ++ rest ≡ high (n / 128) ++ c ∷ rest = ap (λ (x : List ℕ). x ++ rest) (high_split n pos) ∙ append_assoc (high (n / 128)) (c ∷ []) rest in
          let back : 128 * (n / 128) + (c - 128) ≡ n = omega arith in
          let ge : 128 ≤ c = omega arith in
          let s = step_is (n / 128) c (omega arith) (omega arith) (λ e f. omega (arith, e, f, pos)) in
          let to : (if nat_lt c 128 then 0 else 128 * (n / 128) + (c - 128)) ≡ n = rw (le-ltb c 128 ge) back in
          let nx : next_state (n / 128) c ≡ Some n = s ∙ ap (λ (m : ℕ). Some m) to in (
            ap (subidentifiers 0) is ∙ ih.0 ∙ sub_next (n / 128) c n rest nx,
            ap (values 0) is ∙ ih.1 ∙ values_more (n / 128) c rest ge ∙ ap (λ (m : ℕ). values m rest) back,
          )
    ]

sub_done : subidentifiers 0 [] ≡ true
unfolding subidentifiers
sub_done = refl

one_again : (n : ℕ) (rest : List ℕ) → n < 2 ^ 32 → (subidentifiers 0 (sub n ++ rest) ≡ subidentifiers 0 rest) × (values 0 (sub n ++ rest) ≡ n ∷ values 0 rest)
one_again n rest h =
    let q = n / 128 in
    let c = n % 128 in
    let r = runs q q (c ∷ rest) (omega arith) (omega arith) in
    let is : sub n ++ rest ≡ high q ++ c ∷ rest = append_assoc (high q) (c ∷ []) rest in
    let lt : c < 128 = omega arith in
    let s = step_is q c (omega arith) (omega arith) (λ e f. omega (arith, e, f, lt)) in
    let to : (if nat_lt c 128 then 0 else 128 * q + (c - 128)) ≡ 0 = rw (lt-ltb c 128 lt) refl in
    let nx : next_state q c ≡ Some 0 = s ∙ ap (λ (m : ℕ). Some m) to in
    let back : 128 * q + c ≡ n = omega arith in (
      ap (subidentifiers 0) is ∙ r.0 ∙ sub_next q c 0 rest nx,
      ap (values 0) is ∙ r.1 ∙ values_end q c rest lt ∙ ap (λ (m : ℕ). m ∷ values 0 rest) back,
    )

subs_again : (ns : List ℕ) → AllUnder (2 ^ 32) ns → (subidentifiers 0 (subs ns) ≡ true) × (values 0 (subs ns) ≡ ns)
subs_again [] h = (sub_done, values_nil 0)
subs_again (n ∷ ns) h =
    let o = one_again n (subs ns) h.0 in
    let ih = subs_again ns h.1 in
    (o.0 ∙ ih.0, o.1 ∙ ap (λ (x : List ℕ). n ∷ x) ih.1)

-- the subidentifiers that are read are those that were written
pub subs_read : (ns : List ℕ) → AllUnder (2 ^ 32) ns → values 0 (subs ns) ≡ ns
subs_read ns h = (subs_again ns h).1

subs_found : (bs : List ℕ) → subidentifiers 0 bs ≡ true → (bs ≡ subs (values 0 bs)) × AllUnder (2 ^ 32) (values 0 bs)
subs_found bs e = (sym (ap (λ (x : List ℕ). x ++ bs) high_zero) ∙ found 0 bs e, under 0 bs e)

-- ---- the law: the test in one pass is the grammar

and3 : (x y z : Bool) → IsTrue (x && y && z) → IsTrue x × IsTrue y × IsTrue z
and3 true true true h = (refl, refl, refl)
and3 true true false h = absurd cc
and3 true false z h = absurd cc
and3 false y z h = absurd cc

non_empty : (ns : List ℕ) (o : List ℕ) → 0 < length o → o ≡ subs ns → AllUnder (2 ^ 32) ns → length o ≤ 39 → IsIdentifier o
non_empty [] o h is u le = absurd (let e = ap length is in omega (arith, e, h))
non_empty (n ∷ ns) o h is u le = (n, ns, u, is, le)

pub test_found : (o : List ℕ) → IsTrue (is_identifier o) → IsIdentifier o
test_found o h =
    let t = and3 (nat_lt 0 (length o)) (nat_lt (length o) 40) (pass 0 o) h in
    let f = subs_found o (sym (passes 0 o) ∙ t.2) in
    let lt : length o < 40 = ltb-true (length o) 40 t.1 in
    non_empty (values 0 o) o (ltb-true 0 (length o) t.0) f.0 f.1 (omega (arith, lt))

sub_length : (n : ℕ) (rest : List ℕ) → 0 < length (sub n ++ rest)
sub_length n rest = omega (arith, length-append (high (n / 128)) ((n % 128) ∷ []), length-append (sub n) rest)

pub test_again : (o : List ℕ) → IsIdentifier o → IsTrue (is_identifier o)
test_again o (n, ns, u, is, le) =
    let s = (subs_again (n ∷ ns) u).0 in
    let pos : 0 < length o = rw is (sub_length n (subs ns)) in
    let passing : pass 0 o ≡ true = passes 0 o ∙ ap (subidentifiers 0) is ∙ s in
    rw (lt-ltb 0 (length o) pos, lt-ltb (length o) 40 (omega (arith, le)), passing) refl

-- ---- what a step over an octet does, where the test holds

pub record Walked (n b : ℕ) (bs vs : List ℕ) : Type 0 where
  pub small : n < 2 ^ 25
  pub ends : b < 128 → (pass 0 bs ≡ true) × (vs ≡ (128 * n + b) ∷ values 0 bs)
  pub goes_on : 128 ≤ b → (pass (128 * n + (b - 128)) bs ≡ true) × (vs ≡ values (128 * n + (b - 128)) bs)

pub walked : (n b : ℕ) (bs : List ℕ) → pass n (b ∷ bs) ≡ true → Walked n b bs (values n (b ∷ bs))
walked n b bs e =
    let s = sub_step n b bs (sym (passes n (b ∷ bs)) ∙ e) in
    let t = step_of n b s.0 s.1 in
    record {
      small = t.small;
      ends = λ lt. (passes 0 bs ∙ subst (λ (k : ℕ). subidentifiers k bs ≡ true) (next_end n b s.0 lt t.is) s.2, values_end n b bs lt);
      goes_on = λ ge. (passes (128 * n + (b - 128)) bs ∙ subst (λ (k : ℕ). subidentifiers k bs ≡ true) (next_more n b s.0 ge t.is) s.2, values_more n b bs ge);
    }
