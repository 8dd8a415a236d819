-- What is at the places of an element with digits, and that an element is one time at most.
use Rattle.std.proofs.Common.{◌≡◌, ℕ, ◌+◌, ◌<◌, ◌↔◌, Bool, false, List, [], ◌∷◌, ◌++◌, All, IsTrue, length, get_or, take, drop, refl, sym, ap, ◌∙◌, subst, inl, inr, arith, length-append}
use Rattle.std.proofs.lemmas.Grind.{common_steps}
use Rattle.std.proofs.lemmas.List.{take_all, take_more}
use Rattle.std.proofs.Math.Seq.{get_or-append_seam, take-append_seam}
use Rattle.asn1_core.specs.Der.{el}
use Rattle.asn1_core.specs.ElementLaws.{len_small}
use Rattle.x509_names.specs.Time.{Digits, HasTime, IsClock, IsDate, IsDigit, IsTime, NoTime, century}

-- a short element
el_small : (tag : ℕ) (v : List ℕ) → length v < 128 → el tag v ≡ tag ∷ length v ∷ v
unfolding el
el_small tag v h = rw (len_small (length v) h) refl

pub record Placed (tag count : ℕ) (e d : List ℕ) : Type 0 where
  pub size : length e ≡ count + 3
  pub tag_is : get_or e 0 0 ≡ tag
  pub len_is : get_or e 1 0 ≡ count + 1
  pub last_is : get_or e (count + 2) 0 ≡ 90
  pub part : take count (drop 2 e) ≡ d

behind_two : (a b n : ℕ) (l : List ℕ) → get_or (a ∷ b ∷ l) (n + 2) 0 ≡ get_or l n 0
behind_two a b n l = grind (arith, common_steps)

placed_in : (tag count : ℕ) (d : List ℕ) → length d ≡ count → Placed tag count (tag ∷ (count + 1) ∷ (d ++ 90 ∷ [])) d
placed_in tag count d is = record {
  size = omega (arith, length-append d (90 ∷ []));
  tag_is = refl;
  len_is = refl;
  last_is = behind_two tag (count + 1) count (d ++ 90 ∷ []) ∙ subst (λ (n : ℕ). get_or (d ++ 90 ∷ []) n 0 ≡ 90) is (get_or-append_seam d 90 [] 0);
  part = subst (λ (n : ℕ). take n (d ++ 90 ∷ []) ≡ d) is (take-append_seam d (90 ∷ []));
}

pub placed : (tag count : ℕ) (e d : List ℕ) → count < 127 → Digits tag count e d → Placed tag count e d
placed tag count e d small h =
    let size : length (d ++ 90 ∷ []) ≡ count + 1 = omega (arith, length-append d (90 ∷ []), h.count_is) in
    let is : e ≡ tag ∷ (count + 1) ∷ (d ++ 90 ∷ []) = h.is ∙ el_small tag (d ++ 90 ∷ []) (omega arith) ∙ ap (λ (n : ℕ). tag ∷ n ∷ (d ++ 90 ∷ [])) size in
    subst (λ (x : List ℕ). Placed tag count x d) (sym is) (placed_in tag count d h.count_is)

-- an element with these octets at their places has digits
pub has_digits : (tag count : ℕ) (e : List ℕ) → count < 127 → length e ≡ count + 3 → get_or e 0 0 ≡ tag → get_or e 1 0 ≡ count + 1
    → get_or e (count + 2) 0 ≡ 90 → All IsDigit (take count (drop 2 e)) → Digits tag count e (take count (drop 2 e))
has_digits tag count [] small size t n z digits = absurd (omega arith)
has_digits tag count (a ∷ []) small size t n z digits = absurd (omega arith)
has_digits tag count (a ∷ b ∷ r) small size t n z digits =
    let last : get_or r count 0 ≡ 90 = sym (behind_two a b count r) ∙ z in
    let long : length r ≡ count + 1 = omega arith in
    let all : r ≡ take count r ++ 90 ∷ [] = sym (take_all (count + 1) r (omega arith)) ∙ take_more r count 0 (omega arith) ∙ ap (λ (x : ℕ). take count r ++ x ∷ []) last in
    let whole : el tag r ≡ tag ∷ length r ∷ r = el_small tag r (omega arith) in
    let here : a ∷ b ∷ r ≡ el tag r = cc in
    let some : length r ≡ length (take count r) + 1 = ap length all ∙ length-append (take count r) (90 ∷ []) in
    record { is = subst (λ (v : List ℕ). a ∷ b ∷ r ≡ el tag v) all here; count_is = omega arith; digits = digits }

-- one element has the digits of one time
pub one_time : (e d c : List ℕ) → HasTime e d → HasTime e c → d ≡ c
one_time e d c (inl h) (inl g) = sym (placed 0x18 14 e d (omega arith) h).part ∙ (placed 0x18 14 e c (omega arith) g).part
one_time e d c (inl h) (inr g) =
    let p = placed 0x18 14 e d (omega arith) h in
    let q = placed 0x17 12 e g.0 (omega arith) g.1 in
    absurd (omega (arith, p.tag_is, q.tag_is))
one_time e d c (inr h) (inl g) =
    let p = placed 0x17 12 e h.0 (omega arith) h.1 in
    let q = placed 0x18 14 e c (omega arith) g in
    absurd (omega (arith, p.tag_is, q.tag_is))
one_time e d c (inr h) (inr g) =
    let p = placed 0x17 12 e h.0 (omega arith) h.1 in
    let q = placed 0x17 12 e g.0 (omega arith) g.1 in
    h.2 ∙ ap (λ (s : List ℕ). century s ++ s) (sym p.part ∙ q.part) ∙ sym g.2

pub time_of_date : (e d : List ℕ) (x : Bool) → HasTime e d → IsDate d → (IsTrue x ↔ IsClock d) → IsTrue x ↔ IsTime e
time_of_date e d x has date clock = (
  λ h. (d, has, date, clock.0 h),
  λ t. clock.1 (subst IsClock (one_time e t.0 d t.1 has) t.3),
)

pub time_of_no_date : (e d : List ℕ) (x : Bool) → HasTime e d → (IsTrue x ↔ IsDate d) → x ≡ false → IsTrue x ↔ IsTime e
time_of_no_date e d x has date fails = (
  λ h. absurd cc,
  λ t. date.1 (subst IsDate (one_time e t.0 d t.1 has) t.2),
)

pub no_time : (e : List ℕ) → NoTime e → IsTrue false ↔ IsTime e
no_time e none = (λ h. absurd cc, λ t. absurd (none t.0 t.1))
