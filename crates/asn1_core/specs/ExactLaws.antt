-- lemmas only: nothing to believe here
-- A reader that is exact for a relation between texts and values, and what is exact when it is put together of exact parts.
use Rattle.std.proofs.Common.{◌≡◌, ℕ, zero, suc, ◌<◌, ◌≤◌, Bool, true, false, List, [], ◌∷◌, ◌++◌, length, Option, Some, None, Result, Ok, Err, refl, sym, ap, subst, ◌∙◌, arith, length-append, IsTrue}
use Rattle.std.proofs.lemmas.List.{append-nil}
use Rattle.asn1_core.specs.Der.{el, len, IsShort}
use Rattle.asn1_core.specs.Reading.{Fault, ◌>>=◌, where_ok, ended, Front, All, whole, on, made, perhaps, many_in, many}
use Rattle.asn1_core.specs.Texts.{Exact, ExactAll, On, Ended, Made, Perhaps, Many}

-- ---- tools

pub bind_ok : {A B : Type 0} (r : Result A Fault) (f : A → Result B Fault) (y : B) → (r >>= f) ≡ Ok y → (x : A) × (r ≡ Ok x) × (f x ≡ Ok y)
bind_ok (Ok x) f y e = (x, refl, e)
bind_ok (Err d) f y e = absurd cc

abbrev done : {A : Type 0} → A → Result A Fault
done x = Ok x

pub ok_is : {A : Type 0} (x y : A) → done x ≡ done y → x ≡ y
ok_is x y e = cc

pub where_holds : {A : Type 0} (b : Bool) (x y : A) → where_ok b x ≡ Ok y → IsTrue b × (x ≡ y)
where_holds true x y e = (refl, cc)
where_holds false x y e = absurd cc

pub where_true : {A : Type 0} (b : Bool) (x : A) → IsTrue b → where_ok b x ≡ Ok x
where_true true x h = refl
where_true false x h = absurd cc

pub ended_ok : {A : Type 0} (x y : A) (rest : List ℕ) → ended x rest ≡ Ok y → (rest ≡ []) × (x ≡ y)
ended_ok x y [] e = (refl, cc)
ended_ok x y (b ∷ bs) e = absurd cc

pub IsShort-left : (a b : List ℕ) → IsShort (a ++ b) → IsShort a
IsShort-left a b h = omega (arith, length-append a b)

pub IsShort-right : (a b : List ℕ) → IsShort (a ++ b) → IsShort b
IsShort-right a b h = omega (arith, length-append a b)

pub IsShort-inside : (tag : ℕ) (v : List ℕ) → IsShort (el tag v) → IsShort v
unfolding el
IsShort-inside tag v h = omega (arith, length-append (len (length v)) v)

-- ---- parts put together

pub whole-exact : {A : Type 0} (R : List ℕ → A → Type 0) (p : Front A) → Exact R p → ExactAll R (whole p)
whole-exact {A = A} R p exact = record {
  found = λ b v e.
      let x = bind_ok (p b) (λ x. ended x.0 x.1) v e in
      let y = ended_ok x.0.0 v x.0.1 x.2 in
      let f = exact.found b x.0.0 x.0.1 x.1 in
      let is : b ≡ f.text = f.is ∙ ap (λ (r : List ℕ). f.text ++ r) y.0 ∙ append-nil f.text in
      subst (λ (w : A). R b w) y.1 (subst (λ (t : List ℕ). R t x.0.0) (sym is) f.holds);
  again = λ b v r short.
      let e : p b ≡ Ok (v, []) = ap p (sym (append-nil b)) ∙ exact.again b v [] r short in
      rw e refl;
}

pub on-exact : {A B : Type 0} (R : List ℕ → A → Type 0) (S : A → List ℕ → B → Type 0) (p : Front A) (k : A → All B) → Exact R p → ((a : A) → ExactAll (S a) (k a)) → ExactAll (On R S) (on p k)
on-exact R S p k exact others = record {
  found = λ b v e.
      let x = bind_ok (p b) (λ x. k x.0 x.1) v e in
      let f = exact.found b x.0.0 x.0.1 x.1 in
      let g = (others x.0.0).found x.0.1 v x.2 in
      (f.text, x.0.1, x.0.0, f.holds, g, f.is);
  again = λ b v r short.
      let s : IsShort (r.0 ++ r.1) = subst IsShort r.5 short in
      let e : p b ≡ Ok (r.2, r.1) = ap p r.5 ∙ exact.again r.0 r.2 r.1 r.3 (IsShort-left r.0 r.1 s) in
      let f = (others r.2).again r.1 v r.4 (IsShort-right r.0 r.1 s) in
      rw (e, f) refl;
}

pub ended-exact : {A : Type 0} (x : A) → ExactAll (Ended x) (ended x)
ended-exact x = record {
  found = λ b v e. let y = ended_ok x v b e in (y.0, sym y.1);
  again = λ b v r short. rw (r.0, r.1) refl;
}

pub made-exact : {A B : Type 0} (f : A → B) (R : List ℕ → A → Type 0) (p : All A) → ExactAll R p → ExactAll (Made f R) (made f p)
made-exact f R p exact = record {
  found = λ b w e. let x = bind_ok (p b) (λ x. Ok (f x)) w e in (x.0, exact.found b x.0 x.1, sym (ok_is (f x.0) w x.2));
  again = λ b w r short. rw (exact.again b r.0 r.1 short, r.2) refl;
}

-- the same values of the same texts, said in another way
pub same-exact : {A : Type 0} (R S : List ℕ → A → Type 0) (p : All A) → ((b : List ℕ) (v : A) → R b v → S b v) → ((b : List ℕ) (v : A) → S b v → R b v) → ExactAll R p → ExactAll S p
same-exact R S p to from exact = record {
  found = λ b v e. to b v (exact.found b v e);
  again = λ b v s short. exact.again b v (from b v s) short;
}

pub same_front-exact : {A : Type 0} (R S : List ℕ → A → Type 0) (p : Front A) → ((b : List ℕ) (v : A) → R b v → S b v) → ((b : List ℕ) (v : A) → S b v → R b v) → Exact R p → Exact S p
same_front-exact R S p to from exact = record {
  found = λ b v rest e. let f = exact.found b v rest e in record { text = f.text; holds = to f.text v f.holds; short = f.short; is = f.is };
  again = λ t v rest s short. exact.again t v rest (from t v s) short;
}

perhaps_found : {A : Type 0} (R : List ℕ → A → Type 0) (p : Front A) → Exact R p → (b : List ℕ) (v : Option A) → perhaps p b ≡ Ok v → Perhaps R b v
perhaps_found R p exact [] v e = subst (λ (w : Option _). Perhaps R [] w) (ok_is None v e) refl
perhaps_found R p exact (b ∷ bs) v e =
    let x = bind_ok (whole p (b ∷ bs)) (λ v. Ok (Some v)) v e in
    subst (λ (w : Option _). Perhaps R (b ∷ bs) w) (ok_is (Some x.0) v x.2) ((whole-exact R p exact).found (b ∷ bs) x.0 x.1)

perhaps_again : {A : Type 0} (R : List ℕ → A → Type 0) (p : Front A) → Exact R p → ((v : A) → R [] v → ⊥) → (b : List ℕ) (v : Option A) → Perhaps R b v → IsShort b → perhaps p b ≡ Ok v
perhaps_again R p exact none [] None r short = refl
perhaps_again R p exact none [] (Some v) r short = absurd (none v r)
perhaps_again R p exact none (b ∷ bs) None r short = absurd cc
perhaps_again R p exact none (b ∷ bs) (Some v) r short = rw ((whole-exact R p exact).again (b ∷ bs) v r short) refl

many_found : {A : Type 0} (R : List ℕ → A → Type 0) (p : Front A) → Exact R p → (k : ℕ) (b : List ℕ) (vs : List A) → many_in p k b ≡ Ok vs → Many R b vs
many_found R p exact zero [] vs e = subst (λ (w : List _). Many R [] w) (ok_is [] vs e) refl
many_found R p exact zero (b ∷ bs) vs e = absurd cc
many_found R p exact (suc k) [] vs e = subst (λ (w : List _). Many R [] w) (ok_is [] vs e) refl
many_found R p exact (suc k) (b ∷ bs) vs e =
    let x = bind_ok (p (b ∷ bs)) (λ x. many_in p k x.1 >>= λ vs. Ok (x.0 ∷ vs)) vs e in
    let y = bind_ok (many_in p k x.0.1) (λ vs. Ok (x.0.0 ∷ vs)) vs x.2 in
    let f = exact.found (b ∷ bs) x.0.0 x.0.1 x.1 in
    let g = many_found R p exact k x.0.1 y.0 y.1 in
    subst (λ (w : List _). Many R (b ∷ bs) w) (ok_is (x.0.0 ∷ y.0) vs y.2) (f.text, x.0.1, f.holds, g, f.is)

-- a text that is not empty leaves fewer octets after it
some_taken : {A : Type 0} (R : List ℕ → A → Type 0) → ((v : A) → R [] v → ⊥) → (p : List ℕ) (v : A) → R p v → 0 < length p
some_taken R none [] v r = absurd (none v r)
some_taken R none (b ∷ bs) v r = omega arith

many_again : {A : Type 0} (R : List ℕ → A → Type 0) (p : Front A) → Exact R p → ((v : A) → R [] v → ⊥) → (k : ℕ) (vs : List A) (b : List ℕ) → length b ≤ k → Many R b vs → IsShort b → many_in p k b ≡ Ok vs
many_again R p exact none zero [] [] le r short = refl
many_again R p exact none (suc k) [] [] le r short = refl
many_again R p exact none k [] (b ∷ bs) le r short = absurd cc
many_again R p exact none zero (v ∷ vs) [] le r short =
    absurd (omega (arith, some_taken R none r.0 v r.2, ap length r.4, length-append r.0 r.1))
many_again R p exact none (suc k) (v ∷ vs) [] le r short =
    absurd (omega (arith, some_taken R none r.0 v r.2, ap length r.4, length-append r.0 r.1))
many_again R p exact none zero (v ∷ vs) (b ∷ bs) le r short = absurd (omega arith)
many_again R p exact none (suc k) (v ∷ vs) (b ∷ bs) le r short =
    let s : IsShort (r.0 ++ r.1) = subst IsShort r.4 short in
    let e : p (b ∷ bs) ≡ Ok (v, r.1) = ap p r.4 ∙ exact.again r.0 v r.1 r.2 (IsShort-left r.0 r.1 s) in
    let less : length r.1 ≤ k = omega (arith, some_taken R none r.0 v r.2, ap length r.4, length-append r.0 r.1) in
    let f = many_again R p exact none k vs r.1 less r.3 (IsShort-right r.0 r.1 s) in
    rw (e, f) refl

pub perhaps-exact : {A : Type 0} (R : List ℕ → A → Type 0) (p : Front A) → Exact R p → ((v : A) → R [] v → ⊥) → ExactAll (Perhaps R) (perhaps p)
perhaps-exact R p exact none = record { found = perhaps_found R p exact; again = perhaps_again R p exact none }

pub many-exact : {A : Type 0} (R : List ℕ → A → Type 0) (p : Front A) → Exact R p → ((v : A) → R [] v → ⊥) → ExactAll (Many R) (many p)
many-exact R p exact none = record {
  found = λ b vs e. many_found R p exact (length b) b vs e;
  again = λ b vs r short. many_again R p exact none (length b) vs b (omega arith) r short;
}
