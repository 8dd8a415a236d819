-- lemmas only: nothing to believe here
-- A part that may be left out, known by its tag octet.
use Rattle.std.proofs.Common.{◌≡◌, ℕ, Bool, true, false, List, [], ◌∷◌, ◌++◌, length, Option, Some, None, Ok, refl, sym, ap, subst, ◌∙◌, inl, inr, ◌⊎◌, IsTrue}
use Rattle.asn1_core.specs.Der.{el, len, IsShort, is_tag}
use Rattle.asn1_core.specs.Reading.{All, Front, ◌>>=◌, on, option_in, option_at}
use Rattle.asn1_core.specs.Texts.{Exact, ExactAll, Whole}
use Rattle.asn1_core.specs.ExactLaws.{bind_ok, ok_is, IsShort-left, IsShort-right}

-- a part and then the rest, or the rest alone
abbrev pub OnOption : {A B : Type 0} → (List ℕ → A → Type 0) → (Option A → List ℕ → B → Type 0) → List ℕ → B → Type 0
OnOption {A = A} R S b v = (S None b v) ⊎ ((p : List ℕ) × (q : List ℕ) × (a : A) × R p a × S (Some a) q v × (b ≡ p ++ q))

-- what follows an absent part begins with no tag octet of it
abbrev pub Follows : {B : Type 0} → (ℕ → Bool) → (List ℕ → B → Type 0) → Type 0
Follows {B = B} can T = (t : ℕ) (l : List ℕ) (v : B) → T (t ∷ l) v → IsTrue (is_tag t) × (can t ≡ false)

module _ {A B : Type 0} (can : ℕ → Bool) (R : List ℕ → A → Type 0) (S : Option A → List ℕ → B → Type 0) (p : Front A) (k : Option A → All B) where
  step_ok : (x y : Bool) (b : List ℕ) (v : B) → (option_in p x y b >>= λ x. k x.0 x.1) ≡ Ok v → (k None b ≡ Ok v) ⊎ ((z : A × List ℕ) × (p b ≡ Ok z) × (k (Some z.0) z.1 ≡ Ok v))
  step_ok false y b v e = absurd cc
  step_ok true false b v e = inl e
  step_ok true true b v e =
      let x = bind_ok (p b >>= λ x. Ok (Some x.0, x.1)) (λ x. k x.0 x.1) v e in
      let y = bind_ok (p b) (λ x. Ok (Some x.0, x.1)) x.0 x.1 in
      inr (y.0, y.1, subst (λ (z : Option A × List ℕ). k z.0 z.1 ≡ Ok v) (sym (ok_is (Some y.0.0, y.0.1) x.0 y.2)) x.2)

  none_in : (x y : Bool) (b : List ℕ) → IsTrue x → y ≡ false → option_in p x y b ≡ Ok (None, b)
  none_in false y b h i = absurd cc
  none_in true false b h i = refl
  none_in true true b h i = absurd cc

  some_in : (x y : Bool) (b : List ℕ) (z : A × List ℕ) → IsTrue x → IsTrue y → p b ≡ Ok z → option_in p x y b ≡ Ok (Some z.0, z.1)
  some_in false y b z h i e = absurd cc
  some_in true false b z h i e = absurd cc
  some_in true true b z h i e = rw e refl

  taken_found : Exact R p → ((o : Option A) → ExactAll (S o) (k o)) → (b : List ℕ) (v : B) → (k None b ≡ Ok v) ⊎ ((z : A × List ℕ) × (p b ≡ Ok z) × (k (Some z.0) z.1 ≡ Ok v)) → OnOption R S b v
  taken_found exact others b v (inl e) = inl ((others None).found b v e)
  taken_found exact others b v (inr x) =
      let f = exact.found b x.0.0 x.0.1 x.1 in
      inr (f.text, x.0.1, x.0.0, f.holds, (others (Some x.0.0)).found x.0.1 v x.2, f.is)

  option_found : Exact R p → ((o : Option A) → ExactAll (S o) (k o)) → (b : List ℕ) (v : B) → on (option_at can p) k b ≡ Ok v → OnOption R S b v
  option_found exact others [] v e = inl ((others None).found [] v e)
  option_found exact others (t ∷ l) v e = taken_found exact others (t ∷ l) v (step_ok (is_tag t) (can t) (t ∷ l) v e)

  none_again : Follows can (S None) → ((o : Option A) → ExactAll (S o) (k o)) → (b : List ℕ) (v : B) → S None b v → IsShort b → on (option_at can p) k b ≡ Ok v
  none_again follows others [] v s short = (others None).again [] v s short
  none_again follows others (t ∷ l) v s short =
      let f = follows t l v s in
      rw (none_in (is_tag t) (can t) (t ∷ l) f.0 f.1) ((others None).again (t ∷ l) v s short)

  some_at : (b : List ℕ) (t : ℕ) (l : List ℕ) (x : A × List ℕ) → b ≡ t ∷ l → IsTrue (is_tag t) → IsTrue (can t) → p b ≡ Ok x → option_at can p b ≡ Ok (Some x.0, x.1)
  some_at b t l x e ok h is = let f : p (t ∷ l) ≡ Ok x = ap p (sym e) ∙ is in ap (option_at can p) e ∙ some_in (is_tag t) (can t) (t ∷ l) x ok h f

  some_again : Exact R p → Whole can R → (text : List ℕ) (a : A) (rest : List ℕ) → R text a → IsShort text → option_at can p (text ++ rest) ≡ Ok (Some a, rest)
  unfolding el
  some_again exact whole text a rest r short =
      let w = whole text a r in
      some_at (text ++ rest) w.0 (len (length w.1) ++ w.1 ++ rest) (a, rest) (ap (λ (y : List ℕ). y ++ rest) w.4) w.2 w.3 (exact.again text a rest r short)

  option_again : Exact R p → Whole can R → Follows can (S None) → ((o : Option A) → ExactAll (S o) (k o)) → (b : List ℕ) (v : B) → OnOption R S b v → IsShort b → on (option_at can p) k b ≡ Ok v
  option_again exact whole follows others b v (inl s) short = none_again follows others b v s short
  option_again exact whole follows others b v (inr x) short =
      let s : IsShort (x.0 ++ x.1) = subst IsShort x.5 short in
      let e : option_at can p b ≡ Ok (Some x.2, x.1) = ap (option_at can p) x.5 ∙ some_again exact whole x.0 x.2 x.1 x.3 (IsShort-left x.0 x.1 s) in
      rw e ((others (Some x.2)).again x.1 v x.4 (IsShort-right x.0 x.1 s))

  pub on_option-exact : Exact R p → Whole can R → Follows can (S None) → ((o : Option A) → ExactAll (S o) (k o)) → ExactAll (OnOption R S) (on (option_at can p) k)
  on_option-exact exact whole follows others = record { found = option_found exact others; again = option_again exact whole follows others }
