-- lemmas only: nothing to believe here
-- Types that are read by their tag and value, or whole, return the same.
use Rattle.std.proofs.Common.{◌≡◌, ℕ, Bool, true, false, List, [], ◌∷◌, ◌++◌, length, Result, Ok, Err, refl, sym, ap, subst, ◌∙◌, IsTrue, arith, nat_eq}
use Rattle.std.proofs.lemmas.Bool.{eqb-true}
use Rattle.std.proofs.lemmas.List.{append-nil}
use Rattle.asn1_core.specs.Der.{el, len, IsShort, IsHeader, is_tag}
use Rattle.asn1_core.specs.Reading.{Fault, Bad, UnknownOid, ended, All, Front, ◌>>=◌, where_ok, made, whole, by_tag, valued, within, any_tag, header_at, slice_at, Head}
use Rattle.asn1_core.specs.ExactLaws.{ok_is}
use Rattle.asn1_core.specs.ElementLaws.{header_again, el_length, slice_again}
use Rattle.asn1_core.specs.Gives.{Gives, ReadsAs}
use Rattle.asn1_core.specs.declared.error.Error.{Error}
use Rattle.asn1_core.specs.declared.error.Error.TheVariants as errors
use Rattle.der_core.specs.Any.{any_at, any_of}
use Rattle.der_core.specs.Null.{nothing}
use Rattle.der_core.specs.Tied.{Tied}

same_made : {W : Type 0} (r : Result W Fault) → (r >>= λ x. Ok x) ≡ r
same_made (Ok x) = refl
same_made (Err e) = refl

abbrev then : {V : Type 0} → List ℕ → Result V Fault → Result (V × List ℕ) Fault
then rest s = s >>= λ v. Ok (v, rest)

valued_in : {V : Type 0} (q : All V) (r : Result (List ℕ × List ℕ) Fault) → (r >>= λ w. then w.1 (q w.0)) ≡ (r >>= λ w. then w.1 (made (λ x. x) q w.0))
valued_in {V} q (Ok w) = ap (λ (s : Result V Fault). then w.1 s) (sym (same_made (q w.0)))
valued_in q (Err e) = refl

valued_same : {V : Type 0} (q : All V) (n : ℕ) (b : List ℕ) → valued q n b ≡ valued (made (λ x. x) q) n b
valued_same q n b = valued_in q (slice_at n b)

tested : {V : Type 0} (tag : ℕ) (t : Bool) (h : Head × List ℕ) (q : ℕ → All V) → (IsTrue t → h.0.tag ≡ tag)
    → (where_ok t h >>= λ h. valued (q tag) h.0.size h.1) ≡ (where_ok t h >>= λ h. valued (λ w. made (λ x. x) (q h.0.tag) w) h.0.size h.1)
tested tag false h q same = refl
tested tag true h q same = rw (same refl) (valued_same (q tag) h.0.size h.1)

abbrev same : {W : Type 0} → W → W
same x = x

headed : {V : Type 0} (tag : ℕ) (q : ℕ → All V) (r : Result (Head × List ℕ) Fault)
    → (r >>= λ h. where_ok (nat_eq h.0.tag tag) h >>= λ h. valued (q tag) h.0.size h.1) ≡ (r >>= λ h. where_ok (nat_eq h.0.tag tag) h >>= λ h. valued (made same (q h.0.tag)) h.0.size h.1)
headed tag q (Ok h) = tested tag (nat_eq h.0.tag tag) h q (eqb-true h.0.tag tag)
headed tag q (Err e) = refl

-- types of one tag
pub tied_fixed : {A V : Type 0} (seen : A → V) (tag : ℕ) (q : ℕ → All V) → Tied seen (within tag (q tag)) (λ t. nat_eq t tag) seen q
tied_fixed seen tag q = record { of = same; sees = λ a. refl; is = λ b. headed tag q (header_at b) }

any_headed : (r : Result (Head × List ℕ) Fault)
    → (r >>= λ h. where_ok (any_tag h.0.tag) h >>= λ h. valued (any_of h.0.tag) h.0.size h.1) ≡ (r >>= λ h. where_ok (any_tag h.0.tag) h >>= λ h. valued (made same (any_of h.0.tag)) h.0.size h.1)
any_headed (Ok h) = refl
any_headed (Err e) = refl

-- AnyRef: any tag
pub tied_any : {A : Type 0} (seen : A → ℕ × List ℕ) → Tied seen any_at any_tag seen any_of
tied_any seen = record { of = same; sees = λ a. refl; is = λ b. any_headed (header_at b) }

-- ---- what decode_as returns is what reading the whole element returns

slice_all : (w : List ℕ) → slice_at (length w) w ≡ Ok (w, [])
slice_all w = ap (slice_at (length w)) (sym (append-nil w)) ∙ slice_again (length w) w [] refl

value_all : {V : Type 0} (r : Result V Fault) → (then [] r >>= λ x. ended x.0 x.1) ≡ r
value_all (Ok v) = refl
value_all (Err e) = refl

whole_in : {V : Type 0} (q : ℕ → All V) (t : ℕ) (w : List ℕ) (h : Head × List ℕ) (c : Bool) → h ≡ (record { tag = t; size = length w }, w)
    → ((where_ok c h >>= λ h. valued (q h.0.tag) h.0.size h.1) >>= λ x. ended x.0 x.1) ≡ (where_ok c nothing >>= λ u. q t w)
whole_in q t w h false is = refl
whole_in q t w h true is = rw is (rw (slice_all w) (value_all (q t w)))

pub whole_el : {V : Type 0} (can : ℕ → Bool) (q : ℕ → All V) (t : ℕ) (w : List ℕ) → IsTrue (is_tag t) → IsShort (el t w) → whole (by_tag can q) (el t w) ≡ (where_ok (can t) nothing >>= λ u. q t w)
unfolding el
whole_el can q t w ok short =
    let h : header_at (t ∷ (len (length w) ++ w)) ≡ Ok (record { tag = t; size = length w }, w) = header_again t (length w) w ok (omega (arith, el_length t (length w) w refl, short)) in
    rw h (whole_in q t w (record { tag = t; size = length w }, w) (can t) refl)

abbrev done : {A : Type 0} → A → Result A Fault
done x = Ok x

abbrev failed : {A : Type 0} → Fault → Result A Fault
failed f = Err f

err_is : {A : Type 0} (f g : Fault) → failed {A = A} f ≡ failed {A = A} g → f ≡ g
err_is f g e = cc

value_ok : {W : Type 0} (r : Result W Fault) (x : W) (new : List ℕ) → then [] r ≡ Ok (x, new) → r ≡ Ok x
value_ok {W} (Ok v) x new e = ap (λ (p : W × List ℕ). done p.0) (ok_is (v, []) (x, new) e)
value_ok (Err f) x new e = absurd cc

value_err : {W : Type 0} (r : Result W Fault) (f : Fault) → then [] r ≡ Err f → r ≡ Err f
value_err (Ok v) f e = absurd cc
value_err {W} (Err g) f e = ap (λ (h : Fault). failed {A = W} h) (err_is {A = W × List ℕ} g f e)

module _ {A V W : Type 0} (seen : A → V) (at : Front V) (can : ℕ → Bool) (seen_value : A → W) (value : ℕ → All W) (tied : Tied seen at can seen_value value) (t : ℕ) (w : List ℕ) (ok : IsTrue (is_tag t)) (short : IsHeader (length w)) where
  as_whole : whole at (el t w) ≡ (where_ok (can t) nothing >>= λ u. made tied.of (value t) w)
  as_whole = ap (λ (r : Result (V × List ℕ) Fault). r >>= λ x. ended x.0 x.1) (tied.is (el t w)) ∙ whole_el can (λ t. made tied.of (value t)) t w ok (omega (arith, el_length t (length w) w refl, short))

  pub as_other : can t ≡ false → whole at (el t w) ≡ Err Bad
  as_other not_it = as_whole ∙ rw not_it refl

  filled : valued (value t) (length w) w ≡ then [] (value t w)
  filled = rw (slice_all w) refl

  as_fault : (f : Fault) → IsTrue (can t) → valued (value t) (length w) w ≡ Err f → whole at (el t w) ≡ Err f
  as_fault f hit e = let g = value_err (value t w) f (sym filled ∙ e) in as_whole ∙ rw (hit, g) refl

  pub as_gives : (n : ℕ) (new : List ℕ) (r : Result A Error) → n ≡ length w → IsTrue (can t) → ReadsAs (valued (value t) n) seen_value w new r → Gives seen r (whole at (el t w))
  as_gives n new (Ok x) size hit e =
      let f : valued (value t) (length w) w ≡ Ok (seen_value x, new) = subst (λ (k : ℕ). valued (value t) k w ≡ Ok (seen_value x, new)) size e in
      let g = value_ok (value t w) (seen_value x) new (sym filled ∙ f) in
      as_whole ∙ rw (hit, g, tied.sees x) refl
  as_gives n new (Err errors.Malformed) size hit h = as_fault Bad hit (subst (λ (k : ℕ). valued (value t) k w ≡ Err Bad) size h.1)
  as_gives n new (Err (errors.OidUnknown o)) size hit h = as_fault (UnknownOid o) hit (subst (λ (k : ℕ). valued (value t) k w ≡ Err (UnknownOid o)) size h.1)
  as_gives n new (Err errors.Overlength) size hit h = absurd h.1
  as_gives n new (Err errors.NoRoom) size hit h = absurd h.1
  as_gives n new (Err errors.File) size hit h = absurd h.1
  as_gives n new (Err errors.Memory) size hit h = absurd h.1
