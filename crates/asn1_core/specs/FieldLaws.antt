-- lemmas only: nothing to believe here
-- What is exact when it is put together of parts and fields.
use Rattle.std.proofs.Common.{◌≡◌, ℕ, Bool, true, false, cond, List, [], ◌∷◌, ◌++◌, Ok, Err, refl, sym, ap, subst, ◌∙◌, inl, inr, IsTrue}
use Rattle.std.specs.Prelude.{◌≢◌}
use Rattle.std.specs.Str.{bytes_eq}
use Rattle.std.proofs.lemmas.Slice.Eq.{bytes_eq-Decides}
use Rattle.std.proofs.lemmas.List.{append-nil}
use Rattle.asn1_core.specs.Der.{el, IsShort, is_tag}
use Rattle.asn1_core.specs.Reading.{where_ok, oid_at, Fault, ended, Front, All, whole, on, made, perhaps, many, within}
use Rattle.asn1_core.specs.Texts.{Exact, ExactAll, Raw, Oid, On, Taken, Within, Perhaps, Many, Made}
use Rattle.asn1_core.specs.declared.identifier.ObjectIdentifier.{ObjectIdentifier}
use Rattle.asn1_core.specs.ExactLaws.{where_holds, where_true, whole-exact, on-exact, bind_ok, ok_is, ended_ok, perhaps-exact, made-exact, many-exact, IsShort-left, IsShort-right}
use Rattle.asn1_core.specs.ElementLaws.{within-exact, oid-exact}
use Rattle.asn1_core.specs.Fields.{Field, End, Latest, ByCase, Never, The, Passing, OrNothing, last_of, latest, never, the, passing, checked, or_nothing}

-- What is read after known parts: C says what they make of the value.
abbrev pub Known : {W : Type 0} → (W → Type 0) → (List ℕ → W → Type 0) → List ℕ → W → Type 0
Known C S b w = C w × S b w

-- ---- fields

pub sequence : {W : Type 0} {R : List ℕ → W → Type 0} {q : All W} (tag : ℕ) → IsTrue (is_tag tag) → ExactAll (Known (λ w. Unit {0}) R) q → Exact (Within tag R) (within tag q)
sequence {R = R} {q = q} tag ok e = within-exact tag R q ok (record {
  found = λ b v h. (e.found b v h).1;
  again = λ b v r short. e.again b v (tt, r) short;
})

pub field : {A W : Type 0} {C : W → Type 0} {R : List ℕ → A → Type 0} {S : List ℕ → W → Type 0} {p : Front A} {k : A → All W} (get : W → A)
    → Exact R p → ((a : A) → ExactAll (Known (λ w. C w × (get w ≡ a)) S) (k a)) → ExactAll (Known C (Field R get S)) (on p k)
field {R = R} {p = p} {k = k} get exact others = record {
  found = λ b w e.
      let x = bind_ok (p b) (λ x. k x.0 x.1) w e in
      let f = exact.found b x.0.0 x.0.1 x.1 in
      let g = (others x.0.0).found x.0.1 w x.2 in
      (g.0.0, (f.text, x.0.1, subst (λ a. R f.text a) (sym g.0.1) f.holds, g.1, f.is));
  again = λ b w r short.
      let s : IsShort (r.1.0 ++ r.1.1) = subst IsShort r.1.4 short in
      let e : p b ≡ Ok (get w, r.1.1) = ap p r.1.4 ∙ exact.again r.1.0 (get w) r.1.1 r.1.2 (IsShort-left r.1.0 r.1.1 s) in
      let f = (others (get w)).again r.1.1 w ((r.0, refl), r.1.3) (IsShort-right r.1.0 r.1.1 s) in
      rw (e, f) refl;
}

-- the end: the known parts make x and nothing else
pub end : {W : Type 0} {C : W → Type 0} (x : W) → C x → ((w : W) → C w → w ≡ x) → ExactAll (Known C End) (ended x)
end {C = C} x c only = record {
  found = λ b w e. let y = ended_ok x w b e in (subst C y.1 c, y.0);
  again = λ b w r short. rw (r.1, only w r.0) refl;
}

-- a last part that is read to the end
pub last : {A W : Type 0} {C : W → Type 0} {R : List ℕ → A → Type 0} {p : All A} (get : W → A) (f : A → W)
    → ExactAll R p → ((a : A) → C (f a) × (get (f a) ≡ a)) → ((w : W) → C w → w ≡ f (get w)) → ExactAll (Known C (Field R get End)) (made f p)
last {A = A} {W = W} {C = C} {R = R} {p = p} get f e ok only = record {
  found = λ b w h.
      let x = bind_ok (p b) (λ x. Ok (f x)) w h in
      let is : f x.0 ≡ w = ok_is (f x.0) w x.2 in
      let o = ok x.0 in
      let r : R b (get w) = subst (λ (u : W). R b (get u)) is (subst (R b) (sym o.1) (e.found b x.0 x.1)) in
      (subst C is o.0, (b, [], r, refl, sym (append-nil b)));
  again = λ b w r short.
      let is : b ≡ r.1.0 = r.1.4 ∙ ap (λ (y : List ℕ). r.1.0 ++ y) r.1.3 ∙ append-nil r.1.0 in
      rw (e.again b (get w) (subst (λ (y : List ℕ). R y (get w)) (sym is) r.1.2) short, sym (only w r.0)) refl;
}

-- ---- a choice by the identifier

test_false : (k known : List ℕ) → k ≢ known → bytes_eq k known ≡ false
test_false k known ne = by_test (bytes_eq k known) refl
  where
    by_test : (t : Bool) → bytes_eq k known ≡ t → t ≡ false
    by_test true e = absurd (ne ((bytes_eq-Decides k known).0 e))
    by_test false e = refl

pub choice : {A : Type 0} {R S : List ℕ → A → Type 0} {p q : All A} (k known : List ℕ) → ExactAll R p → ExactAll S q → ExactAll (ByCase k known R S) (cond (bytes_eq k known) p q)
choice {R = R} {S = S} {p = p} {q = q} k known e f = record {
  found = λ b v h. found b v (bytes_eq k known) refl h;
  again = again;
}
  where
    found : (b : List ℕ) (v : _) → (t : Bool) → bytes_eq k known ≡ t → cond t p q b ≡ Ok v → ByCase k known R S b v
    found b v true is h = inl ((bytes_eq-Decides k known).0 is, e.found b v h)
    found b v false is h = inr (λ same. let yes = (bytes_eq-Decides k known).1 same in absurd cc, f.found b v h)

    again : (b : List ℕ) (v : _) → ByCase k known R S b v → IsShort b → cond (bytes_eq k known) p q b ≡ Ok v
    again b v (inl (is, r)) short = rw ((bytes_eq-Decides k known).1 is) (e.again b v r short)
    again b v (inr (ne, s)) short = rw (test_false k known ne) (f.again b v s short)

pub no_more : {A : Type 0} → ExactAll {A = A} Never never
no_more = record { found = λ b v e. absurd cc; again = λ b v r short. absurd r }

pub variant : {A B : Type 0} {R : List ℕ → A → Type 0} {p : All A} (f : A → B) → ExactAll R p → ExactAll (Made f R) (made f p)
variant {R = R} {p = p} f exact = made-exact f R p exact

-- ---- the last of one or more

last_found : {A : Type 0} (vs : List A) (v : A) → last_of vs ≡ Ok v → (more : List A) × (vs ≡ more ++ v ∷ [])
last_found [] v e = absurd cc
last_found (w ∷ []) v e = ([], ap (λ x. x ∷ []) (ok_is w v e))
last_found (w ∷ x ∷ xs) v e = let r = last_found (x ∷ xs) v e in (w ∷ r.0, ap (λ l. w ∷ l) r.1)

pub last_again : {A : Type 0} (more : List A) (v : A) → last_of (more ++ v ∷ []) ≡ Ok v
last_again [] v = refl
last_again (w ∷ []) v = refl
last_again (w ∷ x ∷ xs) v = last_again (x ∷ xs) v

pub latest-exact : {A : Type 0} {R : List ℕ → A → Type 0} {p : Front A} → Exact R p → ((v : A) → R [] v → ⊥) → ExactAll (Latest R) (latest p)
latest-exact {R = R} {p = p} exact none =
    let e = many-exact R p exact none in record {
      found = λ b v h.
          let x = bind_ok (many p b) last_of v h in
          let l = last_found x.0 v x.2 in
          (l.0, subst (Many R b) l.1 (e.found b x.0 x.1));
      again = λ b v r short. rw (e.again b (r.0 ++ v ∷ []) r.1 short) (last_again r.0 v);
    }

-- ---- parts with a test

pub the-exact : {A : Type 0} {R : List ℕ → A → Type 0} {p : Front A} (t : A → Bool) (c : A) → ((v : A) → IsTrue (t v) → v ≡ c) → IsTrue (t c) → Exact R p → Exact (The R c) (the t p)
the-exact {R = R} {p = p} t c only ok exact = record {
  found = λ b u rest h.
      let x = bind_ok (p b) (λ x. where_ok (t x.0) (tt, x.1)) (u, rest) h in
      let w = where_holds (t x.0.0) (tt, x.0.1) (u, rest) x.2 in
      let f = exact.found b x.0.0 x.0.1 x.1 in
      record { text = f.text; holds = subst (R f.text) (only x.0.0 w.0) f.holds; short = f.short; is = f.is ∙ ap (λ (y : Unit {0} × List ℕ). f.text ++ y.1) w.1 };
  again = λ b u rest r short. rw (exact.again b c rest r short) (where_true (t c) (tt, rest) ok);
}

pub passing-exact : {A : Type 0} {R : List ℕ → A → Type 0} {p : Front A} (t : A → Bool) → Exact R p → Exact (Passing t R) (passing t p)
passing-exact {A = A} {R = R} {p = p} t exact = record {
  found = λ b v rest h.
      let x = bind_ok (p b) (λ x. where_ok (t x.0) x) (v, rest) h in
      let w = where_holds (t x.0.0) x.0 (v, rest) x.2 in
      let f = exact.found b x.0.0 x.0.1 x.1 in
      subst (λ (y : A × List ℕ). Taken (Passing t R) b y.0 y.1) w.1 (record { text = f.text; holds = (f.holds, w.0); short = f.short; is = f.is });
  again = λ b v rest r short. rw (exact.again b v rest r.0 short) (where_true (t v) (v, rest) r.1);
}

pub checked-exact : {A : Type 0} {R : List ℕ → A → Type 0} {p : All A} (t : A → Bool) → ExactAll R p → ExactAll (Passing t R) (checked t p)
checked-exact {A = A} {R = R} {p = p} t exact = record {
  found = λ b v h.
      let x = bind_ok (p b) (λ x. where_ok (t x) x) v h in
      let w = where_holds (t x.0) x.0 v x.2 in
      subst (λ (y : A). Passing t R b y) w.1 (exact.found b x.0 x.1, w.0);
  again = λ b v r short. rw (exact.again b v r.0 short) (where_true (t v) v r.1);
}

pub or_nothing-exact : {A : Type 0} {R : List ℕ → A → Type 0} {p : All A} (c : A) → ((v : A) → R [] v → ⊥) → ExactAll R p → ExactAll (OrNothing c R) (or_nothing c p)
or_nothing-exact {R = R} {p = p} c none exact = record { found = found; again = again }
  where
    found : (b : List ℕ) (v : _) → or_nothing c p b ≡ Ok v → OrNothing c R b v
    found [] v e = inl (refl, sym (ok_is c v e))
    found (b ∷ bs) v e = inr (exact.found (b ∷ bs) v e)

    again : (b : List ℕ) (v : _) → OrNothing c R b v → IsShort b → or_nothing c p b ≡ Ok v
    again [] v (inl (e, is)) short = rw is refl
    again [] v (inr r) short = absurd (none v r)
    again (b ∷ bs) v (inl (e, is)) short = absurd cc
    again (b ∷ bs) v (inr r) short = exact.again (b ∷ bs) v r short

-- one part, whole, inside an element
pub explicit : {A : Type 0} {R : List ℕ → A → Type 0} {p : Front A} (tag : ℕ) → IsTrue (is_tag tag) → Exact R p → Exact (Within tag R) (within tag (whole p))
explicit {R = R} {p = p} tag ok exact = within-exact tag R (whole p) ok (whole-exact R p exact)

pub inside : {A : Type 0} {R : List ℕ → A → Type 0} {q : All A} (tag : ℕ) → IsTrue (is_tag tag) → ExactAll R q → Exact (Within tag R) (within tag q)
inside {R = R} {q = q} tag ok exact = within-exact tag R q ok exact

-- fields that are at the start
pub fields : {W : Type 0} {R : List ℕ → W → Type 0} {q : All W} → ExactAll (Known (λ w. Unit {0}) R) q → ExactAll R q
fields e = record { found = λ b v h. (e.found b v h).1; again = λ b v r short. e.again b v (tt, r) short }

-- an identifier, and what it announces
pub identified : {W : Type 0} {S : ObjectIdentifier → List ℕ → W → Type 0} {k : ObjectIdentifier → All W} → ((o : ObjectIdentifier) → ExactAll (S o) (k o)) → Exact (Within 0x30 (On Oid S)) (within 0x30 (on oid_at k))
identified {S = S} {k = k} e = within-exact 0x30 (On Oid S) (on oid_at k) refl (on-exact Oid S oid_at k oid-exact e)

pub set_of : {A : Type 0} {R : List ℕ → A → Type 0} {p : Front A} (tag : ℕ) → IsTrue (is_tag tag) → Exact R p → ((v : A) → R [] v → ⊥) → Exact (Within tag (Many R)) (within tag (many p))
set_of {R = R} {p = p} tag ok exact none = within-exact tag (Many R) (many p) ok (many-exact R p exact none)

-- no element is an empty text
pub el_some : (tag : ℕ) (v : List ℕ) → [] ≡ el tag v → ⊥
unfolding el
el_some tag v e = absurd cc

pub within_some : {A : Type 0} (tag : ℕ) (R : List ℕ → A → Type 0) (v : A) → Within tag R [] v → ⊥
within_some tag R v r = el_some tag r.0 r.2

pub raw_some : (v : List ℕ) → Raw [] v → ⊥
raw_some v r = el_some r.1.0 r.1.1 r.1.3

pub all_of : {A : Type 0} {R : List ℕ → A → Type 0} {p : Front A} → Exact R p → ExactAll R (whole p)
all_of {R = R} {p = p} exact = whole-exact R p exact

pub if_there : {A : Type 0} {R : List ℕ → A → Type 0} {p : Front A} → Exact R p → ((v : A) → R [] v → ⊥) → ExactAll (Perhaps R) (perhaps p)
if_there {R = R} {p = p} exact none = perhaps-exact R p exact none

-- no text, with a fault of its own
pub refused : {A : Type 0} (f : Fault) → ExactAll {A = A} Never (λ b. Err f)
refused f = record { found = λ b v e. absurd cc; again = λ b v r short. absurd r }
