-- lemmas only: nothing to believe here
-- Rows that are read as an algorithm with any parameters first, and judged then.
use Rattle.std.proofs.Common.{if◌then◌else◌, ◌≡◌, ℕ, Bool, true, false, List, [], ◌++◌, Option, Some, None, Result, Ok, Err, refl, sym, ap, subst, ◌∙◌, IsTrue}
use Rattle.std.specs.Str.{bytes_eq}
use Rattle.std.proofs.lemmas.Slice.Eq.{bytes_eq-Decides}
use Rattle.std.proofs.lemmas.List.{append-nil}
use Rattle.asn1_core.specs.Der.{el, oid, IsShort}
use Rattle.asn1_core.specs.Identifier.{is_identifier}
use Rattle.asn1_core.specs.Oid.{oid_octets, oid_of, octets-oid_of}
use Rattle.asn1_core.specs.Reading.{Fault, Bad, All, Front, ◌>>=◌, any_tag, on, ended, whole, within, oid_at, option_at}
use Rattle.asn1_core.specs.Texts.{Exact, ExactAll, Within, Perhaps}
use Rattle.asn1_core.specs.declared.identifier.ObjectIdentifier.{ObjectIdentifier}
use Rattle.asn1_core.specs.ExactLaws.{bind_ok, ok_is, ended_ok, whole-exact, IsShort-left, IsShort-right}
use Rattle.asn1_core.specs.ElementLaws.{within-exact}
use Rattle.asn1_core.specs.StandLaws.{whole_found}
use Rattle.der_core.specs.Any.{AnyText, any_at}
use Rattle.spki.specs.Algorithm.{algorithm, algorithm_of, AlgorithmOf}
use Rattle.spki.specs.AlgorithmLaws.{algorithm_of-exact}
use Rattle.spki.specs.AnyLaws.{any-exact, any-whole}
use Rattle.spki.specs.Made.{made_of}
use Rattle.spki.specs.Seen.{AnyAlgorithm}

-- judging what stands for a text of P gives what stands for it in R
pub record Judges {A B : Type 0} (P : List ℕ → A → Type 0) (f : A → Result B Fault) (R : List ℕ → B → Type 0) : Type 0 where
  pub found : (b : List ℕ) (a : A) (v : B) → P b a → f a ≡ Ok v → R b v
  pub again : (b : List ℕ) (v : B) → R b v → IsShort b → (a : A) × P b a × (f a ≡ Ok v)

-- the same of whole elements
pub inside_judges : {A B : Type 0} (tag : ℕ) (P : List ℕ → A → Type 0) (f : A → Result B Fault) (R : List ℕ → B → Type 0) → ((w : List ℕ) → IsShort (el tag w) → IsShort w) → Judges P f R → Judges (Within tag P) f (Within tag R)
inside_judges tag P f R shorter j = record {
  found = λ b a v r e. (r.0, j.found r.0 a v r.1 e, r.2);
  again = λ b v r short.
      let x = j.again r.0 v r.1 (shorter r.0 (subst IsShort r.2 short)) in
      (x.0, (r.0, x.1, r.2), x.2);
}

module _ {A B : Type 0} (P : List ℕ → A → Type 0) (f : A → Result B Fault) (R : List ℕ → B → Type 0) (j : Judges P f R) where
  pub judged-exact : (p : All A) → ExactAll P p → ExactAll R (λ b. p b >>= f)
  judged-exact p exact = record {
    found = λ b v e. let x = bind_ok (p b) f v e in j.found b x.0 v (exact.found b x.0 x.1) x.2;
    again = λ b v r short. let x = j.again b v r short in rw (exact.again b x.0 x.1 short) x.2;
  }

pub bound : {A B : Type 0} (r : Result A Fault) (x : A) (k : A → Result B Fault) → r ≡ Ok x → (r >>= k) ≡ k x
bound r x k e = ap (λ q. q >>= k) e

-- ---- an algorithm that is judged before the end of its octets

module _ {B : Type 0} (f : AnyAlgorithm → Result B Fault) where
  made_found : (b : List ℕ) (v : B) → made_of f b ≡ Ok v → (a : AnyAlgorithm) × (algorithm_of any_tag any_at b ≡ Ok a) × (f a ≡ Ok v)
  made_found b v e =
      let x = bind_ok (oid_at b) (λ x. on (option_at any_tag any_at) (λ p rest. f (algorithm x.0 p) >>= λ v. ended v rest) x.1) v e in
      let y = bind_ok (option_at any_tag any_at x.0.1) (λ y. f (algorithm x.0.0 y.0) >>= λ v. ended v y.1) v x.2 in
      let z = bind_ok (f (algorithm x.0.0 y.0.0)) (λ v. ended v y.0.1) v y.2 in
      let w = ended_ok z.0 v y.0.1 z.2 in
      let read : algorithm_of any_tag any_at b ≡ Ok (algorithm x.0.0 y.0.0) =
      bound (oid_at b) x.0 (λ x. on (option_at any_tag any_at) (λ p. ended (algorithm x.0 p)) x.1) x.1
      ∙ bound (option_at any_tag any_at x.0.1) y.0 (λ y. ended (algorithm x.0.0 y.0) y.1) y.1
      ∙ ap (ended (algorithm x.0.0 y.0.0)) w.0 in
      (algorithm x.0.0 y.0.0, read, subst (λ (u : B). f (algorithm x.0.0 y.0.0) ≡ Ok u) w.1 z.1)

  made_again : (b : List ℕ) (a : AnyAlgorithm) (v : B) → algorithm_of any_tag any_at b ≡ Ok a → f a ≡ Ok v → made_of f b ≡ Ok v
  made_again b a v e is =
      let x = bind_ok (oid_at b) (λ x. on (option_at any_tag any_at) (λ p. ended (algorithm x.0 p)) x.1) a e in
      let y = bind_ok (option_at any_tag any_at x.0.1) (λ y. ended (algorithm x.0.0 y.0) y.1) a x.2 in
      let w = ended_ok (algorithm x.0.0 y.0.0) a y.0.1 y.2 in
      let same : f (algorithm x.0.0 y.0.0) ≡ Ok v = ap f w.1 ∙ is in
      bound (oid_at b) x.0 (λ x. on (option_at any_tag any_at) (λ p rest. f (algorithm x.0 p) >>= λ v. ended v rest) x.1) x.1
      ∙ bound (option_at any_tag any_at x.0.1) y.0 (λ y. f (algorithm x.0.0 y.0) >>= λ v. ended v y.1) y.1
      ∙ bound (f (algorithm x.0.0 y.0.0)) v (λ v. ended v y.0.1) same
      ∙ ap (ended v) w.0

  pub made_of-exact : (R : List ℕ → B → Type 0) → Judges (AlgorithmOf AnyText) f R → ExactAll R (made_of f)
  made_of-exact R j =
      let exact = algorithm_of-exact any_tag AnyText any_at any-exact any-whole in
      record {
        found = λ b v e. let x = made_found b v e in j.found b x.0 v (exact.found b x.0 x.1) x.2;
        again = λ b v r short. let x = j.again b v r short in made_again b x.0 v (exact.again b x.0 x.1 short) x.2;
      }

-- ---- two parts that are judged once both are read

module _ {A B C D V : Type 0} (P : List ℕ → A → Type 0) (Q : List ℕ → B → Type 0) (p : Front A) (q : Front B) (f : A → Result C Fault) (g : B → Result D Fault) (R : List ℕ → C → Type 0) (S : List ℕ → D → Type 0) (h : C → D → V) where
  abbrev pub together : All V
  together = on p (λ x. on q (λ y rest. f x >>= λ c. g y >>= λ d. ended (h c d) rest))

  abbrev pub Together : List ℕ → V → Type 0
  Together b v = (k : List ℕ) × (l : List ℕ) × (c : C) × (d : D) × R k c × S l d × (b ≡ k ++ l) × (v ≡ h c d)

  pub together-exact : Exact P p → Exact Q q → Judges P f R → Judges Q g S → ExactAll Together together
  together-exact first second i j = record {
    found = λ b v e.
        let x = bind_ok (p b) (λ x. on q (λ y rest. f x.0 >>= λ c. g y >>= λ d. ended (h c d) rest) x.1) v e in
        let y = bind_ok (q x.0.1) (λ y. f x.0.0 >>= λ c. g y.0 >>= λ d. ended (h c d) y.1) v x.2 in
        let c = bind_ok (f x.0.0) (λ c. g y.0.0 >>= λ d. ended (h c d) y.0.1) v y.2 in
        let d = bind_ok (g y.0.0) (λ d. ended (h c.0 d) y.0.1) v c.2 in
        let w = ended_ok (h c.0 d.0) v y.0.1 d.2 in
        let t = first.found b x.0.0 x.0.1 x.1 in
        let u = second.found x.0.1 y.0.0 y.0.1 y.1 in
        let is : b ≡ t.text ++ u.text = t.is ∙ ap (λ (l : List ℕ). t.text ++ l) (u.is ∙ ap (λ (l : List ℕ). u.text ++ l) w.0 ∙ append-nil u.text) in
        (t.text, u.text, c.0, d.0, i.found t.text x.0.0 c.0 t.holds c.1, j.found u.text y.0.0 d.0 u.holds d.1, is, sym w.1);
    again = λ b v r short.
        let s : IsShort (r.0 ++ r.1) = subst IsShort r.6 short in
        let x = i.again r.0 r.2 r.4 (IsShort-left r.0 r.1 s) in
        let y = j.again r.1 r.3 r.5 (IsShort-right r.0 r.1 s) in
        let one : p b ≡ Ok (x.0, r.1) = ap p r.6 ∙ first.again r.0 x.0 r.1 x.1 (IsShort-left r.0 r.1 s) in
        let two : q r.1 ≡ Ok (y.0, []) = ap q (sym (append-nil r.1)) ∙ second.again r.1 y.0 [] y.1 (IsShort-right r.0 r.1 s) in
        rw one (rw two (rw (x.2, y.2, r.7) refl));
  }

-- ---- an algorithm that is judged by its identifier and its parameters

-- by the outcome of a test of octets
pub if_test : {V : Type 0} (R : V → Type 0) (k m : List ℕ) (x y : V) → (k ≡ m → R x) → R y → R (if bytes_eq k m then x else y)
if_test {V} R k m x y same other = by_test (bytes_eq k m) refl
  where
    by_test : (t : Bool) → bytes_eq k m ≡ t → R (if t then x else y)
    by_test true e = same ((bytes_eq-Decides k m).0 e)
    by_test false e = other

pub any_is : (p : List ℕ) (x : ℕ × List ℕ) → AnyText p x → p ≡ el x.0 x.1
any_is p x r = r.5 ∙ ap (λ (z : ℕ × List ℕ). el z.0 z.1) (sym r.4)

abbrev pub in_with : {W : Type 0} → (ObjectIdentifier → ℕ × List ℕ → Result W Fault) → AnyAlgorithm → Result W Fault
in_with f a = elim a.parameters [ None ↦ Err Bad | Some p ↦ f a.oid p ]

-- judging an identifier with parameters gives what stands for both in R, whose texts are an identifier and a SEQUENCE
pub record JudgesWith {W : Type 0} (f : ObjectIdentifier → ℕ × List ℕ → Result W Fault) (R : List ℕ → W → Type 0) : Type 0 where
  pub found : (o : ObjectIdentifier) (x : ℕ × List ℕ) (w : W) → f o x ≡ Ok w → R (oid (oid_octets o) ++ el x.0 x.1) w
  pub again : (b : List ℕ) (w : W) → R b w → IsShort b → (id : List ℕ) × (v : List ℕ) × IsTrue (is_identifier id) × (b ≡ oid id ++ el 0x30 v)
      × ((o : ObjectIdentifier) → oid_octets o ≡ id → f o (0x30, v) ≡ Ok w)

module _ {W : Type 0} (f : ObjectIdentifier → ℕ × List ℕ → Result W Fault) (R : List ℕ → W → Type 0) (j : JudgesWith f R) where
  in_found : (o : ObjectIdentifier) (x : Option (ℕ × List ℕ)) (p : List ℕ) (w : W) → Perhaps AnyText p x → in_with f (algorithm o x) ≡ Ok w → R (oid (oid_octets o) ++ p) w
  in_found o None p w r e = absurd cc
  in_found o (Some x) p w r e = subst (λ (l : List ℕ). R (oid (oid_octets o) ++ l) w) (sym (any_is p x r)) (j.found o x w e)

  pub with_judges : Judges (AlgorithmOf AnyText) (in_with f) R
  with_judges = record {
    found = λ b a w r e. subst (λ (l : List ℕ). R l w) (sym r.2) (in_found a.oid a.parameters r.0 w r.1 e);
    again = λ b w r short.
        let x = j.again b w r short in
        let o = oid_of x.0 x.2 in
        let same : oid_octets o ≡ x.0 = octets-oid_of x.0 x.2 in
        let s : IsShort (el 0x30 x.1) = IsShort-right (oid x.0) (el 0x30 x.1) (subst IsShort x.3 short) in
        (algorithm o (Some (0x30, x.1)), (el 0x30 x.1, (0x30, x.1, refl, refl, refl, refl), x.3 ∙ ap (λ (k : List ℕ). oid k ++ el 0x30 x.1) (sym same)), x.4 o same);
  }

-- ---- parameters of one row, and the value that is made of them

module _ {V W : Type 0} (T : List ℕ → V → Type 0) (q : All V) (exact : ExactAll T q) (wrap : V → W) where
  around : Exact (Within 0x30 T) (within 0x30 q)
  around = within-exact 0x30 T q refl exact

  -- found in an element
  pub row_found : (x : ℕ × List ℕ) (w : W) → (whole (within 0x30 q) (el x.0 x.1) >>= λ v. Ok (wrap v)) ≡ Ok w → (v : V) × Within 0x30 T (el x.0 x.1) v × (w ≡ wrap v)
  row_found x w e =
      let y = bind_ok (whole (within 0x30 q) (el x.0 x.1)) (λ v. Ok (wrap v)) w e in
      (y.0, (whole_found (Within 0x30 T) (within 0x30 q) around (el x.0 x.1) y.0 y.1).0, sym (ok_is (wrap y.0) w y.2))

  -- and read again
  pub row_again : (b : List ℕ) (v : V) (r : Within 0x30 T b v) → IsShort b → (whole (within 0x30 q) (el 0x30 r.0) >>= λ v. Ok (wrap v)) ≡ Ok (wrap v)
  row_again b v r short =
      let read : whole (within 0x30 q) (el 0x30 r.0) ≡ Ok v = (whole-exact (Within 0x30 T) (within 0x30 q) around).again (el 0x30 r.0) v (r.0, r.1, refl) (subst IsShort r.2 short) in
      ap (λ r. r >>= λ v. Ok (wrap v)) read
