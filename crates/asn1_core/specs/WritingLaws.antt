-- lemmas only: nothing to believe here
-- One text after another.
use Rattle.std.proofs.Common.{◌≡◌, ℕ, ◌+◌, ◌-◌, ◌<◌, ◌≤◌, List, [], ◌∷◌, ◌++◌, length, refl, sym, ap, subst, ◌∙◌, arith, length-append, append_assoc, append-nil}
use Rattle.std.specs.Prelude.{Option, Some, None, Result, Ok, Err}
use Rattle.std.proofs.Common.{◌⊎◌, inl, inr}
use Rattle.asn1_core.specs.declared.error.Error.{Error}
use Rattle.asn1_core.specs.declared.error.Error.TheVariants.{Malformed, OidUnknown, Overlength, NoRoom, File, Memory}
use Rattle.asn1_core.specs.Writing.{Sink, Wrote, Stopped, Falls, LacksRoom, Cause, Writes, Measures}
use Rattle.std.specs.Prelude.{MatchResult, OnOk}
use Rattle.asn1_core.specs.Der.{len, el, IsHeader, IsShort}
use Rattle.asn1_core.specs.ElementLaws.{el_length}
use Rattle.asn1_core.specs.declared.header.Length.{Length}

falls_then : (x y z : Option ℕ) (m n : ℕ) → Falls x m y → Falls y n z → Falls x (m + n) z
falls_then None y z m n p q = let r : Falls None n z = subst (λ (k : Option ℕ). Falls k n z) p q in r
falls_then (Some a) y z m n p q =
    let r : (n ≤ a - m) × (z ≡ Some (a - m - n)) = subst (λ (k : Option ℕ). Falls k n z) p.1 q in
    let e : a - m - n ≡ a - (m + n) = omega arith in
    (omega (arith, p.0, r.0), r.1 ∙ ap (λ (k : ℕ). Some k) e)

falls_none : (x : Option ℕ) → Falls x 0 x
falls_none None = refl
falls_none (Some a) = let e : a ≡ a - 0 = omega arith in (omega arith, ap (λ (k : ℕ). Some k) e)

lacks_then : (x y : Option ℕ) (m n : ℕ) → Falls x m y → LacksRoom y n → LacksRoom x (m + n)
lacks_then None y m n p q = subst (λ (k : Option ℕ). LacksRoom k n) p q
lacks_then (Some a) y m n p q =
    let r : a - m < n = subst (λ (k : Option ℕ). LacksRoom k n) p.1 q in
    omega (arith, r, p.0)

lacks_more : (x : Option ℕ) (m n : ℕ) → m ≤ n → LacksRoom x m → LacksRoom x n
lacks_more None m n h p = p
lacks_more (Some a) m n h p = omega arith

module _ {W : Type 0} (S : Sink W) (a b : List ℕ) (x y z : W) where
  pub wrote_then : Wrote S a x y → Wrote S b y z → Wrote S (a ++ b) x z
  wrote_then p q = record {
    adds = λ m h. rw (← append_assoc m a b) (q.adds (m ++ a) (p.adds m h));
    falls = rw (length-append a b) (falls_then (S.room x) (S.room y) (S.room z) (length a) (length b) p.falls q.falls);
    rises = omega (arith, p.rises, q.rises);
    stays = p.stays ∙ q.stays;
  }

  module _ (bad over bad2 over2 : Type 0) (e : Error) (f : bad → bad2) (g : over → over2) where
    cause_first : (r : Option ℕ) (m n k l : ℕ) → m ≤ n → (e : Error) → Cause bad over S.memory r m k l e → Cause bad2 over2 S.memory r n k l e
    cause_first r m n k l h Malformed c = f c
    cause_first r m n k l h (OidUnknown o) c = c
    cause_first r m n k l h Overlength c = g c
    cause_first r m n k l h NoRoom c = lacks_more r m n h c
    cause_first r m n k l h File c = c
    cause_first r m n k l h Memory c = c

    pub stopped_first : Stopped S bad over a x e y → Stopped S bad2 over2 (a ++ b) x e y
    stopped_first p = record {
      front = p.front;
      rest = p.rest ++ b;
      is = ap (λ (k : List ℕ). k ++ b) p.is ∙ append_assoc p.front p.rest b;
      adds = p.adds;
      falls = p.falls;
      cause = cause_first (S.room x) (length a) (length (a ++ b)) (S.faults x) (S.faults y) (omega (arith, length-append a b)) e p.cause;
      rises = p.rises;
      stays = p.stays;
    }

    cause_then : (r s : Option ℕ) (m n k l o : ℕ) → Falls r m s → k ≤ l → (e : Error) → Cause bad over S.memory s n l o e → Cause bad2 over2 S.memory r (m + n) k o e
    cause_then r s m n k l o p h Malformed c = f c
    cause_then r s m n k l o p h (OidUnknown u) c = c
    cause_then r s m n k l o p h Overlength c = g c
    cause_then r s m n k l o p h NoRoom c = lacks_then r s m n p c
    cause_then r s m n k l o p h File c = omega (arith, c, h)
    cause_then r s m n k l o p h Memory c = c

    pub stopped_then : Wrote S a x y → Stopped S bad over b y e z → Stopped S bad2 over2 (a ++ b) x e z
    stopped_then p q = record {
      front = a ++ q.front;
      rest = q.rest;
      is = ap (λ (l : List ℕ). a ++ l) q.is ∙ sym (append_assoc a q.front q.rest);
      adds = λ m h. subst (λ (l : List ℕ). S.holds z l) (append_assoc m a q.front) (q.adds (m ++ a) (p.adds m h));
      falls = rw (length-append a q.front) (falls_then (S.room x) (S.room y) (S.room z) (length a) (length q.front) p.falls q.falls);
      cause = rw (length-append a b) (cause_then (S.room x) (S.room y) (length a) (length b) (S.faults x) (S.faults y) (S.faults z) p.falls p.rises e q.cause);
      rises = omega (arith, p.rises, q.rises);
      stays = p.stays ∙ q.stays;
    }

module _ {W : Type 0} (S : Sink W) (a b : List ℕ) (x y z : W) (bad over bad2 over2 : Type 0) (f : bad → bad2) (g : over → over2) where
  -- one text was written, and then another call returns
  pub writes_then : Wrote S a x y → (r : Result (Unit {0}) Error) → Writes S bad over b y r z → Writes S bad2 over2 (a ++ b) x r z
  writes_then p (Ok u) q = wrote_then S a b x y z p q
  writes_then p (Err e) q = stopped_then S a b x y z bad over bad2 over2 e f g p q

-- nothing was written
pub stopped_before : {W : Type 0} (S : Sink W) (bad over : Type 0) (text : List ℕ) (x : W) (e : Error)
    → ((e ≡ Malformed) × bad) ⊎ ((e ≡ Overlength) × over) → Stopped S bad over text x e x
stopped_before S bad over text x e h = record {
  front = [];
  rest = text;
  is = refl;
  adds = λ m k. rw append-nil k;
  falls = falls_none (S.room x);
  cause = elim h [
    | inl k ↦ subst (λ (d : Error). Cause bad over S.memory (S.room x) (length text) (S.faults x) (S.faults x) d) (sym k.0) k.1
    | inr k ↦ subst (λ (d : Error). Cause bad over S.memory (S.room x) (length text) (S.faults x) (S.faults x) d) (sym k.0) k.1
  ];
  rises = omega arith;
  stays = refl;
}

pub measures_more : (bad : Type 0) (v w : List ℕ) (e : Error) → length v ≤ length w
    → ((e ≡ Malformed) × bad) ⊎ ((e ≡ Overlength) × (4294967296 ≤ length v)) → ((e ≡ Malformed) × bad) ⊎ ((e ≡ Overlength) × (4294967296 ≤ length w))
measures_more bad v w e h p = elim p [ inl k ↦ inl k | inr k ↦ inr (k.0, omega (arith, k.1)) ]

pub el_size : (t : ℕ) (v : List ℕ) → length (el t v) ≡ 1 + length (len (length v)) + length v
el_size t v = el_length t (length v) v refl

pub measured_el : (bad : Type 0) (t n : ℕ) (v : List ℕ) (r : Result Length Error) → n ≡ length v
    → MatchResult r (λ k. (k.value ≡ 1 + length (len n) + n) × IsHeader n) (λ e. (e ≡ Overlength) × (4294967296 ≤ 1 + length (len n) + n)) → Measures bad (el t v) r
measured_el bad t n v (Ok k) p q = let r = rw p at q.0 in r ∙ sym (el_size t v)
measured_el bad t n v (Err e) p q = let k = rw p at q in inr (k.0, omega (arith, el_size t v, k.1))

pub overlong_el : (t n : ℕ) (v : List ℕ) → n ≡ length v → 4294967296 ≤ 1 + length (len n) + n → 4294967296 ≤ length (el t v)
overlong_el t n v p q = let k = rw p at q in omega (arith, el_size t v, k)

module _ {W : Type 0} (S : Sink W) (t u n : ℕ) (v : List ℕ) (x y z : W) (bad : Type 0) (tag : u ≡ t) (long : n ≡ length v) where
  pub header_stopped : (e : Error) → Stopped S ⊥ ⊥ (u ∷ len n) x e y → Stopped S bad (4294967296 ≤ length (el t v)) (el t v) x e y
  unfolding el
  header_stopped e p =
      let q = rw (tag, long) at p in
      stopped_first S (t ∷ len (length v)) v x y z ⊥ ⊥ bad (4294967296 ≤ length (el t v)) e (λ h. absurd h) (λ h. absurd h) q

  pub value_written : Wrote S (u ∷ len n) x y → (r : Result (Unit {0}) Error) → Writes S bad (4294967296 ≤ length v) v y r z → Writes S bad (4294967296 ≤ length (el t v)) (el t v) x r z
  unfolding el
  value_written p r q =
      let o = rw (tag, long) at p in
      writes_then S (t ∷ len (length v)) v x y z bad (4294967296 ≤ length v) bad (4294967296 ≤ length (el t v)) (λ h. h) (λ h. omega (arith, el_size t v, h)) o r q

pub refused_el : (bad : Type 0) (t : ℕ) (v : List ℕ) (e : Error)
    → ((e ≡ Malformed) × bad) ⊎ ((e ≡ Overlength) × (4294967296 ≤ length v)) → ((e ≡ Malformed) × bad) ⊎ ((e ≡ Overlength) × (4294967296 ≤ length (el t v)))
refused_el bad t v e p = measures_more bad v (el t v) e (omega (arith, el_size t v)) p

-- the same of a value whose octets are there: it is refused by the writer alone
module _ {W : Type 0} (S : Sink W) (t n : ℕ) (v : List ℕ) (x y z : W) (bad over : Type 0) (long : n ≡ length v) where
  pub element_stopped : (e : Error) → Stopped S ⊥ ⊥ (t ∷ len n) x e y → Stopped S bad over (el t v) x e y
  unfolding el
  element_stopped e p =
      let q = rw long at p in
      stopped_first S (t ∷ len (length v)) v x y z ⊥ ⊥ bad over e (λ h. absurd h) (λ h. absurd h) q

  pub element_written : Wrote S (t ∷ len n) x y → (r : Result (Unit {0}) Error) → Writes S ⊥ ⊥ v y r z → Writes S bad over (el t v) x r z
  unfolding el
  element_written p r q =
      let o = rw long at p in
      writes_then S (t ∷ len (length v)) v x y z ⊥ ⊥ bad over (λ h. absurd h) (λ h. absurd h) o r q

-- an element whose length was measured is short
pub short_el : (t n : ℕ) (v : List ℕ) → n ≡ length v → IsHeader n → IsShort (el t v)
short_el t n v p h = let r = rw p at h in omega (arith, el_size t v, r)

-- what holds anyway holds where a call succeeds
pub held : {X : Type 0} (P : Type 0) (r : Result X Error) → P → OnOk r P
held P (Ok x) h = h
held P (Err e) h = tt
