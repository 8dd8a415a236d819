-- Tables of causes, and parts in their order with the first that has a fault.
use Rattle.std.specs.Prelude.{◌⊎◌, ℕ, ◌+◌, ◌≤◌, ◌≡◌, List, ◌∷◌, ◌++◌}
use Rattle.std.specs.List.{sum_by}
use Rattle.asn1_core.specs.Sets.{Each}

-- A row of a table: where P holds the result is v, after k steps, and else the further rows decide.
abbrev pub Row : {V : Type 0} → Type 0 → V → ℕ → (V → ℕ → Type 0) → V → ℕ → Type 0
Row P v k rest w n = (P × (w ≡ v) × (n ≡ k)) ⊎ ((P → ⊥) × rest w n)

-- The further rows speak of an x for which R holds.
abbrev pub Of : {X V : Type 0} → (X → Type 0) → (X → V → ℕ → Type 0) → V → ℕ → Type 0
Of {X} R rest w n = (x : X) × R x × rest x w n

-- What is done with a part: its share of the work, what it opens to, and what faults it has under a
-- running sum, each with the steps that were taken at the part by then.
pub record PartKind (A B E : Type 0) : Type 1 where
  pub share : A → ℕ
  pub OpensTo : A → B → Type 0
  pub Fault : ℕ → A → E → ℕ → Type 0

-- The parts were opened, and the running sum is within the limit after the last of them.
pub record AreOpen {A B E : Type 0} (K : PartKind A B E) (limit sum : ℕ) (xs : List A) (ys : List B)
    : Type 0 where
  pub each : Each K.OpensTo xs ys
  pub within : sum + sum_by K.share xs ≤ limit

-- After the things so far come those that further parts open to.
pub record OpensMore {A B E : Type 0} (K : PartKind A B E) (limit sum : ℕ) (xs : List A)
    (old new : List B) : Type 0 where
  pub made : List B
  pub grows : new ≡ old ++ made
  pub opened : AreOpen K limit sum xs made

-- Of the parts `part` is the first that has a fault: those before it were opened within the limit,
-- and its own fault is e. By then k steps were taken.
pub record IsFirstFault {A B E : Type 0} (K : PartKind A B E) (limit sum : ℕ) (xs : List A) (e : E)
    (k : ℕ) : Type 0 where
  pub before : List A
  pub part : A
  pub behind : List A
  pub split : xs ≡ before ++ part ∷ behind
  pub made : List B
  pub open_before : AreOpen K limit sum before made
  pub own : ℕ
  pub fault : K.Fault (sum + sum_by K.share before) part e own
  pub steps : k ≡ sum_by K.share before + own
