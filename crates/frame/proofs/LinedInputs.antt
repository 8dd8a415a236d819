-- What the work on the one store of an input says of that input.
use Rattle.std.proofs.Common.{◌≡◌, ◌⊎◌, inl, inr, ℕ, List, subst, sym, ◌∙◌}
use Rattle.std.specs.Prelude.{Option, Some, None}
use Rattle.octet_core.specs.DrawnBytes.{DrawnState}
use Rattle.frame.specs.Calls.{Effects}
use Rattle.frame.specs.InputText.{IsInput}
use Rattle.frame.specs.Lined.{ByLine, ExactLined, HasLine}
use Rattle.frame.specs.Stream.{stream}
use Rattle.frame.specs.declared.status.Status.{Status}
use Rattle.frame.specs.declared.status.Status.TheVariants.{Memory}
use Rattle.frame.proofs.Lines.{one_input}

exact_at : (E : List ℕ → Effects → Status → Type 0) (x store : List ℕ) (line : Option (List ℕ)) (e : Effects) (s : Status)
    → IsInput x store line → ByLine line e (λ f. E store f s) → ExactLined E x e s
exact_at E x store line e s i h = record {
  malformed = λ none. absurd (none store line i);
  spelled = λ other l j.
      let o = one_input x store other line l i j in
      let P : List ℕ → Type 0 = λ t. ByLine line e (λ f. E t f s) in
      let Q : Option (List ℕ) → Type 0 = λ m. ByLine m e (λ f. E other f s) in
      subst Q o.1 (subst P o.0 h);
}

-- Where there is no second line.
pub plain_exact : (E : List ℕ → Effects → Status → Type 0) (x store said : List ℕ) (line : Option (List ℕ)) (e : Effects) (s : Status)
    → IsInput x store line → line ≡ None → said ≡ store → E said e s ⊎ (s ≡ Memory) → ExactLined E x e s ⊎ (s ≡ Memory)
plain_exact E x store said line e s i none same (inl h) =
    let P : Option (List ℕ) → Type 0 = λ l. IsInput x store l in
    let Q : List ℕ → Type 0 = λ t. E t e s in
    inl (exact_at E x store None e s (subst P none i) (subst Q same h))
plain_exact E x store said line e s i none same (inr m) = inr m

-- Where there is one, and its octets were drawn.
pub drawn_exact : (E : List ℕ → Effects → Status → Type 0) (x store said octets : List ℕ) (line : Option (List ℕ)) (d : DrawnState) (e : Effects)
    (rest : Option (List ℕ)) (now : ℕ) (s : Status) → IsInput x store line → line ≡ Some octets → said ≡ store
    → d ≡ record { left = octets; faults = 0 } → E said (record e { draw = stream (Some d.left) rest d.faults now }) s ⊎ (s ≡ Memory)
    → ExactLined E x e s ⊎ (s ≡ Memory)
drawn_exact E x store said octets line d e rest now s i some same is (inl h) =
    let P : Option (List ℕ) → Type 0 = λ l. IsInput x store l in
    let Q : List ℕ → Type 0 = λ t. E t (record e { draw = stream (Some d.left) rest d.faults now }) s in
    let R : DrawnState → Type 0 = λ k. E store (record e { draw = stream (Some k.left) rest k.faults now }) s in
    inl (exact_at E x store (Some octets) e s (subst P some i) (rest, 0, now, subst R is (subst Q same h)))
drawn_exact E x store said octets line d e rest now s i some same is (inr m) = inr m

-- An input has one line, or two.
pub no_line : {P : Type 0} (x store : List ℕ) (line : Option (List ℕ)) → IsInput x store line → line ≡ None → HasLine x → P
no_line x store line i none (other, second, j) =
    let same : None ≡ Some second = sym none ∙ (one_input x store other line (Some second) i j).1 in
    absurd (let bad : None ≡ Some second = same in cc)
