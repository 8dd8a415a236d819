-- An input that spells a store, and octets to be drawn on a second line or none.
use Rattle.std.specs.Prelude.{ℕ, ◌≡◌, List, Option, Some, None, ⊤}
use Rattle.frame.specs.Calls.{Effects, TakesNoStep}
use Rattle.frame.specs.InputText.{IsInput, IsNoInput}
use Rattle.frame.specs.Programs.{Program}
use Rattle.frame.specs.Stream.{stream}
use Rattle.frame.specs.declared.status.Status.{Status}
use Rattle.frame.specs.declared.status.Status.TheVariants.{InputMalformed}

-- P of what was done to the draw and the steps. Where there is a line its octets were drawn in
-- place of the draw's.
abbrev pub ByLine : Option (List ℕ) → Effects → (Effects → Type 0) → Type 0
ByLine None e P = P e
ByLine (Some line) e P = (rest : Option (List ℕ)) × (before : ℕ) × (now : ℕ)
    × P (record e { draw = stream (Some line) rest before now })

-- The input spells a store, and P of it.
abbrev pub Spells : List ℕ → Effects → (List ℕ → Effects → Type 0) → Type 0
Spells x e P = (store : List ℕ) × (line : Option (List ℕ)) × IsInput x store line
    × ByLine line e (P store)

-- InputMalformed comes only where the input spells no store, and then no step is taken; another
-- refusal only where it spells one that is refused.
abbrev pub RefusesLined : (List ℕ → Effects → Status → Type 0) → List ℕ → Effects → Status → Type 0
RefusesLined R x e InputMalformed = IsNoInput x × TakesNoStep e
RefusesLined R x e s = Spells x e (λ store f. R store f s)

-- Which status may come, of an input that spells no store, and of one that spells a store.
pub record ExactLined (E : List ℕ → Effects → Status → Type 0) (x : List ℕ) (e : Effects)
    (s : Status) : Type 0 where
  pub malformed : IsNoInput x → s ≡ InputMalformed
  pub spelled : (store : List ℕ) (line : Option (List ℕ)) → IsInput x store line
      → ByLine line e (λ f. E store f s)

-- The input has a second line.
abbrev pub HasLine : List ℕ → Type 0
HasLine x = (store : List ℕ) × (line : List ℕ) × IsInput x store (Some line)

-- A store is never refused as an input that spells none.
abbrev pub NeverMalformed : Status → Type 0
NeverMalformed InputMalformed = ⊥
NeverMalformed s = ⊤

-- The program on inputs, from that on the stores that they spell.
abbrev pub lined : {C : Type 0} → Program C → Program C
lined p = record {
  IsAsked = p.IsAsked;
  Makes = λ c e x text. Spells x e (λ store f. p.Makes c f store text);
  Refuses = λ c e x s. RefusesLined (λ store f t. p.Refuses c f store t) x e s;
  Exact = λ c e x s. ExactLined (λ store f t. p.Exact c f store t) x e s;
  limit = p.limit;
}
