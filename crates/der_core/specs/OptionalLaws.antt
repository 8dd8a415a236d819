-- lemmas only: nothing to believe here
-- What is written of a value that may be missing is read again, and which texts are read.
use Rattle.std.specs.Prelude.{◌↔◌}
use Rattle.std.proofs.Common.{ℕ, List, Option, Some, None, refl}
use Rattle.asn1_core.specs.Texts.{Perhaps, seen_option}
use Rattle.der_core.specs.Optional.{canon_option, writable_option, SpellsOption}

module _ {A V : Type 0} (seen : A → V) (P : List ℕ → V → Type 0) (canon : A → List ℕ) where
  pub option_canonical : (writable : A → Type 0) → ((a : A) → writable a → P (canon a) (seen a)) → (p : Option A) → writable_option writable p → Perhaps P (canon_option canon p) (seen_option seen p)
  option_canonical writable again None h = refl
  option_canonical writable again (Some a) h = again a h

module _ {A V : Type 0} (seen : A → V) (P : List ℕ → V → Type 0) (writable : A → Type 0) (spell : List ℕ → A → Type 0) where
  pub option_spelled : ((b : List ℕ) (a : A) → P b (seen a) ↔ (writable a × spell b a)) → (q : List ℕ) (p : Option A) → Perhaps P q (seen_option seen p) ↔ (writable_option writable p × SpellsOption spell q p)
  option_spelled spelled q None = (λ r. (tt, r), λ h. h.1)
  option_spelled spelled q (Some a) = spelled q a
