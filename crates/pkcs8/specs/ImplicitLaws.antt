-- lemmas only: nothing to believe here
-- The value octets of a BIT STRING.
use Rattle.std.proofs.Common.{◌≡◌, ℕ, List, ◌∷◌, refl, IsTrue}
use Rattle.der_core.specs.BitString.{is_bits, BitsOf}

pub implicit_canonical : (u : ℕ) (o : List ℕ) → IsTrue (is_bits u o) → BitsOf (u ∷ o) (u, o)
implicit_canonical u o h = (h, refl)

pub implicit_spelled : (u : ℕ) (o b : List ℕ) → BitsOf b (u, o) → b ≡ u ∷ o
implicit_spelled u o b r = r.1
