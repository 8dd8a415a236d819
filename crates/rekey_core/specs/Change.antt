-- One change of a store's password.
use Rattle.std.specs.Prelude.{ℕ, List}
use Rattle.rekey_core.specs.Like.{rekeying, resealing}
use Rattle.rekey_core.specs.Resealing.{Reseals}
use Rattle.rekey_core.specs.Unlocking.{under}
use Rattle.rekey_core.specs.declared.kinds.Kinds.{Kinds}

-- The text b of a store under p was changed to the text c of one under q, which is the canonical
-- one, and whose parts are of these kinds.
abbrev pub ChangesTo : Kinds → List ℕ → List ℕ → List ℕ → List ℕ → List ℕ → Type 0
ChangesTo to b p c q d = Reseals (under p) (resealing to) b c q d

-- The same, each part keeping its kind.
abbrev pub Changes : List ℕ → List ℕ → List ℕ → List ℕ → List ℕ → Type 0
Changes b p c q d = Reseals (under p) rekeying b c q d
