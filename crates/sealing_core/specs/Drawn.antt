-- What is drawn for the parts that are sealed: an IV and a salt for each.
use Rattle.std.specs.Prelude.{ℕ, ◌≡◌, List, ◌++◌, length, Option, ⊤}
use Rattle.std.specs.List.{flat_map}
use Rattle.octet_core.specs.Draw.{Lacks}
use Rattle.sealing_core.specs.declared.drawn.IvAndSalt.{IvAndSalt}
use Rattle.sealing_core.specs.declared.error.DrawError.{DrawError}
use Rattle.sealing_core.specs.declared.error.DrawError.TheVariants.{Rng, Memory}

-- The IV and the salt have 16 octets each.
abbrev pub AreOf16 : IvAndSalt → Type 0
AreOf16 d = (length d.iv ≡ 16) × (length d.salt ≡ 16)

-- the octets of IVs and salts in the order in which they are drawn
abbrev pub octets_of : List IvAndSalt → List ℕ
octets_of drawn = flat_map (λ (d : IvAndSalt). d.iv ++ d.salt) drawn

-- the draw of n octets is refused: it lacks them, or there is no memory
abbrev pub FailsToDraw : ℕ → ℕ → Option (List ℕ) → ℕ → DrawError → Type 0
FailsToDraw before now left n Rng = Lacks before now left n
FailsToDraw before now left n Memory = ⊤
