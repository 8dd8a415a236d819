-- Padding at small texts, computed from the definition; chains are lines of tests/vectors/modes_and_keys_standards.txt.
use Rattle.std.proofs.Common.{◌≡◌, [], ◌∷◌, refl}
use Rattle.mac_modes.specs.Padding.{padded}

-- RFC 5652 section 6.3: one octet short of a block is filled with 01, and a whole block with one of its own
padded_by_one : padded (7 ∷ 7 ∷ 7 ∷ []) 4 ≡ 7 ∷ 7 ∷ 7 ∷ 1 ∷ []
padded_by_one = refl

padded_by_a_block : padded (7 ∷ 7 ∷ 7 ∷ 7 ∷ []) 4 ≡ 7 ∷ 7 ∷ 7 ∷ 7 ∷ 4 ∷ 4 ∷ 4 ∷ 4 ∷ []
padded_by_a_block = refl
