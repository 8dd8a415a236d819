-- The private key of a PEM file.
use Rattle.std.specs.Prelude.{ℕ, ◌⊎◌, List, Option}
use Rattle.pem_text.specs.declared.block.Block.{Block}
use Rattle.key_files.specs.Blocks.{IsOnlyKey, LacksOneKey, form_of}
use Rattle.key_files.specs.Keys.{IsKeyOf, RefusesKey}
use Rattle.key_files.specs.declared.key_refusal.KeyRefusal.{KeyRefusal}

-- The text k is the PKCS#8 text of the one private key that the blocks have.
abbrev pub HasKey : List Block → Option (List ℕ) → ℕ → List ℕ → Type 0
HasKey bs password limit k = (b : Block) × IsOnlyKey bs b
    × IsKeyOf (form_of b.label) b.octets password limit k

-- They have none, for the first cause.
abbrev pub LacksKey : List Block → Option (List ℕ) → ℕ → KeyRefusal → Type 0
LacksKey bs password limit e = LacksOneKey bs e
    ⊎ ((b : Block) × IsOnlyKey bs b × RefusesKey (form_of b.label) b.octets password limit e)
