-- The blocks of private keys in PEM files.
use Rattle.std.specs.Prelude.{ℕ, ◌≡◌, ◌+◌, Bool, true, false, List, Some, None, codes, cond, drop, nat_eq, position}
use Rattle.std.specs.List.{ends_with, list_any, slice_get}
use Rattle.std.specs.Str.{bytes_eq}
use Rattle.pem_text.specs.declared.block.Block.{Block}
use Rattle.key_files.specs.declared.key_form.KeyForm.{KeyForm}
use Rattle.key_files.specs.declared.key_form.KeyForm.TheVariants.{Plain, Encrypted, Rsa, Ec, Other}
use Rattle.key_files.specs.declared.key_refusal.KeyRefusal.{KeyRefusal}
use Rattle.key_files.specs.declared.key_refusal.KeyRefusal.TheVariants as refusals

-- a label ends with PRIVATE KEY
abbrev pub is_key_label : List ℕ → Bool
is_key_label label = ends_with nat_eq label (codes "PRIVATE KEY")

abbrev pub is_key_block : Block → Bool
is_key_block b = is_key_label b.label

-- the form of a key by its label
abbrev pub form_of : List ℕ → KeyForm
form_of label =
    cond (bytes_eq label (codes "PRIVATE KEY")) Plain
    (cond (bytes_eq label (codes "ENCRYPTED PRIVATE KEY")) Encrypted
    (cond (bytes_eq label (codes "RSA PRIVATE KEY")) Rsa
    (cond (bytes_eq label (codes "EC PRIVATE KEY")) Ec Other)))

-- The block is the only one of a private key.
pub record IsOnlyKey (bs : List Block) (b : Block) : Type 0 where
  pub place : ℕ
  pub first : position is_key_block bs ≡ Some place
  pub at : slice_get bs place ≡ Some b
  pub last : list_any is_key_block (drop (place + 1) bs) ≡ false

-- There is none, or there are several.
abbrev pub LacksOneKey : List Block → KeyRefusal → Type 0
LacksOneKey bs refusals.NoKey = position is_key_block bs ≡ None
LacksOneKey bs refusals.ManyKeys = (place : ℕ) × (position is_key_block bs ≡ Some place)
    × (list_any is_key_block (drop (place + 1) bs) ≡ true)
LacksOneKey bs _ = ⊥
