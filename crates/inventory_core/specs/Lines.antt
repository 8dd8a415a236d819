-- The lines of an inventory, over the certificates that could be read and the local key ids of the
-- bags.
use Rattle.std.specs.Prelude.{ℕ, ◌≡◌, ◌+◌, List, [], ◌∷◌, ◌++◌, Option, Some, None, Bool, true, false, codes, decimal}
use Rattle.std.specs.List.{flat_map, slice_get}
use Rattle.std.specs.Str.{bytes_eq}
use Rattle.hex.specs.Hex.{encode_lower}
use Rattle.sha2.specs.Sha256.{sha256}
use Rattle.spki.specs.Spelling.{public_key_text}
use Rattle.inventory_core.specs.Certificate.{Certificate}
use Rattle.inventory_core.specs.Chains.{IsChain, IsLeast, IsParent}
use Rattle.inventory_core.specs.Parents.{parent_text}
use Rattle.inventory_core.specs.declared.parent.Parent.{Parent}

-- SHA-256 of the octets of the public key, which are its one text
abbrev pub fingerprint : Certificate → List ℕ
fingerprint c = sha256 (public_key_text c.key)

-- whether there is such a bag and its local key id is this one
abbrev pub has_key_id : Option (Option (List ℕ)) → List ℕ → Bool
has_key_id (Some (Some other)) id = bytes_eq other id
has_key_id (Some None) id = false
has_key_id None id = false

-- The least certificate whose bag has the key id of the key's bag, both having one; or none.
abbrev pub IsStart : List (Option (List ℕ)) → Option (List ℕ) → Option ℕ → Type 0
IsStart ids None start = start ≡ None
IsStart ids (Some id) start = IsLeast (λ j. has_key_id (slice_get ids j) id ≡ true) start

-- cert J F P: its number, its fingerprint, and the number of what is above it
abbrev pub CertificateLine : List (Option Certificate) → ℕ → Option Certificate → List ℕ → Type 0
CertificateLine cs j None line = line ≡ codes "cert " ++ decimal j ++ codes " - -\n"
CertificateLine cs j (Some c) line = (above : Parent) × IsParent cs j c above
    × (line ≡ codes "cert " ++ decimal j ++ codes " " ++ encode_lower (fingerprint c) ++ codes " "
    ++ parent_text above ++ codes "\n")

-- numbers, a space before each
abbrev pub numbers : List ℕ → List ℕ
numbers ks = flat_map (λ k. codes " " ++ decimal k) ks

-- key I and its chain: its number, and those of its chain
abbrev pub ChainLine : List (Option Certificate) → ℕ → Option ℕ → List ℕ → Type 0
ChainLine cs i None line = line ≡ codes "key " ++ decimal i ++ codes " -\n"
ChainLine cs i (Some start) line = (ks : List ℕ) × IsChain cs start ks
    × (line ≡ codes "key " ++ decimal i ++ numbers ks ++ codes "\n")

abbrev pub KeyLine : List (Option Certificate) → List (Option (List ℕ)) → ℕ → Option (List ℕ)
    → List ℕ → Type 0
KeyLine cs ids i id line = (start : Option ℕ) × IsStart ids id start × ChainLine cs i start line

-- These are the lines of these things, which are numbered from n.
abbrev pub AreLines : {A : Type 0} → (ℕ → A → List ℕ → Type 0) → ℕ → List A → List (List ℕ) → Type 0
AreLines L n [] lines = lines ≡ []
AreLines L n (x ∷ xs) lines = (line : List ℕ) × (more : List (List ℕ)) × L n x line
    × AreLines L (n + 1) xs more × (lines ≡ line ∷ more)
