-- Documents under drawn octets, one for each private key.
use Rattle.std.specs.Prelude.{ℕ, ◌+◌, ◌*◌, ◌<◌, ◌≡◌, List, [], ◌∷◌, ◌++◌, length, map, take, drop, get_or, Option}
use Rattle.std.specs.Io.KnownBytes.{Consumes}
use Rattle.transfer.specs.Document.{IsDocument, document_key}
use Rattle.sealing_core.specs.declared.drawn.IvAndSalt.{IvAndSalt}

-- the keys of documents under the password q
abbrev pub document_keys : ℕ → List ℕ → List IvAndSalt → List (List ℕ)
document_keys rounds q drawn = map (λ d. document_key rounds d.salt q) drawn

-- The document seals the private key of this text under these 32 octets: the IV and then the salt.
pub record IsDrawn (rounds : ℕ) (q drawn text document : List ℕ) : Type 0 where
  pub iv : List ℕ
  pub salt : List ℕ
  pub are : drawn ≡ iv ++ salt
  pub of_16 : length iv ≡ 16
  pub and_16 : length salt ≡ 16
  pub is : IsDocument document rounds iv salt q text

-- One document for each key, each under the next 32 of the drawn octets, and these are all of them.
abbrev pub AreDrawn : ℕ → List ℕ → List (List ℕ) → List (List ℕ) → List ℕ → Type 0
AreDrawn rounds q [] [] d = d ≡ []
AreDrawn rounds q [] (b ∷ bs) d = ⊥
AreDrawn rounds q (k ∷ ks) [] d = ⊥
AreDrawn rounds q (k ∷ ks) (b ∷ bs) d = (first : List ℕ) × (rest : List ℕ) × (d ≡ first ++ rest)
    × IsDrawn rounds q first k b × AreDrawn rounds q ks bs rest

-- The same over a draw: as many documents as keys, and 32 octets a key drawn.
pub record SealsAll (rounds : ℕ) (q : List ℕ) (old new : Option (List ℕ))
    (keys documents : List (List ℕ)) : Type 0 where
  pub drawn : List ℕ
  pub by : AreDrawn rounds q keys documents drawn
  pub took : Consumes old new drawn
  pub each_one : length documents ≡ length keys
  pub each_32 : length drawn ≡ 32 * length keys

-- Of sealed keys each document is at the place of its key, under the IV and the salt at that place
-- of the drawn octets.
abbrev pub DrawnInPlace : Type 0
DrawnInPlace = (rounds : ℕ) (q : List ℕ) (keys documents : List (List ℕ)) (drawn : List ℕ)
    → AreDrawn rounds q keys documents drawn
    → (i : ℕ) (key document : List ℕ) → i < length keys → key ≡ get_or keys i key
    → document ≡ get_or documents i document
    → IsDocument document rounds (take 16 (drop (32 * i) drawn))
    (take 16 (drop (32 * i + 16) drawn)) q key
