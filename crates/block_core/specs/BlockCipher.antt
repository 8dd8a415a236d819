-- What a block cipher is: for each of its values a permutation of the blocks, given both ways.
use Rattle.std.specs.Prelude.{◌≡◌, ℕ, ◌<◌, ◌≤◌, List, length, slice_index}

-- a block: n octets
pub record IsBlock (n : ℕ) (b : List ℕ) : Type 0 where
  pub long : length b ≡ n
  pub octets : (i : ℕ) → i < n → slice_index b i < 256

-- blocks have 1 to 16 octets, and under each value of a cipher the two functions take blocks to
-- blocks and each undoes the other
pub record CipherLaws (S : Type 0) (n : ℕ) (encryption decryption : S → List ℕ → List ℕ)
    : Type 0 where
  pub low : 1 ≤ n
  pub high : n ≤ 16
  pub encrypted : (s : S) (b : List ℕ) → IsBlock n b → IsBlock n (encryption s b)
  pub decrypted : (s : S) (b : List ℕ) → IsBlock n b → IsBlock n (decryption s b)
  pub undoes : (s : S) (b : List ℕ) → IsBlock n b → decryption s (encryption s b) ≡ b
  pub undone : (s : S) (b : List ℕ) → IsBlock n b → encryption s (decryption s b) ≡ b
