-- Four computations at once: each word is a vector that has a lane for each of them.
use Rattle.std.specs.Prelude.{◌≡◌, ℕ, ◌*◌, ◌<◌, List, length, map, slice_index}
use Rattle.sha2.specs.Sha256.{compress, digest_bytes, initial_hash_256, word_at}

-- lane j of each vector
abbrev pub lane : ℕ → List (List ℕ) → List ℕ
lane j vectors = map (λ v. slice_index v j) vectors

-- these sixteen words are those of the block
abbrev pub AreWordsOf : List ℕ → List ℕ → Type 0
AreWordsOf words block = (k : ℕ) → k < 16 → slice_index words k ≡ word_at block (4 * k)

-- the octets of a hash value of eight words
abbrev pub octets : List ℕ → List ℕ
octets words = digest_bytes words 8

-- the hash value after a first block
abbrev pub IsAfter : List ℕ → List ℕ → Type 0
IsAfter state block = (length block ≡ 64) × (state ≡ compress initial_hash_256 block)
