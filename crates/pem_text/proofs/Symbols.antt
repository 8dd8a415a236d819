-- What holds of each character that Base64 writes
use Rattle.std.proofs.Common.{◌∷◌, [], ℕ, zero, suc, ◌+◌, ◌*◌, ◌/◌, ◌%◌, List, length, All, slice_index}
use Rattle.std.specs.Prelude.{replicate}
use Rattle.std.specs.List.{AllByRecursion}
use Rattle.std.proofs.lemmas.List.Elements.{All-nil, All-cons, All-append, All-replicate}
use Rattle.base64.specs.Rfc4648.{encode_symbols, encode_group, padding_len}
use Rattle.base64.specs.Engines.{standard}
use Rattle.base64.specs.GeneralPurpose.{encode_of}

pub all_of : (P : ℕ → Type 0) (xs : List ℕ) → AllByRecursion P xs → All P xs
all_of P [] h = All-nil P
all_of P (x ∷ xs) h = All-cons P x xs h.0 (all_of P xs h.1)

module _ (P : ℕ → Type 0) where
  one : (t : List ℕ) (i : ℕ) → ((i : ℕ) → P (slice_index t i)) → All P (slice_index t i ∷ [])
  one t i h = All-cons P (slice_index t i) [] (h i) (All-nil P)

  two : (t : List ℕ) (i j : ℕ) → ((i : ℕ) → P (slice_index t i)) → All P (slice_index t i ∷ slice_index t j ∷ [])
  two t i j h = All-cons P (slice_index t i) (slice_index t j ∷ []) (h i) (one t j h)

  three : (t : List ℕ) (i j k : ℕ) → ((i : ℕ) → P (slice_index t i)) → All P (slice_index t i ∷ slice_index t j ∷ slice_index t k ∷ [])
  three t i j k h = All-cons P (slice_index t i) (slice_index t j ∷ slice_index t k ∷ []) (h i) (two t j k h)

  four : (t : List ℕ) (i j k l : ℕ) → ((i : ℕ) → P (slice_index t i)) → All P (slice_index t i ∷ slice_index t j ∷ slice_index t k ∷ slice_index t l ∷ [])
  four t i j k l h = All-cons P (slice_index t i) (slice_index t j ∷ slice_index t k ∷ slice_index t l ∷ []) (h i) (three t j k l h)

  groups : (t m : List ℕ) → ((i : ℕ) → P (slice_index t i)) → All P (encode_symbols t m)
  unfolding encode_symbols
  groups t [] h = All-nil P
  groups t (a ∷ []) h = two t (a / 4) (a % 4 * 16) h
  groups t (a ∷ b ∷ []) h = three t (a / 4) (a % 4 * 16 + b / 16) (b % 16 * 4) h
  groups t (a ∷ b ∷ c ∷ rest) h =
      All-append P (encode_group t a b c) (encode_symbols t rest)
      (four t (a / 4) (a % 4 * 16 + b / 16) (b % 16 * 4 + c / 64) (c % 64) h)
      (groups t rest h)

  at : (t : List ℕ) → AllByRecursion P t → P 0 → (i : ℕ) → P (slice_index t i)
  at [] h past i = past
  at (x ∷ xs) h past zero = h.0
  at (x ∷ xs) h past (suc i) = at xs h.1 past i

  -- what holds of each character of the alphabet and of the padding (and of 0, which a place past
  -- the alphabet would give) holds of each character of an encoding
  pub encoded_all : AllByRecursion P (standard.encode_table) → P 0 → P 61 → (m : List ℕ) → All P (encode_of standard m)
  encoded_all h past padding m =
      All-append P (encode_symbols (standard.encode_table) m) (replicate (padding_len (length m)) 61)
      (groups (standard.encode_table) m (at (standard.encode_table) h past))
      (All-replicate P (padding_len (length m)) 61 padding)
