-- The key derivation of RFC 7292 appendix B.2, over a hash function h whose blocks have v octets, and
-- its digests u.
use Rattle.std.specs.Prelude.{ℕ, zero, suc, ◌+◌, ◌-◌, ◌*◌, ◌/◌, ◌%◌, ◌^◌, List, [], ◌++◌, length, take, map, replicate, slice_index}
use Rattle.std.specs.List.{flat_map, range_with_len}
use Rattle.pkcs12_kdf.specs.Numbers.{number, octets, numbers}

-- x repeated and cut to n octets
abbrev pub repeat_to : ℕ → List ℕ → List ℕ
repeat_to n x = map (λ i. slice_index x (i % length x)) (range_with_len 0 n)

-- x repeated and cut to the least multiple of v that is not under its length
abbrev pub fill : ℕ → List ℕ → List ℕ
fill v x = repeat_to (v * ((length x + (v - 1)) / v)) x

-- h applied r times
unfoldable pub hashed : (List ℕ → List ℕ) → ℕ → List ℕ → List ℕ
hashed h zero m = m
hashed h (suc r) m = h (hashed h r m)

-- A: h applied r times to v octets id and the octets of the inputs
abbrev pub answer : ℕ → (List ℕ → List ℕ) → ℕ → ℕ → List ℕ → List ℕ
answer v h r id inputs = hashed h r (replicate v id ++ flat_map (octets v) inputs)

-- each input plus the result, repeated to a block, plus 1
abbrev pub next_inputs : ℕ → List ℕ → List ℕ → List ℕ
next_inputs v a inputs = map (λ x. (x + number (repeat_to v a) + 1) % 256 ^ v) inputs

-- the inputs of turn j, counted from 0, where `run` gives the result at inputs
unfoldable pub inputs_at : ℕ → (List ℕ → List ℕ) → List ℕ → ℕ → List ℕ
inputs_at v run first zero = first
inputs_at v run first (suc j) =
    next_inputs v (run (inputs_at v run first j)) (inputs_at v run first j)

-- the outputs of the first j turns
unfoldable pub answers : ℕ → (List ℕ → List ℕ) → List ℕ → ℕ → List ℕ
answers v run first zero = []
answers v run first (suc j) = answers v run first j ++ run (inputs_at v run first j)

-- the least number of outputs of u octets that have n octets together
abbrev pub turns : ℕ → ℕ → ℕ
turns n u = (n + (u - 1)) / u

-- n octets under the password q and the salt, in r iterations
unfoldable pub derive12_in : ℕ → (List ℕ → List ℕ) → ℕ → List ℕ → List ℕ → ℕ → ℕ → ℕ → List ℕ
derive12_in v h u q salt r id n =
    take n (answers v (answer v h r id) (numbers v (fill v salt ++ fill v q)) (turns n u))

-- the same over a hash function whose blocks have 64 octets, as SHA-1 and SHA-256 have
abbrev pub derive12 : (List ℕ → List ℕ) → ℕ → List ℕ → List ℕ → ℕ → ℕ → ℕ → List ℕ
derive12 = derive12_in 64
