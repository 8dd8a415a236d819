-- How long elements are.
use Rattle.std.proofs.Common.{◌≡◌, ℕ, zero, suc, ◌+◌, ◌*◌, ◌/◌, ◌%◌, ◌^◌, ◌<◌, ◌≤◌, List, [], ◌∷◌, length, ap, arith, inl, inr, length-append, pow-suc}
use Rattle.std.proofs.lemmas.Bool.{cases_lt}
use Rattle.asn1_core.specs.Der.{el, shortest}
use Rattle.asn1_core.specs.DigitLaws.{digits_short, shortest_one, shortest_split}
use Rattle.asn1_core.specs.ElementLaws.{len_large, len_small}
use Rattle.asn1_core.specs.WritingLaws.{el_size}

-- a tag octet, at least one octet of length, and the value
pub el_least : (tag : ℕ) (v : List ℕ) → 2 + length v ≤ length (el tag v)
el_least tag v =
    elim (cases_lt (length v) 128) [
      | inl lt ↦ omega (arith, el_size tag v, ap length (len_small (length v) lt))
      | inr le ↦ omega (arith, el_size tag v, ap length (len_large (length v) le))
    ]

-- a value of fewer than 128 octets has one octet of length
pub el_short : (tag : ℕ) (v : List ℕ) → length v < 128 → length (el tag v) ≡ 2 + length v
el_short tag v lt = omega (arith, el_size tag v, ap length (len_small (length v) lt))

-- one of fewer than 2 ^ 32 at most five
pub el_most : (tag : ℕ) (v : List ℕ) → length v < 4294967296 → length (el tag v) ≤ 6 + length v
el_most tag v short =
    elim (cases_lt (length v) 128) [
      | inl lt ↦ omega (arith, el_size tag v, ap length (len_small (length v) lt))
      | inr le ↦ omega (arith, el_size tag v, ap length (len_large (length v) le), digits_short (length v) short)
    ]

shortest_within : (j n : ℕ) → n < 128 * 256 ^ j → length (shortest n) ≤ suc j
shortest_within zero n lt = omega (arith, ap length (shortest_one n (omega (arith, lt))))
shortest_within (suc j) n lt =
    elim (cases_lt n 128) [
      | inl small ↦ omega (arith, ap length (shortest_one n small))
      | inr le ↦ omega (arith, ap length (shortest_split n le), length-append (shortest (n / 256)) ((n % 256) ∷ []), shortest_within j (n / 256) (omega (arith, lt, pow-suc 256 j)))
    ]

-- a number below 2 ^ 31 has at most four octets
pub shortest_most : (n : ℕ) → n < 2147483648 → length (shortest n) ≤ 4
shortest_most n lt = shortest_within 3 n (omega (arith, lt))
