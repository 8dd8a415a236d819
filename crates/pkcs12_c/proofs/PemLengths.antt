-- How long PEM text is.
use Rattle.std.proofs.Common.{◌≡◌, ℕ, zero, suc, ◌+◌, ◌*◌, ◌≤◌, List, [], ◌∷◌, ◌++◌, length, take, drop, arith, length-append, length-drop}
use Rattle.std.specs.Prelude.{codes, replicate}
use Rattle.std.proofs.lemmas.List.{length-replicate, length-take}
use Rattle.base64.specs.Engines.{standard}
use Rattle.base64.specs.GeneralPurpose.{encode_of}
use Rattle.base64.specs.Rfc4648.{encode_symbols, padding_len}
use Rattle.base64.proofs.RoundTrip.{length-encode_symbols}
use Rattle.pem_text.specs.Pem.{boundary, in_lines, lines_of, pem}

-- each line of 64 characters has a line feed, and so has the last
lines_size : (n : ℕ) (characters : List ℕ) → 64 * length (lines_of n characters) ≤ 65 * length characters + 63
unfolding lines_of
lines_size zero characters = omega arith
lines_size (suc n) [] = omega arith
lines_size (suc n) (c ∷ characters) =
    let line = take 64 (c ∷ characters) in
    let rest = drop 64 (c ∷ characters) in
    omega (arith, length-append (line ++ 10 ∷ []) (lines_of n rest), length-append line (10 ∷ []), length-take 64 (c ∷ characters), length-drop 64 (c ∷ characters), lines_size n rest)

-- four characters for three octets, the last of which may be missing
encoded_size : (octets : List ℕ) → 3 * length (encode_of standard octets) ≤ 4 * length octets + 8
encoded_size octets =
    let symbols = encode_symbols (standard.encode_table) octets in
    let padding = padding_len (length octets) in
    omega (arith, length-append symbols (replicate padding 61), length-encode_symbols (standard.encode_table) octets, length-replicate {A = ℕ} padding 61)

boundary_size : (before label : List ℕ) → length (boundary before label) ≡ length before + length label + 6
boundary_size before label = omega (arith, length-append before (label ++ codes "-----\n"), length-append label (codes "-----\n"))

-- The text of octets under a label: the octets count by 260 / 192.
pub pem_size : (label octets : List ℕ) → 192 * length (pem label octets) ≤ 384 * length label + 260 * length octets + 6853
pem_size label octets =
    let characters = encode_of standard octets in
    let first = boundary (codes "-----BEGIN ") label in
    let last = boundary (codes "-----END ") label in
    omega (
      arith,
      length-append (first ++ in_lines characters) last,
      length-append first (in_lines characters),
      boundary_size (codes "-----BEGIN ") label,
      boundary_size (codes "-----END ") label,
      lines_size (length characters) characters,
      encoded_size octets,
    )
