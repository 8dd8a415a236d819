-- HMAC (RFC 2104 section 2) over a hash function h whose blocks have b octets.
use Rattle.std.specs.Prelude.{ℕ, ◌-◌, List, ◌++◌, length, map, replicate, nat_lt, bit_xor, if◌then◌else◌}

-- the key, hashed where it is longer than a block
abbrev pub short_key : (List ℕ → List ℕ) → ℕ → List ℕ → List ℕ
short_key h b k = if nat_lt b (length k) then h k else k

-- the key filled with zero octets to a block
abbrev pub key_block : (List ℕ → List ℕ) → ℕ → List ℕ → List ℕ
key_block h b k = short_key h b k ++ replicate (b - length (short_key h b k)) 0

-- each octet xored with the mask
abbrev pub masked : ℕ → List ℕ → List ℕ
masked mask octets = map (λ x. bit_xor x mask) octets

-- the key's block under ipad
abbrev pub inner_block : (List ℕ → List ℕ) → ℕ → List ℕ → List ℕ
inner_block h b k = masked 0x36 (key_block h b k)

-- the key's block under opad
abbrev pub outer_block : (List ℕ → List ℕ) → ℕ → List ℕ → List ℕ
outer_block h b k = masked 0x5c (key_block h b k)

-- the hash of the outer block and of the hash of the inner block and the message
unfoldable pub hmac : (List ℕ → List ℕ) → ℕ → List ℕ → List ℕ → List ℕ
hmac h b k m = h (outer_block h b k ++ h (inner_block h b k ++ m))
