-- The MAC of a store (RFC 7292 appendix B.4).
use Rattle.std.specs.Prelude.{ℕ, List}
use Rattle.mac_modes.specs.Hmac.{hmac}
use Rattle.pkcs12_kdf.specs.Derivation.{derive12_in}

-- HMAC over the hash h, whose blocks have v octets and its digests u, under a key of u octets. The
-- password comes in UTF-16.
unfoldable pub mac_under_in : ℕ → (List ℕ → List ℕ) → ℕ → List ℕ → List ℕ → ℕ → List ℕ → List ℕ
mac_under_in v h u q salt r m = hmac h v (derive12_in v h u q salt r 3 u) m

-- the same over a hash function whose blocks have 64 octets
abbrev pub mac_under : (List ℕ → List ℕ) → ℕ → List ℕ → List ℕ → ℕ → List ℕ → List ℕ
mac_under = mac_under_in 64
