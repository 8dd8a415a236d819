-- Keys of 32 octets by HMAC-SHA-256, and the hash values after the two blocks that it makes of a
-- key.
use Rattle.std.specs.Prelude.{ℕ, List, map}
use Rattle.mac_modes.specs.Hmac.{hmac, inner_block, outer_block}
use Rattle.pbkdf2.specs.Pbkdf2.{pbkdf2}
use Rattle.pbkdf2.specs.declared.lanes.PasswordAndSalt.{PasswordAndSalt}
use Rattle.sha2.specs.Sha256.{sha256}
use Rattle.sha2_lanes.specs.Lanes.{IsAfter}

-- these are the hash values after the two blocks that HMAC makes of the key k
abbrev pub IsKeyedBy : List ℕ → List ℕ → List ℕ → Type 0
IsKeyedBy inner outer k = IsAfter inner (inner_block sha256 64 k)
    × IsAfter outer (outer_block sha256 64 k)

-- the key of 32 octets from a password and a salt in r rounds, by HMAC-SHA-256
abbrev pub key_of : ℕ → PasswordAndSalt → List ℕ
key_of r x = pbkdf2 (hmac sha256 64 x.password.now) 32 x.salt.now r 32

-- the keys of passwords and salts, in their order
abbrev pub keys_of : ℕ → List PasswordAndSalt → List (List ℕ)
keys_of r inputs = map (key_of r) inputs
