-- The algorithms of password hashes.
use Rattle.std.specs.Prelude.{◌≢◌, ℕ, List, codes}
use Rattle.sha2.specs.Sha256.{sha256}
use Rattle.sha2.specs.Sha512.{sha512}
use Rattle.mac_modes.specs.Hmac.{hmac}
use Rattle.pbkdf2.specs.Pbkdf2.{pbkdf2}
use Rattle.pbkdf2.specs.Settings.{Settings}
use Rattle.pbkdf2.specs.declared.algorithm.Algorithm.{Algorithm}
use Rattle.pbkdf2.specs.declared.algorithm.Algorithm.TheVariants.{Pbkdf2Sha256, Pbkdf2Sha512}

-- the identifier of an algorithm
abbrev pub identifier_of : Algorithm → List ℕ
identifier_of Pbkdf2Sha256 = codes "pbkdf2-sha256"
identifier_of Pbkdf2Sha512 = codes "pbkdf2-sha512"

-- the identifier of no algorithm
abbrev pub NamesNone : List ℕ → Type 0
NamesNone t = (t ≢ codes "pbkdf2-sha256") × (t ≢ codes "pbkdf2-sha512")

-- the length of a block in octets
abbrev pub output_of : Algorithm → ℕ
output_of Pbkdf2Sha256 = 32
output_of Pbkdf2Sha512 = 64

-- n octets from a password q and a salt in r rounds, by HMAC-SHA-256 or HMAC-SHA-512
abbrev pub derived : Algorithm → List ℕ → List ℕ → ℕ → ℕ → List ℕ
derived Pbkdf2Sha256 q salt r n = pbkdf2 (hmac sha256 64 q) 32 salt r n
derived Pbkdf2Sha512 q salt r n = pbkdf2 (hmac sha512 128 q) 64 salt r n

-- the parameters that are recommended for an algorithm
abbrev pub recommended_for : Algorithm → Settings
recommended_for Pbkdf2Sha256 = record { rounds = 600000; output_len = 32 }
recommended_for Pbkdf2Sha512 = record { rounds = 210000; output_len = 32 }
