use Rattle.std.proofs.Common.{◌≡◌, ℕ, ◌<◌, List}
use Rattle.mac_modes.specs.Hmac.{hmac}
use Rattle.pbkdf2.proofs.lanes.xor_outputs.Given as goal
use Rattle.pbkdf2.specs.Lanes.{IsKeyedBy}
use Rattle.pbkdf2.specs.Pbkdf2.{chained, xor_through}
use Rattle.sha2.specs.Sha256.{sha256}
use Rattle.sha2_lanes.specs.Lanes.{lane, octets}

abbrev pub invariant-turns : goal.invariant-turns
invariant-turns l = (j : ℕ) → j < 4 → (k : List ℕ) → IsKeyedBy (lane j l.inner) (lane j l.outer) k
    → (octets (lane j l.last) ≡ chained (hmac sha256 64 k) (octets (lane j l.first)) l.turn)
    × (octets (lane j l.sum) ≡ xor_through (hmac sha256 64 k) (octets (lane j l.first)) l.turn)
