-- What a draw of octets promises.
use Rattle.std.specs.Prelude.{◌≡◌, ℕ, ◌<◌, ◌↔◌, List, ◌++◌, length, Option, IfSome, Result, MatchResult, IsErr}
use Rattle.std.specs.Io.KnownBytes.{Consumes, Keeps}
use Rattle.octet_core.specs.Faults.{Rose}

-- where the octets to come are told: on Ok the buffer holds the next of them, and a failed draw
-- takes none
abbrev pub Fills : {E : Type 0} → Option (List ℕ) → Option (List ℕ) → Result (Unit {0}) E → List ℕ
    → Type 0
Fills before now result buffer = MatchResult result (λ _. Consumes before now buffer)
    (λ _. Keeps before now)

-- where the octets to come are told: a draw fails exactly where fewer remain than are asked for
abbrev pub FailsShort : {T E : Type 0} → Option (List ℕ) → Result T E → List ℕ → Type 0
FailsShort before result buffer =
    IfSome before (λ left. IsErr result ↔ (length left < length buffer))

-- a draw did not give n octets: its count of faults rose, or is at its last value, and where the
-- octets to come are told there are fewer
abbrev pub Lacks : ℕ → ℕ → Option (List ℕ) → ℕ → Type 0
Lacks before now left n = Rose before now × IfSome left (λ octets. length octets < n)

-- an IV of 16 octets and a salt of 16 were drawn, the IV first, and P is so of them
pub record DrawsIvAndSalt (old new : Option (List ℕ)) (P : List ℕ → List ℕ → Type 0) : Type 0 where
  pub iv : List ℕ
  pub salt : List ℕ
  pub iv_long : length iv ≡ 16
  pub salt_long : length salt ≡ 16
  pub took : Consumes old new (iv ++ salt)
  pub are : P iv salt
