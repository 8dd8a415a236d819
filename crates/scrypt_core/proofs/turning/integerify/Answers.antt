use Rattle.std.proofs.Common.{arith, ◌≡◌, ◌∙◌, ap, ap₂, ℕ, List, ◌-◌, ◌%◌, ◌^◌, ◌≤◌, length, drop, take}
use Rattle.std.proofs.lemmas.List.{take_all, length-drop}
use Rattle.scrypt_core.specs.Scrypt.{number}
use Rattle.scrypt_core.proofs.Blocks.{number_low, power_word}
use Rattle.scrypt_core.proofs.turning.integerify.Goals as goal

pub returns : goal.returns
returns c =
    let x : List ℕ = c.args.x.now in
    let k : ℕ = c.args.log_n in
    let last : List ℕ = take (length x - (length x - 64)) (drop (length x - 64) x) in
    let all : last ≡ drop (length x - 64) x = take_all (length x - (length x - 64)) (drop (length x - 64) x) (omega (arith, length-drop (length x - 64) x)) in
    let long : 8 ≤ length last = omega (arith, ap length all, length-drop (length x - 64) x, c.requires.some) in
    ap₂ (λ (a m : ℕ). a % m) c.from_le_bytes-low.ensures (power_word k c.requires.low)
    ∙ number_low last k (omega (arith, c.requires.low)) long
    ∙ ap (λ (t : List ℕ). number t % 2 ^ k) all
