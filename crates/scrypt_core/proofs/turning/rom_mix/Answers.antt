use Rattle.std.proofs.Common.{arith, ◌≡◌, ◌∙◌, sym, subst, ap, ap₂, ℕ, suc, ◌+◌, ◌*◌, ◌-◌, ◌%◌, ◌^◌, ◌<◌, List, take, drop}
use Rattle.std.proofs.lemmas.Nat.{mod_below, pow_pos}
use Rattle.block_core.specs.Bits.{xor_each}
use Rattle.scrypt_core.specs.BlockMix.{joined, block_mix}
use Rattle.scrypt_core.specs.Scrypt.{mixed_times, turns, integerify}
use Rattle.scrypt_core.proofs.Blocks.{joined_at, length-mixed_times, power_word}
use Rattle.scrypt_core.proofs.turning.rom_mix.Goals as goal

pub loop-turn-init : goal.loop-turn-init
unfolding turns
loop-turn-init c =
    c.fill.ensures.last ∙ ap (λ (n : ℕ). mixed_times c.args.r n c.args.x.now) (power_word c.args.log_n (omega (arith, c.requires.low)))

pub loop-turn-preserved : goal.loop-turn-preserved
unfolding turns
loop-turn-preserved c =
    let i : ℕ = c.loop-turn._turn in
    let r : ℕ = c.args.r in
    let w : ℕ = 128 * r in
    let n : ℕ = 2 ^ c.args.log_n in
    let b : List ℕ = c.args.x.now in
    let x : List ℕ = c.loop-turn.x in
    let j : ℕ = c.integerify-j.result in
    let f : ℕ → List ℕ = λ k. mixed_times r k b in
    let size = power_word c.args.log_n (omega (arith, c.requires.low)) in
    let below : j < n = subst (λ (t : ℕ). t < n) (sym c.integerify-j.ensures) (mod_below (integerify x) n (pow_pos c.args.log_n)) in
    let width : w * j + w - w * j ≡ w = omega arith in
    let all : c.fill.new.v ≡ joined f n = c.fill.ensures.all ∙ ap (joined f) size in
    let piece : take (w * j + w - w * j) (drop (w * j) c.fill.new.v) ≡ mixed_times r (integerify x % n) b =
    ap₂ (λ (k : ℕ) (t : List ℕ). take k (drop (w * j) t)) width all
    ∙ joined_at f w (length-mixed_times r b c.requires.long) n j below
    ∙ ap f c.integerify-j.ensures in
    let next : suc i ≡ i + 1 = omega arith in
    c.mix_blocks.ensures
    ∙ ap (block_mix r) (c.xor_into.ensures ∙ ap (xor_each x) piece)
    ∙ ap (λ (t : List ℕ). block_mix r (xor_each t (mixed_times r (integerify t % n) b))) c.loop-turn.invariant
    ∙ ap (turns r n b) next
