use Rattle.std.proofs.Common.{arith, ◌≡◌, ◌∙◌, sym, ap, ℕ, ◌+◌, ◌*◌, ◌-◌, List, ◌++◌, length, take}
use Rattle.std.specs.Int.{w32, to_le_bytes}
use Rattle.std.specs.List.{flat_map}
use Rattle.std.proofs.lemmas.List.{take_all}
use Rattle.scrypt_core.proofs.Pieces.{piece_more, flat_more}
use Rattle.scrypt_core.proofs.salsa.store.Goals as goal

pub loop-i-preserved : goal.loop-i-preserved
loop-i-preserved c =
    let i : ℕ = c.loop-i.i in
    let new = c.copy_from_slice.ensures.after ∙ c.to_le_bytes.ensures in
    piece_more 4 i (4 * i + 4 - 4 * i) c.loop-i.b _ (flat_map (to_le_bytes w32) (take i c.args.w)) (ap length new) (omega (arith, c.loop-i.auto.b)) (omega arith) c.loop-i.invariant
    ∙ ap (λ (t : List ℕ). flat_map (to_le_bytes w32) (take i c.args.w) ++ t) new
    ∙ flat_more (to_le_bytes w32) c.args.w i (omega arith)

pub returns : goal.returns
returns c =
    let all : c.loop-i.i ≡ 16 = omega arith in
    sym (take_all (4 * c.loop-i.i) c.loop-i.b (omega (arith, c.loop-i.auto.b))) ∙ c.loop-i.invariant ∙ ap (flat_map (to_le_bytes w32)) (take_all c.loop-i.i c.args.w (omega arith))
