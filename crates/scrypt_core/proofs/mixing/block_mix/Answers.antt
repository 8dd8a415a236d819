use Rattle.std.proofs.Common.{arith, ◌≡◌, ◌∙◌, sym, ap, ap₂, ℕ, suc, ◌+◌, ◌*◌, ◌-◌, List, ◌++◌, length, drop, refl}
use Rattle.std.proofs.lemmas.List.{take_all, length-drop}
use Rattle.block_core.specs.Bits.{xor_each}
use Rattle.scrypt_core.specs.Salsa.{salsa}
use Rattle.scrypt_core.specs.BlockMix.{mixed, joined, block, block_mix}
use Rattle.scrypt_core.proofs.Pieces.{piece_more, joined_more}
use Rattle.scrypt_core.proofs.mixing.block_mix.Goals as goal

pub loop-i-init : goal.loop-i-init
unfolding mixed joined
loop-i-init c =
    let e : 128 * c.args.r - 64 ≡ length c.args.b.now - 64 = omega arith in
    record {
      x = c.copy_from_slice.ensures.after ∙ take_all (length c.args.b.now - (128 * c.args.r - 64)) (drop (128 * c.args.r - 64) c.args.b.now) (omega (arith, length-drop (128 * c.args.r - 64) c.args.b.now)) ∙ ap (λ (n : ℕ). drop n c.args.b.now) e;
      even = refl;
      odd = refl;
    }

pub loop-i-preserved : goal.loop-i-preserved
unfolding mixed
loop-i-preserved c =
    let i : ℕ = c.loop-i.i in
    let b : List ℕ = c.args.b.now in
    let e1 : suc (2 * i) ≡ 2 * i + 1 = omega arith in
    let e2 : suc (2 * i + 1) ≡ 2 * i + 2 = omega arith in
    let e3 : 2 * i + 2 ≡ 2 * (i + 1) = omega arith in
    let one : c.mix.new.x ≡ mixed b (2 * i + 1) =
    c.mix.ensures ∙ ap (λ (t : List ℕ). salsa (xor_each t (block (2 * i) b))) c.loop-i.invariant.x ∙ ap (mixed b) e1 in
    let two : c.mix-in-loop-i.new.x ≡ mixed b (2 * i + 2) =
    c.mix-in-loop-i.ensures ∙ ap (λ (t : List ℕ). salsa (xor_each t (block (2 * i + 1) b))) one ∙ ap (mixed b) e2 in
    let f : ℕ → List ℕ = λ k. mixed b (2 * k + 1) in
    let g : ℕ → List ℕ = λ k. mixed b (2 * k + 2) in
    record {
      x = two ∙ ap (mixed b) e3;
      even =
          piece_more 64 i (64 * i + 64 - 64 * i) c.loop-i.even _ (joined f i) (ap length c.copy_from_slice-in-loop-i.ensures.after ∙ omega arith) (omega arith) (omega arith) c.loop-i.invariant.even
          ∙ ap (λ (t : List ℕ). joined f i ++ t) (c.copy_from_slice-in-loop-i.ensures.after ∙ one) ∙ joined_more f i;
      odd =
          piece_more 64 i (64 * i + 64 - 64 * i) c.loop-i.odd _ (joined g i) (ap length c.copy_from_slice-in-loop-i-2.ensures.after ∙ omega arith) (omega arith) (omega arith) c.loop-i.invariant.odd
          ∙ ap (λ (t : List ℕ). joined g i ++ t) (c.copy_from_slice-in-loop-i-2.ensures.after ∙ two) ∙ joined_more g i;
    }

pub returns : goal.returns
unfolding block_mix
returns c =
    let all : c.loop-i.i ≡ c.args.r = omega arith in
    let b : List ℕ = c.args.b.now in
    ap₂ (λ (x y : List ℕ). x ++ y)
    (sym (take_all (64 * c.loop-i.i) c.loop-i.even (omega arith)) ∙ c.loop-i.invariant.even ∙ ap (joined (λ k. mixed b (2 * k + 1))) all)
    (sym (take_all (64 * c.loop-i.i) c.loop-i.odd (omega arith)) ∙ c.loop-i.invariant.odd ∙ ap (joined (λ k. mixed b (2 * k + 2))) all)
