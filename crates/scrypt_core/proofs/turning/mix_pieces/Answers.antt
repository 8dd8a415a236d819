use Rattle.std.proofs.Common.{arith, ◌≡◌, ◌∙◌, sym, ap, ap₂, ℕ, suc, ◌+◌, ◌*◌, ◌-◌, ◌^◌, ◌≤◌, List, ◌++◌, length, take, drop, refl}
use Rattle.std.proofs.Math.Nat.{mul-le-mul_left}
use Rattle.std.proofs.lemmas.Slice.{drop-put_mid}
use Rattle.std.proofs.lemmas.List.{length-take-le, length-drop, drop-drop}
use Rattle.scrypt_core.specs.BlockMix.{joined}
use Rattle.scrypt_core.specs.Scrypt.{rom_mix}
use Rattle.scrypt_core.proofs.Pieces.{piece_more, joined_more}
use Rattle.scrypt_core.proofs.turning.mix_pieces.Goals as goal

pub loop-i-init : goal.loop-i-init
unfolding joined
loop-i-init c =
    let e : 128 * c.args.r * 0 ≡ 0 = omega arith in
    record {
      front = ap (λ (n : ℕ). take n c.args.b.now) e;
      rest = refl;
    }

pub loop-i-preserved : goal.loop-i-preserved
loop-i-preserved c =
    let i : ℕ = c.loop-i.i in
    let r : ℕ = c.args.r in
    let w : ℕ = 128 * r in
    let b : List ℕ = c.loop-i.b in
    let old : List ℕ = c.args.b.now in
    let f : ℕ → List ℕ = λ k. rom_mix r (2 ^ c.args.log_n) (take w (drop (w * k) old)) in
    let step : w * suc i ≡ w * i + w = grind arith in
    let next : w * (i + 1) ≡ w * i + w = grind arith in
    let up : suc i ≤ c.args.p = omega arith in
    let top : w * suc i ≤ w * c.args.p = mul-le-mul_left w up in
    let whole : length b ≡ w * c.args.p = c.loop-i.auto.b ∙ c.requires.long in
    let room : w * i + w ≤ length b = omega (arith, step, top, whole) in
    let width : w * i + w - w * i ≡ w = omega arith in
    let size : length (take (w * i + w - w * i) (drop (w * i) b)) ≡ w =
    ap (λ (n : ℕ). length (take n (drop (w * i) b))) width ∙ length-take-le w (drop (w * i) b) (omega (arith, room, length-drop (w * i) b)) in
    let long : length c.rom_mix.new.x ≡ w = c.rom_mix.auto.x ∙ size in
    let new : c.rom_mix.new.x ≡ f i =
    c.rom_mix.ensures ∙ ap₂ (λ (n : ℕ) (t : List ℕ). rom_mix r (2 ^ c.args.log_n) (take n t)) width c.loop-i.invariant.rest in
    record {
      front =
          piece_more w i (w * i + w - w * i) b c.rom_mix.new.x (joined f i) long room width c.loop-i.invariant.front
          ∙ ap (λ (t : List ℕ). joined f i ++ t) new ∙ joined_more f i;
      rest =
          drop-put_mid (w * i) (w * i + w - w * i) b c.rom_mix.new.x (w * (i + 1)) (omega (arith, next)) (omega (arith, room)) (long ∙ sym width)
          ∙ ap (λ (n : ℕ). drop n b) next
          ∙ sym (drop-drop w (w * i) b)
          ∙ ap (drop w) c.loop-i.invariant.rest
          ∙ drop-drop w (w * i) old
          ∙ ap (λ (n : ℕ). drop n old) (sym next);
    }
