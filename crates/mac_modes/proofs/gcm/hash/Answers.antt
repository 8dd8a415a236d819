use Rattle.std.proofs.Common.{arith, refl, ◌≡◌, ◌∙◌, sym, ap, ℕ, ◌+◌, ◌-◌, ◌*◌, ◌/◌, ◌%◌, ◌^◌, ◌<◌, ◌++◌, length, bit_xor}
use Rattle.mac_modes.specs.GcmField.{times}
use Rattle.mac_modes.specs.Gcm.{ghash, blocks_of, filled, lengths}
use Rattle.mac_modes.proofs.Hashed.{whole_block, last_block, lengths_number, ghash_more, rest_of, dropped}
use Rattle.mac_modes.proofs.gcm.hash.Goals as goal

pub loop-i-init : goal.loop-i-init
unfolding ghash
loop-i-init c = λ h is. refl

pub loop-i-preserved : goal.loop-i-preserved
loop-i-preserved c = λ h is.
    let t = c.args.c.now in
    let i = c.loop-i.i in
    let L = lengths (length t) in
    c.absorb-next.ensures h is
    ∙ ghash_more h i c.loop-i.y (filled t ++ L) _ (c.loop-i.invariant h is) (whole_block t L i (16 * i + 16 - 16 * i) (omega arith) (omega arith))

pub returns : goal.returns
returns c = λ h is.
    let t = c.args.c.now in
    let i = c.loop-i.i in
    let L = lengths (length t) in
    let all : i ≡ length t / 16 = omega arith in
    let place : length t / 16 * 16 ≡ 16 * i = omega arith in
    let few : length t < 2 ^ 63 = omega arith in
    let y : c.absorb_rest-all.result ≡ ghash h (blocks_of (length t)) (filled t ++ L) =
    rest_of h t L i c.loop-i.y c.absorb_rest-all.result _ all (dropped t (length t / 16 * 16) (16 * i) place) (c.loop-i.invariant h is)
    c.absorb_rest-all.ensures.none (λ some. c.absorb_rest-all.ensures.some some h is) in
    c.product.ensures h is
    ∙ ap (λ (x : ℕ). times (bit_xor c.absorb_rest-all.result x) h) (sym (lengths_number (length t * 8 % 2 ^ 64) (omega arith)))
    ∙ ghash_more h (blocks_of (length t)) c.absorb_rest-all.result (filled t ++ L) L y (sym (last_block t L refl))
