use Rattle.std.proofs.Common.{arith, ◌≡◌, ◌∙◌, ap, ℕ, ◌*◌, ◌/◌, refl, bit_xor}
use Rattle.mac_modes.specs.GcmField.{times_below, times}
use Rattle.mac_modes.proofs.Field.{product_step, rest_step}
use Rattle.mac_modes.proofs.gcm_field.times_table.Goals as goal

pub loop-k-init : goal.loop-k-init
unfolding times_below
loop-k-init c = record {
  rest = let e : c.args.block ≡ c.args.block / 1 = omega arith in e;
  product = λ h is. refl;
}

pub loop-k-preserved : goal.loop-k-preserved
loop-k-preserved c = record {
  rest = rest_step c.loop-k._k c.args.block c.loop-k.rest c.loop-k.invariant.rest;
  product = λ h is. ap (bit_xor _) c.times_x4.ensures ∙ product_step c.loop-k._k c.args.block h c.loop-k.product c.loop-k.rest c.args.table.now is c.loop-k.invariant.rest (c.loop-k.invariant.product h is);
}

pub returns : goal.returns
unfolding times
returns c = λ h is.
    let all : 4 * c.loop-k._k ≡ 128 = omega arith in
    c.loop-k.invariant.product h is ∙ ap (λ (j : ℕ). times_below j c.args.block h) all
