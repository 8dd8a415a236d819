use Rattle.std.proofs.Common.{◌≡◌, ◌∙◌, sym, ap, ap₂, subst, arith, ◌+◌, ◌-◌, ◌*◌, ◌≤◌, ℕ, List, ◌++◌, take, drop, length, get_or}
use borrow.Rule.Slice.PartMut.{put_mid, same_len_mid}
use Rattle.std.proofs.lemmas.List.{length-take, length-drop}
use Rattle.block_core.specs.Des.{round_keys, keys_from}
use Rattle.block_core.specs.DesTables.{left_shifts, permuted_choice_1, permuted_choice_2}
use Rattle.block_core.specs.Bits.{rotated, pick, bits_of_octets, cut, AreBits}
use Rattle.block_core.proofs.Groups.{flat, written, keys_step, keys_written, keys_of_round_keys, bits_round_keys}
use Rattle.block_core.proofs.Places.{choice_1_places, choice_2_places, shift_small}
use Rattle.block_core.proofs.des.schedule.Goals as goal

pub pick_bits-requires-clause-places : goal.pick_bits-requires-clause-places
pick_bits-requires-clause-places c = choice_1_places c.to_bits.new.bits c.to_bits.auto.bits

pub loop-i-init : goal.loop-i-init
unfolding round_keys
loop-i-init c =
    let k : List ℕ = pick permuted_choice_1 (bits_of_octets c.args.key.now) in
    let is : c.pick_bits.new.out ≡ k = c.pick_bits.ensures ∙ ap (pick permuted_choice_1) c.to_bits.ensures in
    (c.told-keys, ap₂ (λ (x y : List ℕ). flat (keys_from left_shifts x y)) (c.split.ensures.left ∙ ap (take 28) is) (c.split.ensures.right ∙ ap (drop 28) is))

pub rotate-requires-in-loop-i : goal.rotate-requires-in-loop-i
rotate-requires-in-loop-i c = shift_small c.loop-i.i (omega arith)

pub pick_bits-requires-in-loop-i-clause-places : goal.pick_bits-requires-in-loop-i-clause-places
pick_bits-requires-in-loop-i-clause-places c = choice_2_places c.join.new.out c.join.auto.out

pub loop-i-preserved : goal.loop-i-preserved
loop-i-preserved c =
    let i : ℕ = c.loop-i.i in
    let a : ℕ = 48 * i in
    let n : ℕ = get_or left_shifts i 0 in
    let long : length c.loop-i.keys ≡ 768 = c.loop-i.invariant.0 in
    let room : length (take (a + 48 - a) (drop a c.loop-i.keys)) ≡ 48 = length-take (a + 48 - a) (drop a c.loop-i.keys) ∙ omega (arith, length-drop a c.loop-i.keys, long) in
    let size : length c.pick_bits-in-loop-i.new.out ≡ 48 = c.pick_bits-in-loop-i.auto.out ∙ room in
    let new : c.pick_bits-in-loop-i.new.out ≡ pick permuted_choice_2 (rotated n c.loop-i.c ++ rotated n c.loop-i.d) =
    c.pick_bits-in-loop-i.ensures
    ∙ ap (pick permuted_choice_2) (c.join.ensures ∙ ap₂ (λ (x y : List ℕ). x ++ y) c.rotate.ensures c.rotate-in-loop-i.ensures) in
    let next : List ℕ = flat (keys_from (drop (i + 1) left_shifts) (rotated n c.loop-i.c) (rotated n c.loop-i.d)) in (
      same_len_mid a (a + 48 - a) c.loop-i.keys c.pick_bits-in-loop-i.new.out c.pick_bits-in-loop-i.auto.out ∙ long,
      ap₂ (λ (x y : List ℕ). take (48 * (i + 1)) (put_mid a (a + 48 - a) c.loop-i.keys c.pick_bits-in-loop-i.new.out) ++ flat (keys_from (drop (i + 1) left_shifts) x y)) c.rotate.ensures c.rotate-in-loop-i.ensures
          ∙ written a (a + 48 - a) (48 * (i + 1)) c.loop-i.keys c.pick_bits-in-loop-i.new.out
          (flat (keys_from (drop i left_shifts) c.loop-i.c c.loop-i.d)) next (flat (round_keys c.args.key.now))
          (omega (arith, size)) (omega (arith, long))
          (keys_step i c.loop-i.c c.loop-i.d (omega arith) ∙ ap (λ (x : List ℕ). x ++ next) (sym new))
          c.loop-i.invariant.1,
    )

pub returns-clause-value : goal.returns-clause-value
returns-clause-value c =
    let key : List ℕ = c.args.key.now in
    let short : length c.loop-i.keys ≤ 48 * c.loop-i.i = omega (arith, c.loop-i.invariant.0) in
    ap (cut 48 16) (keys_written c.loop-i.keys key c.loop-i.c c.loop-i.d c.loop-i.i short (omega arith) c.loop-i.invariant.1)
    ∙ keys_of_round_keys key

pub returns-clause-bits : goal.returns-clause-bits
returns-clause-bits c =
    let key : List ℕ = c.args.key.now in
    let short : length c.loop-i.keys ≤ 48 * c.loop-i.i = omega (arith, c.loop-i.invariant.0) in
    let all = keys_written c.loop-i.keys key c.loop-i.c c.loop-i.d c.loop-i.i short (omega arith) c.loop-i.invariant.1 in
    subst AreBits (sym all) (bits_round_keys key)
