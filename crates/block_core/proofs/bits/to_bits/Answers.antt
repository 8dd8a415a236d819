use Rattle.std.proofs.Common.{◌≡◌, ◌∙◌, sym, ap, arith, ◌+◌, ◌-◌, ◌*◌, ℕ, List, [], ◌++◌, take, drop, length, get_or}
use Rattle.std.proofs.lemmas.List.{take_all, length-take, length-drop, append-nil}
use Rattle.std.proofs.Math.ListN.{drop_of_length-le}
use Rattle.block_core.specs.Bits.{bits_of_octets, bits_of}
use Rattle.block_core.specs.BitsLaws.{length-bits_of}
use Rattle.block_core.proofs.Groups.{written, octets_step}
use Rattle.block_core.proofs.bits.to_bits.Goals as goal

pub loop-i-preserved : goal.loop-i-preserved
loop-i-preserved c =
    let os : List ℕ = c.args.octets.now in
    let i : ℕ = c.loop-i.i in
    let a : ℕ = 8 * i in
    let long : length c.loop-i.bits ≡ 8 * length os = c.loop-i.auto.bits ∙ c.requires in
    let room : length (take (a + 8 - a) (drop a c.loop-i.bits)) ≡ 8 = length-take (a + 8 - a) (drop a c.loop-i.bits) ∙ omega (arith, length-drop a c.loop-i.bits, long) in
    let new : c.write_bits.new.out ≡ bits_of 8 (get_or os i 0) = c.write_bits.ensures ∙ ap (λ (w : ℕ). bits_of w (get_or os i 0)) room in
    let size : length c.write_bits.new.out ≡ 8 = ap length new ∙ length-bits_of 8 (get_or os i 0) in
    written a (a + 8 - a) (8 * (i + 1)) c.loop-i.bits c.write_bits.new.out (bits_of_octets (drop i os)) (bits_of_octets (drop (i + 1) os)) (bits_of_octets os)
    (omega (arith, size)) (omega (arith, long))
    (octets_step os i (omega arith) ∙ ap (λ (x : List ℕ). x ++ bits_of_octets (drop (i + 1) os)) (sym new))
    c.loop-i.invariant

pub returns : goal.returns
unfolding bits_of_octets
returns c =
    let os : List ℕ = c.args.octets.now in
    let i : ℕ = c.loop-i.i in
    let done : drop i os ≡ [] = drop_of_length-le os (omega arith) in
    let full : take (8 * i) c.loop-i.bits ≡ c.loop-i.bits = take_all (8 * i) c.loop-i.bits (omega (arith, c.loop-i.auto.bits, c.requires)) in
    sym full ∙ sym (append-nil (take (8 * i) c.loop-i.bits)) ∙ ap (λ (x : List ℕ). take (8 * i) c.loop-i.bits ++ bits_of_octets x) (sym done) ∙ c.loop-i.invariant
