use Rattle.std.proofs.Common.{arith, subst, ap, ◌∙◌, ◌+◌, ◌*◌, ◌/◌, ◌<◌, ◌≤◌, ◌≡◌, ℕ, length}
use Rattle.std.proofs.Math.Nat.{mul_comm}
use Rattle.mac_modes.proofs.Chains.{closing_none, closing_more, closing_all, block_room, block_length}
use Rattle.mac_modes.proofs.cbc.encrypt_blocks.Goals as goal

pub encrypt_one-requires-clause-previous : goal.encrypt_one-requires-clause-previous
encrypt_one-requires-clause-previous g c = c.loop-i.auto.previous ∙ ap length c.copy_from_slice.ensures.after ∙ c.requires.iv

pub encrypt_one-requires-clause-text : goal.encrypt_one-requires-clause-text
encrypt_one-requires-clause-text g c =
    block_length g.C.BlockCipher.BLOCK c.BLOCK-size.result (length c.args.buffer.now) c.loop-i.i c.loop-i.buffer c.BLOCK-size.ensures c.loop-i-test.true c.loop-i.auto.buffer

pub loop-i-init : goal.loop-i-init
loop-i-init g c = closing_none _ _ _ _ _ c.requires.iv c.copy_from_slice.ensures.after

pub loop-i-preserved : goal.loop-i-preserved
loop-i-preserved g c =
    let n : ℕ = g.C.BlockCipher.BLOCK in
    let size : c.BLOCK-size.result ≡ n = c.BLOCK-size.ensures in
    let start : c.loop-i.i * c.BLOCK-size.result ≡ n * c.loop-i.i = ap (λ (r : ℕ). c.loop-i.i * r) size ∙ mul_comm c.loop-i.i n in
    let room : n * c.loop-i.i + n ≤ length c.args.buffer.now =
    block_room n (length c.args.buffer.now) c.loop-i.i (subst (λ (m : ℕ). c.loop-i.i < length c.args.buffer.now / m) size c.loop-i-test.true) in
    closing_more (g.C.BlockCipher.decryption c.args.cipher.now) n c.args.iv.now c.args.buffer.now c.loop-i.buffer c.loop-i.previous
    c.encrypt_one.new.text c.encrypt_one.new.previous c.loop-i.i _ _
    c.requires.iv room c.loop-i.auto.buffer start (omega arith) c.encrypt_one.auto.text
    (c.loop-i.auto.previous ∙ ap length c.copy_from_slice.ensures.after ∙ c.requires.iv)
    c.encrypt_one.ensures.text c.encrypt_one.ensures.kept c.loop-i.invariant

pub returns : goal.returns
returns g c =
    closing_all (g.C.BlockCipher.decryption c.args.cipher.now) g.C.BlockCipher.BLOCK c.args.iv.now c.args.buffer.now c.loop-i.buffer c.loop-i.previous
    c.loop-i.i c.BLOCK-size.result c.BLOCK-size.ensures c.requires.whole c.loop-i.auto.buffer c.loop-i-test.false c.loop-i.auto.i-end c.loop-i.invariant
