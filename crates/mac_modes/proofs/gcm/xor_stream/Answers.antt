use Rattle.std.proofs.Common.{arith, refl, subst, ◌≡◌, ◌∙◌, ap, ℕ, ◌+◌, ◌-◌, ◌*◌, ◌/◌, length, drop}
use Rattle.std.proofs.lemmas.List.{length-take, length-drop}
use Rattle.mac_modes.proofs.Stream.{Streamed, streamed_none, streamed_more, streamed_all, counter-length}
use Rattle.mac_modes.specs.GcmLaws.{stream-length}
use Rattle.mac_modes.proofs.gcm.xor_stream.Goals as goal

pub loop-i-init : goal.loop-i-init
loop-i-init g c = streamed_none _ _ _

pub loop-i-preserved : goal.loop-i-preserved
loop-i-preserved g c =
    let E = g.C.BlockCipher.encryption c.args.cipher.now in
    let nonce = c.args.nonce.now in
    let i : ℕ = c.loop-i.i in
    let long = counter-length _ g.C.BlockCipher.BLOCK g.C.BlockCipher.encryption g.C.BlockCipher.decryption g.C.BlockCipher.laws c.requires c.args.cipher.now nonce c.told-nonce c.fits-nonce in
    let bl = c.encrypt_block.ensures ∙ ap E c.counter_block-block.ensures in
    streamed_more E nonce c.args.text.now c.loop-i.text _ c.encrypt_block.new.block i (16 * i + 16 - 16 * i) (omega arith) c.loop-i.auto.text (omega arith)
    bl (ap length bl ∙ long _) (stream-length E nonce long i) c.xor_into.ensures c.loop-i.invariant

pub returns : goal.returns
returns g c =
    let E = g.C.BlockCipher.encryption c.args.cipher.now in
    let nonce = c.args.nonce.now in
    let t = c.args.text.now in
    let b = c.loop-i.text in
    let i : ℕ = length t / 16 in
    let long = counter-length _ g.C.BlockCipher.BLOCK g.C.BlockCipher.encryption g.C.BlockCipher.decryption g.C.BlockCipher.laws c.requires c.args.cipher.now nonce c.told-nonce c.fits-nonce in
    let bl = c.encrypt_block-2.ensures ∙ ap E c.counter_block-block-2.ensures in
    let all : c.loop-i.i ≡ i = omega arith in
    streamed_all E nonce t b _ c.encrypt_block-2.new.block i (16 * i) (length b - 16 * i) _ refl refl c.loop-i.auto.text refl
    (omega (arith, length-take (length b - 16 * i) (drop (16 * i) b), length-drop (16 * i) b, c.loop-i.auto.text))
    bl (ap length bl ∙ long _) (stream-length E nonce long i) c.xor_into-2.ensures (subst (λ (m : ℕ). Streamed E nonce t m b) all c.loop-i.invariant)
