use Rattle.std.proofs.Common.{arith, refl, ◌∙◌, sym, ◌-◌, length}
use Rattle.std.specs.Prelude.{IsTrue, false}
use Rattle.mac_modes.proofs.Hashed.{dropped}
use Rattle.mac_modes.proofs.Stream.{counter-length}
use Rattle.mac_modes.proofs.Sealed.{tagged, opened}
use Rattle.mac_modes.proofs.gcm.gcm_decrypt.Goals as goal

different : IsTrue false → ⊥
different h = grind (arith, h)

pub returns-then-not-is_same-clause-bad_tag : goal.returns-then-not-is_same-clause-bad_tag
returns-then-not-is_same-clause-bad_tag g c = λ _ m e.
    let E = g.C.BlockCipher.encryption c.args.cipher.now in
    let nonce = c.args.nonce.now in
    let b = c.args.buffer.now in
    let long = counter-length _ g.C.BlockCipher.BLOCK g.C.BlockCipher.encryption g.C.BlockCipher.decryption g.C.BlockCipher.laws c.requires c.args.cipher.now nonce c.told-nonce c.fits-nonce in
    let same : IsTrue false = c.if-not-is_same.ensures.1 (dropped b (length b - 16) (length b - 16) refl ∙ tagged E nonce long m b e ∙ sym c.tag_of-tag.ensures) in
    different same

pub returns-clause-opened : goal.returns-clause-opened
returns-clause-opened g c =
    let E = g.C.BlockCipher.encryption c.args.cipher.now in
    let nonce = c.args.nonce.now in
    let b = c.args.buffer.now in
    let long = counter-length _ g.C.BlockCipher.BLOCK g.C.BlockCipher.encryption g.C.BlockCipher.decryption g.C.BlockCipher.laws c.requires c.args.cipher.now nonce c.told-nonce c.fits-nonce in
    opened E nonce long b c.xor_stream.new.text c.if-buffer-lt16.false c.xor_stream.ensures
    (sym (dropped b (length b - 16) (length b - 16) refl) ∙ c.if-not-is_same.ensures.0 refl ∙ c.tag_of-tag.ensures)

pub tag_of-tag-requires : goal.tag_of-tag-requires
tag_of-tag-requires g c = c.requires

pub xor_stream-requires : goal.xor_stream-requires
xor_stream-requires g c = c.requires
