use Rattle.std.proofs.Common.{ap, sym, ◌∙◌, inl, inr, Err, length}
use Rattle.legacy_store.proofs.Opened.{text_bad, text_opens, whole_blocks}
use Rattle.legacy_store.proofs.old_text.decrypt_under.Goals as goal

pub cbc_decrypt_padded-requires : goal.cbc_decrypt_padded-requires
cbc_decrypt_padded-requires g c = c.requires.iv ∙ sym c.requires.block

pub returns-in-Ok-clause-some : goal.returns-in-Ok-clause-some
returns-in-Ok-clause-some g c =
    let t = c.in-Ok.ensures.text in
    (t.0, text_opens _ _ _ c.args.iv.now c.args.buffer.now _ c.requires.block c.new-cipher.ensures.backward t.1)

pub returns-clause-none : goal.returns-clause-none
returns-clause-none g c =
    elim c.in-Err.ensures.refused [
      | inl e ↦ absurd (whole_blocks (length c.args.buffer.now) _ c.requires.block c.requires.some c.requires.whole (c.in-Err.ensures.bad_length.0 (ap Err e)))
      | inr e ↦ text_bad _ _ _ c.args.iv.now c.args.buffer.now c.requires.block c.new-cipher.ensures.backward (c.in-Err.ensures.bad_padding (ap Err e))
    ]
