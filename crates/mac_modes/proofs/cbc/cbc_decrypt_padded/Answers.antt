use Rattle.std.proofs.Common.{◌∙◌, sym, ap, ◌%◌, ℕ, length}
use Rattle.mac_modes.proofs.cbc.cbc_decrypt_padded.Goals as goal

pub decrypt_blocks-requires-clause-iv : goal.decrypt_blocks-requires-clause-iv
decrypt_blocks-requires-clause-iv g c = c.requires

pub decrypt_blocks-requires-clause-whole : goal.decrypt_blocks-requires-clause-whole
decrypt_blocks-requires-clause-whole g c =
    ap (λ (n : ℕ). length c.args.buffer.now % n) (sym c.BLOCK.ensures) ∙ c.if-buffer-BLOCK-ne0.false
