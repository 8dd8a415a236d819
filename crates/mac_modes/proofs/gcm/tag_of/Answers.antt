use Rattle.std.proofs.Common.{◌∙◌, ap, ap₂, ℕ, ◌+◌, ◌++◌, length}
use Rattle.std.specs.Int.{w128, to_be_bytes, from_be_bytes}
use Rattle.block_core.specs.Bits.{xor_each}
use Rattle.mac_modes.specs.Gcm.{ghash, blocks_of, filled, lengths}
use Rattle.mac_modes.proofs.gcm.tag_of.Goals as goal

pub returns : goal.returns
returns g c =
    let E = g.C.BlockCipher.encryption c.args.cipher.now in
    let t = c.args.c.now in
    let h = c.from_be_bytes.ensures ∙ ap (from_be_bytes w128) c.encrypt_block.ensures in
    c.xor_into.ensures
    ∙ ap₂ xor_each
    (c.to_be_bytes-answer.ensures ∙ ap (to_be_bytes w128)
    (c.hash.ensures _ c.products-table.ensures ∙ ap (λ (x : ℕ). ghash x (blocks_of (length t) + 1) (filled t ++ lengths (length t))) h))
    (c.encrypt_block-2.ensures ∙ ap E c.counter_block-first.ensures)
