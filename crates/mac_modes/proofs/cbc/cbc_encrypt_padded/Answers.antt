use Rattle.std.proofs.Common.{arith, rules, ap, ◌∙◌, ◌+◌, ◌-◌, ◌%◌, ◌≡◌, ℕ, List, length, take, refl}
use Rattle.mac_modes.proofs.PaddedTexts.{padded_whole, filled, sealed}
use Rattle.mac_modes.proofs.cbc.cbc_encrypt_padded.Goals as goal

pub encrypt_blocks-requires-clause-whole : goal.encrypt_blocks-requires-clause-whole
encrypt_blocks-requires-clause-whole g c =
    let n : ℕ = g.C.BlockCipher.BLOCK in
    let size : ℕ = c.BLOCK-size.result in
    let count : size - c.args.pos % size ≡ n - c.args.pos % n = ap (λ (s : ℕ). s - c.args.pos % s) c.BLOCK-size.ensures in
    let low = g.C.BlockCipher.laws.low in
    let f = filled c.args.buffer.now c.fill.new.self c.args.pos n _ (size - c.args.pos % size) low c.if-pos-buffer.false count c.if-count-buffer.false (omega arith) (c.fill.ensures.after (λ y e. e)) in
    ap (λ (x : List ℕ). length x % n) f.0 ∙ padded_whole (take c.args.pos c.args.buffer.now) n low

pub returns : goal.returns
returns g c =
    let n : ℕ = g.C.BlockCipher.BLOCK in
    let size : ℕ = c.BLOCK-size.result in
    let count : size - c.args.pos % size ≡ n - c.args.pos % n = ap (λ (s : ℕ). s - c.args.pos % s) c.BLOCK-size.ensures in
    let low = g.C.BlockCipher.laws.low in
    let f = filled c.args.buffer.now c.fill.new.self c.args.pos n _ (size - c.args.pos % size) low c.if-pos-buffer.false count c.if-count-buffer.false (omega arith) (c.fill.ensures.after (λ y e. e)) in
    let s = sealed (g.C.BlockCipher.decryption c.args.cipher.now) n c.args.iv.now (take c.args.pos c.args.buffer.now) c.args.buffer.now _ c.encrypt_blocks.new.buffer (c.args.pos + (size - c.args.pos % size))
    c.encrypt_blocks.auto.buffer (omega (arith, f.2)) f.2 c.encrypt_blocks.ensures f.0 f.1 (c.args.pos + (size - c.args.pos % size)) refl in
    record {
      length = (s.0, s.1);
      sealed = s.2;
      behind = s.3;
      no_room = (search rules, λ h. absurd (omega (arith, h, count, c.if-count-buffer.false)));
      refused = search rules;
    }
