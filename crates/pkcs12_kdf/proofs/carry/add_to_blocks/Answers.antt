use Rattle.std.proofs.Common.{List, ◌≡◌, ℕ, ◌+◌, ◌-◌, ◌*◌, ◌%◌, ◌^◌, ◌≤◌, length, take, drop, sym, ap, ◌∙◌, arith, below_more}
use borrow.Rule.Slice.PartMut.{put_mid}
use Rattle.std.proofs.lemmas.Slice.{take-put_mid_below, drop-put_mid, between-put_mid}
use Rattle.pkcs12_kdf.specs.Numbers.{number, block_at}
use Rattle.pkcs12_kdf.proofs.Sums.{block_before, block_in_front, block_within, rest_later, numbers_same}
use Rattle.pkcs12_kdf.proofs.carry.add_to_blocks.Goals as goal

pub loop-k-preserved : goal.loop-k-preserved
loop-k-preserved c =
    let v = length c.args.addend.now in
    let k = c.loop-k.k in
    let t = c.loop-k.text in
    let b = c.add_to_block.new.block in
    let fits : v * k + v ≤ length t = omega (arith, block_within v (length c.args.text.now) k (omega arith), c.loop-k.auto.text) in
    let lb : length b ≡ v = omega (arith, c.add_to_block.auto.block) in
    let w = v * k + v - v * k in
    let size : w ≡ v = omega arith in
    let next : v * (k + 1) ≡ v * k + v = omega arith in
    let part : (s : List ℕ) → take w (drop (v * k) s) ≡ block_at v s k = λ s. ap (λ (n : ℕ). take n (drop (v * k) s)) size in
    record {
      done = below_more (λ i. number (block_at v (put_mid (v * k) w t b) i) ≡ (number (block_at v c.args.text.now i) + number c.args.addend.now + 1) % 256 ^ v) k
          (λ i lt. ap number (block_in_front v _ _ i (take-put_mid_below (v * k) w t b (v * i + v) (block_before v i k lt) (omega (arith, fits)))) ∙ c.loop-k.invariant.done i lt)
          (ap number (sym (part _) ∙ between-put_mid (v * k) w t b (v * k + v) (omega (arith, fits)) (omega (arith, lb)))
          ∙ (c.add_to_block.ensures ∙ ap (λ xs. (number xs + number c.args.addend.now + 1) % 256 ^ v) (part t ∙ ap (take v) c.loop-k.invariant.rest)));
      rest = drop-put_mid (v * k) w t b (v * (k + 1)) (omega (arith, next)) (omega (arith, fits)) (omega (arith, lb)) ∙ rest_later t c.args.text.now (v * k) (v * (k + 1)) (omega (arith, next)) c.loop-k.invariant.rest;
    }

pub returns : goal.returns
returns c = numbers_same (length c.args.addend.now) _ _ _ c.loop-k.auto.text (λ i lt. c.loop-k.invariant.done i (omega (arith, lt)))
