use Rattle.std.proofs.Common.{◌≡◌, ◌∙◌, ◌+◌, ◌%◌, ◌<◌, ℕ, List, length, take, arith, ap, replicate, length-append}
use Rattle.std.proofs.lemmas.List.{length-replicate, length-take-le}
use Rattle.std.proofs.lemmas.Nat.{mod_below}
use Rattle.mac_modes.specs.Padding.{pad_count, padded}
use Rattle.pkcs5.proofs.Numbers.{padded_whole}
use Rattle.pkcs5.proofs.pbes2.cipher.encrypt_with.Goals as goal

pub returns-in-Ok-clause-sealed : goal.returns-in-Ok-clause-sealed
returns-in-Ok-clause-sealed g c =
    let n : ℕ = g.C.BlockCipher.BLOCK in
    let m : List ℕ = take c.args.pos c.args.buffer.now in
    let low = g.C.BlockCipher.laws.low in
    let same : length (take c.in-Ok.len c.cbc_encrypt_padded.new.buffer) ≡ length (padded m n) =
    length-take-le c.in-Ok.len c.cbc_encrypt_padded.new.buffer (omega (arith, c.cbc_encrypt_padded.auto.buffer, c.in-Ok.ensures.length.0)) ∙ c.in-Ok.ensures.length.1 in
    let size : length (padded m n) ≡ length m + pad_count n (length m) =
    length-append m (replicate (pad_count n (length m)) (pad_count n (length m))) ∙ ap (λ (k : ℕ). length m + k) (length-replicate (pad_count n (length m)) (pad_count n (length m))) in
    let lt : length m % n < n = mod_below (length m) n low in
    record {
      blocks = record { some = omega (arith, same, size, lt); whole = ap (λ (k : ℕ). k % n) same ∙ padded_whole m n low };
      text = c.in-Ok.ensures.sealed;
    }
