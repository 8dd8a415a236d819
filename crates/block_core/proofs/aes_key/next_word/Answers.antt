use Rattle.std.proofs.Common.{ap, ◌+◌, ◌-◌, ◌*◌, ℕ, List, [], ◌∷◌, get_or, bit_xor}
use Rattle.block_core.specs.AesKey.{next_word}
use Rattle.block_core.proofs.aes_key.next_word.Goals as goal

pub returns : goal.returns
unfolding next_word
returns c =
    let b : ℕ = 4 * (c.args.i - c.args.words) in
    let w : List ℕ = c.args.w.now in
    ap (λ (t : List ℕ). bit_xor (get_or w b 0) (get_or t 0 0) ∷ bit_xor (get_or w (b + 1) 0) (get_or t 1 0)
    ∷ bit_xor (get_or w (b + 2) 0) (get_or t 2 0) ∷ bit_xor (get_or w (b + 3) 0) (get_or t 3 0) ∷ [])
    c.scheduled-t.ensures
