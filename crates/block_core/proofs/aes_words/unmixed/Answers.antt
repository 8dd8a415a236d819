use Rattle.std.proofs.Common.{◌∙◌, ap, ℕ, List, [], ◌∷◌, get_or}
use Rattle.block_core.specs.Sbox.{inv_sub_byte, sub_byte}
use Rattle.block_core.specs.SboxLaws.{sub_facts_at}
use Rattle.block_core.specs.AesWords.{mixed_word}
use Rattle.block_core.proofs.Rounds.{at, at0, at1, at2, at3}
use Rattle.block_core.proofs.aes_words.unmixed.Goals as goal

pub returns : goal.returns
returns c =
    let w = c.args.word in
    let o = c.to_be_bytes-o.ensures in
    let a = ap inv_sub_byte (c.sub_byte.ensures ∙ ap (λ (x : List ℕ). sub_byte (get_or x 0 0)) o) ∙ (sub_facts_at (at w 0) (at0 w)).0 in
    let b = ap inv_sub_byte (c.sub_byte-2.ensures ∙ ap (λ (x : List ℕ). sub_byte (get_or x 1 0)) o) ∙ (sub_facts_at (at w 1) (at1 w)).0 in
    let d = ap inv_sub_byte (c.sub_byte-3.ensures ∙ ap (λ (x : List ℕ). sub_byte (get_or x 2 0)) o) ∙ (sub_facts_at (at w 2) (at2 w)).0 in
    let e = ap inv_sub_byte (c.sub_byte-4.ensures ∙ ap (λ (x : List ℕ). sub_byte (get_or x 3 0)) o) ∙ (sub_facts_at (at w 3) (at3 w)).0 in
    c.inv_sub_and_inv_mix.ensures ∙ (λ i. mixed_word 14 11 13 9 (a i ∷ b i ∷ d i ∷ e i ∷ []))
