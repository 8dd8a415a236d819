use Rattle.std.proofs.Common.{◌≡◌, ℕ, ◌++◌, ◌≤◌, List, length, take, sym, ap, ◌∙◌, arith, lit<}
use Rattle.std.proofs.lemmas.List.{length-take-le, take_at}
use Rattle.mac_modes.specs.Hmac.{hmac}
use Rattle.mac_modes.specs.HmacLaws.{length-hmac}
use Rattle.known_answers.specs.Known.{word}
use Rattle.known_answers.proofs.Words.{word_is}
use Rattle.known_answers.proofs.answer.tag.Goals as goal

-- a result is at most as long as the buffer
in_buffer : (n u k : ℕ) → n ≡ u → u ≤ 64 → k ≡ 64 → n ≤ k
in_buffer n u k same fits long = omega (arith, same, fits, long)

-- what is written into the front of a buffer is its front
front_is : (a out answer rest : List ℕ) (n u : ℕ) → a ≡ take n out → n ≡ u → out ≡ answer ++ rest → length answer ≡ u → a ≡ answer
front_is a out answer rest n u is same written long = is ∙ (ap (λ m. take m out) same ∙ (ap (take u) written ∙ take_at answer rest u long))

pub slice_bounds-out-end : goal.slice_bounds-out-end
slice_bounds-out-end g c = in_buffer _ _ _ c.OUTPUT.ensures g.met.H.HashFn.sizes.answer_fits (omega arith)

pub slice_bounds-from_slice-end : goal.slice_bounds-from_slice-end
slice_bounds-from_slice-end g c = sym (length-take-le _ c.answer_at.new.out (in_buffer _ _ _ c.OUTPUT.ensures g.met.H.HashFn.sizes.answer_fits (omega arith)))

pub returns : goal.returns
returns g c =
    let h = g.H.HashFn.digest in
    let b = g.H.HashFn.BLOCK in
    let tag : List ℕ = hmac h b c.as_slice.result.now c.as_slice-2.result.now in
    let key : c.as_slice.result.now ≡ word c.args.words.now 0 = word_is c.args.words.now 2 0 _ _ c.as_slice.ensures c.index-words-0.is c.if-words-ne2.false (lit< tt) in
    let message : c.as_slice-2.result.now ≡ word c.args.words.now 1 = word_is c.args.words.now 2 1 _ _ c.as_slice-2.ensures c.index-words-1.is c.if-words-ne2.false (lit< tt) in
    front_is _ _ tag _ _ _ c.in_ok-from_slice.ensures c.OUTPUT.ensures (c.answer_at.ensures _ c.in-Ok.ensures.1) (length-hmac h b _ g.met.H.HashFn.digest_length _ _)
    ∙ (ap (λ k. hmac h b k c.as_slice-2.result.now) key ∙ ap (hmac h b (word c.args.words.now 0)) message)
