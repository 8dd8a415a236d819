-- Octets that are put after others in an array.
use Rattle.std.proofs.Common.{◌≡◌, ℕ, ◌+◌, ◌-◌, ◌≤◌, List, length, drop, ap, sym, ◌∙◌, arith, length-drop}
use Rattle.std.proofs.lemmas.List.{drop-drop, drop-replicate, length-take-le}
use Rattle.std.specs.Prelude.{replicate}
use Rattle.std.proofs.lemmas.Slice.{drop-put_mid}
use borrow.Rule.Slice.PartMut.{put_mid, mid_of, same_len_mid}
use Rattle.octet_core.specs.Padded.{IsPadded}

pub still_padded : (max size n k : ℕ) (xs ys : List ℕ) → k ≡ n → length ys ≡ n → size + n ≤ max → IsPadded max size xs
    → IsPadded max (size + n) (put_mid size k xs ys)
still_padded max size n k xs ys same long room (least, all, zeros) =
    let inside : size ≤ length xs = omega (arith, least, all) in
    let rest = length-drop size xs in
    let mid : length (mid_of size k xs) ≡ k = length-take-le k (drop size xs) (omega (arith, rest, all, same, room)) in (
      room,
      same_len_mid size k xs ys (long ∙ sym same ∙ sym mid) ∙ all,
      drop-put_mid size k xs ys (size + n) (omega (arith, same)) inside (long ∙ sym same) ∙ sym (drop-drop n size xs) ∙ ap (drop n) zeros ∙ drop-replicate n (max - size) 0
          ∙ ap (λ m. replicate m 0) (let e : max - size - n ≡ max - (size + n) = omega arith in e),
    )
