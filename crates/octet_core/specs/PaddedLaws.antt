-- What is proved of octets with zeros after them.
use Rattle.std.specs.Prelude.{ℕ, ◌≡◌, ◌+◌, ◌-◌, ◌≤◌, List, ◌++◌, length, take, replicate}
use Rattle.std.proofs.Common.{sym, ◌∙◌, ap, subst, arith, length-append}
use Rattle.std.proofs.lemmas.List.{take-append-drop, length-take-le, length-replicate}
use Rattle.std.proofs.Math.Seq.{drop-append_seam, take-append_seam}
use Rattle.octet_core.specs.Padded.{IsPadded, padded}

pub padded_take : (n size : ℕ) (all : List ℕ) → IsPadded n size all → padded n (take size all) ≡ all
padded_take n size all h =
    let len : length (take size all) ≡ size =
    length-take-le size all (subst (λ k. size ≤ k) (sym h.1) h.0) in
    ap (λ k. take size all ++ replicate (n - k) 0) len ∙ ap (λ t. take size all ++ t) (sym h.2)
    ∙ take-append-drop size all

pub length-take_padded : (n size : ℕ) (all : List ℕ) → IsPadded n size all
    → length (take size all) ≡ size
length-take_padded n size all h = length-take-le size all (subst (λ k. size ≤ k) (sym h.1) h.0)

pub is_padded : (n : ℕ) (d : List ℕ) → length d ≤ n → IsPadded n (length d) (padded n d)
is_padded n d h = (
  h,
  length-append d (replicate (n - length d) 0)
      ∙ ap (λ k. length d + k) (length-replicate (n - length d) 0)
      ∙ (let e : length d + (n - length d) ≡ n = omega (arith, h) in e),
  drop-append_seam d (replicate (n - length d) 0),
)

pub take_padded : (n : ℕ) (d : List ℕ) → take (length d) (padded n d) ≡ d
take_padded n d = take-append_seam d (replicate (n - length d) 0)
