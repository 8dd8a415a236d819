-- Lists that are read and written in pieces.
use Rattle.std.proofs.Common.{◌≡◌, ℕ, ◌+◌, ◌≤◌, List, ◌++◌, length, take, drop, sym, ap, ◌∙◌}
use Rattle.std.proofs.lemmas.List.{take_at, drop-drop, take-append-drop, length-take-le}

-- A read of n octets at a place: what is in the buffer and what is left make up what was left before.
pub given : (octets copied tail : List ℕ) (at n : ℕ) → copied ≡ take n (drop at octets) → n ≤ length (drop at octets)
    → drop at octets ≡ take n (copied ++ tail) ++ drop (at + n) octets
given octets copied tail at n e h =
    let l : length copied ≡ n = ap length e ∙ length-take-le n (drop at octets) h in
    sym (ap (λ x. x ++ drop (at + n) octets) (take_at copied tail n l ∙ e) ∙ ap (λ x. take n (drop at octets) ++ x) (sym (drop-drop n at octets)) ∙ take-append-drop n (drop at octets))
