use Rattle.std.proofs.Common.{◌≡◌, ℕ, List, ap, length, arith}
use Rattle.key_files.specs.declared.matching.Match.{Match}
use Rattle.pem_stores.proofs.Choices.{as_many}
use Rattle.pem_stores.proofs.ownership.own_entry.Goals as goal

pub entry_with-requires : goal.entry_with-requires
entry_with-requires c =
    let counted : length c.in_ok-matches.matches.items ≡ length c.as_slice-2.result.now = as_many _ c.as_slice-2.result.now c.in_ok-matches.matches.items c.in_ok-matches.ensures in
    let certificates : length c.as_slice-2.result.now ≡ length c.args.certificates.items = ap (λ (l : List (List ℕ)). length l) c.as_slice-2.ensures.value in
    let matches : length c.as_slice-3.result.now ≡ length c.in_ok-matches.matches.items = ap (λ (l : List Match). length l) c.as_slice-3.ensures.value in
    let within = c.in-Own.ensures.within in omega arith

pub entry_with-requires-in-Untold : goal.entry_with-requires-in-Untold
entry_with-requires-in-Untold c =
    let counted : length c.in_ok-matches.matches.items ≡ length c.as_slice-2.result.now = as_many _ c.as_slice-2.result.now c.in_ok-matches.matches.items c.in_ok-matches.ensures in
    let certificates : length c.as_slice-2.result.now ≡ length c.args.certificates.items = ap (λ (l : List (List ℕ)). length l) c.as_slice-2.ensures.value in
    let matches : length c.as_slice-3.result.now ≡ length c.in_ok-matches.matches.items = ap (λ (l : List Match). length l) c.as_slice-3.ensures.value in
    let within = c.in-Untold.ensures.within in omega arith
