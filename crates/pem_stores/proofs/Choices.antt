-- How certificates match a private key.
use Rattle.std.proofs.Common.{◌≡◌, ◌<◌, ℕ, List, [], ◌∷◌, ◌++◌, get_or, length, suc, take, refl, sym, ap, ◌∙◌, subst}
use Rattle.std.specs.Prelude.{◌+◌}
use Rattle.std.specs.List.{AllZip}
use Rattle.std.proofs.lemmas.List.{take_more}
use Rattle.std.proofs.lemmas.Slice.Zip.{all_zipped_more}
use Rattle.key_files.specs.declared.matching.Match.{Match}
use Rattle.pem_stores.specs.Choice.{IsMatchOfTexts}

pub matches_step : (key : List ℕ) (bs : List (List ℕ)) (i : ℕ) (b : List ℕ) (ms ns : List Match) (m : Match) → i < length bs → b ≡ get_or bs i b → AllZip (IsMatchOfTexts key) (take i bs) ms → IsMatchOfTexts key b m
    → ns ≡ ms ++ m ∷ [] → AllZip (IsMatchOfTexts key) (take (i + 1) bs) ns
matches_step key bs i b ms ns m within at h r more =
    let taken : take (i + 1) bs ≡ take i bs ++ b ∷ [] = take_more bs i b within ∙ ap (λ x. take i bs ++ x ∷ []) (sym at) in
    subst (λ l. AllZip (IsMatchOfTexts key) l ns) (sym taken) (subst (λ l. AllZip (IsMatchOfTexts key) (take i bs ++ b ∷ []) l) (sym more) (all_zipped_more (IsMatchOfTexts key) (take i bs) ms b m h r))

pub as_many : (key : List ℕ) (bs : List (List ℕ)) (ms : List Match) → AllZip (IsMatchOfTexts key) bs ms → length ms ≡ length bs
as_many key [] [] h = refl
as_many key [] (m ∷ ms) h = absurd h
as_many key (b ∷ bs) [] h = absurd h
as_many key (b ∷ bs) (m ∷ ms) h = ap (λ n. suc n) (as_many key bs ms h.1)
