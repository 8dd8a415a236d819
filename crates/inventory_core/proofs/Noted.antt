-- How an index of subjects is made.
use Rattle.std.proofs.Common.{◌≡◌, ◌≢◌, ◌<◌, ◌≤◌, ◌+◌, ℕ, zero, suc, List, [], ◌∷◌, length, get_or, set, map, inl, inr, arith, refl, sym, ap, ◌∙◌, subst, get_or-set_same, get_or-set_other}
use Rattle.std.specs.Prelude.{Option, Some, None}
use Rattle.std.specs.List.{slice_get}
use Rattle.std.specs.Option.{option_map}
use Rattle.std.proofs.lemmas.Bool.{cases_lt}
use Rattle.std.proofs.lemmas.Option.{slice_get-map, slice_get_past, slice_get_read}
use Rattle.inventory_core.specs.Certificate.{Certificate}
use Rattle.inventory_core.specs.SubjectIndex.{at_subject, named_from, namesake_of}
use Rattle.inventory_core.proofs.Least.{subject_alike}

-- one element, as it is seen by f
pub seen_at : {A B : Type 0} (f : A → B) (xs : List A) (i : ℕ) (x : A) → i < length xs → x ≡ get_or xs i x → slice_get (map f xs) i ≡ Some (f x)
seen_at f xs i x lt is = slice_get-map f xs i ∙ ap (option_map f) (slice_get_read xs (length xs) i x refl lt is)

pub namesake_past : (cs : List (Option Certificate)) (j : ℕ) → length cs ≤ j → namesake_of cs j ≡ None
namesake_past cs j le = ap (at_subject (named_from cs (j + 1))) (slice_get_past cs j le)

pub namesake_noted : (cs : List (Option Certificate)) (namesakes : List (Option ℕ)) (i k j : ℕ) (x : Option Certificate) (find : List ℕ → Option ℕ) (namesake : Option ℕ) → k ≡ i + 1 → i < length namesakes → slice_get cs i ≡ Some x
    → ((name : List ℕ) → find name ≡ named_from cs k name) → namesake ≡ at_subject find (Some x) → ((j : ℕ) → k ≤ j → get_or namesakes j None ≡ namesake_of cs j) → i ≤ j → get_or (set namesakes i namesake) j None ≡ namesake_of cs j
namesake_noted cs namesakes i k j x find namesake next lt at finds is are le = elim (cases_lt i j) [
  | inl less ↦ let other : j ≢ i = omega arith in get_or-set_other namesakes i j namesake None other ∙ are j (omega arith)
  | inr more ↦
      let same : i ≡ j = omega arith in
      let here : namesake ≡ namesake_of cs i = is ∙ subject_alike find (named_from cs k) finds (Some x) ∙ ap (λ n. at_subject (named_from cs n) (Some x)) next ∙ ap (at_subject (named_from cs (i + 1))) (sym at) in
      subst (λ n. get_or (set namesakes i namesake) n None ≡ namesake_of cs n) same (get_or-set_same namesakes i namesake None lt ∙ here)
]

pub get_seen : {A B : Type 0} (f : Option B → Option ℕ) (g : A → B) → f None ≡ None → (xs : List A) (j : ℕ) → get_or (map (λ x. f (Some (g x))) xs) j None ≡ f (slice_get (map g xs) j)
get_seen f g none [] zero = sym none
get_seen f g none [] (suc j) = sym none
get_seen f g none (x ∷ xs) zero = refl
get_seen f g none (x ∷ xs) (suc j) = get_seen f g none xs j
