-- What the searches for a character give.
use Rattle.std.proofs.Common.{◌≡◌, ◌≢◌, ℕ, ◌<◌, Bool, true, false, List, [], ◌∷◌, ◌++◌, length, get_or, refl, sym, ap, ◌∙◌, arith, All, length-append}
use Rattle.std.specs.Prelude.{Option, Some, None, MatchOption, ◌==◌, not}
use Rattle.std.specs.Bool.{Decides}
use Rattle.std.proofs.lemmas.List.Elements.{All-from_get_or}
use Rattle.std.proofs.lemmas.List.Splits.{slice_split_none, slice_split_at}
use Rattle.std.proofs.lemmas.Bool.Decides.{nat_tests}
use Rattle.phc_core.specs.ParamsString.{pieces}
use denote.Ref.{Bor}

pub tests_false : (c b : ℕ) → b ≢ c → (b == c) ≡ false
tests_false c b h = grind (arith, nat_tests, h)

lacks : (c : ℕ) (bs : List ℕ) → ((i : ℕ) → i < length bs → get_or bs i 0 ≢ c) → All (λ b. (b == c) ≡ false) bs
lacks c bs h = All-from_get_or (λ b. (b == c) ≡ false) bs 0 (λ i lt. tests_false c (get_or bs i 0) (h i lt))

pub first_parts : (bs : List ℕ) (r : Option (Bor (List ℕ) × Bor (List ℕ)))
    → MatchOption r ((i : ℕ) → i < length bs → get_or bs i 0 ≢ 44) (λ x. (bs ≡ x.0.now ++ (44 ∷ x.1.now)) × ((i : ℕ) → i < length x.0.now → get_or x.0.now i 0 ≢ 44))
    → MatchOption r (pieces bs ≡ bs ∷ []) (λ x. (pieces bs ≡ x.0.now ∷ pieces x.1.now) × (length x.1.now < length bs))
first_parts bs None h = slice_split_none (λ b. b == 44) bs (lacks 44 bs h)
first_parts bs (Some x) h = (
  ap pieces h.0 ∙ slice_split_at (λ b. b == 44) x.0.now 44 x.1.now (lacks 44 x.0.now h.1) refl,
  (let e = ap length h.0 ∙ length-append x.0.now (44 ∷ x.1.now) in omega (arith, e)),
)

pub strip_both : (bs rest : List ℕ) (r : Option (Bor (List ℕ))) → bs ≡ 118 ∷ rest
    → MatchOption r ((q : List ℕ) → rest ≢ 61 ∷ q) (λ x. rest ≡ 61 ∷ x.now)
    → MatchOption r ((q : List ℕ) → bs ≡ 118 ∷ 61 ∷ q → ⊥) (λ x. bs ≡ 118 ∷ 61 ∷ x.now)
strip_both bs rest None e h = λ q f. h q (let k : 118 ∷ rest ≡ 118 ∷ 61 ∷ q = sym e ∙ f in cc k)
strip_both bs rest (Some x) e h = e ∙ ap (λ t. 118 ∷ t) h

pub not_from_false : (b : Bool) (P : Type 0) → Decides b P → b ≡ false → P → ⊥
not_from_false b P d e p = let k = d.1 p in cc (k, e)

pub lacks_by : (c : ℕ) (bs : List ℕ) (b r : Bool) → (b ≡ true → (k : ℕ) × (k < length bs) × (get_or bs k 0 ≡ c)) × ((k : ℕ) → k < length bs → get_or bs k 0 ≡ c → b ≡ true) → r ≡ not b → Decides r (All (λ x. x ≢ c) bs)
lacks_by c bs true r h e = ((λ t. cc (e, t)), (λ all. let k = h.0 refl in absurd (all k.0 0 k.1 k.2)))
lacks_by c bs false r h e = ((λ t. All-from_get_or (λ x. x ≢ c) bs 0 (λ i lt is. let k = h.1 i lt is in cc k)), (λ all. e))
