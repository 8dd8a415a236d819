-- The steps of a loop over the parts of a text.
use Rattle.std.proofs.Common.{◌≡◌, ℕ, zero, suc, ◌-◌, ◌<◌, List, [], ◌∷◌, ◌++◌, length, Result, Ok, Err, refl, sym, ap, ◌∙◌, append_assoc, arith}
use Rattle.std.proofs.lemmas.List.{append-nil, nil_from_length}
use Rattle.asn1_core.specs.Reading.{Fault, Bad, UnknownOid, Front, ◌>>=◌, many_in, many}
use Rattle.asn1_core.specs.Gives.{Fails}
use Rattle.asn1_core.specs.declared.error.Error.{Error}
use Rattle.asn1_core.specs.declared.error.Error.TheVariants as errors
use Rattle.asn1_core.specs.PartLoop.{with_front, SoFar}
use Rattle.asn1_core.specs.Fields.{latest}
use Rattle.asn1_core.specs.FieldLaws.{last_again}

front_nil : {A : Type 0} (r : Result (List A) Fault) → with_front [] r ≡ r
front_nil (Ok x) = refl
front_nil (Err f) = refl

pub begins : {A : Type 0} (p : Front A) (b : List ℕ) → SoFar p b [] b
begins p b = record { fuel = length b; enough = omega arith; same = front_nil (many p b) }

regroup : {A : Type 0} (front : List A) (v : A) (r : Result (List A) Fault) → with_front front (r >>= λ vs. Ok (v ∷ vs)) ≡ with_front (front ++ v ∷ []) r
regroup front v (Ok x) = ap (λ (y : List _). Ok y) (sym (append_assoc front (v ∷ []) x))
regroup front v (Err f) = refl

one_more : {A : Type 0} (p : Front A) (k : ℕ) (rest after : List ℕ) (v : A) → 0 < length rest → p rest ≡ Ok (v, after) → many_in p (suc k) rest ≡ (many_in p k after >>= λ vs. Ok (v ∷ vs))
one_more p k [] after v h e = absurd (omega arith)
one_more p k (b ∷ bs) after v h e = rw e refl

pub goes_on : {A : Type 0} (p : Front A) (b rest after : List ℕ) (items : List A) (v : A) → length after < length rest → p rest ≡ Ok (v, after) → SoFar p b items rest → SoFar p b (items ++ v ∷ []) after
goes_on p b rest after items v less e s =
    let k = s.fuel - 1 in
    let is : s.fuel ≡ suc k = omega (arith, s.enough) in
    let step : with_front items (many_in p s.fuel rest) ≡ with_front (items ++ v ∷ []) (many_in p k after) = ap (λ (j : ℕ). with_front items (many_in p j rest)) is ∙ ap (λ (r : Result (List _) Fault). with_front items r) (one_more p k rest after v (omega arith) e) ∙ regroup items v (many_in p k after) in
    record { fuel = k; enough = omega (arith, s.enough); same = sym step ∙ s.same }

at_end : {A : Type 0} (p : Front A) (k : ℕ) → many_in p k [] ≡ Ok []
at_end p zero = refl
at_end p (suc k) = refl

pub ends : {A : Type 0} (p : Front A) (b rest : List ℕ) (items : List A) → length rest ≡ 0 → SoFar p b items rest → many p b ≡ Ok items
ends p b rest items e s =
    let nil : rest ≡ [] = nil_from_length rest e in
    sym s.same ∙ ap (λ (r : List ℕ). with_front items (many_in p s.fuel r)) nil ∙ rw (at_end p s.fuel) (ap (λ (y : List _). Ok y) (append-nil items))

-- ---- the loop that keeps the last of the parts

pub last_begins : {A : Type 0} (p : Front A) (b rest : List ℕ) (v : A) → length rest < length b → p b ≡ Ok (v, rest) → (before : List A) × SoFar p b (before ++ v ∷ []) rest
last_begins p b rest v less e = ([], goes_on p b b rest [] v less e (begins p b))

pub last_goes_on : {A : Type 0} (p : Front A) (b b' rest : List ℕ) (v w : A) → length rest < length b' → p b' ≡ Ok (w, rest) → (before : List A) × SoFar p b (before ++ v ∷ []) b' → (before : List A) × SoFar p b (before ++ w ∷ []) rest
last_goes_on p b b' rest v w less e (before, h) = (before ++ v ∷ [], goes_on p b b' rest (before ++ v ∷ []) w less e h)

pub last_ends : {A : Type 0} (p : Front A) (b rest : List ℕ) (v : A) → length rest ≡ 0 → (before : List A) × SoFar p b (before ++ v ∷ []) rest → latest p b ≡ Ok v
last_ends p b rest v e (before, h) = let all = ends p b rest (before ++ v ∷ []) e h in rw all (last_again before v)

nothing_is : {A : Type 0} (p : Front A) (s : Result (A × List ℕ) Fault) (f : Fault) → s ≡ Err Bad → s ≡ Err f → latest p [] ≡ Err f
nothing_is p s Bad e h = refl
nothing_is p s (UnknownOid o) e h = absurd (let same = sym e ∙ h in cc)

latest_err : {A : Type 0} (p : Front A) (b : List ℕ) (f : Fault) → p [] ≡ Err Bad → p b ≡ Err f → latest p b ≡ Err f
latest_err p [] f e h = nothing_is p (p []) f e h
latest_err p (b ∷ bs) f e h = rw h refl

-- where the first part is refused, so is the whole
pub latest_fails : {A : Type 0} (memory : Type 0) (p : Front A) (b : List ℕ) (e : Error) → p [] ≡ Err Bad → Fails memory e (p b) → Fails (Unit {0}) e (latest p b)
latest_fails memory p b errors.Malformed none h = latest_err p b Bad none h
latest_fails memory p b (errors.OidUnknown o) none h = latest_err p b (UnknownOid o) none h
latest_fails memory p b errors.Overlength none h = absurd h
latest_fails memory p b errors.NoRoom none h = absurd h
latest_fails memory p b errors.File none h = absurd h
latest_fails memory p b errors.Memory none h = tt
