-- Loops that join what they read.
use Rattle.std.proofs.Common.{◌≡◌, ℕ, ◌+◌, ◌<◌, List, [], ◌∷◌, ◌++◌, length, Ok, Err, refl, sym, ap, ◌∙◌, append_assoc, arith, zero, suc}
use Rattle.std.specs.Prelude.{Result}
use Rattle.std.proofs.lemmas.List.{append-nil}
use Rattle.asn1_core.specs.Der.{joined}
use Rattle.asn1_core.specs.Gives.{Fails}
use Rattle.asn1_core.specs.PartLoop.{SoFar, with_front}
use Rattle.asn1_core.specs.Reading.{Bad, Fault, Front, UnknownOid, many, many_in}
use Rattle.asn1_core.specs.declared.error.Error.{Error}
use Rattle.asn1_core.specs.declared.error.Error.TheVariants as errors
use Rattle.asn1_core.proofs.PartLoops.{begins, ends, goes_on}
use Rattle.legacy_store.specs.JoinedReading.{joined_all}

-- these octets are what was read of b so far, joined, and rest is left
abbrev pub Joins : Front (List ℕ) → List ℕ → List ℕ → List ℕ → Type 0
Joins p b now rest = (items : List (List ℕ)) × SoFar p b items rest × (now ≡ joined items)

joined_last : (xs : List (List ℕ)) (v : List ℕ) → joined (xs ++ v ∷ []) ≡ joined xs ++ v
joined_last [] v = append-nil v
joined_last (x ∷ xs) v = ap (λ (l : List ℕ). x ++ l) (joined_last xs v) ∙ sym (append_assoc x (joined xs) v)

pub joins_begin : (p : Front (List ℕ)) (b : List ℕ) → Joins p b [] b
joins_begin p b = ([], begins p b, refl)

pub joins_more : (p : Front (List ℕ)) (b rest after now v : List ℕ) → length after < length rest → p rest ≡ Ok (v, after) → Joins p b now rest → Joins p b (now ++ v) after
joins_more p b rest after now v less e (items, s, is) =
    (items ++ v ∷ [], goes_on p b rest after items v less e s, ap (λ (l : List ℕ). l ++ v) is ∙ sym (joined_last items v))

pub joins_end : (p : Front (List ℕ)) (b rest now : List ℕ) → length rest ≡ 0 → Joins p b now rest → joined_all p b ≡ Ok now
joins_end p b rest now none (items, s, is) = rw (ends p b rest items none s) (ap (λ (l : List ℕ). Ok l) (sym is))

many_stops : (p : Front (List ℕ)) (k : ℕ) (rest : List ℕ) (f : Fault) → 0 < length rest → length rest < k + 1 → p rest ≡ Err f → many_in p k rest ≡ Err f
many_stops p k [] f some enough e = absurd (omega arith)
many_stops p zero (b ∷ bs) f some enough e = absurd (omega arith)
many_stops p (suc k) (b ∷ bs) f some enough e = rw e refl

all_stops : (p : Front (List ℕ)) (b rest now : List ℕ) (f : Fault) → 0 < length rest → p rest ≡ Err f → Joins p b now rest → joined_all p b ≡ Err f
all_stops p b rest now f some e (items, s, is) =
    let stop : many_in p s.fuel rest ≡ Err f = many_stops p s.fuel rest f some (omega (arith, s.enough)) e in
    let all : many p b ≡ Err f = sym s.same ∙ ap (λ (r : Result (List (List ℕ)) Fault). with_front items r) stop in
    rw all refl

pub joins_fail : (memory : Type 0) (p : Front (List ℕ)) (b rest now : List ℕ) (e : Error) → 0 < length rest → Fails memory e (p rest) → Joins p b now rest → Fails (Unit {0}) e (joined_all p b)
joins_fail memory p b rest now errors.Malformed some h j = all_stops p b rest now Bad some h j
joins_fail memory p b rest now (errors.OidUnknown o) some h j = all_stops p b rest now (UnknownOid o) some h j
joins_fail memory p b rest now errors.Overlength some h j = absurd h
joins_fail memory p b rest now errors.NoRoom some h j = absurd h
joins_fail memory p b rest now errors.File some h j = absurd h
joins_fail memory p b rest now errors.Memory some h j = tt
