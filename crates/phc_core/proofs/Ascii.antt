-- The texts of the grammar are ASCII.
use Rattle.std.proofs.Common.{ℕ, ◌<◌, List, length, arith, All, inl, inr}
use Rattle.std.specs.Str.{IsUtf8, IsAscii}
use Rattle.std.proofs.lemmas.Str.{IsUtf8-from_ascii}
use Rattle.std.proofs.lemmas.List.Elements.{All-get_or, All-weaker, All-append, All-cons, All-nil}
use Rattle.std.specs.Prelude.{[], ◌∷◌}
use Rattle.std.specs.List.{AllByRecursion}
use Rattle.std.proofs.lemmas.List.Splits.{join_with_byte-slice_split}
use Rattle.phc_core.proofs.Fields.{joined_all, whole_pair}
use Rattle.std.proofs.lemmas.Bool.{cases_lt}
use Rattle.std.proofs.lemmas.List.{get_or_past}
use Rattle.phc_core.specs.Ident.{IsNameOctet, IsIdent}
use Rattle.phc_core.specs.Value.{IsValueOctet, IsValue}
use Rattle.phc_core.specs.ParamsString.{IsPair, ArePairs, IsParams, pieces, name_in, value_in}

ascii : (t : List ℕ) → All (λ b. b < 128) t → IsAscii t
ascii t h i = elim (cases_lt i (length t)) [
  | inl lt ↦ All-get_or (λ b. b < 128) t i 0 lt h
  | inr ge ↦ (let e = get_or_past t i 0 ge in omega (arith, e))
]

name_ascii : (b : ℕ) → IsNameOctet b → b < 128
name_ascii b h = omega (arith, h)

value_ascii : (b : ℕ) → IsValueOctet b → b < 128
value_ascii b h = omega (arith, h)

pub ident_utf8 : (t : List ℕ) → IsIdent t → IsUtf8 t
ident_utf8 t h = IsUtf8-from_ascii t (ascii t (All-weaker IsNameOctet (λ b. b < 128) name_ascii t h.2))

pub value_utf8 : (t : List ℕ) → IsValue t → IsUtf8 t
value_utf8 t h = IsUtf8-from_ascii t (ascii t (All-weaker IsValueOctet (λ b. b < 128) value_ascii t h.2))

pair_ascii : (p : List ℕ) → IsPair p → All (λ b. b < 128) p
pair_ascii p h =
    rw (whole_pair p h.0) (All-append (λ b. b < 128) (name_in p) (61 ∷ value_in p) (All-weaker IsNameOctet (λ b. b < 128) name_ascii (name_in p) h.1.2)
    (All-cons (λ b. b < 128) 61 (value_in p) (omega arith) (All-weaker IsValueOctet (λ b. b < 128) value_ascii (value_in p) h.3.2)))

pairs_ascii : (ps : List (List ℕ)) → ArePairs ps → AllByRecursion (λ p. All (λ b. b < 128) p) ps
pairs_ascii [] h = tt
pairs_ascii (p ∷ ps) h = (pair_ascii p h.0, pairs_ascii ps h.2)

comma_ascii : ◌<◌ 44 128
comma_ascii = omega arith

params_ascii : (t : List ℕ) → (0 < length t → ArePairs (pieces t)) → All (λ b. b < 128) t
params_ascii [] h = All-nil (λ b. b < 128)
params_ascii (c ∷ cs) h = rw (join_with_byte-slice_split 44 (c ∷ cs)) at (joined_all (λ b. b < 128) 44 (pieces (c ∷ cs)) comma_ascii (pairs_ascii (pieces (c ∷ cs)) (h (omega arith))))

pub params_utf8 : (t : List ℕ) → IsParams t → IsUtf8 t
params_utf8 t h = IsUtf8-from_ascii t (ascii t (params_ascii t h.1))
