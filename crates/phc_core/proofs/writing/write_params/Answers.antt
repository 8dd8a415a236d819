use Rattle.std.proofs.Common.{Option, ◌≡◌, ◌∷◌, ◌++◌, List, ℕ, [], Bool, true, false, length, refl, ap, arith}
use Rattle.std.specs.Prelude.{◌==◌}
use Rattle.std.proofs.lemmas.Grind.{put_two}
use Rattle.std.proofs.lemmas.Bool.Decides.{nat_tests}
use Rattle.phc_core.specs.PasswordHash.{tail, salt_rest, params_rest}
use Rattle.phc_core.proofs.writing.write_params.Goals.{then-not-is_empty+in_ok-write, else-not-is_empty}
use Rattle.phc_core.proofs.writing.write_params.Goals as goal

-- parameters come after a `$`
some_params : (d p : List ℕ) (s h : Option (List ℕ)) (empty : Bool) → empty ≡ (length d == 0) → empty ≡ false → d ≡ p → (36 ∷ d) ++ tail (salt_rest s h) ≡ tail (params_rest p s h)
some_params d [] s h empty test some is = absurd (let n = ap length is in grind (arith, nat_tests))
some_params d (x ∷ p) s h empty test some is = ap (λ t. (36 ∷ t) ++ tail (salt_rest s h)) is

-- an empty text writes no field
no_params : (d p : List ℕ) (s h : Option (List ℕ)) (empty : Bool) → empty ≡ (length d == 0) → empty ≡ true → d ≡ p → tail (salt_rest s h) ≡ tail (params_rest p s h)
no_params d [] s h empty test none is = refl
no_params d (x ∷ p) s h empty test none is = absurd (let n = ap length is in grind (arith, nat_tests))

pub returns : goal.returns
returns g c = λ plain ok. elim c.if-not-is_empty.branch [
  | then-not-is_empty+in_ok-write w ↦
      let field = w.in_ok-write.ensures.writes plain refl in
      let rest = rw w.f-is at c.write_salt.ensures in
      put_two g.W.Write.write_str_gives _ _ _ _ _ _ field (rest field.plain ok)
      (some_params _ c.args.params.now _ _ _ c.is_empty.ensures w.if-not-is_empty.true c.as_text-field.ensures.value)
  | else-not-is_empty w ↦
      let rest = rw w.f-is at c.write_salt.ensures in
      rw (no_params _ c.args.params.now c.args.salt c.args.hash _ c.is_empty.ensures w.if-not-is_empty.false c.as_text-field.ensures.value) at (rest plain ok)
]
