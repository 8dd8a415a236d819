-- The words of one command.
use Rattle.std.proofs.Common.{◌≡◌, ℕ, List, [], ◌∷◌, length, map, refl, sym, ap, ◌∙◌, subst, arith}
use Rattle.std.specs.Prelude.{Option, Some, None, IfSome, MatchOption, codes, decimal, ◌==◌, Bool, true}
use Rattle.std.proofs.lemmas.Bool.Decides.{nat_tests}
use Rattle.std.specs.Option.{ForSome}
use Rattle.std.proofs.lemmas.Fmt.{decimal_injective}
use Rattle.passdb_core.specs.Drawn.{IsDrawn}
use Rattle.passdb_core.specs.Program.{Asked, DrawsOwn, IsAsked, IsNotAsked, drawn_word}

pub three_words : (w x y z : List (List ℕ)) (a b d f : List ℕ) → w ≡ a ∷ x → x ≡ b ∷ y → y ≡ d ∷ z → z ≡ [] → d ≡ f → w ≡ a ∷ b ∷ f ∷ []
three_words w x y z a b d f p q r s t = p ∙ ap (λ u. a ∷ u) (q ∙ ap (λ u. b ∷ u) (r ∙ ap (λ u. d ∷ u) s ∙ ap (λ u. u ∷ []) t))

pub map_none : {A B : Type 0} (f : A → B) (xs : List A) → length xs ≡ 0 → map f xs ≡ []
map_none f [] e = refl
map_none f (x ∷ xs) e = absurd (omega (arith, e))

pub none_drawn : ForSome None IsDrawn
none_drawn d e = absurd (let k : None ≡ Some d = e in cc k)

odd : (d : List ℕ) → IsDrawn d → codes "-" ≡ d → ⊥
odd d is e = omega (arith, is.1, ap length e)

one_word : (a b : Option (List ℕ)) → ForSome a IsDrawn → ForSome b IsDrawn → drawn_word a ≡ drawn_word b → a ≡ b
one_word None None p q e = refl
one_word None (Some d) p q e = absurd (odd d (q d refl) e)
one_word (Some d) None p q e = absurd (odd d (p d refl) (sym e))
one_word (Some d) (Some f) p q e = ap Some e

pub one_asked : (words : List (List ℕ)) (a b : Asked) → IsAsked words a → IsAsked words b → a ≡ b
one_asked words a b p q =
    let s = sym p.spelled ∙ q.spelled in
    let r : decimal a.rounds ≡ decimal b.rounds = cc in
    let d : drawn_word a.digits ≡ drawn_word b.digits = cc in
    let rounds = decimal_injective a.rounds b.rounds (omega (arith, p.few_rounds)) (omega (arith, q.few_rounds)) r in
    let digits = one_word a.digits b.digits p.drawn q.drawn d in
    λ i. record { rounds = rounds i; digits = digits i }

pub kept_as : {J : Type 0} (of : J → Asked) (words : List (List ℕ)) (asked : Option J) (told : Option (List ℕ)) (P : Type 0) → MatchOption asked (IsNotAsked words) (λ j. IsAsked words (of j))
    → ((j : J) → asked ≡ Some j → IfSome told (λ x. DrawsOwn (of j) x → P)) → IfSome told (λ x. (a : Asked) → IsAsked words a → DrawsOwn a x → P)
kept_as of words asked None P m h = tt
kept_as of words None (Some x) P m h = λ a is d. absurd (m a is)
kept_as of words (Some j) (Some x) P m h = λ a is d. h j refl (subst (λ (b : Asked). DrawsOwn b x) (one_asked words a (of j) is m) d)

pub none_left : (b : Bool) (n : ℕ) → b ≡ (n == 0) → b ≡ true → n ≡ 0
none_left b n is so = grind (arith, nat_tests, is, so)
