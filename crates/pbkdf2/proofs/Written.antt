-- The parameter text of settings can be written.
use Rattle.std.proofs.Common.{◌≡◌, ◌≢◌, ℕ, ◌<◌, ◌≤◌, ◌^◌, List, [], ◌∷◌, ◌++◌, inl, inr, length, length-append, get_or, refl, sym, ap, ◌∙◌, subst, arith, rules}
use Rattle.std.specs.Prelude.{codes, decimal}
use Rattle.std.proofs.lemmas.Fmt.{length-decimal-le}
use Rattle.phc_core.specs.Ident.{IsIdent}
use Rattle.phc_core.specs.ParamsString.{IsParams, pairs_of, decimal_pair, with_pair, TakesDecimal}
use Rattle.phc_core.proofs.Added.{pairs_added, params_added, name_pair, value_pair}
use Rattle.pbkdf2.specs.Params.{GivesSettings, Leads, params_text}
use Rattle.pbkdf2.specs.Settings.{InBounds, Settings, recommended}

short : (n : ℕ) → n < 2 ^ 32 → length (decimal n) ≤ 10
short n small =
    let ten : n < 10 ^ 10 = omega (arith, small) in
    let wide : n < 2 ^ 64 = omega (arith, small) in
    length-decimal-le 10 n (omega arith) ten wide

i_ident : IsIdent (codes "i")
i_ident = search rules

l_ident : IsIdent (codes "l")
l_ident = search rules

differ : (a b : ℕ) → a ∷ [] ≡ b ∷ [] → (a ≡ b → ⊥) → ⊥
differ a b e h = h (ap (λ x. get_or x 0 0) e)

i_other : codes "i" ≢ codes "v"
i_other e = differ 105 118 e (λ k. omega (arith, k))

l_other : codes "l" ≢ codes "v"
l_other e = differ 108 118 e (λ k. omega (arith, k))

pub i_not_l : codes "i" ≢ codes "l"
i_not_l e = differ 105 108 e (λ k. omega (arith, k))

-- the empty text takes `i`
pub takes_rounds : (n : ℕ) → n < 2 ^ 32 → TakesDecimal [] (codes "i") n
takes_rounds n small = (i_ident, i_other, tt, omega (arith, short n small))

-- the text `i=n` takes `l`
pub takes_length : (n m : ℕ) → n < 2 ^ 32 → m < 2 ^ 32 → TakesDecimal (with_pair [] (decimal_pair (codes "i") n)) (codes "l") m
takes_length n m small less = (
  l_ident,
  l_other,
  rw (pairs_added [] (codes "i") n i_ident small) (rw (name_pair (codes "i") n i_ident) i_not_l, tt),
  omega (arith, short n small, short m less, length-append (decimal n) (44 ∷ decimal_pair (codes "l") m)),
)

-- the text of settings is a parameter text
no_params : IsParams []
no_params = (omega arith, λ some. absurd (omega (arith, some)))

pub text_is_params : (s : Settings) → InBounds s → IsParams (params_text s)
text_is_params s is =
    let l_small : s.output_len < 2 ^ 32 = omega (arith, is.output_fits) in
    let i_taken = takes_rounds s.rounds is.rounds_fit in
    let l_taken = takes_length s.rounds s.output_len is.rounds_fit l_small in
    params_added (with_pair [] (decimal_pair (codes "i") s.rounds)) (codes "l") s.output_len (params_added [] (codes "i") s.rounds no_params is.rounds_fit i_taken) l_small l_taken

-- and gives them back
text_pairs : (s : Settings) → InBounds s → pairs_of (params_text s) ≡ decimal_pair (codes "i") s.rounds ∷ decimal_pair (codes "l") s.output_len ∷ []
text_pairs s is =
    pairs_added (with_pair [] (decimal_pair (codes "i") s.rounds)) (codes "l") s.output_len l_ident (omega (arith, is.output_fits))
    ∙ ap (λ t. t ++ decimal_pair (codes "l") s.output_len ∷ []) (pairs_added [] (codes "i") s.rounds i_ident is.rounds_fit)

pub text_gives : (s : Settings) → InBounds s → GivesSettings (params_text s) s
text_gives s is =
    let after_rounds : Settings = record { rounds = s.rounds; output_len = recommended.output_len } in
    let leads : Leads (decimal_pair (codes "i") s.rounds ∷ decimal_pair (codes "l") s.output_len ∷ []) recommended s = (
      after_rounds,
      (
        inl ((name_pair (codes "i") s.rounds i_ident, value_pair (codes "i") s.rounds i_ident, is.rounds_fit, is.some_rounds), refl),
        (s, (inr ((name_pair (codes "l") s.output_len l_ident, value_pair (codes "l") s.output_len l_ident, is.output_fits), refl), refl)),
      ),
    ) in
    (subst (λ (ps : List (List ℕ)). Leads ps recommended s) (sym (text_pairs s is)) leads, is.some_output)

pub written_is_read_back : (s : Settings) → InBounds s → IsParams (params_text s) × GivesSettings (params_text s) s
written_is_read_back s is = (text_is_params s is, text_gives s is)
