-- Parameters of PBKDF2 as a parameter text: `i`, the rounds, and `l`, the length of the output.
use Rattle.std.specs.Prelude.{◌≡◌, ◌≢◌, ℕ, ◌<◌, ◌≤◌, ◌^◌, ◌⊎◌, List, [], ◌∷◌, ◌++◌, codes, decimal}
use Rattle.phc_core.specs.ParamsString.{IsParams, name_in, value_in, pairs_of, decimal_pair}
use Rattle.phc_core.specs.declared.error.Error.{Error}
use Rattle.phc_core.specs.declared.error.Error.TheVariants.{ParamInvalid, ParamsInvalid}
use Rattle.pbkdf2.specs.Settings.{InBounds, Settings, recommended}

-- the pair is `i=n`, with n of 1,000 or more
abbrev pub IsRounds : List ℕ → List ℕ → ℕ → Type 0
IsRounds name value n = (name ≡ codes "i") × (value ≡ decimal n) × (n < 2 ^ 32) × (1000 ≤ n)

-- the pair is `l=n`, with n of at most 64
abbrev pub IsLength : List ℕ → List ℕ → ℕ → Type 0
IsLength name value n = (name ≡ codes "l") × (value ≡ decimal n) × (n ≤ 64)

-- the pair turns the settings s into the settings t
abbrev pub PairLeads : List ℕ → List ℕ → Settings → Settings → Type 0
PairLeads name value s t =
    (IsRounds name value t.rounds × (t.output_len ≡ s.output_len))
    ⊎ (IsLength name value t.output_len × (t.rounds ≡ s.rounds))

-- the fault of a pair: its number is none or out of its bounds, or its name is neither `i` nor `l`
abbrev pub PairFault : List ℕ → List ℕ → Error → Type 0
PairFault name value e =
    ((name ≡ codes "i") × ((n : ℕ) → IsRounds name value n → ⊥) × (e ≡ ParamInvalid (codes "i")))
    ⊎ ((name ≡ codes "l") × ((n : ℕ) → IsLength name value n → ⊥) × (e ≡ ParamInvalid (codes "l")))
    ⊎ ((name ≢ codes "i") × (name ≢ codes "l") × (e ≡ ParamsInvalid))

-- the pairs in their order turn the settings s into the settings t
abbrev pub Leads : List (List ℕ) → Settings → Settings → Type 0
Leads [] s t = t ≡ s
Leads (p ∷ ps) s t = (m : Settings) × (PairLeads (name_in p) (value_in p) s m × Leads ps m t)

-- the first faulty pair has this fault
abbrev pub Fails : List (List ℕ) → Settings → Error → Type 0
Fails [] s e = ⊥
Fails (p ∷ ps) s e =
    PairFault (name_in p) (value_in p) e
    ⊎ ((m : Settings) × (PairLeads (name_in p) (value_in p) s m × Fails ps m e))

-- the parameter text gives these settings; what it does not have is as recommended
abbrev pub GivesSettings : List ℕ → Settings → Type 0
GivesSettings t s = Leads (pairs_of t) recommended s × (10 ≤ s.output_len)

-- the parameter text is refused: by its first faulty pair, or else as the output would have fewer
-- than 10 octets
abbrev pub Refuses : List ℕ → Error → Type 0
Refuses t e =
    Fails (pairs_of t) recommended e
    ⊎ ((s : Settings) × (Leads (pairs_of t) recommended s × (s.output_len < 10)
    × (e ≡ ParamsInvalid)))

-- the parameter text of settings: the rounds, then the length
abbrev pub params_text : Settings → List ℕ
params_text s = decimal_pair (codes "i") s.rounds ++ 44 ∷ decimal_pair (codes "l") s.output_len

-- settings within their bounds have a parameter text, and it gives them back
abbrev pub WrittenIsReadBack : Type 0
WrittenIsReadBack = (s : Settings) → InBounds s
    → IsParams (params_text s) × GivesSettings (params_text s) s
