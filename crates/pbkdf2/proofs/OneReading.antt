-- A parameter text gives one value, and an identifier names one algorithm.
use Rattle.std.proofs.Common.{◌≡◌, ◌≢◌, ℕ, ◌<◌, ◌^◌, inl, inr, length, List, [], ◌∷◌, sym, refl, ap, ◌∙◌, subst, arith, rules}
use Rattle.std.specs.Prelude.{codes, decimal, Option, Some, None, IfSome}
use Rattle.std.proofs.lemmas.Fmt.{decimal_injective}
use Rattle.phc_core.specs.ParamsString.{name_in, value_in, pairs_of}
use Rattle.phc_core.specs.declared.error.Error.{Error}
use Rattle.phc_core.specs.declared.password_hash.PasswordHash.{PasswordHash}
use Rattle.pbkdf2.specs.declared.algorithm.Algorithm.{Algorithm}
use Rattle.pbkdf2.specs.declared.algorithm.Algorithm.TheVariants.{Pbkdf2Sha256, Pbkdf2Sha512}
use Rattle.pbkdf2.specs.Settings.{Settings, recommended}
use Rattle.pbkdf2.specs.Algorithm.{identifier_of, derived}
use Rattle.pbkdf2.specs.Params.{PairLeads, PairFault, Leads, Fails, GivesSettings, Refuses}
use Rattle.pbkdf2.specs.Hashes.{HasSettings, RefusesSettings, Agrees}
use Rattle.pbkdf2.proofs.Written.{i_not_l}

-- a value writes one number
pub one_number : (v : List ℕ) (n m : ℕ) → n < 2 ^ 32 → m < 2 ^ 32 → v ≡ decimal n → v ≡ decimal m → n ≡ m
one_number v n m small less e f = decimal_injective n m (omega (arith, small)) (omega (arith, less)) (sym e ∙ f)

settings_from : (s t : Settings) → s.rounds ≡ t.rounds → s.output_len ≡ t.output_len → s ≡ t
settings_from s t e f = λ i. record { rounds = e i; output_len = f i }

pair_one : (name value : List ℕ) (s t u : Settings) → PairLeads name value s t → PairLeads name value s u → t ≡ u
pair_one name value s t u (inl a) (inl b) =
    settings_from t u (one_number value t.rounds u.rounds a.0.2 b.0.2 a.0.1 b.0.1) (a.1 ∙ sym b.1)
pair_one name value s t u (inl a) (inr b) = absurd (i_not_l (sym a.0.0 ∙ b.0.0))
pair_one name value s t u (inr a) (inl b) = absurd (i_not_l (sym b.0.0 ∙ a.0.0))
pair_one name value s t u (inr a) (inr b) =
    settings_from t u (a.1 ∙ sym b.1) (one_number value t.output_len u.output_len (omega (arith, a.0.2)) (omega (arith, b.0.2)) a.0.1 b.0.1)

leads_one : (ps : List (List ℕ)) (s t u : Settings) → Leads ps s t → Leads ps s u → t ≡ u
leads_one [] s t u h k = h ∙ sym k
leads_one (p ∷ ps) s t u h k =
    let same = pair_one (name_in p) (value_in p) s h.0 k.0 h.1.0 k.1.0 in
    leads_one ps k.0 t u (subst (λ (m : Settings). Leads ps m t) same h.1.1) k.1.1

-- a hash has one value of settings
pub settings_one : (h : PasswordHash) (s t : Settings) → HasSettings h s → HasSettings h t → s ≡ t
settings_one h s t a b = leads_one (pairs_of h.params) recommended s t a.params.0 b.params.0

-- settings that are given are not refused
pair_fault : (name value : List ℕ) (s t : Settings) (e : Error) → PairLeads name value s t → PairFault name value e → ⊥
pair_fault name value s t e (inl a) (inl f) = f.1 t.rounds a.0
pair_fault name value s t e (inl a) (inr (inl f)) = i_not_l (sym a.0.0 ∙ f.0)
pair_fault name value s t e (inl a) (inr (inr f)) = f.0 a.0.0
pair_fault name value s t e (inr a) (inl f) = i_not_l (sym f.0 ∙ a.0.0)
pair_fault name value s t e (inr a) (inr (inl f)) = f.1 t.output_len a.0
pair_fault name value s t e (inr a) (inr (inr f)) = f.1 a.0.0

leads_fail : (ps : List (List ℕ)) (s t : Settings) (e : Error) → Leads ps s t → Fails ps s e → ⊥
leads_fail [] s t e h f = f
leads_fail (p ∷ ps) s t e h (inl f) = pair_fault (name_in p) (value_in p) s h.0 e h.1.0 f
leads_fail (p ∷ ps) s t e h (inr f) =
    let same = pair_one (name_in p) (value_in p) s h.0 f.0 h.1.0 f.1.0 in
    leads_fail ps f.0 t e (subst (λ (m : Settings). Leads ps m t) same h.1.1) f.1.1

gives_refuses : (t : List ℕ) (s : Settings) (e : Error) → GivesSettings t s → Refuses t e → ⊥
gives_refuses t s e h (inl f) = leads_fail (pairs_of t) recommended s e h.0 f
gives_refuses t s e h (inr f) =
    let same = leads_one (pairs_of t) recommended s f.0 h.0 f.1.0 in
    omega (arith, h.1, f.1.1, ap (λ (m : Settings). m.output_len) same)

other_length : (hash : Option (List ℕ)) (n m : ℕ) → n ≡ m → hash ≢ None → IfSome hash (λ o. length o ≡ n) → IfSome hash (λ o. length o ≢ m) → ⊥
other_length None n m e some is not = some refl
other_length (Some o) n m e some is not = not (is ∙ e)

pub settings_not_refused : (h : PasswordHash) (s : Settings) (e : Error) → HasSettings h s → RefusesSettings h e → ⊥
settings_not_refused h s e has (inl f) = f.0 has.version
settings_not_refused h s e has (inr (inl f)) = gives_refuses h.params s e has.params f.1
settings_not_refused h s e has (inr (inr f)) =
    let same = leads_one (pairs_of h.params) recommended s f.1.0 has.params.0 f.1.1.0 in
    other_length h.hash s.output_len f.1.0.output_len (ap (λ (m : Settings). m.output_len) same) f.2 has.output f.1.2

-- an identifier names one algorithm
differs : codes "pbkdf2-sha256" ≢ codes "pbkdf2-sha512"
differs = search rules

pub method_one : (a b : Algorithm) → identifier_of a ≡ identifier_of b → a ≡ b
method_one Pbkdf2Sha256 Pbkdf2Sha256 e = refl
method_one Pbkdf2Sha256 Pbkdf2Sha512 e = absurd (differs e)
method_one Pbkdf2Sha512 Pbkdf2Sha256 e = absurd (differs (sym e))
method_one Pbkdf2Sha512 Pbkdf2Sha512 e = refl

-- a hash whose output is not the derived one does not agree
pub no_agreement : (q salt o x : List ℕ) (h : PasswordHash) (s : Settings) (a : Algorithm) → h.salt ≡ Some salt → h.hash ≡ Some o → HasSettings h s → h.algorithm ≡ identifier_of a
    → x ≡ derived a q salt s.rounds s.output_len → (x ≡ o → ⊥) → Agrees q h → ⊥
no_agreement q salt o x h s a has_salt has_hash has names is differ g =
    let settings : g.settings ≡ s = settings_one h g.settings s g.has_settings has in
    let method : g.method ≡ a = method_one g.method a (sym g.has_method ∙ names) in
    let same_salt : g.salt ≡ salt = (let k : Some g.salt ≡ Some salt = sym g.has_salt ∙ has_salt in cc k) in
    let found : o ≡ derived g.method q g.salt g.settings.rounds g.settings.output_len =
    (let k : Some o ≡ Some (derived g.method q g.salt g.settings.rounds g.settings.output_len) = sym has_hash ∙ g.same in cc k) in
    differ (is ∙ sym (found ∙ (ap (λ m. derived m q g.salt g.settings.rounds g.settings.output_len) method
    ∙ (ap (λ t. derived a q t g.settings.rounds g.settings.output_len) same_salt ∙ ap (λ (t : Settings). derived a q salt t.rounds t.output_len) settings))))
