-- Texts of entries.
use Rattle.std.proofs.Common.{◌≡◌, ◌≢◌, ℕ, ◌<◌, ◌≤◌, List, length, refl, sym, ap, ◌∙◌, subst, arith, rules, All, inl, inr}
use Rattle.std.specs.Prelude.{Option, Some, None, MatchOption}
use Rattle.std.specs.Str.{IsUtf8, IsAscii}
use Rattle.std.proofs.lemmas.Str.{IsUtf8-from_ascii}
use Rattle.std.proofs.lemmas.List.Elements.{All-get_or, All-weaker}
use Rattle.std.proofs.lemmas.List.{get_or_past}
use Rattle.std.proofs.lemmas.Bool.{cases_lt}
use Rattle.phc_core.specs.declared.error.Error.{Error}
use Rattle.phc_core.specs.declared.password_hash.PasswordHash.{PasswordHash}
use Rattle.phc_core.specs.Ident.{IsIdent}
use Rattle.phc_core.specs.Output.{IsOutput}
use Rattle.phc_core.specs.PasswordHash.{Phc, phc_text}
use Rattle.phc_core.specs.Salt.{IsSalt}
use Rattle.phc_core.proofs.OneLine.{phc_one_line}
use Rattle.phc_core.proofs.OneValue.{phc_one_value}
use Rattle.pbkdf2.specs.Algorithm.{derived, identifier_of}
use Rattle.pbkdf2.specs.Params.{params_text}
use Rattle.pbkdf2.specs.Hashes.{HasSettings, RefusesSettings}
use Rattle.pbkdf2.specs.Settings.{InBounds, Settings}
use Rattle.pbkdf2.specs.declared.algorithm.Algorithm.TheVariants.{Pbkdf2Sha256}
use Rattle.pbkdf2.proofs.OneReading.{method_one, settings_not_refused, settings_one}
use Rattle.pbkdf2.proofs.Written.{text_gives, text_is_params}
use Rattle.passdb_core.specs.Entry.{Entry, IsEntry, entry_text, fresh, fresh_settings, phc_of, rounds_limit}
use Rattle.passdb_core.proofs.Cuts.{Lacks}

pub settings_refused : (h : PasswordHash) (err : Error) → RefusesSettings h err → (e : Entry) → IsEntry e → h ≡ phc_of e → ⊥
settings_refused h err refused e is same =
    settings_not_refused h e.settings err (subst (λ (g : PasswordHash). HasSettings g e.settings) (sym same) is.accepted) refused

pub too_many_rounds : (h : PasswordHash) (s : Settings) → HasSettings h s → rounds_limit < s.rounds → (e : Entry) → IsEntry e → h ≡ phc_of e → ⊥
too_many_rounds h s has many e is same =
    let one = settings_one h s e.settings has (subst (λ (g : PasswordHash). HasSettings g e.settings) (sym same) is.accepted) in
    omega (arith, many, is.few_rounds, ap (λ (t : Settings). t.rounds) one)

pub not_read : (t : List ℕ) → ((h : PasswordHash) → Phc t h → ⊥) → (e : Entry) → IsEntry e → t ≡ entry_text e → ⊥
not_read t none e is same = none (phc_of e) (subst (λ u. Phc u (phc_of e)) (sym same) is.text)

pub read_from : (t : List ℕ) (h : PasswordHash) (r : Option Entry) → Phc t h
    → MatchOption r ((e : Entry) → IsEntry e → h ≡ phc_of e → ⊥) (λ e. IsEntry e × (h ≡ phc_of e))
    → MatchOption r ((e : Entry) → IsEntry e → t ≡ entry_text e → ⊥) (λ e. IsEntry e × (t ≡ entry_text e))
read_from t h None is none = λ e found same. none e found (phc_one_value t h (phc_of e) is (subst (λ u. Phc u (phc_of e)) (sym same) found.text))
read_from t h (Some e) is found = (found.0, is.text ∙ ap phc_text found.1)

-- A text of an entry is one line of ASCII.
pub entry_no_feed : (e : Entry) → IsEntry e → Lacks 10 (entry_text e)
entry_no_feed e is = All-weaker (λ b. (b ≢ 10) × (b < 128)) (λ b. b ≢ 10) (λ b h. h.0) (entry_text e) (phc_one_line (entry_text e) (phc_of e) is.text)

ascii : (t : List ℕ) → All (λ b. (b ≢ 10) × (b < 128)) t → IsAscii t
ascii t h i = elim (cases_lt i (length t)) [
  | inl lt ↦ (All-get_or (λ b. (b ≢ 10) × (b < 128)) t i 0 lt h).1
  | inr ge ↦ (let e = get_or_past t i 0 ge in omega (arith, e))
]

pub entry_utf8 : (t : List ℕ) (e : Entry) → IsEntry e → t ≡ entry_text e → IsUtf8 t
entry_utf8 t e is same = subst IsUtf8 (sym same) (IsUtf8-from_ascii (entry_text e) (ascii (entry_text e) (phc_one_line (entry_text e) (phc_of e) is.text)))

-- One text is that of one entry.
entry_from : (e f : Entry) → e.method ≡ f.method → e.settings ≡ f.settings → e.params ≡ f.params → e.salt ≡ f.salt → e.hash ≡ f.hash → e ≡ f
entry_from e f a b c d g = λ i. record { method = a i; settings = b i; params = c i; salt = d i; hash = g i }

pub one_entry : (e f : Entry) → IsEntry e → IsEntry f → entry_text e ≡ entry_text f → e ≡ f
one_entry e f is too same =
    let phc : phc_of e ≡ phc_of f = phc_one_value (entry_text e) (phc_of e) (phc_of f) is.text (subst (λ u. Phc u (phc_of f)) (sym same) too.text) in
    let settings = settings_one (phc_of e) e.settings f.settings is.accepted (subst (λ (g : PasswordHash). HasSettings g f.settings) (sym phc) too.accepted) in
    let salts : Some e.salt ≡ Some f.salt = ap (λ (g : PasswordHash). g.salt) phc in
    let hashes : Some e.hash ≡ Some f.hash = ap (λ (g : PasswordHash). g.hash) phc in
    entry_from e f (method_one e.method f.method (ap (λ (g : PasswordHash). g.algorithm) phc)) settings (ap (λ (g : PasswordHash). g.params) phc) (cc salts) (cc hashes)

-- A fresh entry is an entry.
sha256_ident : IsIdent (identifier_of Pbkdf2Sha256)
sha256_ident = search rules

fresh_bounds : (r : ℕ) → 1000 ≤ r → r ≤ rounds_limit → InBounds (fresh_settings r)
fresh_bounds r some few = record { some_rounds = some; rounds_fit = omega (arith, few); some_output = omega arith; output_fits = omega arith }

pub fresh_is : (r : ℕ) (w z : List ℕ) → 1000 ≤ r → r ≤ rounds_limit → IsSalt z → IsOutput (derived Pbkdf2Sha256 w z r 32) → length (derived Pbkdf2Sha256 w z r 32) ≡ 32
    → IsEntry (fresh r w z)
fresh_is r w z some few salt output long =
    let bounds = fresh_bounds r some few in
    record {
      text = record {
        algorithm = sha256_ident;
        version = tt;
        params = text_is_params (fresh_settings r) bounds;
        salt = salt;
        hash = output;
        salted = tt;
        text = refl;
      };
      accepted = record { version = refl; params = text_gives (fresh_settings r) bounds; output = long };
      few_rounds = few;
    }

pub fresh_made : (r : ℕ) (w z : List ℕ) (p : Settings) (t s h o : List ℕ) → 1000 ≤ r → r ≤ rounds_limit → p ≡ fresh_settings r → t ≡ params_text p → s ≡ z → h ≡ o
    → o ≡ derived Pbkdf2Sha256 w z r 32 → IsSalt z → IsOutput o → length o ≡ 32
    → IsEntry (record { method = Pbkdf2Sha256; settings = p; params = t; salt = s; hash = h })
fresh_made r w z p t s h o some few settings written salts hashes is salt output long =
    let all : fresh r w z ≡ record { method = Pbkdf2Sha256; settings = p; params = t; salt = s; hash = h } =
    entry_from (fresh r w z) (record { method = Pbkdf2Sha256; settings = p; params = t; salt = s; hash = h }) refl (sym settings) (sym (written ∙ ap params_text settings)) (sym salts) (sym (hashes ∙ is)) in
    subst IsEntry all (fresh_is r w z some few salt (subst IsOutput is output) (ap length (sym is) ∙ long))
