-- Strings of characters, and their text.
use Rattle.std.proofs.Common.{◌≡◌, ◌≢◌, ℕ, ◌+◌, ◌<◌, Bool, true, false, List, [], ◌∷◌, ◌++◌, length, get_or, take, IsUtf8, refl, sym, ap, ◌∙◌, Ok, Err, append-nil, encode_utf8}
use Rattle.std.proofs.lemmas.List.{take_more}
use Rattle.std.proofs.lemmas.Str.{encodes-append, IsUtf8-from_is_utf8, is_utf8-from_IsUtf8}
use Rattle.std.specs.Str.{encode_utf8_all, is_utf8}
use Rattle.asn1_core.specs.Reading.{Bad, ended, is_ended}
use Rattle.asn1_core.specs.Gives.{Fails}
use Rattle.asn1_core.specs.declared.error.Error.{Error}
use Rattle.asn1_core.specs.declared.error.Error.TheVariants as errors
use Rattle.x509_names.specs.HexText.{hex_text}
use Rattle.x509_names.specs.Values.{characters, utf8_of, value_text}

pub ended_fails_in : {A : Type 0} (x : A) (rest : List ℕ) (e : Error) → Fails ⊥ e (is_ended rest) → Fails (Unit {0}) e (ended x rest)
ended_fails_in x [] errors.Malformed h = absurd cc
ended_fails_in x [] (errors.OidUnknown o) h = absurd cc
ended_fails_in x (b ∷ bs) errors.Malformed h = refl
ended_fails_in x (b ∷ bs) (errors.OidUnknown o) h = absurd cc
ended_fails_in x rest errors.Overlength h = absurd h
ended_fails_in x rest errors.NoRoom h = absurd h
ended_fails_in x rest errors.File h = absurd h
ended_fails_in x rest errors.Memory h = absurd h

pub utf8_read : (b : List ℕ) → IsUtf8 b → utf8_of b ≡ Ok b
utf8_read b h = rw (is_utf8-from_IsUtf8 b h) refl

pub utf8_refused : (b : List ℕ) → (IsUtf8 b → ⊥) → utf8_of b ≡ Err Bad
utf8_refused b h = by_test (is_utf8 b) refl
  where
    by_test : (t : Bool) → is_utf8 b ≡ t → utf8_of b ≡ Err Bad
    by_test true e = absurd (h (IsUtf8-from_is_utf8 b e))
    by_test false e = rw e refl

-- where the characters are refused, other than for memory, the octets are written
pub hex_of : (b : List ℕ) (e : Error) → Fails (Unit {0}) e (characters b) → e ≢ errors.Memory → value_text b ≡ hex_text b
unfolding value_text
hex_of b errors.Malformed h n = rw h refl
hex_of b (errors.OidUnknown o) h n = rw h refl
hex_of b errors.Overlength h n = absurd h
hex_of b errors.NoRoom h n = absurd h
hex_of b errors.File h n = absurd h
hex_of b errors.Memory h n = absurd (n refl)

-- one character more of ISO 8859-1
pub latin_more : (t : List ℕ) (i : ℕ) (before after : List ℕ) → i < length t → before ≡ encode_utf8_all (take i t) → after ≡ before ++ encode_utf8 (get_or t i 0)
    → after ≡ encode_utf8_all (take (i + 1) t)
latin_more t i before after h is more =
    let c = get_or t i 0 in
    more ∙ ap (λ (x : List ℕ). x ++ encode_utf8 c) is
    ∙ sym (ap encode_utf8_all (take_more t i 0 h) ∙ encodes-append (take i t) (c ∷ []) ∙ ap (λ (x : List ℕ). encode_utf8_all (take i t) ++ x) (append-nil (encode_utf8 c)))

-- ---- escapes
