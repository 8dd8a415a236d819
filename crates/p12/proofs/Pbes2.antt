-- What decryption by PBES2 answers is what a store's text opens to.
use Rattle.std.proofs.Common.{◌≡◌, ℕ, ◌+◌, ◌*◌, ◌<◌, Bool, true, false, List, Option, Some, None, refl, ap, ◌∙◌, arith, nat_lt}
use Rattle.std.specs.Prelude.{◌&&◌, ◌==◌, if◌then◌else◌, IfSome, MatchBool, max}
use Rattle.std.proofs.lemmas.Bool.{lt-ltb, eq-eqb, eqb-true}
use Rattle.pkcs5.specs.Kinds.{IsScrypt, is_pbkdf2, key_size, rounds_of, stated_length}
use Rattle.pkcs5.specs.Opening.{FitsKey, LeftBy, Opens, StatesLength, derived, key_under, opened, opened_by, opening_steps, states_length, steps_of}
use Rattle.pkcs5.specs.OpeningLaws.{opened_none, opened_some}
use Rattle.pkcs5.specs.Refusals.{LeftUnopened, RefusedAfter, RefusesToOpenByRounds}
use Rattle.pkcs5.specs.declared.error.Error.{Error}
use Rattle.pkcs5.specs.declared.error.Error.TheVariants as errors
use Rattle.pkcs5.specs.declared.pbes2.encryption_scheme.EncryptionScheme.{EncryptionScheme}
use Rattle.pkcs5.specs.declared.pbes2.kdf.Kdf.{Kdf}
use Rattle.pkcs5.specs.declared.pbes2.kdf.Kdf.TheVariants.{Pbkdf2, Scrypt}
use Rattle.pkcs5.specs.declared.pbes2.parameters.Parameters.{Parameters}
use Rattle.p12.specs.AlgorithmView.{LeftPbes2}
use Rattle.p12.specs.AlgorithmIdentifier.{pbkdf2_key, taken, unlock_pbes2}
use Rattle.p12.specs.declared.algorithm_identifier.AlgorithmIdentifier.TheVariants.{Pbes2}

states_in : (o : Option ℕ) (n : ℕ) → IfSome o (λ stated. stated ≡ n) → elim o [ None ↦ true | Some stated ↦ stated == n ] ≡ true
states_in None n h = refl
states_in (Some stated) n h = eq-eqb stated n h

states : (kdf : Kdf) (n : ℕ) → StatesLength kdf n → states_length kdf n ≡ true
states kdf n h = states_in (stated_length kdf) n h

not_in : (o : Option ℕ) (n : ℕ) → (IfSome o (λ stated. stated ≡ n) → ⊥) → elim o [ None ↦ true | Some stated ↦ stated == n ] ≡ false
not_in None n h = absurd (h tt)
not_in (Some stated) n h = by_test (stated == n) refl
  where
    by_test : (t : Bool) → (stated == n) ≡ t → (stated == n) ≡ false
    by_test true e = absurd (h (eqb-true stated n e))
    by_test false e = e

states_not : (kdf : Kdf) (n : ℕ) → (StatesLength kdf n → ⊥) → states_length kdf n ≡ false
states_not kdf n h = not_in (stated_length kdf) n h

-- scrypt has no rounds
pub by_rounds : (kdf : Kdf) → 0 < rounds_of kdf → is_pbkdf2 kdf ≡ true
by_rounds (Pbkdf2 p) some = refl
by_rounds (Scrypt p) some = absurd (omega (arith, some))

scrypt_none : (kdf : Kdf) → IsScrypt kdf → 0 < rounds_of kdf → ⊥
scrypt_none (Pbkdf2 p) h some = h
scrypt_none (Scrypt p) h some = omega (arith, some)

key_or_none : (e : EncryptionScheme) (key c : List ℕ) (t : Bool) → (elim (if t then Some key else None) [ Some k ↦ opened_by e k c | None ↦ None ]) ≡ (if t then opened_by e key c else None)
key_or_none e key c true = refl
key_or_none e key c false = refl

never : (t : Bool) (o : Option (List ℕ)) → None ≡ (if t && false then o else None)
never true o = refl
never false o = refl

opens_by_key : (kdf : Kdf) (e : EncryptionScheme) (n : ℕ) (p c : List ℕ) → (elim (pbkdf2_key kdf p n) [ Some key ↦ opened_by e key c | None ↦ None ]) ≡ (if states_length kdf n && nat_lt 0 (rounds_of kdf) then opened_by e (derived kdf p n) c else None)
unfolding pbkdf2_key derived
opens_by_key (Pbkdf2 k) e n p c = key_or_none e (derived (Pbkdf2 k) p n) c (states_length (Pbkdf2 k) n && nat_lt 0 k.iteration_count)
opens_by_key (Scrypt k) e n p c = never (states_length (Scrypt k) n) (opened_by e (derived (Scrypt k) p n) c)

-- what PBES2 opens, in the terms of `pkcs5`: scrypt has no rounds, so that nothing opens by it
pub unlock_pbes2-is : (par : Parameters) (p c : List ℕ) → unlock_pbes2 par p c ≡ (if states_length par.kdf (key_size par.encryption) && nat_lt 0 (rounds_of par.kdf) then opened par p c else None)
unfolding unlock_pbes2 key_under
unlock_pbes2-is par p c = opens_by_key par.kdf par.encryption (key_size par.encryption) p c

pub pbes2_some : (par : Parameters) (p c m : List ℕ) → FitsKey par → 0 < rounds_of par.kdf → Opens par p c m → unlock_pbes2 par p c ≡ Some m
pbes2_some par p c m fits some h =
    rw (unlock_pbes2-is par p c, states par.kdf (key_size par.encryption) fits.0, lt-ltb 0 (rounds_of par.kdf) some) (opened_some par p c m h)

no_key : (par : Parameters) (p c : List ℕ) → (StatesLength par.kdf (key_size par.encryption) → ⊥) → unlock_pbes2 par p c ≡ None
no_key par p c h = rw (unlock_pbes2-is par p c, states_not par.kdf (key_size par.encryption) h) refl

no_text : (par : Parameters) (p c : List ℕ) → FitsKey par → 0 < rounds_of par.kdf → ((m : List ℕ) → Opens par p c m → ⊥) → unlock_pbes2 par p c ≡ None
no_text par p c fits some none =
    rw (unlock_pbes2-is par p c, states par.kdf (key_size par.encryption) fits.0, lt-ltb 0 (rounds_of par.kdf) some) (opened_none par p c none)

pub pbes2_no_rounds : (par : Parameters) (p c : List ℕ) → rounds_of par.kdf ≡ 0 → unlock_pbes2 par p c ≡ None
pbes2_no_rounds par p c none = unlock_pbes2-is par p c ∙ by_test (states_length par.kdf (key_size par.encryption))
  where
    by_test : (t : Bool) → (if t && nat_lt 0 (rounds_of par.kdf) then opened par p c else None) ≡ None
    by_test true = rw none refl
    by_test false = refl

pub pbes2_none : (par : Parameters) (p c : List ℕ) (e : Error) → 0 < rounds_of par.kdf → RefusesToOpenByRounds par p c e → unlock_pbes2 par p c ≡ None
pbes2_none par p c errors.DecryptFailed some h = no_text par p c h.0 some h.2
pbes2_none par p c (errors.AlgorithmParametersInvalid o) some h = no_key par p c h.1
pbes2_none par p c errors.EncryptFailed some h = absurd h
pbes2_none par p c errors.NoPbes1CryptSupport some h = absurd h
pbes2_none par p c errors.Rng some h = absurd h
pbes2_none par p c (errors.UnsupportedAlgorithm o) some h = absurd (scrypt_none par.kdf h.2 some)
pbes2_none par p c errors.Memory some h = absurd h

pub opened_steps : (par : Parameters) (c : List ℕ) → FitsKey par → 0 < rounds_of par.kdf → opening_steps par ≡ taken (Pbes2 par) c
unfolding taken
opened_steps par c fits some =
    let least : max (rounds_of par.kdf) 1 ≡ rounds_of par.kdf = omega (arith, some) in
    ap (λ (r : ℕ). r * steps_of par) least ∙ rw (states par.kdf (key_size par.encryption) fits.0) refl

no_steps : (par : Parameters) (c : List ℕ) → (StatesLength par.kdf (key_size par.encryption) → ⊥) → taken (Pbes2 par) c ≡ 0
unfolding taken
no_steps par c h = rw (states_not par.kdf (key_size par.encryption) h) refl

pub no_rounds_no_steps : (par : Parameters) (c : List ℕ) → rounds_of par.kdf ≡ 0 → taken (Pbes2 par) c ≡ 0
unfolding taken
no_rounds_no_steps par c none = by_test (states_length par.kdf (key_size par.encryption))
  where
    by_test : (t : Bool) → (if t then rounds_of par.kdf * steps_of par else 0) ≡ 0
    by_test true = rw none (omega arith)
    by_test false = refl

pub refused_steps : (par : Parameters) (p c : List ℕ) (e : Error) (before now : ℕ) → 0 < rounds_of par.kdf → RefusesToOpenByRounds par p c e → RefusedAfter (opening_steps par) before now e → now ≡ before + taken (Pbes2 par) c
refused_steps par p c errors.DecryptFailed before now some h after = after ∙ ap (λ (n : ℕ). before + n) (opened_steps par c h.0 some)
refused_steps par p c (errors.AlgorithmParametersInvalid o) before now some h after = after ∙ (let z = no_steps par c h.1 in omega (arith, z))
refused_steps par p c errors.EncryptFailed before now some h after = absurd h
refused_steps par p c errors.NoPbes1CryptSupport before now some h after = absurd h
refused_steps par p c errors.Rng before now some h after = absurd h
refused_steps par p c (errors.UnsupportedAlgorithm o) before now some h after = absurd (scrypt_none par.kdf h.2 some)
refused_steps par p c errors.Memory before now some h after = absurd h

-- ---- what is left in place

pub left_no_rounds : (par : Parameters) (p c : List ℕ) → rounds_of par.kdf ≡ 0 → LeftPbes2 par p c c
unfolding LeftPbes2
left_no_rounds par p c none = by_test (states_length par.kdf (key_size par.encryption))
  where
    by_test : (t : Bool) → MatchBool (t && nat_lt 0 (rounds_of par.kdf)) (LeftBy par.encryption (key_under par p) c c) (c ≡ c)
    by_test true = rw none refl
    by_test false = refl

pub left_refused : (par : Parameters) (p c t : List ℕ) (e : Error) → 0 < rounds_of par.kdf → RefusesToOpenByRounds par p c e → LeftUnopened par p c t e → LeftPbes2 par p c t
unfolding LeftPbes2
left_refused par p c t errors.DecryptFailed some h l = rw (states par.kdf (key_size par.encryption) h.0.0, lt-ltb 0 (rounds_of par.kdf) some) l
left_refused par p c t (errors.AlgorithmParametersInvalid o) some h l = rw (states_not par.kdf (key_size par.encryption) h.1) l
left_refused par p c t errors.EncryptFailed some h l = absurd h
left_refused par p c t errors.NoPbes1CryptSupport some h l = absurd h
left_refused par p c t errors.Rng some h l = absurd h
left_refused par p c t (errors.UnsupportedAlgorithm o) some h l = absurd (scrypt_none par.kdf h.2 some)
left_refused par p c t errors.Memory some h l = absurd h
