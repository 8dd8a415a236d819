-- Password hashes by PBKDF2: what is made, what is accepted, and why not.
use Rattle.std.specs.Prelude.{◌≡◌, ◌≢◌, ℕ, ◌<◌, ◌≤◌, ◌⊎◌, Option, Some, None, IfSome, List, length, Result, MatchResult}
use Rattle.phc_core.specs.declared.error.Error.{Error}
use Rattle.phc_core.specs.declared.error.Error.TheVariants.{Algorithm, OutputSize, PasswordInvalid, SaltInvalid, Version}
use Rattle.phc_core.specs.declared.password_hash.PasswordHash.{PasswordHash}
use Rattle.pbkdf2.specs.declared.algorithm.Algorithm as method
use Rattle.pbkdf2.specs.Settings.{Settings}
use Rattle.pbkdf2.specs.Algorithm.{identifier_of, NamesNone, derived}
use Rattle.pbkdf2.specs.Params.{GivesSettings, Refuses, params_text}

-- the hash of a password q under an algorithm, settings and a salt
abbrev pub hash_of : method.Algorithm → Settings → List ℕ → List ℕ → PasswordHash
hash_of a s q salt = record {
  algorithm = identifier_of a;
  version = None;
  params = params_text s;
  salt = Some salt;
  hash = Some (derived a q salt s.rounds s.output_len);
}

-- the identifier names the algorithm; where there is none it is the hasher's own
abbrev pub Chosen : method.Algorithm → Option (List ℕ) → method.Algorithm → Type 0
Chosen own None a = a ≡ own
Chosen own (Some t) a = t ≡ identifier_of a

-- there is an identifier, and it names no algorithm
abbrev pub ChosenNone : Option (List ℕ) → Type 0
ChosenNone None = ⊥
ChosenNone (Some t) = NamesNone t

-- the result of hashing with an identifier, a version and settings: the hash, or the first of an
-- algorithm that is none, a version that is there and a salt of a wrong length
abbrev pub Customizes : method.Algorithm → List ℕ → List ℕ → Option (List ℕ) → Option ℕ → Settings
    → Result PasswordHash Error → Type 0
Customizes own q salt id version s r = MatchResult r
    (λ h. (a : method.Algorithm)
    × (Chosen own id a × (version ≡ None) × (8 ≤ length salt) × (length salt ≤ 48)
    × (h ≡ hash_of a s q salt)))
    (λ e. (ChosenNone id × (e ≡ Algorithm))
    ⊎ ((ChosenNone id → ⊥) × (version ≢ None) × (e ≡ Version))
    ⊎ ((ChosenNone id → ⊥) × (version ≡ None) × ((length salt < 8) ⊎ (48 < length salt))
    × (e ≡ SaltInvalid)))

-- the settings of a hash: there is no version, its parameters give them, and its output has their
-- length
pub record HasSettings (h : PasswordHash) (s : Settings) : Type 0 where
  pub version : h.version ≡ None
  pub params : GivesSettings h.params s
  pub output : IfSome h.hash (λ o. length o ≡ s.output_len)

-- the settings of a hash are refused: for a version, or else for its parameters, or else for an
-- output of another length
abbrev pub RefusesSettings : PasswordHash → Error → Type 0
RefusesSettings h e =
    ((h.version ≢ None) × (e ≡ Version))
    ⊎ ((h.version ≡ None) × Refuses h.params e)
    ⊎ ((h.version ≡ None)
    × ((s : Settings) × GivesSettings h.params s × IfSome h.hash (λ o. length o ≢ s.output_len))
    × (h.hash ≢ None) × (e ≡ OutputSize))

-- settings that a hash has are not refused
abbrev pub GivenIsNotRefused : Type 0
GivenIsNotRefused = (h : PasswordHash) (s : Settings) (e : Error) → HasSettings h s
    → RefusesSettings h e → ⊥

-- the password is the one of the hash
pub record Agrees (q : List ℕ) (h : PasswordHash) : Type 0 where
  pub settings : Settings
  pub method : method.Algorithm
  pub salt : List ℕ
  pub has_salt : h.salt ≡ Some salt
  pub has_settings : HasSettings h settings
  pub has_method : h.algorithm ≡ identifier_of method
  pub same : h.hash ≡ Some (derived method q salt settings.rounds settings.output_len)

-- the password is refused: for a salt or an output that is not there, or else for the settings, or
-- else for the algorithm, or else as the outputs differ
abbrev pub Disagrees : List ℕ → PasswordHash → Error → Type 0
Disagrees q h e =
    (((h.salt ≡ None) ⊎ (h.hash ≡ None)) × (e ≡ PasswordInvalid))
    ⊎ ((h.salt ≢ None) × (h.hash ≢ None) × RefusesSettings h e)
    ⊎ ((h.salt ≢ None) × (h.hash ≢ None) × ((s : Settings) × HasSettings h s)
    × NamesNone h.algorithm × (e ≡ Algorithm))
    ⊎ ((h.salt ≢ None) × (h.hash ≢ None) × ((s : Settings) × HasSettings h s)
    × ((a : method.Algorithm) × (h.algorithm ≡ identifier_of a))
    × (Agrees q h → ⊥) × (e ≡ PasswordInvalid))

-- the result of a test of a password against a hash
abbrev pub Verifies : List ℕ → PasswordHash → Result (Unit {0}) Error → Type 0
Verifies q h r = MatchResult r (λ _. Agrees q h) (Disagrees q h)
