-- What the algorithms of a store open: those of p12 as there, and beside them the old schemes and
-- PBES2 with scrypt.
use Rattle.std.specs.Prelude.{◌≡◌, ℕ, ◌<◌, ◌*◌, nat_lt, ◌&&◌, if◌then◌else◌, Bool, true, List, [], length, Option, Some, None}
use Rattle.p12.specs.declared.algorithm_identifier.AlgorithmIdentifier.{AlgorithmIdentifier}
use Rattle.p12.specs.declared.algorithm_identifier.AlgorithmIdentifier.TheVariants.{PbeWithSHAAnd3KeyTripleDESCBC, Pbes2}
use Rattle.pkcs5.specs.Opening.{opened}
use Rattle.pkcs5.specs.declared.pbes2.kdf.Kdf.{Kdf}
use Rattle.pkcs5.specs.declared.pbes2.kdf.Kdf.TheVariants.{Pbkdf2, Scrypt}
use Rattle.pkcs5.specs.declared.pbes2.parameters.Parameters.{Parameters}
use Rattle.p12.specs.AlgorithmIdentifier.{cost, count, openable, salt_of, taken, taken_pbe, unlock, unlock_pbe}
use Rattle.legacy_store.specs.declared.scheme.Scheme.{Scheme}
use Rattle.legacy_store.specs.declared.scheme.Scheme.TheVariants as scheme
use Rattle.legacy_store.specs.Forms.{Forms}
use Rattle.legacy_store.specs.Scrypt.{scrypt_opens, scrypt_steps}
use Rattle.legacy_store.specs.Scheme.{SchemeParts, old_scheme, old_taken, old_unlock, opens_with, salt_limit, seen_old}

-- the scheme under which a text is: an old one, PBES2 with scrypt, or the algorithm as p12 opens it
pub data SchemeOf : Type 0 where
  of_old : SchemeParts → SchemeOf
  of_scrypt : Parameters → SchemeOf
  of_p12 : AlgorithmIdentifier → SchemeOf

-- that of PBES2, by the function that derives the key
abbrev pub pbes2_scheme : Parameters → Kdf → SchemeOf
pbes2_scheme par (Pbkdf2 p) = of_p12 (Pbes2 par)
pbes2_scheme par (Scrypt p) = of_scrypt par

-- that of an algorithm that is no old one
abbrev pub own_scheme : AlgorithmIdentifier → SchemeOf
own_scheme (Pbes2 par) = pbes2_scheme par par.kdf
own_scheme a = of_p12 a

abbrev pub old_or_own : AlgorithmIdentifier → Option SchemeParts → SchemeOf
old_or_own a (Some s) = of_old s
old_or_own a None = own_scheme a

unfoldable pub scheme_of : AlgorithmIdentifier → SchemeOf
scheme_of a = old_or_own a (old_scheme a)

abbrev pub seen_scheme : Scheme → SchemeOf
seen_scheme (scheme.Old s) = of_old (seen_old s)
seen_scheme (scheme.Scrypt par) = of_scrypt par.now
seen_scheme (scheme.Own a) = of_p12 a.now

-- ---- as p12 opens it, in the form of the password that the algorithm takes

unfoldable pub p12_unlock : Forms → AlgorithmIdentifier → List ℕ → Option (List ℕ)
p12_unlock f (PbeWithSHAAnd3KeyTripleDESCBC p) c =
    unlock_pbe (PbeWithSHAAnd3KeyTripleDESCBC p) f.units c
p12_unlock f (Pbes2 par) c = unlock (Pbes2 par) f.utf8 c
p12_unlock f _ c = None

unfoldable pub p12_taken : AlgorithmIdentifier → List ℕ → ℕ
p12_taken (PbeWithSHAAnd3KeyTripleDESCBC p) c = taken_pbe (PbeWithSHAAnd3KeyTripleDESCBC p) c
p12_taken (Pbes2 par) c = taken (Pbes2 par) c
p12_taken _ c = 0

-- ---- a scheme

-- whether a text under it can be opened, with a MAC or without one
unfoldable pub scheme_openable : Bool → SchemeOf → Bool
scheme_openable h (of_old s) = opens_with h s.cipher && nat_lt (length s.salt) salt_limit
scheme_openable h (of_scrypt par) = scrypt_opens par
scheme_openable h (of_p12 a) = openable a

-- its count of rounds: scrypt has one round of PBKDF2 in it
unfoldable pub scheme_count : SchemeOf → ℕ
scheme_count (of_old s) = s.iterations
scheme_count (of_scrypt par) = 1
scheme_count (of_p12 a) = count a

unfoldable pub scheme_cost : SchemeOf → ℕ
scheme_cost (of_old s) = 2 * s.iterations
scheme_cost (of_scrypt par) = scrypt_steps par.kdf
scheme_cost (of_p12 a) = cost a

unfoldable pub scheme_taken : SchemeOf → List ℕ → ℕ
scheme_taken (of_old s) c = old_taken s c
scheme_taken (of_scrypt par) c = scrypt_steps par.kdf
scheme_taken (of_p12 a) c = p12_taken a c

unfoldable pub scheme_unlock : Forms → SchemeOf → List ℕ → Option (List ℕ)
scheme_unlock f (of_old s) c = if opens_with f.has_mac s.cipher then old_unlock s f.units c else None
scheme_unlock f (of_scrypt par) c = if scrypt_opens par then opened par f.utf8 c else None
scheme_unlock f (of_p12 a) c = p12_unlock f a c

-- the salt that p12 derives a key from
unfoldable pub scheme_salt : SchemeOf → List ℕ
scheme_salt (of_old s) = []
scheme_salt (of_scrypt par) = []
scheme_salt (of_p12 a) = salt_of a

-- ---- an algorithm

-- whether a text under it can be opened
abbrev pub legacy_openable : Bool → AlgorithmIdentifier → Bool
legacy_openable h a = scheme_openable h (scheme_of a)

-- its count of rounds
abbrev pub legacy_count : AlgorithmIdentifier → ℕ
legacy_count a = scheme_count (scheme_of a)

-- its share of the work
abbrev pub legacy_cost : AlgorithmIdentifier → ℕ
legacy_cost a = scheme_cost (scheme_of a)

-- the steps of opening a text
unfoldable pub legacy_taken : AlgorithmIdentifier → List ℕ → ℕ
legacy_taken a c = scheme_taken (scheme_of a) c

-- a text opened under a password
unfoldable pub legacy_unlock : Forms → AlgorithmIdentifier → List ℕ → Option (List ℕ)
legacy_unlock f a c = scheme_unlock f (scheme_of a) c

-- what opening a text shows
pub record IsSchemeOpened (h : Bool) (s : SchemeOf) (c : List ℕ) : Type 0 where
  pub openable : scheme_openable h s ≡ true
  pub some_rounds : 0 < scheme_count s
  pub all : scheme_taken s c ≡ scheme_cost s
