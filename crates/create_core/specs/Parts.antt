-- The parts of a store that are sealed: its certificates, and each of its keys. Each has an IV and a
-- salt that are drawn, and a key of 32 octets that PBKDF2 over HMAC-SHA-256 derives from the password
-- (RFC 8018 sections 5.2 and 6.2).
use Rattle.std.specs.Prelude.{ℕ, ◌+◌, ◌<◌, ◌≡◌, All, List, length, Option, Some, ⊤}
use Rattle.std.specs.List.{slice_get}
use Rattle.mac_modes.specs.Padding.{pad_count}
use Rattle.octet_core.specs.Draw.{Lacks}
use Rattle.pkcs5.specs.Generation.{pbkdf2_sha256}
use Rattle.pkcs5.specs.declared.pbes2.encryption_scheme.EncryptionScheme.TheVariants.{Aes256Cbc}
use Rattle.pkcs5.specs.declared.pbes2.parameters.Parameters.{Parameters}
use Rattle.p12.specs.AlgorithmIdentifier.{unlock}
use Rattle.p12.specs.declared.algorithm_identifier.AlgorithmIdentifier.{AlgorithmIdentifier}
use Rattle.p12.specs.declared.algorithm_identifier.AlgorithmIdentifier.TheVariants.{Pbes2}
use Rattle.sealing_core.specs.declared.drawn.IvAndSalt.{IvAndSalt}
use Rattle.create_core.specs.declared.error.CreateError.{CreateError}
use Rattle.create_core.specs.declared.error.CreateError.TheVariants.{Malformed, Rng, TooLong, Memory}

-- the draw of n octets is refused
abbrev pub FailsToDraw : ℕ → ℕ → Option (List ℕ) → ℕ → CreateError → Type 0
FailsToDraw before now left n Malformed = ⊥
FailsToDraw before now left n Rng = Lacks before now left n
FailsToDraw before now left n TooLong = ⊥
FailsToDraw before now left n Memory = ⊤

-- PBKDF2 over HMAC-SHA-256 in r rounds with no stated length of the key, and AES-256 in CBC mode
abbrev pub parameters_under : ℕ → IvAndSalt → Parameters
parameters_under r d = pbkdf2_sha256 r d.salt (Aes256Cbc d.iv)

abbrev pub under : ℕ → IvAndSalt → AlgorithmIdentifier
under r d = Pbes2 (parameters_under r d)

-- The octets c are what is encrypted of the text m under the password p, by r rounds and what was
-- drawn.
pub record Seals (r : ℕ) (p : List ℕ) (d : IvAndSalt) (m c : List ℕ) : Type 0 where
  pub opens : unlock (under r d) p c ≡ Some m
  pub octets : All (λ octet. octet < 256) c

-- The same under what was drawn for the part at this place, and under its algorithm.
pub record IsSealedAt (r : ℕ) (p : List ℕ) (drawn : List IvAndSalt) (place : ℕ) (m : List ℕ)
    (a : AlgorithmIdentifier) (c : List ℕ) : Type 0 where
  pub part : IvAndSalt
  pub at : slice_get drawn place ≡ Some part
  pub algorithm : a ≡ under r part
  pub seals : Seals r p part m c

-- how many octets are encrypted of a text of n: 1 to 16 more, up to a multiple of 16
abbrev pub sealed_length : ℕ → ℕ
sealed_length n = n + pad_count 16 n
