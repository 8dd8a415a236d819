-- Where a ciphertext opens, running out of memory is the only refusal.
use Rattle.std.proofs.Common.{◌≡◌, List, ℕ, refl}
use Rattle.pkcs5.specs.Opening.{FitsKey, Opens}
use Rattle.pkcs5.specs.OpeningLaws.{opened_once}
use Rattle.pkcs5.specs.Kinds.{IsScrypt}
use Rattle.pkcs5.specs.Refusals.{RefusesToOpenIn, RefusesToOpenInPlace}
use Rattle.pkcs5.specs.SchemeOpening.{SchemeOpens, SchemeRefusesToOpenIn, SchemeRefusesToOpenInPlace}
use Rattle.pkcs5.specs.declared.encryption_scheme.EncryptionScheme.{EncryptionScheme}
use Rattle.pkcs5.specs.declared.encryption_scheme.EncryptionScheme.TheVariants.{Pbes1, Pbes2}
use Rattle.pkcs5.specs.declared.error.Error.{Error}
use Rattle.pkcs5.specs.declared.error.Error.TheVariants as errors
use Rattle.pkcs5.specs.declared.pbes2.parameters.Parameters.{Parameters}

pub memory_alone : (par : Parameters) (q c m : List ℕ) (e : Error) → FitsKey par → Opens par q c m → RefusesToOpenIn par q c e → e ≡ errors.Memory
memory_alone par q c m errors.Memory fits h r = refl
memory_alone par q c m errors.DecryptFailed fits h r = absurd (r.1 m h)
memory_alone par q c m (errors.AlgorithmParametersInvalid o) fits h r = absurd (r.1 fits)
memory_alone par q c m errors.EncryptFailed fits h r = absurd r
memory_alone par q c m errors.NoPbes1CryptSupport fits h r = absurd r
memory_alone par q c m errors.Rng fits h r = absurd r
memory_alone par q c m (errors.UnsupportedAlgorithm o) fits h r = absurd r

-- in place only scrypt takes memory
pub memory_of_scrypt : (par : Parameters) (q c m : List ℕ) (e : Error) → FitsKey par → Opens par q c m → RefusesToOpenInPlace par q c e → (e ≡ errors.Memory) × IsScrypt par.kdf
memory_of_scrypt par q c m errors.Memory fits h r = (refl, r)
memory_of_scrypt par q c m errors.DecryptFailed fits h r = absurd (r.1 m h)
memory_of_scrypt par q c m (errors.AlgorithmParametersInvalid o) fits h r = absurd (r.1 fits)
memory_of_scrypt par q c m errors.EncryptFailed fits h r = absurd r
memory_of_scrypt par q c m errors.NoPbes1CryptSupport fits h r = absurd r
memory_of_scrypt par q c m errors.Rng fits h r = absurd r
memory_of_scrypt par q c m (errors.UnsupportedAlgorithm o) fits h r = absurd r

pub scheme_once : (scheme : EncryptionScheme) (q c m n : List ℕ) → SchemeOpens scheme q c m → SchemeOpens scheme q c n → m ≡ n
scheme_once (Pbes1 a) q c m n h k = absurd h
scheme_once (Pbes2 par) q c m n h k = opened_once par q c m n h.1 k.1

pub scheme_memory_alone : (scheme : EncryptionScheme) (q c m : List ℕ) (e : Error) → SchemeOpens scheme q c m → SchemeRefusesToOpenIn scheme q c e → e ≡ errors.Memory
scheme_memory_alone (Pbes1 a) q c m e h r = absurd h
scheme_memory_alone (Pbes2 par) q c m e h r = memory_alone par q c m e h.0 h.1 r

pub scheme_memory_in_place : (scheme : EncryptionScheme) (q c m : List ℕ) (e : Error) → SchemeOpens scheme q c m → SchemeRefusesToOpenInPlace scheme q c e → e ≡ errors.Memory
scheme_memory_in_place (Pbes1 a) q c m e h r = absurd h
scheme_memory_in_place (Pbes2 par) q c m e h r = (memory_of_scrypt par q c m e h.0 h.1 r).0
