-- What export makes of a store, and when it makes nothing.
use Rattle.std.specs.Prelude.{ℕ, Bool, true, false, ◌≤◌, ◌<◌, ◌≡◌, ◌⊎◌, ◌+◌, ◌*◌, ◌≢◌, List, [], Option, None, length, IfSome, IfNone, IsSome, IsTrue, IsFalse}
use Rattle.p12.specs.declared.safe_bag.SafeBag.{SafeBag}
use Rattle.pkcs12_arguments.specs.declared.export.Export.{Export}
use Rattle.pkcs12_arguments.specs.declared.target.Part.{Part}
use Rattle.pkcs12_arguments.specs.declared.target.Part.TheVariants.{Whole, Keys, Certificates}
use Rattle.pkcs12_opening.specs.declared.ending.Ending.{Ending}
use Rattle.pkcs12_opening.specs.declared.ending.Ending.TheVariants.{NewPasswordMissing, NotExported, TooManyFiles, SealLimit, Refused}
use Rattle.pkcs12_opening.specs.Opens.{FailsToOpen, Opens}
use Rattle.transfer.specs.Opening.{all_certificates}
use Rattle.transfer.specs.Sealing.{SealsAll}
use Rattle.transfer.specs.declared.store.error.TransferError.TheVariants.{Rng}
use Rattle.pkcs12_inspection.specs.Listed.{others_in}

-- how many of so many certificates are in this part of the store
unfoldable pub certificates_in : Part → ℕ → ℕ
certificates_in Whole all = all
certificates_in Keys all = 0
certificates_in Certificates all = all

-- which of these private keys are in this part of the store
unfoldable pub keys_in : Part → List (List ℕ) → List (List ℕ)
keys_in Whole all = all
keys_in Keys all = all
keys_in Certificates all = []

-- how many files of chains there may be for so many private keys: one for each, where chains are asked
-- for
unfoldable pub chains_in : Bool → ℕ → ℕ
chains_in true keys = keys
chains_in false keys = 0

-- how many files there may be
abbrev pub files_in : Export → ℕ → ℕ → ℕ
files_in asked certificates keys =
    certificates_in asked.target.part certificates + keys + chains_in asked.target.chain keys

-- ---- The bounds, in the order in which they are looked at. `others` is how many bags the store has
-- that are not exported, `certificates` how many certificates, and `keys` how many private keys are in
-- the part of it that is asked for.

abbrev pub AreOthersAllowed : Export → ℕ → Type 0
AreOthersAllowed asked others = 0 < others → IsTrue asked.bounds.skip_others

-- there is something to write
abbrev pub IsSomeWritten : Export → ℕ → ℕ → Type 0
IsSomeWritten asked certificates keys = 0 < certificates_in asked.target.part certificates + keys

abbrev pub AreFilesAllowed : Export → ℕ → ℕ → Type 0
AreFilesAllowed asked certificates keys = files_in asked certificates keys ≤ asked.bounds.most_files

abbrev pub AreRoundsAllowed : Export → ℕ → Type 0
AreRoundsAllowed asked keys = keys * asked.rounds ≤ asked.bounds.seal_limit

abbrev pub IsWithin : Export → ℕ → ℕ → ℕ → Type 0
IsWithin asked others certificates keys = AreOthersAllowed asked others
    × IsSomeWritten asked certificates keys × AreFilesAllowed asked certificates keys × AreRoundsAllowed asked keys

-- The failure of what is outside the bounds: the first of them that it is outside of.
abbrev pub IsOutside : Export → ℕ → ℕ → ℕ → Ending → Type 0
IsOutside asked others certificates keys ending =
    ((ending ≡ NotExported) × (0 < others) × IsFalse asked.bounds.skip_others)
    ⊎ ((ending ≡ NotExported) × AreOthersAllowed asked others
    × (certificates_in asked.target.part certificates + keys ≡ 0))
    ⊎ ((ending ≡ TooManyFiles) × AreOthersAllowed asked others
    × (asked.bounds.most_files < files_in asked certificates keys))
    ⊎ ((ending ≡ SealLimit) × AreOthersAllowed asked others
    × AreFilesAllowed asked certificates keys
    × (asked.bounds.seal_limit < keys * asked.rounds))

-- ---- What is made

-- The store opens under its password within the limit, and the part of it that is asked for is
-- within the bounds. What is made are the store's certificates, in order, and under a new password a
-- document for each private key of the part, sealed in so many rounds. Without one there is no key.
pub record Exports (asked : Export) (new_password : Option (List ℕ)) (store password : List ℕ)
    (certificates documents : List (List ℕ)) : Type 0 where
  pub contents : List (List SafeBag)
  pub all_keys : List (List ℕ)
  pub work : ℕ
  pub opens : Opens asked.accepted store password contents all_keys work
  pub within : work ≤ asked.limit
  pub in_order : certificates ≡ all_certificates contents
  pub keys : List (List ℕ)
  pub part : keys ≡ keys_in asked.target.part all_keys
  pub bounded : IsWithin asked (length (others_in contents)) (length certificates) (length keys)
  pub not_empty : IfSome new_password (λ q. length q ≡ 0 → IsTrue asked.allow_empty)
  pub sealed : IfSome new_password (λ q. SealsAll asked.rounds q None None keys documents)
  pub keyless : IfNone new_password ((keys ≡ []) × (documents ≡ []))

-- ---- Where nothing is made

-- The failure of private keys that are not sealed: there is no new password for them, or there are
-- no random octets.
abbrev pub FailsToSeal : Option (List ℕ) → List (List ℕ) → Ending → Type 0
FailsToSeal new_password keys ending =
    ((ending ≡ NewPasswordMissing) × (new_password ≡ None) × (keys ≢ []))
    ⊎ ((ending ≡ Refused Rng) × IsSome new_password)

-- The failure of a store that opens within the limit: the part that is asked for is outside the
-- bounds, or it is within them and its keys are not sealed.
pub record FailsOpened (asked : Export) (new_password : Option (List ℕ)) (store password : List ℕ)
    (ending : Ending) : Type 0 where
  pub contents : List (List SafeBag)
  pub all_keys : List (List ℕ)
  pub work : ℕ
  pub opens : Opens asked.accepted store password contents all_keys work
  pub within : work ≤ asked.limit
  pub keys : List (List ℕ)
  pub part : keys ≡ keys_in asked.target.part all_keys
  pub fails : IsOutside asked (length (others_in contents)) (length (all_certificates contents))
      (length keys) ending
      ⊎ (IsWithin asked (length (others_in contents)) (length (all_certificates contents))
      (length keys) × FailsToSeal new_password keys ending)

-- Each failure of an export before anything is written; out of memory is one of FailsToOpen.
abbrev pub FailsToExport : Export → Option (List ℕ) → List ℕ → List ℕ → Ending → Type 0
FailsToExport asked new_password store password ending =
    FailsToOpen asked.accepted store password asked.limit ending
    ⊎ FailsOpened asked new_password store password ending
