-- Making a store of PEM texts over random octets that are given.
use Rattle.std.specs.Prelude.{ℕ, List, Option, Some}
use Rattle.std.specs.Option.{option_copied}
use Rattle.create_core.specs.Created.{DrawsAndCreates, RefusesToCreate}
use Rattle.create_core.specs.Laws.{OpensAsCreated}
use Rattle.create_core.specs.declared.error.CreateError.{CreateError}
use Rattle.pem_stores.specs.Texts.{AreEntries, LacksEntries}
use Rattle.pem_stores.specs.declared.text_entries.TextEntries.{TextEntries}
use Rattle.pkcs12_c.specs.declared.created.Creation.{Creation}
use Rattle.pkcs12_c.specs.declared.created.CreationRefusal.{CreationRefusal}
use Rattle.pkcs12_c.specs.declared.created.CreationRefusal.TheVariants.{Texts, Making}

-- What is asked for: the PEM texts of the private key and of the certificates; the password of the
-- private key and the friendly name, where they are given; the most rounds that opening the private
-- key may take; and of the store its password and its rounds.
pub record Asked : Type 0 where
  pub key : List ℕ
  pub certificates : List ℕ
  pub key_password : Option (List ℕ)
  pub name : Option (List ℕ)
  pub limit : ℕ
  pub password : List ℕ
  pub rounds : ℕ

abbrev pub asked_by : Creation → Asked
asked_by c = record {
  key = c.texts.key.now;
  certificates = c.texts.certificates.now;
  key_password = option_copied c.opening.password;
  name = option_copied c.texts.name;
  limit = c.opening.limit;
  password = c.password.text.now;
  rounds = c.rounds;
}

-- The entries are those that the PEM texts have.
abbrev pub HasEntries : Asked → TextEntries → Type 0
HasEntries a e = AreEntries a.key a.certificates a.name a.key_password a.limit e

-- The store in the octets b is made of the entries, with random octets to spare, and opens under its
-- password to exactly these.
pub record IsMade (a : Asked) (e : TextEntries) (random b : List ℕ) : Type 0 where
  pub spare : List ℕ
  pub creates : DrawsAndCreates e.keys.items e.further.certificates.items a.password a.rounds
      (Some random) (Some spare) b
  pub opens : OpensAsCreated e.keys.items e.further.certificates.items a.rounds a.password b

-- None is made of them.
abbrev pub RefusesToMake : Asked → TextEntries → List ℕ → CreateError → Type 0
RefusesToMake a e random f = (faults : ℕ)
    × RefusesToCreate e.keys.items e.further.certificates.items a.rounds 0 faults (Some random) f

-- The store is made of what the PEM texts have.
abbrev pub CreatesDrawn : Asked → List ℕ → List ℕ → Type 0
CreatesDrawn a random b = (e : TextEntries) × HasEntries a e × IsMade a e random b

-- No store is made, by cases on the refusal: for what the PEM texts lack, or else for why none is made
-- of what they have.
abbrev pub IsRefusedCreation : Asked → List ℕ → CreationRefusal → Type 0
IsRefusedCreation a random (Texts f) =
    LacksEntries a.key a.certificates a.key_password a.limit f
IsRefusedCreation a random (Making f) = (e : TextEntries) × HasEntries a e
    × RefusesToMake a e random f
