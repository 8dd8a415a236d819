-- What an export returns.
use Rattle.std.specs.Prelude.{ℕ, ◌⊎◌, ◌<◌, ◌≤◌, ◌≡◌, List, ◌++◌, length, drop, Some, None, Result, Ok, Err, IfOk, IfErr}
use Rattle.transfer.specs.Limits.{rounds_limit}
use Rattle.transfer.specs.Opening.{FirstCause}
use Rattle.transfer.specs.Transferred.{IsDecided, Settles}
use Rattle.transfer.specs.declared.store.error.TransferError.{TransferError}
use Rattle.transfer.specs.declared.store.error.TransferError.TheVariants as cause
use Rattle.transfer.specs.declared.store.opened.Opened.{Opened}
use Rattle.transfer.specs.declared.store.transfer.Transferred.{Transferred}
use Rattle.legacy_store.specs.Verdicts.{IsDecidedUnder}
use Rattle.legacy_store.specs.declared.mac_rule.MacRule.TheVariants.{Required}
use Rattle.rekey_core.specs.Rekeyed.{IsSettled}
use Rattle.rekey_core.specs.declared.kinds.Rounds.{Rounds as Count}
use Rattle.store_renewal.specs.Renewals.{IsOldSettled}
use Rattle.pkcs12_c.specs.Changed.{ChangesDrawn, IsRefusedChange, IsRefusedUpgrade, UpgradesDrawn, renewal}
use Rattle.pkcs12_c.specs.Created.{Asked, CreatesDrawn, IsRefusedCreation}
use Rattle.pkcs12_c.specs.Drawn.{IsRefusedDrawn, TransfersDrawn}
use Rattle.pkcs12_c.specs.Given.{IsGivenText}
use Rattle.pkcs12_c.specs.Listed.{ListsWithin}
use Rattle.pkcs12_c.specs.Opened.{IsRefusedAny, IsRefusedOpening, OpensWithin}
use Rattle.pkcs12_c.specs.Password.{IsPassword}
use Rattle.pkcs12_c.specs.PemText.{opened_text, pem_text}
use Rattle.pkcs12_c.specs.Refusal.{creation_refusal}
use Rattle.pkcs12_c.specs.declared.created.CreationRefusal.{CreationRefusal}
use Rattle.pkcs12_c.specs.declared.refusal.Refusal.{Refusal}
use Rattle.pkcs12_c.specs.declared.refusal.Refusal.TheVariants.{Rounds, Password, Name, Store, Room}

-- The rounds are those that a document may have.
abbrev pub AreRounds : ℕ → Type 0
AreRounds rounds = (1 ≤ rounds) × (rounds ≤ rounds_limit)

-- Nothing was written, and the result is this refusal.
abbrev pub Refuses : List ℕ → List ℕ → ℕ → Result (Unit {0}) Refusal → Refusal → Type 0
Refuses old new needed r e = (r ≡ Err e) × (new ≡ old) × (needed ≡ 0)

-- The number that is needed is that of the text's octets. Where the output has room for them the
-- text is at its front, and else nothing was written.
pub record Fills (text old new : List ℕ) (needed : ℕ) (r : Result (Unit {0}) Refusal) : Type 0 where
  pub size : needed ≡ length text
  pub whole : length text ≤ length old → (r ≡ Ok tt) × (new ≡ text ++ drop (length text) old)
  pub none : length old < length text → (r ≡ Err Room) × (new ≡ old)

-- The text is handed on, or there was no memory for it.
abbrev pub Hands : List ℕ → List ℕ → List ℕ → ℕ → Result (Unit {0}) Refusal → Type 0
Hands text old new needed r = Fills text old new needed r
    ⊎ Refuses old new needed r (Store cause.Memory)

-- what is returned for what the store came to: its text, or the refusal
abbrev pub Follows : {T : Type 0} → (T → List ℕ) → Result T TransferError → List ℕ → List ℕ → ℕ
    → Result (Unit {0}) Refusal → Type 0
Follows text (Ok t) old new needed r = Hands (text t) old new needed r
Follows text (Err e) old new needed r = Refuses old new needed r (Store e)

-- ---- The transfer

-- What the transfer of a store came to, and what was returned for it.
pub record StoreTransferred (b p q random : List ℕ) (rounds limit : ℕ) (old new : List ℕ)
    (needed : ℕ) (r : Result (Unit {0}) Refusal) : Type 0 where
  pub transferred : Result Transferred TransferError
  -- it is transferred under the new password in these rounds, over these random octets
  pub opened : IfOk transferred
      (λ t. TransfersDrawn b p limit rounds q random t.certificates t.documents)
  -- it is refused for its first cause
  pub refused : IfErr transferred (IsRefusedDrawn b p limit random)
  -- and each comes exactly where its cause holds, apart from being out of memory
  pub exact : Settles b p limit (Some random) transferred
  pub follows : Follows (λ t. pem_text t.certificates t.documents) transferred old new needed r

-- The result of a transfer: the rounds are tested first, then the password, then the store.
pub record TransferAnswers (b p q random : List ℕ) (rounds limit : ℕ) (old new : List ℕ)
    (needed : ℕ) (r : Result (Unit {0}) Refusal) : Type 0 where
  pub rounds_first : (AreRounds rounds → ⊥) → Refuses old new needed r Rounds
  pub then_password : AreRounds rounds → (IsPassword p → ⊥) → Refuses old new needed r Password
  pub then_store : AreRounds rounds → IsPassword p
      → StoreTransferred b p q random rounds limit old new needed r

-- ---- Opening

-- What the opening of a store came to, and what was returned for it.
pub record StoreOpened (b p : List ℕ) (limit : ℕ) (old new : List ℕ) (needed : ℕ)
    (r : Result (Unit {0}) Refusal) : Type 0 where
  pub opened : Result Opened TransferError
  -- it is opened to these bags and keys
  pub opens : IfOk opened (λ o. OpensWithin b p limit o.contents o.keys)
  -- it is refused for its first cause
  pub refused : IfErr opened (IsRefusedOpening b p limit)
  -- and each comes exactly where its cause holds, apart from being out of memory
  pub exact : IsDecided b p limit opened
  pub follows : Follows (λ o. opened_text o.contents o.keys) opened old new needed r

-- The result of an opening: the password is tested first, then the store.
pub record OpenAnswers (b p : List ℕ) (limit : ℕ) (old new : List ℕ) (needed : ℕ)
    (r : Result (Unit {0}) Refusal) : Type 0 where
  pub password_first : (IsPassword p → ⊥) → Refuses old new needed r Password
  pub then_store : IsPassword p → StoreOpened b p limit old new needed r

-- ---- The list

-- What the list of a store came to, and what was returned for it.
pub record StoreListed (b p : List ℕ) (limit : ℕ) (old new : List ℕ) (needed : ℕ)
    (r : Result (Unit {0}) Refusal) : Type 0 where
  pub listed : Result (List ℕ) TransferError
  -- it is the table of what the store holds
  pub lists : IfOk listed (ListsWithin b p limit)
  -- it is refused for its first cause
  pub refused : IfErr listed (IsRefusedAny b p limit)
  -- and each comes exactly where its cause holds, apart from being out of memory
  pub exact : IsDecidedUnder Required b p limit listed
  pub follows : Follows (λ t. t) listed old new needed r

-- The result of a list: the password is tested first, then the store.
pub record ListAnswers (b p : List ℕ) (limit : ℕ) (old new : List ℕ) (needed : ℕ)
    (r : Result (Unit {0}) Refusal) : Type 0 where
  pub password_first : (IsPassword p → ⊥) → Refuses old new needed r Password
  pub then_store : IsPassword p → StoreListed b p limit old new needed r

-- ---- Another password

-- What the change of a store came to, and what was returned for it.
pub record StoreChanged (b p q random : List ℕ) (limit : ℕ) (old new : List ℕ) (needed : ℕ)
    (r : Result (Unit {0}) Refusal) : Type 0 where
  pub changed : Result (List ℕ) TransferError
  -- it is changed to this text, over these random octets
  pub changes : IfOk changed (ChangesDrawn b p q limit random)
  -- it is refused for its first cause
  pub refused : IfErr changed (IsRefusedChange b p limit random)
  -- and each comes exactly where its cause holds, apart from being out of memory
  pub exact : IsSettled b p limit (Some random) changed
  pub follows : Follows (λ c. c) changed old new needed r

-- The result of a call with two passwords: these are tested first, and then S holds of the store.
pub record PasswordsFirst (p q old new : List ℕ) (needed : ℕ) (r : Result (Unit {0}) Refusal)
    (S : Type 0) : Type 0 where
  pub password_first : (IsPassword p → ⊥) → Refuses old new needed r Password
  pub then_new_password : IsPassword p → (IsPassword q → ⊥) → Refuses old new needed r Password
  pub then_store : IsPassword p → IsPassword q → S

abbrev pub ChangeAnswers : List ℕ → List ℕ → List ℕ → List ℕ → ℕ → List ℕ → List ℕ → ℕ
    → Result (Unit {0}) Refusal → Type 0
ChangeAnswers b p q random limit old new needed r =
    PasswordsFirst p q old new needed r (StoreChanged b p q random limit old new needed r)

-- ---- Today's algorithms

-- What the upgrade of a store to parts and a MAC of so many rounds came to, and what was returned
-- for it.
pub record StoreUpgraded (rounds : Count) (b p q random : List ℕ) (limit : ℕ) (old new : List ℕ)
    (needed : ℕ) (r : Result (Unit {0}) Refusal) : Type 0 where
  pub upgraded : Result (List ℕ) TransferError
  -- it is upgraded to this text, over these random octets
  pub upgrades : IfOk upgraded (UpgradesDrawn rounds b p q limit random)
  -- which no cause refuses under the new password and the same limit
  pub reopens : IfOk upgraded (λ c. FirstCause c q limit None)
  -- it is refused for its first cause
  pub refused : IfErr upgraded (IsRefusedUpgrade rounds b p limit random)
  -- and each comes exactly where its cause holds, apart from being out of memory
  pub exact : IsOldSettled (renewal rounds limit) b p limit (Some random) upgraded
  pub follows : Follows (λ c. c) upgraded old new needed r

-- The result of an upgrade: the rounds are tested first, then the passwords, then the store.
pub record UpgradeAnswers (b p q random : List ℕ) (rounds limit : ℕ) (old new : List ℕ)
    (needed : ℕ) (r : Result (Unit {0}) Refusal) : Type 0 where
  pub rounds_first : (AreRounds rounds → ⊥) → Refuses old new needed r Rounds
  pub then_passwords : AreRounds rounds → (k : Count) × (k.count ≡ rounds)
      × PasswordsFirst p q old new needed r (StoreUpgraded k b p q random limit old new needed r)

-- ---- A store of PEM texts

-- what is returned for what making a store came to: its text, or the refusal
abbrev pub FollowsCreation : Result (List ℕ) CreationRefusal → List ℕ → List ℕ → ℕ
    → Result (Unit {0}) Refusal → Type 0
FollowsCreation (Ok b) old new needed r = Fills b old new needed r
FollowsCreation (Err e) old new needed r = Refuses old new needed r (creation_refusal e)

-- What making a store came to, and what was returned for it.
pub record StoreCreated (a : Asked) (random old new : List ℕ) (needed : ℕ)
    (r : Result (Unit {0}) Refusal) : Type 0 where
  pub created : Result (List ℕ) CreationRefusal
  -- it is made of what the PEM texts have, and opens to exactly that
  pub creates : IfOk created (CreatesDrawn a random)
  -- it is refused for its first cause, or there was no memory
  pub refused : IfErr created (IsRefusedCreation a random)
  pub follows : FollowsCreation created old new needed r

-- The result of making a store: the rounds are tested first, then its password, then that of the
-- private key, then the name, and then the PEM texts.
pub record CreateAnswers (a : Asked) (random old new : List ℕ) (needed : ℕ)
    (r : Result (Unit {0}) Refusal) : Type 0 where
  pub rounds_first : (AreRounds a.rounds → ⊥) → Refuses old new needed r Rounds
  pub then_password : AreRounds a.rounds → (IsPassword a.password → ⊥)
      → Refuses old new needed r Password
  pub then_key_password : AreRounds a.rounds → IsPassword a.password
      → (IsGivenText a.key_password → ⊥) → Refuses old new needed r Password
  pub then_name : AreRounds a.rounds → IsPassword a.password → IsGivenText a.key_password
      → (IsGivenText a.name → ⊥) → Refuses old new needed r Name
  pub then_store : AreRounds a.rounds → IsPassword a.password → IsGivenText a.key_password
      → IsGivenText a.name → StoreCreated a random old new needed r
