-- What the transfer of a store comes to.
use Rattle.std.specs.Prelude.{ℕ, ◌+◌, ◌*◌, ◌<◌, ◌≤◌, ◌≡◌, ◌⊎◌, ◌↔◌, List, length, Option, Some, None, Result, Err, IfSome, IsOk}
use Rattle.frame.specs.Calls.{Effects}
use Rattle.octet_core.specs.Draw.{Lacks}
use Rattle.p12.specs.declared.safe_bag.SafeBag.{SafeBag}
use Rattle.transfer.specs.declared.store.error.TransferError.{TransferError}
use Rattle.transfer.specs.declared.store.error.TransferError.TheVariants.{Memory, Rng}
use Rattle.transfer.specs.Opening.{HasVerdict, FirstCause, all_certificates, opened, refused}
use Rattle.transfer.specs.Sealing.{SealsAll}
use Rattle.transfer.specs.Verdicts.{StoreOpens}
use Rattle.transfer.specs.Words.{Command}

-- Of a command and a store: the store is opened, its certificates are in order, each of its keys is
-- sealed anew by the octets that are drawn, and the steps are its work.
pub record Transfers (c : Command) (e : Effects) (store : List ℕ)
    (certificates documents : List (List ℕ)) : Type 0 where
  pub bags : List (List SafeBag)
  pub keys : List (List ℕ)
  pub work : ℕ
  pub verdict : HasVerdict store c.password c.limit (opened bags keys) work
  pub in_order : certificates ≡ all_certificates bags
  pub sealed : SealsAll c.rounds c.new_password e.draw.told e.draw.told_after keys documents
  pub counted : e.steps_after ≡ e.steps + work

-- The store is opened, by its work in steps, and the draw failed: where it tells its octets, for
-- lack of 32 a key.
pub record RunsShort (c : Command) (e : Effects) (store : List ℕ) : Type 0 where
  pub bags : List (List SafeBag)
  pub keys : List (List ℕ)
  pub work : ℕ
  pub verdict : HasVerdict store c.password c.limit (opened bags keys) work
  pub short : Lacks e.draw.faults e.draw.faults_after e.draw.told (32 * length keys)
  pub counted : e.steps_after ≡ e.steps + work

-- The store is refused for this cause, after the steps that were taken.
abbrev pub IsRefused : Command → Effects → List ℕ → TransferError → Type 0
IsRefused c e store cause = (n : ℕ) × HasVerdict store c.password c.limit (refused cause) n
    × (e.steps_after ≡ e.steps + n)

-- The result is this refusal, or running out of memory.
abbrev pub IsRefusal : {T : Type 0} → Result T TransferError → TransferError → Type 0
IsRefusal r e = (r ≡ Err Memory) ⊎ (r ≡ Err e)

-- A store that a cause refuses is refused for that cause, and one that no cause refuses is opened,
-- running out of memory apart.
pub record IsDecided {T : Type 0} (b p : List ℕ) (limit : ℕ) (r : Result T TransferError)
    : Type 0 where
  pub refuses : (e : TransferError) → FirstCause b p limit (Some e) → IsRefusal r e
  pub completes : FirstCause b p limit None → IsOk r ⊎ (r ≡ Err Memory)

-- Where the draw tells its octets, the result is Rng exactly where it has fewer than 32 a key,
-- running out of memory apart.
abbrev pub DrawsFor : {T : Type 0} → Option (List ℕ) → ℕ → Result T TransferError → Type 0
DrawsFor left keys r =
    IfSome left (λ d. (length d < 32 * keys → IsRefusal r Rng)
    × (32 * keys ≤ length d → (r ≡ Err Memory) ⊎ IsOk r))

-- Each result comes where its cause holds, running out of memory apart.
pub record IsSettled {T : Type 0} (b p : List ℕ) (limit : ℕ) (left : Option (List ℕ))
    (r : Result T TransferError) : Type 0 where
  -- a store that a cause refuses is refused for that cause
  pub refuses : (e : TransferError) → FirstCause b p limit (Some e) → IsRefusal r e
  -- a store that no cause refuses is transferred, unless the draw fails
  pub completes : FirstCause b p limit None → IsOk r ⊎ IsRefusal r Rng
  -- and, where the draw tells its octets, exactly where it has enough
  pub draws : (bags : List (List SafeBag)) (keys : List (List ℕ)) (n : ℕ)
      → HasVerdict b p limit (opened bags keys) n
      → DrawsFor left (length keys) r

unfoldable pub Settles : {T : Type 0} → List ℕ → List ℕ → ℕ → Option (List ℕ)
    → Result T TransferError → Type 0
Settles b p limit left r = IsSettled b p limit left r

-- ---- Opening and sealing apart

-- The certificates are in order, and each key is sealed by the octets that are drawn.
pub record SealsOpened (rounds : ℕ) (q : List ℕ) (left left_after : Option (List ℕ))
    (bags : List (List SafeBag)) (keys certificates documents : List (List ℕ)) : Type 0 where
  pub in_order : certificates ≡ all_certificates bags
  pub sealed : SealsAll rounds q left left_after keys documents

-- A store opens to bags and keys within the limit, by its work in steps, and these are sealed.
pub record OpensAndSeals (c : Command) (e : Effects) (store : List ℕ)
    (certificates documents : List (List ℕ)) : Type 0 where
  pub bags : List (List SafeBag)
  pub keys : List (List ℕ)
  pub work : ℕ
  pub opens : StoreOpens store c.password bags keys work
  pub within : work ≤ c.limit
  pub counted : e.steps_after ≡ e.steps + work
  pub seals : SealsOpened c.rounds c.new_password e.draw.told e.draw.told_after bags keys
      certificates documents

-- A transfer is an opening and a sealing of what was opened, and nothing else is.
abbrev pub TransfersInTwo : Type 0
TransfersInTwo = (c : Command) (e : Effects) (store : List ℕ)
    (certificates documents : List (List ℕ)) → Transfers c e store certificates documents
    ↔ OpensAndSeals c e store certificates documents
