-- What the upgrade of an old store comes to: it is opened as `legacy_store` opens it, and sealed as
-- `rekey_core` seals what it upgrades.
use Rattle.std.specs.Prelude.{◌≡◌, ◌⊎◌, ◌<◌, ◌≤◌, ◌+◌, ℕ, List, length, Option, Some, None, Result, Err, IfSome, IsOk}
use Rattle.asn1_core.specs.Sets.{Each}
use Rattle.octet_core.specs.Draw.{Lacks}
use Rattle.p12.specs.declared.safe_bag.SafeBag.{SafeBag}
use Rattle.transfer.specs.Opening.{FirstCause, all_certificates, refused}
use Rattle.transfer.specs.Limits.{store_limit}
use Rattle.transfer.specs.Transferred.{IsRefusal}
use Rattle.transfer.specs.Verdicts.{StoreOpens}
use Rattle.transfer.specs.declared.store.error.TransferError.{TransferError}
use Rattle.transfer.specs.declared.store.error.TransferError.TheVariants.{Rng, TooLong, WorkLimit}
use Rattle.legacy_store.specs.Algorithm.{legacy_unlock}
use Rattle.legacy_store.specs.Forms.{Forms}
use Rattle.legacy_store.specs.Opening.{FirstLegacyCause, HasLegacyVerdict}
use Rattle.legacy_store.specs.Verdicts.{LegacyOpens}
use Rattle.rekey_core.specs.Anew.{change_draws}
use Rattle.rekey_core.specs.Changes.{BagKept}
use Rattle.rekey_core.specs.Kinds.{renewed_mac}
use Rattle.rekey_core.specs.Opened.{DrawsTooLong, SealsDrawn}
use Rattle.rekey_core.specs.Size.{changed_size}
use Rattle.rekey_core.specs.Unlocking.{Unlocking}
use Rattle.rekey_core.specs.Upgraded.{seal_rounds}
use Rattle.rekey_core.specs.declared.kinds.Kinds.TheVariants.{Renewed}
use Rattle.rekey_core.specs.declared.kinds.Renewal.{Renewal}

-- how the parts of an old store open, under these forms of its password
abbrev pub by_forms : Forms → Unlocking
by_forms f a c = legacy_unlock f a c

-- No cause refuses the old store: it opens under p, by this work, which is within the limit.
pub record IsOldAllowed (b p : List ℕ) (limit : ℕ) : Type 0 where
  pub bags : List (List SafeBag)
  pub keys : List (List ℕ)
  pub work : ℕ
  pub opens : LegacyOpens b p bags keys work
  pub within : work ≤ limit

-- how many rounds it takes to seal it
abbrev pub old_sealing : Renewal → (b p : List ℕ) (limit : ℕ) → IsOldAllowed b p limit → ℕ
old_sealing r b p limit a = seal_rounds r.rounds a.opens.parts a.bags

-- how many octets are drawn for it
abbrev pub old_draws : Renewal → (b p : List ℕ) (limit : ℕ) → IsOldAllowed b p limit → ℕ
old_draws r b p limit a = change_draws (Renewed r.rounds) a.opens.parts a.bags

-- The old store opens, and the text c is of what was sealed of it under q, by the octets that were
-- drawn, and by no more rounds than sealing may take. The steps are the work of opening it.
pub record RenewsOld (r : Renewal) (b p q : List ℕ) (limit : ℕ) (left left_after : Option (List ℕ))
    (steps steps_after : ℕ) (c : List ℕ) : Type 0 where
  pub allowed : IsOldAllowed b p limit
  pub sealed : SealsDrawn (Renewed r.rounds) allowed.opens.store.version (renewed_mac r.rounds)
      allowed.opens.parts allowed.bags allowed.keys q left left_after c
  pub afforded : old_sealing r b p limit allowed ≤ r.seal_limit
  pub counted : steps_after ≡ steps + allowed.work

-- The old store is refused for e, after the steps that were taken.
abbrev pub IsOldRefused : List ℕ → List ℕ → ℕ → ℕ → ℕ → TransferError → Type 0
IsOldRefused b p limit steps steps_after e = (n : ℕ) × HasLegacyVerdict b p limit (refused e) n
    × (steps_after ≡ steps + n)

-- It opens, but sealing would take more rounds than it may.
pub record OldSealsTooLong (r : Renewal) (b p : List ℕ) (limit steps steps_after : ℕ) : Type 0 where
  pub allowed : IsOldAllowed b p limit
  pub over : r.seal_limit < old_sealing r b p limit allowed
  pub counted : steps_after ≡ steps + allowed.work

-- It opens, and the draw failed: where it tells its octets, for lack of those that are drawn.
pub record OldRunsShort (r : Renewal) (b p : List ℕ) (limit : ℕ) (left : Option (List ℕ))
    (faults faults_after steps steps_after : ℕ) : Type 0 where
  pub allowed : IsOldAllowed b p limit
  pub short : Lacks faults faults_after left (old_draws r b p limit allowed)
  pub counted : steps_after ≡ steps + allowed.work

-- It opens and the octets were drawn, but the text of the new store would have more octets than a
-- store may have.
pub record OldGrowsTooLong (r : Renewal) (b p : List ℕ) (limit : ℕ)
    (left left_after : Option (List ℕ)) (steps steps_after : ℕ) : Type 0 where
  pub allowed : IsOldAllowed b p limit
  pub long : DrawsTooLong (Renewed r.rounds) allowed.opens.store.version (renewed_mac r.rounds)
      allowed.opens.parts allowed.bags allowed.keys left left_after
  pub counted : steps_after ≡ steps + allowed.work

-- how many octets the text of the new store has
abbrev pub old_size : Renewal → (b p : List ℕ) (limit : ℕ) → IsOldAllowed b p limit → ℕ
old_size r b p limit a = changed_size (Renewed r.rounds) a.opens.store.version
    (renewed_mac r.rounds) (by_forms a.opens.forms) a.opens.parts a.bags

-- A store that is sealed is renewed where its text is short enough, and is too long where it is not,
-- unless the draw fails; and where the draw tells its octets, it fails exactly where it has too few.
pub record IsOldSealed (r : Renewal) (b p : List ℕ) (limit : ℕ) (left : Option (List ℕ))
    (a : IsOldAllowed b p limit) (result : Result (List ℕ) TransferError) : Type 0 where
  pub fits : old_size r b p limit a ≤ store_limit → IsOk result ⊎ IsRefusal result Rng
  pub grows : store_limit < old_size r b p limit a
      → IsRefusal result TooLong ⊎ (result ≡ Err Rng)
  pub lacks : IfSome left (λ d. length d < old_draws r b p limit a → IsRefusal result Rng)
  pub suffices : IfSome left (λ d. old_draws r b p limit a ≤ length d → result ≡ Err Rng → ⊥)

-- Each result comes where its cause holds, out of memory apart.
pub record IsOldSettled (r : Renewal) (b p : List ℕ) (limit : ℕ) (left : Option (List ℕ))
    (result : Result (List ℕ) TransferError) : Type 0 where
  -- a store that a cause refuses is refused for that cause
  pub refuses : (e : TransferError) → FirstLegacyCause b p limit (Some e) → IsRefusal result e
  -- one that no cause refuses is refused where sealing would take more rounds than it may
  pub over : (a : IsOldAllowed b p limit) → r.seal_limit < old_sealing r b p limit a
      → IsRefusal result WorkLimit
  -- and is else sealed
  pub within : (a : IsOldAllowed b p limit) → old_sealing r b p limit a ≤ r.seal_limit
      → IsOldSealed r b p limit left a result

-- The new store opens under the new password to the same keys and certificates and to bags that are
-- kept, by as many steps as sealing took rounds; so no cause refuses it under a limit of as many.
abbrev pub RenewedStoresOpen : Type 0
RenewedStoresOpen = (r : Renewal) (b p q : List ℕ) (limit : ℕ) (left left_after : Option (List ℕ))
    (steps steps_after : ℕ) (c : List ℕ)
    → (u : RenewsOld r b p q limit left left_after steps steps_after c)
    → (hss : List (List SafeBag))
    × StoreOpens c q hss u.allowed.keys (old_sealing r b p limit u.allowed)
    × (all_certificates hss ≡ all_certificates u.allowed.bags)
    × Each (Each BagKept) u.allowed.bags hss
    × FirstCause c q r.seal_limit None
