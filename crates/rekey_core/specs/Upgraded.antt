-- What one upgrade of a store comes to: a change to renewed kinds, within a limit of sealing.
use Rattle.std.specs.Prelude.{ℕ, ◌+◌, ◌*◌, ◌<◌, ◌≤◌, ◌≡◌, ◌⊎◌, List, Option, Some, None, Result, ⊤}
use Rattle.asn1_core.specs.Sets.{Each}
use Rattle.p12.specs.ContentInfo.{IsContents}
use Rattle.p12.specs.declared.content_info.ContentInfo.{ContentInfo}
use Rattle.p12.specs.declared.safe_bag.SafeBag.{SafeBag}
use Rattle.transfer.specs.Opening.{FirstCause, all_certificates}
use Rattle.transfer.specs.Transferred.{IsRefusal}
use Rattle.transfer.specs.Verdicts.{StoreOpens}
use Rattle.transfer.specs.declared.store.error.TransferError.{TransferError}
use Rattle.transfer.specs.declared.store.error.TransferError.TheVariants.{Memory, Rng, TooLong, WorkLimit}
use Rattle.rekey_core.specs.Changes.{BagKept}
use Rattle.rekey_core.specs.Making.{HeldOpen, TextSealed}
use Rattle.rekey_core.specs.Kinds.{renewed_mac}
use Rattle.rekey_core.specs.Rekeyed.{IsAllowed, IsSettledTo, RekeysTo}
use Rattle.rekey_core.specs.Renewed.{encrypted_parts}
use Rattle.rekey_core.specs.Unlocking.{Unlocking}
use Rattle.rekey_core.specs.declared.kinds.Kinds.TheVariants.{Renewed}
use Rattle.rekey_core.specs.declared.kinds.Renewal.{Renewal}
use Rattle.rekey_core.specs.declared.kinds.Rounds.{Rounds}

-- how many rounds it takes to seal contents that hold these bags: as many for the MAC, for each
-- encrypted content and for each encrypted key
abbrev pub seal_rounds : Rounds → List ContentInfo → List (List SafeBag) → ℕ
seal_rounds rounds cs gss = rounds.count * (1 + encrypted_parts cs gss)

-- how many it takes for a store that opens
abbrev pub sealing : Renewal → (b p : List ℕ) (limit : ℕ) → IsAllowed b p limit → ℕ
sealing r b p limit a = seal_rounds r.rounds a.opens.parts a.bags

-- The store is changed to the text c of renewed kinds, and sealing took no more rounds than it may.
pub record Upgrades (r : Renewal) (b p q : List ℕ) (limit : ℕ) (left left_after : Option (List ℕ))
    (steps steps_after : ℕ) (c : List ℕ) : Type 0 where
  pub rekeys : RekeysTo (Renewed r.rounds) b p q limit left left_after steps steps_after c
  pub afforded : sealing r b p limit rekeys.allowed ≤ r.seal_limit

-- The store opens, but sealing would take more rounds than it may. The steps are all of the work of
-- opening it.
pub record SealsTooLong (r : Renewal) (b p : List ℕ) (limit steps steps_after : ℕ) : Type 0 where
  pub allowed : IsAllowed b p limit
  pub over : r.seal_limit < sealing r b p limit allowed
  pub counted : steps_after ≡ steps + allowed.work

-- Out of memory may come at any point, WorkLimit only where it is the first cause of the store or W
-- holds, a failed draw only where R holds, TooLong only where it is the first cause or T holds, and
-- any other refusal only where it is the first cause.
abbrev pub UpgradeRefusedFor : (TransferError → Type 0) → Type 0 → Type 0 → Type 0 → TransferError
    → Type 0
UpgradeRefusedFor F W R T Memory = ⊤
UpgradeRefusedFor F W R T WorkLimit = F WorkLimit ⊎ W
UpgradeRefusedFor F W R T Rng = R
UpgradeRefusedFor F W R T TooLong = F TooLong ⊎ T
UpgradeRefusedFor F W R T e = F e

-- Each result comes where its cause holds, out of memory apart.
pub record IsUpgradeSettled (r : Renewal) (b p : List ℕ) (limit : ℕ) (left : Option (List ℕ))
    (result : Result (List ℕ) TransferError) : Type 0 where
  -- a store that a cause refuses is refused for that cause
  pub refuses : (e : TransferError) → FirstCause b p limit (Some e) → IsRefusal result e
  -- one that no cause refuses is refused where sealing would take more rounds than it may
  pub over : (a : IsAllowed b p limit) → r.seal_limit < sealing r b p limit a
      → IsRefusal result WorkLimit
  -- and is else changed, or refused, as by a change that has no such limit
  pub within : (a : IsAllowed b p limit) → sealing r b p limit a ≤ r.seal_limit
      → IsSettledTo (Renewed r.rounds) b p limit left result

-- An upgraded store opens under the new password to the same keys and certificates and to bags that
-- are kept, by as many steps as sealing took rounds; so no cause refuses it under a limit of as many.
abbrev pub UpgradesReopen : Type 0
UpgradesReopen = (r : Renewal) (b p q : List ℕ) (limit : ℕ) (left left_after : Option (List ℕ))
    (steps steps_after : ℕ) (c : List ℕ)
    → (u : Upgrades r b p q limit left left_after steps steps_after c)
    → (hss : List (List SafeBag))
    × StoreOpens c q hss u.rekeys.allowed.keys (sealing r b p limit u.rekeys.allowed)
    × (all_certificates hss ≡ all_certificates u.rekeys.allowed.bags)
    × Each (Each BagKept) u.rekeys.allowed.bags hss
    × FirstCause c q r.seal_limit None

-- However contents opened, the text that is sealed of them as renewed kinds opens under the new
-- password, to the same keys and certificates and to bags that are kept, by as many steps as sealing
-- took rounds.
abbrev pub RenewedTextsOpen : Type 0
RenewedTextsOpen = (rounds : Rounds) (u : Unlocking) (v q : List ℕ) (version : ℕ)
    (cs : List ContentInfo) (gss : List (List SafeBag)) (ks : List (List ℕ)) (drawn c : List ℕ)
    → version ≤ 255 → IsContents v cs → HeldOpen u cs gss ks
    → TextSealed (Renewed rounds) u q version (renewed_mac rounds) cs drawn c
    → (hss : List (List SafeBag)) × StoreOpens c q hss ks (seal_rounds rounds cs gss)
    × (all_certificates hss ≡ all_certificates gss) × Each (Each BagKept) gss hss
