-- What one change of a store comes to.
use Rattle.std.specs.Prelude.{ℕ, ◌+◌, ◌<◌, ◌≤◌, ◌≡◌, ◌≢◌, ◌⊎◌, List, length, Option, Some, Result, Err, IfSome, IsOk, ⊤}
use Rattle.std.specs.Io.KnownBytes.{Consumes}
use Rattle.octet_core.specs.Draw.{Lacks}
use Rattle.p12.specs.declared.safe_bag.SafeBag.{SafeBag}
use Rattle.transfer.specs.Limits.{store_limit}
use Rattle.transfer.specs.Opening.{FirstCause, HasVerdict, refused}
use Rattle.transfer.specs.Transferred.{IsRefusal}
use Rattle.transfer.specs.Verdicts.{StoreOpens}
use Rattle.transfer.specs.declared.store.error.TransferError.{TransferError}
use Rattle.transfer.specs.declared.store.error.TransferError.TheVariants.{TooLong, Rng, Memory}
use Rattle.rekey_core.specs.Anew.{change_draws}
use Rattle.rekey_core.specs.Change.{ChangesTo}
use Rattle.rekey_core.specs.Kinds.{mac_for}
use Rattle.rekey_core.specs.Size.{changed_size}
use Rattle.rekey_core.specs.Unlocking.{under}
use Rattle.rekey_core.specs.declared.kinds.Kinds.{Kinds}
use Rattle.rekey_core.specs.declared.kinds.Kinds.TheVariants.{Kept}

-- No cause refuses the store: it opens under p, by this work, which is within the limit.
pub record IsAllowed (b p : List ℕ) (limit : ℕ) : Type 0 where
  pub bags : List (List SafeBag)
  pub keys : List (List ℕ)
  pub work : ℕ
  pub opens : StoreOpens b p bags keys work
  pub within : work ≤ limit

-- how many octets its change to these kinds draws
abbrev pub draws_to : Kinds → (b p : List ℕ) (limit : ℕ) → IsAllowed b p limit → ℕ
draws_to to b p limit a = change_draws to a.opens.parts a.bags

-- how many octets the text of the changed store has
abbrev pub size_to : Kinds → (b p : List ℕ) (limit : ℕ) → IsAllowed b p limit → ℕ
size_to to b p limit a = changed_size to a.opens.store.version (mac_for to a.opens.mac) (under p)
    a.opens.parts a.bags

-- The store is changed to the text c, of these kinds, which is short enough, by exactly the octets that it draws,
-- and the steps are the work of opening it.
pub record RekeysTo (to : Kinds) (b p q : List ℕ) (limit : ℕ) (left left_after : Option (List ℕ))
    (steps steps_after : ℕ) (c : List ℕ) : Type 0 where
  pub allowed : IsAllowed b p limit
  pub drawn : List ℕ
  pub exactly : length drawn ≡ draws_to to b p limit allowed
  pub took : Consumes left left_after drawn
  pub changes : ChangesTo to b p c q drawn
  pub sized : length c ≡ size_to to b p limit allowed
  pub short : length c ≤ store_limit
  pub counted : steps_after ≡ steps + allowed.work

-- The store is refused for e, after the steps that were taken.
abbrev pub IsRefused : List ℕ → List ℕ → ℕ → ℕ → ℕ → TransferError → Type 0
IsRefused b p limit steps steps_after e = (n : ℕ) × HasVerdict b p limit (refused e) n
    × (steps_after ≡ steps + n)

-- The store opens, and the draw failed: where it tells its octets, for lack of those that the
-- change draws.
pub record RunsShortTo (to : Kinds) (b p : List ℕ) (limit : ℕ) (left : Option (List ℕ))
    (faults faults_after steps steps_after : ℕ) : Type 0 where
  pub allowed : IsAllowed b p limit
  pub short : Lacks faults faults_after left (draws_to to b p limit allowed)
  pub counted : steps_after ≡ steps + allowed.work

-- The store opens and the octets were drawn, but the text of the changed store would have more
-- octets than a store may have.
pub record GrowsTooLongTo (to : Kinds) (b p : List ℕ) (limit : ℕ)
    (left left_after : Option (List ℕ)) (steps steps_after : ℕ) : Type 0 where
  pub allowed : IsAllowed b p limit
  pub drawn : List ℕ
  pub exactly : length drawn ≡ draws_to to b p limit allowed
  pub took : Consumes left left_after drawn
  pub long : store_limit < size_to to b p limit allowed
  pub counted : steps_after ≡ steps + allowed.work

-- Out of memory may come at any point, a failed draw only where R holds, TooLong only where it is
-- the first cause of the store or T holds, and any other refusal only where it is the first cause.
abbrev pub RefusedFor : (TransferError → Type 0) → Type 0 → Type 0 → TransferError → Type 0
RefusedFor F R T Memory = ⊤
RefusedFor F R T Rng = R
RefusedFor F R T TooLong = F TooLong ⊎ T
RefusedFor F R T e = F e

-- On each refusal but these three nothing was drawn.
pub record IsUndrawn (e : TransferError) : Type 0 where
  pub not_rng : e ≢ Rng
  pub not_memory : e ≢ Memory
  pub not_too_long : e ≢ TooLong

-- Each result comes where its cause holds, out of memory apart.
pub record IsSettledTo (to : Kinds) (b p : List ℕ) (limit : ℕ) (left : Option (List ℕ))
    (r : Result (List ℕ) TransferError) : Type 0 where
  -- a store that a cause refuses is refused for that cause
  pub refuses : (e : TransferError) → FirstCause b p limit (Some e) → IsRefusal r e
  -- a store that no cause refuses is changed where the text is short enough, and is too long where
  -- it is not, unless the draw fails
  pub fits : (a : IsAllowed b p limit) → size_to to b p limit a ≤ store_limit
      → IsOk r ⊎ IsRefusal r Rng
  pub grows : (a : IsAllowed b p limit) → store_limit < size_to to b p limit a
      → IsRefusal r TooLong ⊎ (r ≡ Err Rng)
  -- and, where the draw tells its octets, it fails exactly where it has too few
  pub lacks : (a : IsAllowed b p limit)
      → IfSome left (λ d. length d < draws_to to b p limit a → IsRefusal r Rng)
  pub suffices : (a : IsAllowed b p limit)
      → IfSome left (λ d. draws_to to b p limit a ≤ length d → r ≡ Err Rng → ⊥)

-- ---- a change of the password alone

abbrev pub draws : (b p : List ℕ) (limit : ℕ) → IsAllowed b p limit → ℕ
draws b p limit a = draws_to Kept b p limit a

abbrev pub size : (b p : List ℕ) (limit : ℕ) → IsAllowed b p limit → ℕ
size b p limit a = size_to Kept b p limit a

abbrev pub Rekeys : List ℕ → List ℕ → List ℕ → ℕ → Option (List ℕ) → Option (List ℕ) → ℕ → ℕ
    → List ℕ → Type 0
Rekeys b p q limit left left_after steps steps_after c =
    RekeysTo Kept b p q limit left left_after steps steps_after c

abbrev pub RunsShort : List ℕ → List ℕ → ℕ → Option (List ℕ) → ℕ → ℕ → ℕ → ℕ → Type 0
RunsShort b p limit left faults faults_after steps steps_after =
    RunsShortTo Kept b p limit left faults faults_after steps steps_after

abbrev pub GrowsTooLong : List ℕ → List ℕ → ℕ → Option (List ℕ) → Option (List ℕ) → ℕ → ℕ → Type 0
GrowsTooLong b p limit left left_after steps steps_after =
    GrowsTooLongTo Kept b p limit left left_after steps steps_after

abbrev pub IsSettled : List ℕ → List ℕ → ℕ → Option (List ℕ) → Result (List ℕ) TransferError
    → Type 0
IsSettled b p limit left r = IsSettledTo Kept b p limit left r
