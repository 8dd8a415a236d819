-- Changes of a store's password, one after the other.
use Rattle.std.specs.Prelude.{ℕ, ◌*◌, ◌<◌, ◌≤◌, ◌≡◌, ◌⊎◌, ◌-◌, List, [], ◌∷◌, ◌++◌, length, Option, Some, None, Result, Err, IfSome, IsOk, true}
use Rattle.asn1_core.specs.Sets.{Each, SameSet}
use Rattle.p12.specs.AlgorithmIdentifier.{cost, openable}
use Rattle.p12.specs.Same.{SameAttribute}
use Rattle.p12.specs.declared.algorithm_identifier.AlgorithmIdentifier.{AlgorithmIdentifier}
use Rattle.rekey_core.specs.Like.{IsAnew}
use Rattle.p12.specs.declared.safe_bag.SafeBag.{SafeBag}
use Rattle.p12.specs.declared.safe_bag.SafeBagKind.{SafeBagKind}
use Rattle.p12.specs.declared.safe_bag.SafeBagKind.TheVariants as kind
use Rattle.transfer.specs.Opening.{FirstCause, all_certificates}
use Rattle.transfer.specs.Limits.{store_limit}
use Rattle.transfer.specs.Transferred.{IsRefusal}
use Rattle.transfer.specs.Verdicts.{StoreOpens}
use Rattle.transfer.specs.declared.store.error.TransferError.{TransferError}
use Rattle.rekey_core.specs.Change.{Changes, ChangesTo}
use Rattle.rekey_core.specs.Work.{work_to}
use Rattle.rekey_core.specs.declared.kinds.Kinds.{Kinds}
use Rattle.transfer.specs.declared.store.error.TransferError.TheVariants.{Rng, TooLong}
use Rattle.rekey_core.specs.declared.kinds.Kinds.TheVariants.{Kept}
use Rattle.rekey_core.specs.Rekeyed.{GrowsTooLong, IsAllowed, IsRefused, RefusedFor, Rekeys, RunsShort, draws, size}

-- c comes of b by a change from each password to the next, the draw and the steps running through
-- all of them.
abbrev pub RekeysAll : List ℕ → List (List ℕ) → ℕ → Option (List ℕ) → Option (List ℕ) → ℕ → ℕ
    → List ℕ → Type 0
RekeysAll b [] limit left left_after steps steps_after c = ⊥
RekeysAll b (p ∷ []) limit left left_after steps steps_after c = (c ≡ b) × (left_after ≡ left)
    × (steps_after ≡ steps)
RekeysAll b (p ∷ q ∷ ps) limit left left_after steps steps_after c =
    (m : List ℕ) × (between : Option (List ℕ)) × (midway : ℕ)
    × Rekeys b p q limit left between steps midway m
    × RekeysAll m (q ∷ ps) limit between left_after midway steps_after c

-- why one change is refused
abbrev pub RefusesOne : List ℕ → List ℕ → ℕ → Option (List ℕ) → Option (List ℕ) → ℕ → ℕ → ℕ → ℕ
    → TransferError → Type 0
RefusesOne b p limit left left_after faults faults_after steps steps_after =
    RefusedFor (IsRefused b p limit steps steps_after)
    (RunsShort b p limit left faults faults_after steps steps_after)
    (GrowsTooLong b p limit left left_after steps steps_after)

-- the last of some passwords
abbrev pub last_of : List (List ℕ) → List ℕ
last_of [] = []
last_of (p ∷ []) = p
last_of (p ∷ q ∷ ps) = last_of (q ∷ ps)

-- The first change that has a refusal has this one: the changes to the passwords before were made.
pub record FirstRefusal (b : List ℕ) (passwords : List (List ℕ)) (limit : ℕ)
    (left left_after : Option (List ℕ)) (faults faults_after steps steps_after : ℕ)
    (e : TransferError) : Type 0 where
  pub made_to : List (List ℕ)
  pub new : List ℕ
  pub unmade : List (List ℕ)
  pub split : passwords ≡ made_to ++ new ∷ unmade
  pub store : List ℕ
  pub between : Option (List ℕ)
  pub midway : ℕ
  pub made : RekeysAll b made_to limit left between steps midway store
  pub counted : ℕ
  pub not_less : faults ≤ counted
  pub refused : RefusesOne store
      (last_of made_to) limit between left_after counted faults_after midway steps_after e

-- how many changes are asked for
abbrev pub changes : List (List ℕ) → ℕ
changes passwords = length passwords - 1

abbrev pub first_of : List (List ℕ) → List ℕ
first_of [] = []
first_of (p ∷ ps) = p

-- Each result comes where its cause holds, out of memory apart. Each of the changes draws the same
-- number of octets, and comes to a text of the same size.
pub record SettledAll (b : List ℕ) (passwords : List (List ℕ)) (limit : ℕ) (left : Option (List ℕ))
    (r : Result (List ℕ) TransferError) : Type 0 where
  -- a store that a cause refuses is refused for that cause
  pub refuses : (e : TransferError) → FirstCause b (first_of passwords) limit (Some e)
      → IsRefusal r e
  -- a store that no cause refuses is changed where the text is short enough, and is too long where
  -- it is not, unless the draw fails
  pub fits : (a : IsAllowed b (first_of passwords) limit)
      → size b (first_of passwords) limit a ≤ store_limit → IsOk r ⊎ IsRefusal r Rng
  pub grows : (a : IsAllowed b (first_of passwords) limit)
      → store_limit < size b (first_of passwords) limit a → IsRefusal r TooLong ⊎ (r ≡ Err Rng)
  -- where the draw tells its octets, it fails exactly where it has too few, for the first change or
  -- for all of them
  pub lacks : (a : IsAllowed b (first_of passwords) limit)
      → IfSome left (λ d. length d < draws b (first_of passwords) limit a → IsRefusal r Rng)
  pub lacks_later : (a : IsAllowed b (first_of passwords) limit)
      → size b (first_of passwords) limit a ≤ store_limit
      → IfSome left (λ d. length d < draws b (first_of passwords) limit a * changes passwords
      → IsRefusal r Rng)
  pub suffices : (a : IsAllowed b (first_of passwords) limit)
      → IfSome left (λ d. draws b (first_of passwords) limit a * changes passwords ≤ length d
      → r ≡ Err Rng → ⊥)
  pub grows_first : (a : IsAllowed b (first_of passwords) limit)
      → store_limit < size b (first_of passwords) limit a
      → IfSome left (λ d. draws b (first_of passwords) limit a ≤ length d → IsRefusal r TooLong)

-- A further change draws the same number of octets, and comes to a text of the same size.
abbrev pub ChangesAlike : Type 0
ChangesAlike = (b p c q d : List ℕ) (limit : ℕ) (first : IsAllowed b p limit)
    (further : IsAllowed c q limit) → Changes b p c q d
    → (draws c q limit further ≡ draws b p limit first)
    × (size c q limit further ≡ size b p limit first)

-- ---- what any number of changes keeps

-- two bags are equal up to the order of their attributes, or hold encrypted keys with such
-- attributes
abbrev pub KindKept : SafeBagKind → SafeBagKind → Type 0
KindKept (kind.CertBag c) l = l ≡ kind.CertBag c
KindKept (kind.OtherBagKind o) l = l ≡ kind.OtherBagKind o
KindKept (kind.Pkcs8ShroudedKeyBag k) (kind.Pkcs8ShroudedKeyBag l) = Unit {0}
KindKept (kind.Pkcs8ShroudedKeyBag k) (kind.CertBag c) = ⊥
KindKept (kind.Pkcs8ShroudedKeyBag k) (kind.OtherBagKind o) = ⊥

pub record BagKept (g h : SafeBag) : Type 0 where
  pub attributes : SameSet SameAttribute h.attributes g.attributes
  pub value : KindKept g.bag h.bag

-- What a store opens to is kept by a change to these kinds: its private keys, its certificates, and
-- its bags; and opening it takes no more work than is said.
pub record IsKeptTo (to : Kinds) (b p c q : List ℕ) : Type 0 where
  pub keeps : (gss : List (List SafeBag)) (ks : List (List ℕ)) (n : ℕ)
      → (o : StoreOpens b p gss ks n)
      → (hss : List (List SafeBag)) × (m : ℕ) × StoreOpens c q hss ks m
      × (m ≤ work_to to o.mac o.parts gss)
      × (all_certificates hss ≡ all_certificates gss) × Each (Each BagKept) gss hss

-- What a store opens to is kept: its private keys, its certificates, and its bags.
pub record IsKept (b p c q : List ℕ) : Type 0 where
  pub keeps : (gss : List (List SafeBag)) (ks : List (List ℕ)) (n : ℕ) → StoreOpens b p gss ks n
      → (hss : List (List SafeBag)) × (m : ℕ) × StoreOpens c q hss ks m × (m ≤ n)
      × (all_certificates hss ≡ all_certificates gss) × Each (Each BagKept) gss hss

-- A change to any kinds keeps what a store opens to.
abbrev pub ChangesKeepTo : Type 0
ChangesKeepTo = (to : Kinds) (b p q c d : List ℕ) → length c ≤ store_limit
    → ChangesTo to b p c q d → IsKeptTo to b p c q

-- What is sealed anew costs no more steps than before.
abbrev pub SealsWithin : Type 0
SealsWithin = (a b : AlgorithmIdentifier) (z : List ℕ) → openable a ≡ true → IsAnew Kept z a b
    → cost b ≤ cost a

-- One change keeps what a store opens to, for no more work.
abbrev pub ChangesKeep : Type 0
ChangesKeep = (b p q c d : List ℕ) → length c ≤ store_limit → Changes b p c q d → IsKept b p c q

-- And so do any number of changes.
abbrev pub AllChangesKeep : Type 0
AllChangesKeep = (b p : List ℕ) (ps : List (List ℕ)) (limit : ℕ) (left left_after : Option (List ℕ))
    (n m : ℕ) (c : List ℕ)
    → RekeysAll b (p ∷ ps) limit left left_after n m c → IsKept b p c (last_of (p ∷ ps))

-- After a first change no cause refuses the store under the same limit.
abbrev pub NoCauseAfter : Type 0
NoCauseAfter = (b p q c d : List ℕ) (limit : ℕ) → length c ≤ store_limit → Changes b p c q d
    → FirstCause b p limit None → FirstCause c q limit None
