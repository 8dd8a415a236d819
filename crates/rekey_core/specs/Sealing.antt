-- Parts that are sealed anew.
use Rattle.std.specs.Prelude.{ℕ, ◌<◌, ◌≡◌, List, ◌++◌, drop, Some, true, ⊤}
use Rattle.std.specs.List.{sum_by}
use Rattle.pkcs5.specs.Opening.{sha256_key}
use Rattle.p12.specs.AlgorithmIdentifier.{count, openable}
use Rattle.p12.specs.Canonical.{bags_canon}
use Rattle.p12.specs.Collected.{plain_text}
use Rattle.p12.specs.declared.algorithm_identifier.AlgorithmIdentifier.{AlgorithmIdentifier}
use Rattle.p12.specs.declared.content_info.ContentInfo.{ContentInfo}
use Rattle.p12.specs.declared.safe_bag.SafeBag.{SafeBag}
use Rattle.asn1_core.specs.Der.{IsShort}
use Rattle.asn1_core.specs.Sets.{Each}
use Rattle.transfer.specs.Opening.{all_shrouded, shrouded_among, shrouded_in}
use Rattle.transfer.specs.declared.store.error.TransferError.{TransferError}
use Rattle.transfer.specs.declared.store.error.TransferError.TheVariants.{TooLong, Memory}
use Rattle.rekey_core.specs.Anew.{key_draws}
use Rattle.rekey_core.specs.Like.{FormLike, KindLike}
use Rattle.rekey_core.specs.Kinds.{kind_for}
use Rattle.rekey_core.specs.Resealing.{EachDrawn}
use Rattle.rekey_core.specs.Unlocking.{HoldsBy, KeyOpensBy, Unlocking}
use Rattle.rekey_core.specs.declared.kinds.Kinds.{Kinds}

-- TooLong comes only where P holds, out of memory at any point, and nothing else.
abbrev pub LongOnly : Type 0 → TransferError → Type 0
LongOnly P TooLong = P
LongOnly P Memory = ⊤
LongOnly P e = ⊥

-- how many octets are drawn for the encrypted keys among bags
abbrev pub bag_draws : Kinds → SafeBag → ℕ
bag_draws to g = sum_by (key_draws to) (shrouded_in g.bag)

abbrev pub bags_draw : Kinds → List SafeBag → ℕ
bags_draw to gs = sum_by (bag_draws to) gs

-- the key under the password q and of so many rounds of a part under PBES2: its salt was drawn after
-- the IV
abbrev pub IsKeyAnew : ℕ → List ℕ → List ℕ → List ℕ → Type 0
IsKeyAnew rounds z q key = key ≡ sha256_key rounds q (drop 16 z)

-- Whatever opens by u is under an algorithm of whose kind a part can be sealed.
abbrev pub CanSeal : Kinds → Unlocking → Type 0
CanSeal to u = (a : AlgorithmIdentifier) (c m : List ℕ) → u a c ≡ Some m
    → (openable (kind_for to a) ≡ true) × (0 < count (kind_for to a))

-- the bag g sealed anew is h
pub record BagSealed (to : Kinds) (u : Unlocking) (q z : List ℕ) (g h : SafeBag) : Type 0 where
  pub attributes : h.attributes ≡ g.attributes
  pub value : KindLike to u q z g.bag h.bag

-- The keys in front of these are those among the bags, and more come after them.
pub record Supplies (u : Unlocking) (gs : List SafeBag) (keys more : List (List ℕ)) : Type 0 where
  pub front : List (List ℕ)
  pub splits : keys ≡ front ++ more
  pub are_opened : Each (KeyOpensBy u) (shrouded_among gs) front

-- the bags gs are sealed anew as hs, by the octets that were taken from those that were drawn
pub record BagsSealed (to : Kinds) (u : Unlocking) (q : List ℕ) (gs : List SafeBag)
    (drawn drawn_after : List ℕ) (hs : List SafeBag) : Type 0 where
  pub took : List ℕ
  pub splits : drawn ≡ took ++ drawn_after
  pub sealed : EachDrawn (BagSealed to u q) gs hs took

-- a content that holds bags is sealed anew
pub record ContentSealed (to : Kinds) (u : Unlocking) (q d : List ℕ) (c e : ContentInfo) : Type 0
  where
    pub own : List ℕ
    pub of_keys : List ℕ
    pub order : d ≡ own ++ of_keys
    pub form : FormLike to own c e
    pub bags : List SafeBag
    pub bags_anew : List SafeBag
    pub holds : HoldsBy u c bags
    pub sealed : EachDrawn (BagSealed to u q) bags bags_anew of_keys
    pub opens : plain_text q e ≡ Some (bags_canon bags_anew)
    pub short : IsShort (bags_canon bags_anew)

-- The keys in front of these are those among the bags of all contents, and more come after them.
pub record SuppliesAll (u : Unlocking) (gss : List (List SafeBag)) (keys more : List (List ℕ))
    : Type 0 where
  pub front : List (List ℕ)
  pub splits : keys ≡ front ++ more
  pub are_opened : Each (KeyOpensBy u) (all_shrouded gss) front

-- the contents cs are sealed anew as es, by the octets that were taken from those that were drawn
pub record ContentsSealed (to : Kinds) (u : Unlocking) (q : List ℕ) (cs : List ContentInfo)
    (drawn drawn_after : List ℕ) (es : List ContentInfo) : Type 0 where
  pub took : List ℕ
  pub splits : drawn ≡ took ++ drawn_after
  pub sealed : EachDrawn (ContentSealed to u q) cs es took
