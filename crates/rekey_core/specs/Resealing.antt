-- Parts of a store that are sealed anew under a password and under drawn octets. How the old ones
-- open, and under what algorithm the new ones are sealed, are parameters.
use Rattle.std.specs.Prelude.{ℕ, ◌≡◌, List, [], ◌∷◌, ◌++◌, length, Some}
use Rattle.asn1_core.specs.Sets.{SameSet}
use Rattle.p12.specs.AlgorithmIdentifier.{unlock}
use Rattle.p12.specs.Canonical.{bags_canon, contents_canon, store_canon}
use Rattle.p12.specs.Collected.{HoldsBags, plain_text}
use Rattle.p12.specs.ContentInfo.{IsContents}
use Rattle.p12.specs.Pfx.{IsStore}
use Rattle.p12.specs.Same.{SameAttribute}
use Rattle.p12.specs.declared.algorithm_identifier.AlgorithmIdentifier.{AlgorithmIdentifier}
use Rattle.p12.specs.declared.content_info.ContentInfo.{ContentInfo}
use Rattle.p12.specs.declared.content_info.ContentInfo.TheVariants as content
use Rattle.p12.specs.declared.mac_data.MacData.{MacData}
use Rattle.p12.specs.declared.pfx.PFX.{PFX}
use Rattle.p12.specs.declared.safe_bag.SafeBag.{SafeBag}
use Rattle.p12.specs.declared.safe_bag.SafeBagKind.{SafeBagKind}
use Rattle.p12.specs.declared.safe_bag.SafeBagKind.TheVariants as kind
use Rattle.rekey_core.specs.Unlocking.{HoldsBy, Unlocking}
use Rattle.transfer.specs.Verdicts.{IsMacOk}

pub record Resealing : Type 0 where
  -- how many octets are drawn for a part under an algorithm
  pub drawn : AlgorithmIdentifier → ℕ
  -- the algorithm that takes its place, under these drawn octets
  pub target : AlgorithmIdentifier → List ℕ → AlgorithmIdentifier
  -- the digest and the count of the MAC, where that of the old store is this one, and how many
  -- octets are drawn for its salt
  pub digest : MacData → AlgorithmIdentifier
  pub count : MacData → ℕ
  pub salt : ℕ

-- R of the things one by one, each under the octets that were drawn for it; these follow each
-- other, and are all of them
abbrev pub EachDrawn : {A B : Type 0} → (List ℕ → A → B → Type 0) → List A → List B → List ℕ
    → Type 0
EachDrawn R [] [] d = d ≡ []
EachDrawn R [] (y ∷ ys) d = ⊥
EachDrawn R (x ∷ xs) [] d = ⊥
EachDrawn R (x ∷ xs) (y ∷ ys) d = (z : List ℕ) × (rest : List ℕ) × (d ≡ z ++ rest) × R z x y
    × EachDrawn R xs ys rest

-- a part under the algorithm a takes its target, under these drawn octets
pub record IsResealed (w : Resealing) (z : List ℕ) (a b : AlgorithmIdentifier) : Type 0 where
  pub drawn : length z ≡ w.drawn a
  pub algorithm : b ≡ w.target a z

-- c opens by u to the text that d opens to under q
pub record OpensEqually (u : Unlocking) (q : List ℕ) (a : AlgorithmIdentifier) (c : List ℕ)
    (b : AlgorithmIdentifier) (d : List ℕ) : Type 0 where
  pub text : List ℕ
  pub opens : u a c ≡ Some text
  pub opens_anew : unlock b q d ≡ Some text

-- an encrypted key opens to the same octets, under the target of its algorithm; any other value is
-- equal
abbrev pub KindResealed : Unlocking → Resealing → List ℕ → List ℕ → SafeBagKind → SafeBagKind → Type 0
KindResealed u w q z (kind.CertBag c) l = (z ≡ []) × (l ≡ kind.CertBag c)
KindResealed u w q z (kind.OtherBagKind o) l = (z ≡ []) × (l ≡ kind.OtherBagKind o)
KindResealed u w q z (kind.Pkcs8ShroudedKeyBag k) (kind.Pkcs8ShroudedKeyBag l) =
    IsResealed w z k.encryption_algorithm l.encryption_algorithm
    × OpensEqually u q k.encryption_algorithm k.encrypted_data l.encryption_algorithm
    l.encrypted_data
KindResealed u w q z (kind.Pkcs8ShroudedKeyBag k) (kind.CertBag c) = ⊥
KindResealed u w q z (kind.Pkcs8ShroudedKeyBag k) (kind.OtherBagKind o) = ⊥

-- a bag's attributes are equal up to the order of their sets
pub record BagResealed (u : Unlocking) (w : Resealing) (q z : List ℕ) (g h : SafeBag) : Type 0 where
  pub attributes : SameSet SameAttribute h.attributes g.attributes
  pub value : KindResealed u w q z g.bag h.bag

-- a plain content stays plain, and an encrypted one is encrypted under the target of its algorithm
abbrev pub FormResealed : Resealing → List ℕ → ContentInfo → ContentInfo → Type 0
FormResealed w z (content.Data v) (content.Data x) = z ≡ []
FormResealed w z (content.EncryptedData d) (content.EncryptedData e) =
    IsResealed w z d.encrypted_content_info.content_encryption_algorithm
    e.encrypted_content_info.content_encryption_algorithm
FormResealed w z (content.Data v) (content.EncryptedData e) = ⊥
FormResealed w z (content.Data v) (content.OtherContext o) = ⊥
FormResealed w z (content.EncryptedData d) (content.Data x) = ⊥
FormResealed w z (content.EncryptedData d) (content.OtherContext o) = ⊥
FormResealed w z (content.OtherContext o) e = ⊥

-- the bags that both contents open to are resealed, one by one. The octets of its own part were
-- drawn before those of its keys, and the plain octets of the new one are the canonical text of its
-- bags
pub record ContentResealed (u : Unlocking) (w : Resealing) (q d : List ℕ) (c e : ContentInfo)
    : Type 0 where
  pub own : List ℕ
  pub of_keys : List ℕ
  pub order : d ≡ own ++ of_keys
  pub form : FormResealed w own c e
  pub bags : List SafeBag
  pub bags_anew : List SafeBag
  pub holds : HoldsBy u c bags
  pub holds_anew : HoldsBags q e bags_anew
  pub like : EachDrawn (BagResealed u w q) bags bags_anew of_keys
  pub canonical : plain_text q e ≡ Some (bags_canon bags_anew)

-- The store s, whose parts open by u, was changed to the store t under q, by the octets d: the
-- versions are equal; the MAC of t agrees, under the digest and the count that are asked for, and
-- its salt is the last of the octets; and the contents of both are resealed, in their order, under
-- the octets before.
pub record StoreResealed (u : Unlocking) (w : Resealing) (s : PFX) (q : List ℕ) (t : PFX)
    (d : List ℕ) : Type 0 where
  pub version : t.version ≡ s.version
  pub text : List ℕ
  pub text_anew : List ℕ
  pub is_data : s.auth_safe ≡ content.Data text
  pub is_data_anew : t.auth_safe ≡ content.Data text_anew
  pub mac : MacData
  pub mac_anew : MacData
  pub has_mac : s.mac_data ≡ Some mac
  pub has_mac_anew : t.mac_data ≡ Some mac_anew
  pub digest : mac_anew.mac.digest_algorithm ≡ w.digest mac
  pub count : mac_anew.iterations ≡ w.count mac
  pub agrees : IsMacOk q text_anew mac_anew
  pub parts : List ContentInfo
  pub parts_anew : List ContentInfo
  pub lists : IsContents text parts
  pub lists_anew : IsContents text_anew parts_anew
  pub canonical : text_anew ≡ contents_canon parts_anew
  pub of_parts : List ℕ
  pub order : d ≡ of_parts ++ mac_anew.salt
  pub salt_drawn : length mac_anew.salt ≡ w.salt
  pub like : EachDrawn (ContentResealed u w q) parts parts_anew of_parts

-- The text b of a store whose parts open by u was changed to the text c of one under q, which is the
-- canonical one.
pub record Reseals (u : Unlocking) (w : Resealing) (b c q d : List ℕ) : Type 0 where
  pub store : PFX
  pub store_anew : PFX
  pub is : IsStore b store
  pub is_anew : IsStore c store_anew
  pub canonical : c ≡ store_canon store_anew
  pub changed : StoreResealed u w store q store_anew d
