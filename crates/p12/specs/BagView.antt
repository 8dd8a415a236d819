-- What is seen of a bag that lends its parts: the same in memory of its own, and where its
-- encrypted octets are.
use Rattle.std.specs.Prelude.{◌≡◌, ℕ, ◌-◌, ◌≤◌, List, ◌∷◌, length, Ok, true, ⊤}
use Rattle.asn1_core.specs.Reading.{many, whole}
use Rattle.asn1_core.specs.Unicode.{is_ascii_text}
use Rattle.p12.specs.Reading.{attribute_at, bags_at}
use Rattle.p12.specs.AlgorithmView.{seen_algorithm}
use Rattle.p12.specs.AttributeView.{seen_list}
use Rattle.p12.specs.Place.{Between, Part, UpTo, at_place}
use Rattle.p12.specs.Walk.{Walk, read_or_none}
use Rattle.p12.specs.declared.cert_bag.CertBag.{CertBag}
use Rattle.p12.specs.declared.cert_bag.CertBag.TheVariants as cert
use Rattle.p12.specs.declared.encrypted_private_key_info.EncryptedPrivateKeyInfo.{EncryptedPrivateKeyInfo}
use Rattle.p12.specs.declared.safe_bag.SafeBag.{SafeBag}
use Rattle.p12.specs.declared.safe_bag.SafeBagKind.{SafeBagKind}
use Rattle.p12.specs.declared.safe_bag.SafeBagKind.TheVariants as kind
use Rattle.p12.specs.declared.encrypted_data.EncryptedView.{EncryptedView}
use Rattle.p12.specs.declared.cert_bag.CertView.{CertView}
use Rattle.p12.specs.declared.cert_bag.CertView.TheVariants as certificate
use Rattle.p12.specs.declared.safe_bag.BagParts.{BagParts}
use Rattle.p12.specs.declared.safe_bag.BagView.{BagView}
use Rattle.p12.specs.declared.safe_bag.BagView.TheVariants as view

abbrev pub seen_cert : CertView → CertBag
seen_cert (certificate.X509 v) = cert.X509 v.now
seen_cert (certificate.Sdsi t) = cert.SDSI t.now

abbrev pub seen_key : EncryptedView → EncryptedPrivateKeyInfo
seen_key e = record {
  encryption_algorithm = seen_algorithm e.algorithm;
  encrypted_data = e.content.now;
}

abbrev pub seen_bag : BagView → SafeBagKind
seen_bag (view.X509 v) = kind.CertBag (cert.X509 v.now)
seen_bag (view.Sdsi t) = kind.CertBag (cert.SDSI t.now)
seen_bag (view.Shrouded a v at) =
    kind.Pkcs8ShroudedKeyBag (record {
      encryption_algorithm = seen_algorithm a;
      encrypted_data = v.now;
    })
seen_bag (view.Other k v) = kind.OtherBagKind (record { bag_id = k; bag_value = v.now })

abbrev pub seen_parts : BagParts → SafeBag
seen_parts p = record { bag = seen_bag p.bag; attributes = seen_list p.attributes.now }

-- a certificate that was read: the text of an SDSI one is ASCII
abbrev pub IsCert : CertView → Type 0
IsCert (certificate.X509 v) = ⊤
IsCert (certificate.Sdsi t) = is_ascii_text t.now ≡ true

-- the same of a bag
abbrev pub IsBagView : BagView → Type 0
IsBagView (view.X509 v) = ⊤
IsBagView (view.Sdsi t) = is_ascii_text t.now ≡ true
IsBagView (view.Shrouded a v at) = ⊤
IsBagView (view.Other k v) = ⊤

-- and of one with the octets of its attributes
abbrev pub AreParts : BagParts → Type 0
AreParts p = IsBagView p.bag
    × (many attribute_at p.attributes.now ≡ Ok (seen_list p.attributes.now))

abbrev pub BagEndsAt : ℕ → BagView → Type 0
BagEndsAt end (view.X509 v) = ⊤
BagEndsAt end (view.Sdsi t) = ⊤
BagEndsAt end (view.Shrouded a v at) = UpTo end v.now at
BagEndsAt end (view.Other k v) = ⊤

-- its encrypted octets lie in b, which ends a text of so many octets, before rest, and end where it
-- says
abbrev pub BagLies : ℕ → List ℕ → List ℕ → BagView → Type 0
BagLies total b rest (view.X509 v) = ⊤
BagLies total b rest (view.Sdsi t) = ⊤
BagLies total b rest (view.Shrouded a v at) = (after : List ℕ) × Part v.now b after
    × UpTo (total - length after) v.now at × (length rest ≤ length after)
BagLies total b rest (view.Other k v) = ⊤

-- it is where it says, in these octets
abbrev pub BagStands : List ℕ → BagView → Type 0
BagStands b (view.X509 v) = ⊤
BagStands b (view.Sdsi t) = ⊤
BagStands b (view.Shrouded a v at) = at_place at b ≡ v.now
BagStands b (view.Other k v) = ⊤

-- it lies between two numbers of octets
abbrev pub BagBetween : ℕ → ℕ → BagView → Type 0
BagBetween from to (view.X509 v) = ⊤
BagBetween from to (view.Sdsi t) = ⊤
BagBetween from to (view.Shrouded a v at) = Between from to at
BagBetween from to (view.Other k v) = ⊤

-- a walk goes on by this bag, whose attributes are not handed out
pub record NextBag (old new : Walk SafeBag) (v : BagView) : Type 0 where
  pub same : new.bytes ≡ old.bytes
  pub bag : SafeBag
  pub is : old.left ≡ bag ∷ new.left
  pub seen : bag.bag ≡ seen_bag v
  pub stands : BagStands old.bytes v
  pub between : BagBetween old.passed new.passed v
  pub forward : (old.passed ≤ new.passed) × (new.passed ≤ length old.bytes)

-- a walk goes on by this bag
abbrev pub GoesBy : Walk SafeBag → Walk SafeBag → SafeBag → Type 0
GoesBy old new g = (old.left ≡ g ∷ new.left) × (new.bytes ≡ old.bytes)

-- ---- bags that stay in the octets that list them

-- the bags that octets list; none where they list none
abbrev pub bags_of : List ℕ → List SafeBag
bags_of b = read_or_none (whole bags_at b)

-- These octets list bags: a fact with one proof, as a type's invariant has to be.
abbrev pub ListsBags : List ℕ → Type 0
ListsBags b = whole bags_at b ≡ Ok (bags_of b)
