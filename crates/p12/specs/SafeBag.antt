-- Bags (RFC 7292 section 4.2).
use Rattle.std.specs.Prelude.{◌≡◌, ◌≢◌, ℕ, ◌<◌, ◌≤◌, ◌^◌, List, [], ◌∷◌, length, Option, Some, None, ⊤}
use Rattle.asn1_core.specs.Texts.{On, Within, Many, Raw, Oid}
use Rattle.asn1_core.specs.Fields.{Field, End, Sequence}
use Rattle.asn1_core.specs.Oid.{oid_octets}
use Rattle.asn1_core.specs.declared.identifier.ObjectIdentifier.{ObjectIdentifier}
use Rattle.asn1_core.specs.Der.{IsShort, IsElement}
use Rattle.p12.specs.Identifiers.{cert_bag_oid, shrouded_key_bag_oid}
use Rattle.p12.specs.AlgorithmIdentifier.{salt_of, unlock_pbe}
use Rattle.p12.specs.CertBag.{CertBagText}
use Rattle.p12.specs.EncryptedPrivateKeyInfo.{EncryptedKeyText}
use Rattle.p12.specs.Attribute.{AttributesText}
use Rattle.p12.specs.declared.cert_bag.CertBag.TheVariants as cert
use Rattle.p12.specs.declared.attribute.PKCS12Attribute.{PKCS12Attribute}
use Rattle.p12.specs.declared.attribute.PKCS12Attribute.TheVariants.{FriendlyName, LocalKeyId, Other}
use Rattle.p12.specs.declared.safe_bag.SafeBagKind.{SafeBagKind}
use Rattle.p12.specs.declared.safe_bag.SafeBagKind.TheVariants as kind
use Rattle.p12.specs.declared.safe_bag.SafeBag.{SafeBag}

-- the value of a bag whose identifier is k
abbrev pub KindCase : ObjectIdentifier → List ℕ → SafeBagKind → Type 0
KindCase k q (kind.CertBag c) = (oid_octets k ≡ cert_bag_oid) × CertBagText q c
KindCase k q (kind.Pkcs8ShroudedKeyBag e) = (oid_octets k ≡ shrouded_key_bag_oid)
    × EncryptedKeyText q e
KindCase k q (kind.OtherBagKind o) = (oid_octets k ≢ cert_bag_oid)
    × (oid_octets k ≢ shrouded_key_bag_oid) × (o.bag_id ≡ k) × Raw q o.bag_value

-- a bag's value by itself
abbrev pub KindText : ObjectIdentifier → List ℕ → SafeBagKind → Type 0
KindText k b v = KindCase k b v × IsElement b

-- SafeBag ::= SEQUENCE { bagId OBJECT IDENTIFIER, bagValue [0] EXPLICIT ANY, bagAttributes SET OF
-- PKCS12Attribute OPTIONAL }
abbrev pub BagText : List ℕ → SafeBag → Type 0
BagText = Sequence (On Oid (λ k. Field (Within 0xa0 (KindCase k)) (λ g. g.bag)
    (Field AttributesText (λ g. g.attributes) End)))

-- SafeContents ::= SEQUENCE OF SafeBag: these octets list these bags
unfoldable pub IsBags : List ℕ → List SafeBag → Type 0
IsBags b gs = Within 0x30 (Many BagText) b gs × IsShort b

-- they list no bags
abbrev pub NoBags : List ℕ → Type 0
NoBags b = (gs : List SafeBag) → IsBags b gs → ⊥

-- ---- what a bag gives

-- the identifier of a bag's kind
abbrev pub kind_oid : SafeBagKind → List ℕ
kind_oid (kind.CertBag c) = cert_bag_oid
kind_oid (kind.Pkcs8ShroudedKeyBag e) = shrouded_key_bag_oid
kind_oid (kind.OtherBagKind o) = oid_octets o.bag_id

-- the DER of an X.509 certificate
abbrev pub x509_of : SafeBagKind → Option (List ℕ)
x509_of (kind.CertBag (cert.X509 v)) = Some v
x509_of (kind.CertBag (cert.SDSI t)) = None
x509_of (kind.Pkcs8ShroudedKeyBag e) = None
x509_of (kind.OtherBagKind o) = None

-- the plain octets of an encrypted key under a password in UTF-16
abbrev pub key_of : List ℕ → SafeBagKind → Option (List ℕ)
key_of q (kind.CertBag c) = None
key_of q (kind.Pkcs8ShroudedKeyBag e) = unlock_pbe e.encryption_algorithm q e.encrypted_data
key_of q (kind.OtherBagKind o) = None

-- an encrypted key has fewer than 2 ^ 32 octets, and its salt fewer than 2 ^ 59
abbrev pub KindFits : SafeBagKind → Type 0
KindFits (kind.CertBag c) = ⊤
KindFits (kind.Pkcs8ShroudedKeyBag e) = (length e.encrypted_data < 2 ^ 32)
    × (length (salt_of e.encryption_algorithm) < 2 ^ 59)
KindFits (kind.OtherBagKind o) = ⊤

abbrev pub BagFits : SafeBag → Type 0
BagFits g = KindFits g.bag

-- an encrypted key has at most n octets, and so does its salt
abbrev pub KindWithin : ℕ → SafeBagKind → Type 0
KindWithin n (kind.Pkcs8ShroudedKeyBag e) = (length e.encrypted_data ≤ n)
    × (length (salt_of e.encryption_algorithm) ≤ n)
KindWithin n _ = ⊤

abbrev pub BagWithin : ℕ → SafeBag → Type 0
BagWithin n g = KindWithin n g.bag

-- the text of an SDSI certificate
abbrev pub sdsi_of : SafeBagKind → Option (List ℕ)
sdsi_of (kind.CertBag (cert.X509 v)) = None
sdsi_of (kind.CertBag (cert.SDSI t)) = Some t
sdsi_of (kind.Pkcs8ShroudedKeyBag e) = None
sdsi_of (kind.OtherBagKind o) = None

-- the first friendly name among attributes
abbrev pub first_name : List PKCS12Attribute → Option (List ℕ)
first_name [] = None
first_name (FriendlyName t ∷ more) = Some t
first_name (LocalKeyId v ∷ more) = first_name more
first_name (Other o ∷ more) = first_name more

-- the first local key id among attributes
abbrev pub first_key_id : List PKCS12Attribute → Option (List ℕ)
first_key_id [] = None
first_key_id (FriendlyName t ∷ more) = first_key_id more
first_key_id (LocalKeyId v ∷ more) = Some v
first_key_id (Other o ∷ more) = first_key_id more
