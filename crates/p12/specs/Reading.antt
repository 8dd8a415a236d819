-- Reading the rows from left to right. Nothing to believe here: each row is proved to read exactly
-- its relation.
use Rattle.std.specs.Prelude.{ℕ, ◌==◌, ◌-◌, ◌^◌, List, [], Result, Ok, Err, if◌then◌else◌}
use Rattle.std.specs.Str.{bytes_eq}
use Rattle.asn1_core.specs.Reading.{Fault, Front, All, ◌>>=◌, whole, on, perhaps, many, made, within, ended, raw_at, oid_at, uint_at, inside_at}
use Rattle.asn1_core.specs.Fields.{latest, never, the, or_nothing}
use Rattle.asn1_core.specs.Unicode.{bmp_at, ia5_at}
use Rattle.asn1_core.specs.Oid.{oid_octets}
use Rattle.asn1_core.specs.declared.identifier.ObjectIdentifier.{ObjectIdentifier}
use Rattle.p12.specs.Identifiers.{sha1_oid, sha256_oid, rc2_scheme_oid, triple_des_scheme_oid, data_oid, encrypted_data_oid, friendly_name_oid, local_key_id_oid, x509_certificate_oid, sdsi_certificate_oid, shrouded_key_bag_oid, cert_bag_oid}
use Rattle.pkcs5.specs.Identifiers.{pbes2_oid}
use Rattle.p12.specs.declared.pkcs12_pbe_params.Pkcs12PbeParams.{Pkcs12PbeParams}
use Rattle.p12.specs.declared.algorithm_identifier.AlgorithmIdentifier.{AlgorithmIdentifier}
use Rattle.p12.specs.declared.algorithm_identifier.AlgorithmIdentifier.TheVariants.{Sha1, Sha256, PbewithSHAAnd40BitRC2CBC, PbeWithSHAAnd3KeyTripleDESCBC, Pbes2, OtherAlg}
use Rattle.p12.specs.declared.digest_info.DigestInfo.{DigestInfo}
use Rattle.p12.specs.declared.mac_data.MacData.{MacData}
use Rattle.p12.specs.declared.encrypted_data.EncryptedContentInfo.{EncryptedContentInfo}
use Rattle.p12.specs.declared.encrypted_data.EncryptedData.{EncryptedData}
use Rattle.p12.specs.declared.content_info.ContentInfo.{ContentInfo}
use Rattle.p12.specs.declared.content_info.ContentInfo.TheVariants as content
use Rattle.p12.specs.declared.encrypted_private_key_info.EncryptedPrivateKeyInfo.{EncryptedPrivateKeyInfo}
use Rattle.p12.specs.declared.cert_bag.CertBag.{CertBag}
use Rattle.p12.specs.declared.cert_bag.CertBag.TheVariants.{X509, SDSI}
use Rattle.p12.specs.declared.attribute.PKCS12Attribute.{PKCS12Attribute}
use Rattle.p12.specs.declared.attribute.PKCS12Attribute.TheVariants.{FriendlyName, LocalKeyId, Other}
use Rattle.p12.specs.declared.safe_bag.SafeBagKind.{SafeBagKind}
use Rattle.p12.specs.declared.safe_bag.SafeBagKind.TheVariants as kind
use Rattle.p12.specs.declared.safe_bag.SafeBag.{SafeBag}
use Rattle.p12.specs.declared.pfx.PFX.{PFX}
use Rattle.pkcs5.specs.Reading.{parameters_at}

-- ---- algorithms

abbrev pub null_at : Front (Unit {0})
null_at = within 0x05 (ended tt)

unfoldable pub params_at : Front Pkcs12PbeParams
params_at = within 0x30 (on (inside_at 0x04) (λ s.
    on (uint_at (2 ^ 64 - 1)) (λ n. ended (record { salt = s; iterations = n }))))

abbrev pub digest_all : AlgorithmIdentifier → All AlgorithmIdentifier
digest_all a = made (λ o. a) (perhaps null_at)

abbrev pub rc2_all : All AlgorithmIdentifier
rc2_all = made PbewithSHAAnd40BitRC2CBC (whole params_at)

abbrev pub triple_des_all : All AlgorithmIdentifier
triple_des_all = made PbeWithSHAAnd3KeyTripleDESCBC (whole params_at)

abbrev pub other_algorithm_all : ObjectIdentifier → All AlgorithmIdentifier
other_algorithm_all k =
    made (λ e. OtherAlg (record { algorithm_type = k; params = e })) (perhaps raw_at)

-- by the first reader, or where that finds a fault by the second
abbrev pub first_ok : {A : Type 0} → Result A Fault → Result A Fault → Result A Fault
first_ok (Ok v) r = Ok v
first_ok (Err f) r = r

abbrev pub or_else : {A : Type 0} → All A → All A → All A
or_else p q b = first_ok (p b) (q b)

abbrev pub pbes2_all : ObjectIdentifier → All AlgorithmIdentifier
pbes2_all k = or_else (made Pbes2 (whole parameters_at)) (other_algorithm_all k)

unfoldable pub algorithm_all : ObjectIdentifier → All AlgorithmIdentifier
algorithm_all k =
    if bytes_eq (oid_octets k) sha1_oid then digest_all Sha1
    else (if bytes_eq (oid_octets k) sha256_oid then digest_all Sha256
    else (if bytes_eq (oid_octets k) rc2_scheme_oid then rc2_all
    else (if bytes_eq (oid_octets k) triple_des_scheme_oid then triple_des_all
    else (if bytes_eq (oid_octets k) pbes2_oid then pbes2_all k else other_algorithm_all k))))

unfoldable pub algorithm_at : Front AlgorithmIdentifier
algorithm_at = within 0x30 (on oid_at algorithm_all)

-- ---- the MAC

unfoldable pub digest_at : Front DigestInfo
digest_at = within 0x30 (on algorithm_at (λ a.
    on (inside_at 0x04) (λ d. ended (record { digest_algorithm = a; digest = d }))))

abbrev pub iterations_all : All ℕ
iterations_all = or_nothing 1 (whole (uint_at (2 ^ 32 - 1)))

unfoldable pub mac_at : Front MacData
mac_at = within 0x30 (on digest_at (λ d.
    on (inside_at 0x04) (λ s. made (λ n. record { mac = d; salt = s; iterations = n })
    iterations_all)))

-- ---- contents

unfoldable pub encrypted_content_at : Front EncryptedContentInfo
encrypted_content_at =
    within 0x30 (on (the (λ o. bytes_eq (oid_octets o) data_oid) oid_at) (λ u. on algorithm_at (λ a.
    on (inside_at 0x80) (λ v. ended
    (record { content_encryption_algorithm = a; encrypted_content = v })))))

unfoldable pub encrypted_data_at : Front EncryptedData
encrypted_data_at = within 0x30 (on (the (λ n. n == 0) (uint_at 0xff)) (λ u.
    on encrypted_content_at (λ e. ended (record { encrypted_content_info = e }))))

abbrev pub data_all : All ContentInfo
data_all = made content.Data (whole (within 0xa0 (whole (inside_at 0x04))))

abbrev pub encrypted_all : All ContentInfo
encrypted_all = made content.EncryptedData (whole (within 0xa0 (whole encrypted_data_at)))

abbrev pub other_content_all : ObjectIdentifier → All ContentInfo
other_content_all k =
    made (λ e. content.OtherContext (record { content_type = k; content = e }))
    (whole (within 0xa0 (whole raw_at)))

abbrev pub content_all : ObjectIdentifier → All ContentInfo
content_all k = if bytes_eq (oid_octets k) data_oid then data_all
    else (if bytes_eq (oid_octets k) encrypted_data_oid then encrypted_all else other_content_all k)

unfoldable pub content_at : Front ContentInfo
content_at = within 0x30 (on oid_at content_all)

unfoldable pub contents_at : Front (List ContentInfo)
contents_at = within 0x30 (many content_at)

-- ---- bags

unfoldable pub encrypted_key_at : Front EncryptedPrivateKeyInfo
encrypted_key_at = within 0x30 (on algorithm_at (λ a.
    on (inside_at 0x04) (λ v. ended (record { encryption_algorithm = a; encrypted_data = v }))))

abbrev pub x509_all : All CertBag
x509_all = made X509 (whole (within 0xa0 (whole (inside_at 0x04))))

abbrev pub sdsi_all : All CertBag
sdsi_all = made SDSI (whole (within 0xa0 (whole ia5_at)))

abbrev pub cert_bag_all : ObjectIdentifier → All CertBag
cert_bag_all k = if bytes_eq (oid_octets k) x509_certificate_oid then x509_all
    else (if bytes_eq (oid_octets k) sdsi_certificate_oid then sdsi_all else never)

unfoldable pub cert_bag_at : Front CertBag
cert_bag_at = within 0x30 (on oid_at cert_bag_all)

abbrev pub name_all : All PKCS12Attribute
name_all = made FriendlyName (whole (within 0x31 (latest bmp_at)))

abbrev pub key_id_all : All PKCS12Attribute
key_id_all = made LocalKeyId (whole (within 0x31 (latest (inside_at 0x04))))

abbrev pub other_attribute_all : ObjectIdentifier → All PKCS12Attribute
other_attribute_all k =
    made (λ vs. Other (record { oid = k; values = vs })) (whole (within 0x31 (many raw_at)))

abbrev pub attribute_all : ObjectIdentifier → All PKCS12Attribute
attribute_all k = if bytes_eq (oid_octets k) friendly_name_oid then name_all
    else (if bytes_eq (oid_octets k) local_key_id_oid then key_id_all else other_attribute_all k)

unfoldable pub attribute_at : Front PKCS12Attribute
attribute_at = within 0x30 (on oid_at attribute_all)

abbrev pub attributes_all : All (List PKCS12Attribute)
attributes_all = or_nothing [] (whole (within 0x31 (many attribute_at)))

abbrev pub cert_kind_all : All SafeBagKind
cert_kind_all = made kind.CertBag (whole cert_bag_at)

abbrev pub shrouded_all : All SafeBagKind
shrouded_all = made kind.Pkcs8ShroudedKeyBag (whole encrypted_key_at)

abbrev pub other_kind_all : ObjectIdentifier → All SafeBagKind
other_kind_all k = made
    (λ e. kind.OtherBagKind (record { bag_id = k; bag_value = e })) (whole raw_at)

abbrev pub kind_all : ObjectIdentifier → All SafeBagKind
kind_all k = if bytes_eq (oid_octets k) cert_bag_oid then cert_kind_all
    else (if bytes_eq (oid_octets k) shrouded_key_bag_oid then shrouded_all else other_kind_all k)

-- the value by itself: one element, read to its end by its kind
abbrev pub kind_at : ObjectIdentifier → Front SafeBagKind
kind_at k b = raw_at b >>= λ x. kind_all k x.0 >>= λ v. Ok (v, x.1)

unfoldable pub bag_at : Front SafeBag
bag_at = within 0x30 (on oid_at (λ k.
    on (within 0xa0 (kind_all k))
    (λ x. made (λ vs. record { bag = x; attributes = vs }) attributes_all)))

unfoldable pub bags_at : Front (List SafeBag)
bags_at = within 0x30 (many bag_at)

-- ---- stores

unfoldable pub pfx_at : Front PFX
pfx_at = within 0x30 (on (uint_at 0xff) (λ n.
    on content_at (λ c. made (λ m. record { version = n; auth_safe = c; mac_data = m })
    (perhaps mac_at))))
