-- The one text that is written of a value (RFC 7292 section 4; X.690 sections 10 and 11). NULL
-- comes after SHA-1 and SHA-256, the count of a MAC is always there, and an empty set of attributes
-- is left out. A name or key id stands alone in its set, and the elements of a set ascend. The
-- parameters of PBES2 are written as `pkcs5` writes them: HMAC over SHA-1 is left out of those of
-- PBKDF2. Octets of another kind are written as they are. A count of 1 is written too, as the Rust
-- crate writes it, though DER leaves a default value out (X.690 section 11.5).
use Rattle.std.specs.Prelude.{ℕ, List, [], ◌∷◌, ◌++◌, map, IsTrue, All}
use Rattle.asn1_core.specs.Der.{IsElement, el, joined, seq, set, ctx, pctx, oid, octets, null, uint}
use Rattle.asn1_core.specs.Oid.{oid_octets}
use Rattle.asn1_core.specs.Sets.{in_order}
use Rattle.asn1_core.specs.Unicode.{is_ascii_text, text_units}
use Rattle.der_core.specs.Optional.{canon_option, writable_option}
use Rattle.pkcs5.specs.Identifiers.{pbes2_oid}
use Rattle.pkcs5.specs.Parameters.{AreParameters, parameters_content}
use Rattle.p12.specs.Identifiers.{sha1_oid, sha256_oid, rc2_scheme_oid, triple_des_scheme_oid, data_oid, encrypted_data_oid, friendly_name_oid, local_key_id_oid, x509_certificate_oid, sdsi_certificate_oid}
use Rattle.p12.specs.SafeBag.{kind_oid}
use Rattle.p12.specs.declared.pkcs12_pbe_params.Pkcs12PbeParams.{Pkcs12PbeParams}
use Rattle.p12.specs.declared.algorithm_identifier.AlgorithmIdentifier.{AlgorithmIdentifier}
use Rattle.p12.specs.declared.algorithm_identifier.AlgorithmIdentifier.TheVariants.{Sha1, Sha256, PbewithSHAAnd40BitRC2CBC, PbeWithSHAAnd3KeyTripleDESCBC, Pbes2, OtherAlg}
use Rattle.p12.specs.declared.digest_info.DigestInfo.{DigestInfo}
use Rattle.p12.specs.declared.mac_data.MacData.{MacData}
use Rattle.p12.specs.declared.encrypted_data.EncryptedContentInfo.{EncryptedContentInfo}
use Rattle.p12.specs.declared.encrypted_data.EncryptedData.{EncryptedData}
use Rattle.p12.specs.declared.content_info.ContentInfo.{ContentInfo}
use Rattle.p12.specs.declared.content_info.ContentInfo.TheVariants as content
use Rattle.p12.specs.declared.encrypted_private_key_info.EncryptedPrivateKeyInfo.{EncryptedPrivateKeyInfo}
use Rattle.p12.specs.declared.cert_bag.CertBag.{CertBag}
use Rattle.p12.specs.declared.cert_bag.CertBag.TheVariants.{X509, SDSI}
use Rattle.p12.specs.declared.attribute.PKCS12Attribute.{PKCS12Attribute}
use Rattle.p12.specs.declared.attribute.PKCS12Attribute.TheVariants.{FriendlyName, LocalKeyId, Other}
use Rattle.p12.specs.declared.safe_bag.SafeBagKind.{SafeBagKind}
use Rattle.p12.specs.declared.safe_bag.SafeBagKind.TheVariants as kind
use Rattle.p12.specs.declared.safe_bag.SafeBag.{SafeBag}
use Rattle.p12.specs.declared.pfx.PFX.{PFX}

-- ---- algorithms and the MAC

abbrev pub params_canon : Pkcs12PbeParams → List ℕ
params_canon p = seq (octets p.salt ++ uint p.iterations)

abbrev pub algorithm_canon : AlgorithmIdentifier → List ℕ
algorithm_canon Sha1 = seq (oid sha1_oid ++ null)
algorithm_canon Sha256 = seq (oid sha256_oid ++ null)
algorithm_canon (PbewithSHAAnd40BitRC2CBC p) = seq (oid rc2_scheme_oid ++ params_canon p)
algorithm_canon (PbeWithSHAAnd3KeyTripleDESCBC p) =
    seq (oid triple_des_scheme_oid ++ params_canon p)
algorithm_canon (Pbes2 par) = seq (oid pbes2_oid ++ seq (parameters_content par))
algorithm_canon (OtherAlg o) =
    seq (oid (oid_octets o.algorithm_type) ++ canon_option (λ e. e) o.params)

abbrev pub digest_canon : DigestInfo → List ℕ
digest_canon d = seq (algorithm_canon d.digest_algorithm ++ octets d.digest)

abbrev pub mac_canon : MacData → List ℕ
mac_canon m = seq (digest_canon m.mac ++ (octets m.salt ++ uint m.iterations))

-- ---- contents

abbrev pub encrypted_content_canon : EncryptedContentInfo → List ℕ
encrypted_content_canon e =
    seq (oid data_oid ++ (algorithm_canon e.content_encryption_algorithm
    ++ pctx 0 e.encrypted_content))

abbrev pub encrypted_data_canon : EncryptedData → List ℕ
encrypted_data_canon e = seq (uint 0 ++ encrypted_content_canon e.encrypted_content_info)

abbrev pub content_canon : ContentInfo → List ℕ
content_canon (content.Data v) = seq (oid data_oid ++ ctx 0 (octets v))
content_canon (content.EncryptedData e) =
    seq (oid encrypted_data_oid ++ ctx 0 (encrypted_data_canon e))
content_canon (content.OtherContext o) = seq (oid (oid_octets o.content_type) ++ ctx 0 o.content)

-- AuthenticatedSafe: the contents in order
abbrev pub contents_canon : List ContentInfo → List ℕ
contents_canon cs = seq (joined (map content_canon cs))

-- ---- bags

abbrev pub encrypted_key_canon : EncryptedPrivateKeyInfo → List ℕ
encrypted_key_canon e = seq (algorithm_canon e.encryption_algorithm ++ octets e.encrypted_data)

abbrev pub cert_bag_canon : CertBag → List ℕ
cert_bag_canon (X509 v) = seq (oid x509_certificate_oid ++ ctx 0 (octets v))
cert_bag_canon (SDSI t) = seq (oid sdsi_certificate_oid ++ ctx 0 (el 0x16 t))

-- a set of these elements, in ascending order
abbrev pub set_of : List (List ℕ) → List ℕ
set_of ts = set (joined (in_order ts))

abbrev pub attribute_canon : PKCS12Attribute → List ℕ
attribute_canon (FriendlyName t) = seq (oid friendly_name_oid ++ set (el 0x1e (text_units t)))
attribute_canon (LocalKeyId v) = seq (oid local_key_id_oid ++ set (octets v))
attribute_canon (Other o) = seq (oid (oid_octets o.oid) ++ set_of o.values)

-- no set where there are no attributes
abbrev pub attributes_canon : List PKCS12Attribute → List ℕ
attributes_canon [] = []
attributes_canon (v ∷ vs) = set_of (map attribute_canon (v ∷ vs))

-- the value inside of a bag
abbrev pub kind_canon : SafeBagKind → List ℕ
kind_canon (kind.CertBag c) = cert_bag_canon c
kind_canon (kind.Pkcs8ShroudedKeyBag e) = encrypted_key_canon e
kind_canon (kind.OtherBagKind o) = o.bag_value

abbrev pub bag_canon : SafeBag → List ℕ
bag_canon g = seq (oid (kind_oid g.bag)
    ++ (ctx 0 (kind_canon g.bag) ++ attributes_canon g.attributes))

-- SafeContents: the bags in order
abbrev pub bags_canon : List SafeBag → List ℕ
bags_canon gs = seq (joined (map bag_canon gs))

-- ---- stores

abbrev pub store_canon : PFX → List ℕ
store_canon s = seq (uint s.version
    ++ (content_canon s.auth_safe ++ canon_option mac_canon s.mac_data))

-- ---- which values can be written: octets that are written as they are, are one element each; the
-- text of an SDSI
-- certificate is ASCII; the parameters of PBES2 keep to the bounds of their types

abbrev pub WritableAlgorithm : AlgorithmIdentifier → Type 0
WritableAlgorithm Sha1 = Unit {0}
WritableAlgorithm Sha256 = Unit {0}
WritableAlgorithm (PbewithSHAAnd40BitRC2CBC p) = Unit {0}
WritableAlgorithm (PbeWithSHAAnd3KeyTripleDESCBC p) = Unit {0}
WritableAlgorithm (Pbes2 par) = AreParameters par
WritableAlgorithm (OtherAlg o) = writable_option IsElement o.params

abbrev pub WritableDigest : DigestInfo → Type 0
WritableDigest d = WritableAlgorithm d.digest_algorithm

abbrev pub WritableMac : MacData → Type 0
WritableMac m = WritableDigest m.mac

abbrev pub WritableEncryptedContent : EncryptedContentInfo → Type 0
WritableEncryptedContent e = WritableAlgorithm e.content_encryption_algorithm

abbrev pub WritableEncryptedData : EncryptedData → Type 0
WritableEncryptedData e = WritableEncryptedContent e.encrypted_content_info

abbrev pub WritableContent : ContentInfo → Type 0
WritableContent (content.Data v) = Unit {0}
WritableContent (content.EncryptedData e) = WritableEncryptedData e
WritableContent (content.OtherContext o) = IsElement o.content

abbrev pub WritableKey : EncryptedPrivateKeyInfo → Type 0
WritableKey e = WritableAlgorithm e.encryption_algorithm

abbrev pub WritableCertBag : CertBag → Type 0
WritableCertBag (X509 v) = Unit {0}
WritableCertBag (SDSI t) = IsTrue (is_ascii_text t)

abbrev pub WritableAttribute : PKCS12Attribute → Type 0
WritableAttribute (FriendlyName t) = Unit {0}
WritableAttribute (LocalKeyId v) = Unit {0}
WritableAttribute (Other o) = All IsElement o.values

abbrev pub WritableKind : SafeBagKind → Type 0
WritableKind (kind.CertBag c) = WritableCertBag c
WritableKind (kind.Pkcs8ShroudedKeyBag e) = WritableKey e
WritableKind (kind.OtherBagKind o) = IsElement o.bag_value

abbrev pub WritableBag : SafeBag → Type 0
WritableBag g = WritableKind g.bag × All WritableAttribute g.attributes

abbrev pub WritableStore : PFX → Type 0
WritableStore s = WritableContent s.auth_safe × writable_option WritableMac s.mac_data
