-- The canonical texts of the parts of a store that is made are texts of them, whatever salts and counts it was made under.
use Rattle.std.proofs.Common.{ℕ, ◌≤◌, ◌-◌, ◌^◌, List, [], ◌∷◌, ◌++◌, map, refl, inr, arith, Some}
use Rattle.asn1_core.specs.Der.{IsShort, null, seq, oid, octets, uint, ctx, joined, shortest}
use Rattle.asn1_core.specs.Fields.{OrNothing}
use Rattle.asn1_core.specs.Oid.{oid_octets, oid_of}
use Rattle.asn1_core.specs.Texts.{Perhaps, Uint, Inside}
use Rattle.asn1_core.specs.declared.identifier.ObjectIdentifier.{ObjectIdentifier}
use Rattle.p12.specs.AlgorithmIdentifier.{AlgorithmCase, AlgorithmText}
use Rattle.p12.specs.Attribute.{AttributesText}
use Rattle.p12.specs.Canonical.{algorithm_canon, cert_bag_canon, content_canon, contents_canon, digest_canon, encrypted_data_canon, encrypted_key_canon, mac_canon, params_canon, store_canon}
use Rattle.p12.specs.CertBag.{CertBagCase}
use Rattle.p12.specs.ContentInfo.{ContentCase, ContentText, IsContents}
use Rattle.p12.specs.DigestInfo.{DigestText}
use Rattle.p12.specs.Identifiers.{triple_des_scheme_oid, sha1_oid, data_oid, encrypted_data_oid, x509_certificate_oid, shrouded_key_bag_oid, cert_bag_oid}
use Rattle.p12.specs.MacData.{MacText}
use Rattle.p12.specs.Pfx.{PfxText}
use Rattle.p12.specs.SafeBag.{BagText, KindCase}
use Rattle.p12.proofs.Again.{known, one_left, encrypted_content_of, encrypted_data_of, encrypted_key_of}
use Rattle.p12.proofs.Macs.{made_mac}
use Rattle.p12.specs.declared.algorithm_identifier.AlgorithmIdentifier.{AlgorithmIdentifier}
use Rattle.p12.specs.declared.algorithm_identifier.AlgorithmIdentifier.TheVariants.{Sha1, PbeWithSHAAnd3KeyTripleDESCBC}
use Rattle.p12.specs.declared.pkcs12_pbe_params.Pkcs12PbeParams.{Pkcs12PbeParams}
use Rattle.p12.specs.declared.attribute.PKCS12Attribute.{PKCS12Attribute}
use Rattle.p12.specs.declared.cert_bag.CertBag.TheVariants.{X509}
use Rattle.p12.specs.declared.content_info.ContentInfo.{ContentInfo}
use Rattle.p12.specs.declared.content_info.ContentInfo.TheVariants as content
use Rattle.p12.specs.declared.digest_info.DigestInfo.{DigestInfo}
use Rattle.p12.specs.declared.encrypted_data.EncryptedContentInfo.{EncryptedContentInfo}
use Rattle.p12.specs.declared.encrypted_data.EncryptedData.{EncryptedData}
use Rattle.p12.specs.declared.encrypted_private_key_info.EncryptedPrivateKeyInfo.{EncryptedPrivateKeyInfo}
use Rattle.p12.specs.declared.pfx.PFX.{PFX}
use Rattle.p12.specs.declared.safe_bag.SafeBag.{SafeBag}
use Rattle.p12.specs.declared.safe_bag.SafeBagKind.TheVariants as kind

-- ---- what is encrypted, under a salt and a count

-- the algorithm of all of it
abbrev pub under : List ℕ → ℕ → AlgorithmIdentifier
under salt count = PbeWithSHAAnd3KeyTripleDESCBC (record { salt = salt; iterations = count })

algorithm_made : (salt : List ℕ) (count : ℕ) → count ≤ 2 ^ 64 - 1 → AlgorithmText (algorithm_canon (under salt count)) (under salt count)
algorithm_made salt count le =
    let p : Pkcs12PbeParams = record { salt = salt; iterations = count } in
    known AlgorithmCase (oid_of triple_des_scheme_oid refl) triple_des_scheme_oid (params_canon p) (under salt count) refl
    (refl, (octets salt ++ uint count, (octets salt, uint count, (salt, refl, refl), one_left (Uint (2 ^ 64 - 1)) p (λ p. p.iterations) (uint count) (shortest count, (le, refl), refl), refl), refl))

-- the content of which c is encrypted
abbrev pub sealed : List ℕ → ℕ → List ℕ → ContentInfo
sealed salt count c = content.EncryptedData (record { encrypted_content_info = record { content_encryption_algorithm = under salt count; encrypted_content = c } })

sealed_made : (salt : List ℕ) (count : ℕ) (c : List ℕ) → count ≤ 2 ^ 64 - 1 → ContentText (content_canon (sealed salt count c)) (sealed salt count c)
sealed_made salt count c le =
    let e : EncryptedContentInfo = record { content_encryption_algorithm = under salt count; encrypted_content = c } in
    let d : EncryptedData = record { encrypted_content_info = e } in
    known ContentCase (oid_of encrypted_data_oid refl) encrypted_data_oid (ctx 0 (encrypted_data_canon d)) (sealed salt count c) refl
    (refl, (encrypted_data_canon d, encrypted_data_of d (encrypted_content_of e (algorithm_made salt count le)), refl))

-- ---- both contents

data_made : (v : List ℕ) → ContentText (content_canon (content.Data v)) (content.Data v)
data_made v = known ContentCase (oid_of data_oid refl) data_oid (ctx 0 (octets v)) (content.Data v) refl (refl, (octets v, (v, refl, refl), refl))

-- of the first c is encrypted, the second is v
abbrev pub both : List ℕ → ℕ → List ℕ → List ℕ → List ContentInfo
both salt count c v = sealed salt count c ∷ content.Data v ∷ []

pub both_made : (salt : List ℕ) (count : ℕ) (c v : List ℕ) → count ≤ 2 ^ 64 - 1 → IsShort (contents_canon (both salt count c v)) → IsContents (contents_canon (both salt count c v)) (both salt count c v)
unfolding IsContents
both_made salt count c v le short =
    let one = sealed salt count c in
    let two = content.Data v in
    ((joined (map content_canon (both salt count c v)), (content_canon one, content_canon two ++ [], sealed_made salt count c le, (content_canon two, [], data_made v, refl, refl), refl), refl), short)

-- ---- bags

-- the text of a bag by its identifier, its value and the text of its attributes
abbrev pub bag_text : ObjectIdentifier → List ℕ → List ℕ → List ℕ
bag_text k q a = seq (oid (oid_octets k) ++ (ctx 0 q ++ a))

pub bag_made : (k : ObjectIdentifier) (q a : List ℕ) (g : SafeBag) → KindCase k q g.bag → AttributesText a g.attributes → BagText (bag_text k q a) g
bag_made k q a g r s =
    (oid (oid_octets k) ++ (ctx 0 q ++ a), (oid (oid_octets k), ctx 0 q ++ a, k, (oid_octets k, refl, refl), (ctx 0 q, a, (q, r, refl), one_left AttributesText g (λ g. g.attributes) a s, refl), refl), refl)

pub certificate_made : (v a : List ℕ) (vs : List PKCS12Attribute) → AttributesText a vs
    → BagText (bag_text (oid_of cert_bag_oid refl) (cert_bag_canon (X509 v)) a) (record { bag = kind.CertBag (X509 v); attributes = vs })
certificate_made v a vs s =
    bag_made (oid_of cert_bag_oid refl) (cert_bag_canon (X509 v)) a (record { bag = kind.CertBag (X509 v); attributes = vs })
    (refl, known CertBagCase (oid_of x509_certificate_oid refl) x509_certificate_oid (ctx 0 (octets v)) (X509 v) refl (refl, (octets v, (v, refl, refl), refl))) s

-- the key of which c is encrypted
abbrev pub sealed_key : List ℕ → ℕ → List ℕ → EncryptedPrivateKeyInfo
sealed_key salt count c = record { encryption_algorithm = under salt count; encrypted_data = c }

pub key_made : (salt : List ℕ) (count : ℕ) (c a : List ℕ) (vs : List PKCS12Attribute) → count ≤ 2 ^ 64 - 1 → AttributesText a vs
    → BagText (bag_text (oid_of shrouded_key_bag_oid refl) (encrypted_key_canon (sealed_key salt count c)) a) (record { bag = kind.Pkcs8ShroudedKeyBag (sealed_key salt count c); attributes = vs })
key_made salt count c a vs le s =
    bag_made (oid_of shrouded_key_bag_oid refl) (encrypted_key_canon (sealed_key salt count c)) a (record { bag = kind.Pkcs8ShroudedKeyBag (sealed_key salt count c); attributes = vs })
    (refl, encrypted_key_of (sealed_key salt count c) (algorithm_made salt count le)) s

-- ---- the MAC and the whole store

sha1_made : AlgorithmText (algorithm_canon Sha1) Sha1
sha1_made = known AlgorithmCase (oid_of sha1_oid refl) sha1_oid null Sha1 refl (refl, inr refl)

abbrev under_sha1 : List ℕ → DigestInfo
under_sha1 d = record { digest_algorithm = Sha1; digest = d }

digest_made : (d : List ℕ) → DigestText (digest_canon (under_sha1 d)) (under_sha1 d)
digest_made d =
    let a = algorithm_canon Sha1 in
    (a ++ octets d, (a, octets d, sha1_made, one_left (Inside 0x04) (under_sha1 d) (λ i. i.digest) (octets d) (d, refl, refl), refl), refl)

mac_made : (d salt : List ℕ) (count : ℕ) → count ≤ 2 ^ 32 - 1 → MacText (mac_canon (made_mac Sha1 d salt count)) (made_mac Sha1 d salt count)
mac_made d salt count le =
    let m = made_mac Sha1 d salt count in
    let a = digest_canon m.mac in
    let rest = octets salt ++ uint count in
    (a ++ rest, (a, rest, digest_made d, (octets salt, uint count, (salt, refl, refl), one_left (OrNothing 1 (Uint (2 ^ 32 - 1))) m (λ m. m.iterations) (uint count) (inr (shortest count, (le, refl), refl)), refl), refl), refl)

-- the store over a text, with a MAC of these octets
abbrev pub over : List ℕ → List ℕ → List ℕ → ℕ → PFX
over outer d salt count = record { version = 3; auth_safe = content.Data outer; mac_data = Some (made_mac Sha1 d salt count) }

pub store_made : (outer d salt : List ℕ) (count : ℕ) → count ≤ 2 ^ 32 - 1 → PfxText (store_canon (over outer d salt count)) (over outer d salt count)
store_made outer d salt count le =
    let m = made_mac Sha1 d salt count in
    let s = over outer d salt count in
    let a = content_canon (content.Data outer) in
    (uint 3 ++ (a ++ mac_canon m), (uint 3, a ++ mac_canon m, (shortest 3, (omega arith, refl), refl), (a, mac_canon m, data_made outer, one_left (Perhaps MacText) s (λ s. s.mac_data) (mac_canon m) (mac_made d salt count le), refl), refl), refl)
