-- The parts of a store that was made have texts.
use Rattle.std.proofs.Common.{ℕ, ◌<◌, ◌-◌, ◌^◌, List, [], ◌∷◌, ◌++◌, map, Option, Some, None, refl, sym, subst, inl, inr, arith}
use Rattle.std.specs.Prelude.{All}
use Rattle.std.specs.Str.{IsUtf8}
use Rattle.std.proofs.lemmas.List.Elements.{All-head, All-tail}
use Rattle.asn1_core.specs.Der.{IsShort, el, seq, set, octets, uint, ctx, null, joined, shortest}
use Rattle.asn1_core.specs.Fields.{OrNothing}
use Rattle.asn1_core.specs.Oid.{oid_of}
use Rattle.asn1_core.specs.Sets.{IsRead}
use Rattle.asn1_core.specs.Texts.{Inside, Many, Perhaps, Uint}
use Rattle.asn1_core.specs.Unicode.{Bmp, text_units}
use Rattle.asn1_core.proofs.TextLaws.{bmp_written}
use Rattle.pkcs5.specs.Identifiers.{pbes2_oid}
use Rattle.pkcs5.specs.Parameters.{parameters_content}
use Rattle.pkcs5.specs.ParametersLaws.{parameters_canonical}
use Rattle.pkcs12_kdf.specs.Password.{bmp_password}
use Rattle.p12.specs.AlgorithmIdentifier.{AlgorithmCase, AlgorithmText}
use Rattle.p12.specs.Attribute.{AttributeCase, AttributeText, AttributesText}
use Rattle.p12.specs.Building.{certificate_bag}
use Rattle.p12.specs.Canonical.{algorithm_canon, attribute_canon, bags_canon, cert_bag_canon, content_canon, contents_canon, digest_canon, encrypted_data_canon, encrypted_key_canon, mac_canon, store_canon}
use Rattle.p12.specs.ContentInfo.{ContentCase, ContentText, IsContents}
use Rattle.p12.specs.DigestInfo.{DigestText}
use Rattle.p12.specs.Identifiers.{cert_bag_oid, data_oid, encrypted_data_oid, friendly_name_oid, local_key_id_oid, sha256_oid, shrouded_key_bag_oid}
use Rattle.p12.specs.MacData.{MacText, mac_of, mac_value}
use Rattle.p12.specs.Pfx.{IsStore}
use Rattle.p12.specs.SafeBag.{BagText}
use Rattle.p12.proofs.Again.{encrypted_content_of, encrypted_data_of, encrypted_key_of, known, latest_again, one_left}
use Rattle.p12.proofs.Macs.{made_mac}
use Rattle.p12.proofs.MadeTexts.{bag_made, bag_text, certificate_made}
use Rattle.p12.specs.declared.algorithm_identifier.AlgorithmIdentifier.TheVariants.{Pbes2, Sha256}
use Rattle.p12.specs.declared.attribute.PKCS12Attribute.{PKCS12Attribute}
use Rattle.p12.specs.declared.attribute.PKCS12Attribute.TheVariants.{FriendlyName, LocalKeyId}
use Rattle.p12.specs.declared.cert_bag.CertBag.TheVariants.{X509}
use Rattle.p12.specs.declared.content_info.ContentInfo.{ContentInfo}
use Rattle.p12.specs.declared.content_info.ContentInfo.TheVariants as content
use Rattle.p12.specs.declared.digest_info.DigestInfo.{DigestInfo}
use Rattle.p12.specs.declared.encrypted_data.EncryptedContentInfo.{EncryptedContentInfo}
use Rattle.p12.specs.declared.encrypted_data.EncryptedData.{EncryptedData}
use Rattle.p12.specs.declared.pfx.PFX.{PFX}
use Rattle.p12.specs.declared.safe_bag.SafeBag.{SafeBag}
use Rattle.sha1.specs.Sha1.{sha1}
use Rattle.transfer.specs.Opening.{key_with}
use Rattle.create_core.specs.Bags.{IsCertificateNamedInText, IsNamedInText, IsTextName, KeysSealed, certificate_bags, further_bag, key_bag, name_attributes, own_attributes, own_certificate_bag}
use Rattle.create_core.specs.Created.{sealed_content, store_of, two_contents}
use Rattle.sealing_core.specs.Drawn.{AreOf16}
use Rattle.create_core.specs.Parts.{parameters_under, under}
use Rattle.sealing_core.specs.declared.drawn.IvAndSalt.{IvAndSalt}
use Rattle.create_core.specs.declared.entry.CertificateEntry.{CertificateEntry}
use Rattle.create_core.specs.declared.entry.KeyEntry.{KeyEntry}
use Rattle.create_core.proofs.BagLoops.{are_parameters}

-- ---- attributes

name_made : (t : List ℕ) → IsUtf8 t → AttributeText (attribute_canon (FriendlyName t)) (FriendlyName t)
name_made t u =
    let b = el 0x1e (text_units t) in
    known AttributeCase (oid_of friendly_name_oid refl) friendly_name_oid (set b) (FriendlyName t) refl (refl, (b, latest_again Bmp b t (bmp_written t u), refl))

key_id_made : (v : List ℕ) → AttributeText (attribute_canon (LocalKeyId v)) (LocalKeyId v)
key_id_made v = known AttributeCase (oid_of local_key_id_oid refl) local_key_id_oid (set (octets v)) (LocalKeyId v) refl (refl, (octets v, latest_again (Inside 0x04) (octets v) v (v, refl, refl), refl))

name_read : (name : Option (List ℕ)) → IsTextName name → IsRead AttributesText (name_attributes name)
name_read None u = ([], inl (refl, refl))
name_read (Some t) u =
    let a = attribute_canon (FriendlyName t) in
    (set (a ++ []), inr (a ++ [], (a, [], name_made t u, refl, refl), refl))

own_read : (name : Option (List ℕ)) (v : List ℕ) → IsTextName name → IsRead AttributesText (name_attributes name ++ LocalKeyId v ∷ [])
own_read None v u =
    let b = attribute_canon (LocalKeyId v) in
    (set (b ++ []), inr (b ++ [], (b, [], key_id_made v, refl, refl), refl))
own_read (Some t) v u =
    let a = attribute_canon (FriendlyName t) in
    let b = attribute_canon (LocalKeyId v) in
    (set (a ++ (b ++ [])), inr (a ++ (b ++ []), (a, b ++ [], name_made t u, (b, [], key_id_made v, refl, refl), refl), refl))

-- ---- bags

certificate_read : (vs : List PKCS12Attribute) (v : List ℕ) → IsRead AttributesText vs → IsRead BagText (certificate_bag vs v)
certificate_read vs v (a, s) = (bag_text (oid_of cert_bag_oid refl) (cert_bag_canon (X509 v)) a, certificate_made v a vs s)

algorithm_made : (r : ℕ) (d : IvAndSalt) → r < 2 ^ 32 → AreOf16 d → AlgorithmText (algorithm_canon (under r d)) (under r d)
algorithm_made r d small of =
    let v = parameters_under r d in
    known AlgorithmCase (oid_of pbes2_oid refl) pbes2_oid (seq (parameters_content v)) (Pbes2 v) refl (refl, parameters_canonical v (are_parameters r d small of))

key_read : (r : ℕ) (e : KeyEntry) (d : IvAndSalt) (c : List ℕ) → r < 2 ^ 32 → AreOf16 d → IsNamedInText e → IsRead BagText (key_bag r e d c)
key_read r e d c small of u =
    let own = own_read e.name (sha1 e.certificate) u in
    let k = key_with (under r d) c in (
      bag_text (oid_of shrouded_key_bag_oid refl) (encrypted_key_canon k) own.0,
      bag_made (oid_of shrouded_key_bag_oid refl) (encrypted_key_canon k) own.0 (key_bag r e d c) (refl, encrypted_key_of k (algorithm_made r d small of)) own.1,
    )

more_read : (g : SafeBag) (gs : List SafeBag) → IsRead BagText g → IsRead (Many BagText) gs → IsRead (Many BagText) (g ∷ gs)
more_read g gs (t, r) (b, m) = (t ++ b, (t, b, r, m, refl))

further_read : (certificates : List CertificateEntry) → All IsCertificateNamedInText certificates → IsRead (Many BagText) (map further_bag certificates)
further_read [] u = ([], refl)
further_read (c ∷ certificates) u =
    more_read (further_bag c) (map further_bag certificates) (certificate_read (name_attributes c.name) c.certificate (name_read c.name (All-head IsCertificateNamedInText c certificates u))) (further_read certificates (All-tail IsCertificateNamedInText c certificates u))

pub certificates_read : (keys : List KeyEntry) (certificates : List CertificateEntry) → All IsNamedInText keys → All IsCertificateNamedInText certificates → IsRead (Many BagText) (certificate_bags keys certificates)
certificates_read [] certificates u w = further_read certificates w
certificates_read (e ∷ keys) certificates u w =
    more_read (own_certificate_bag e) (certificate_bags keys certificates) (certificate_read (own_attributes e) e.certificate (own_read e.name (sha1 e.certificate) (All-head IsNamedInText e keys u))) (certificates_read keys certificates (All-tail IsNamedInText e keys u) w)

pub keys_read : (r : ℕ) (p : List ℕ) (es : List KeyEntry) (ds : List IvAndSalt) (gs : List SafeBag) → r < 2 ^ 32 → All AreOf16 ds → All IsNamedInText es → KeysSealed r p es ds gs → IsRead (Many BagText) gs
keys_read r p [] [] [] small of u h = ([], refl)
keys_read r p [] [] (g ∷ gs) small of u h = absurd h
keys_read r p [] (d ∷ ds) gs small of u h = absurd h
keys_read r p (e ∷ es) [] gs small of u h = absurd h
keys_read r p (e ∷ es) (d ∷ ds) [] small of u h = absurd h
keys_read r p (e ∷ es) (d ∷ ds) (g ∷ gs) small of u h =
    let one = key_read r e d h.0.ciphertext small (All-head AreOf16 d ds of) (All-head IsNamedInText e es u) in
    more_read g gs (subst (λ (x : SafeBag). IsRead BagText x) (sym h.0.is) one) (keys_read r p es ds gs small (All-tail AreOf16 d ds of) (All-tail IsNamedInText e es u) h.1)

-- ---- contents

sealed_made : (r : ℕ) (d : IvAndSalt) (c : List ℕ) → r < 2 ^ 32 → AreOf16 d → ContentText (content_canon (sealed_content r d c)) (sealed_content r d c)
sealed_made r d c small of =
    let e : EncryptedContentInfo = record { content_encryption_algorithm = under r d; encrypted_content = c } in
    let v : EncryptedData = record { encrypted_content_info = e } in
    known ContentCase (oid_of encrypted_data_oid refl) encrypted_data_oid (ctx 0 (encrypted_data_canon v)) (sealed_content r d c) refl
    (refl, (encrypted_data_canon v, encrypted_data_of v (encrypted_content_of e (algorithm_made r d small of)), refl))

data_made : (v : List ℕ) → ContentText (content_canon (content.Data v)) (content.Data v)
data_made v = known ContentCase (oid_of data_oid refl) data_oid (ctx 0 (octets v)) (content.Data v) refl (refl, (octets v, (v, refl, refl), refl))

pub two_made : (r : ℕ) (d : IvAndSalt) (c : List ℕ) (gs : List SafeBag) → r < 2 ^ 32 → AreOf16 d → IsShort (contents_canon (two_contents r d c gs)) → IsContents (contents_canon (two_contents r d c gs)) (two_contents r d c gs)
unfolding IsContents
two_made r d c gs small of short =
    let one = sealed_content r d c in
    let two = content.Data (bags_canon gs) in
    ((joined (map content_canon (two_contents r d c gs)), (content_canon one, content_canon two ++ [], sealed_made r d c small of, (content_canon two, [], data_made (bags_canon gs), refl, refl), refl), refl), short)

-- ---- the MAC and the store

sha256_made : AlgorithmText (algorithm_canon Sha256) Sha256
sha256_made = known AlgorithmCase (oid_of sha256_oid refl) sha256_oid null Sha256 refl (refl, inr refl)

digest_made : (v : List ℕ) → DigestText (digest_canon (made_mac Sha256 v [] 0).mac) (made_mac Sha256 v [] 0).mac
digest_made v =
    let a = algorithm_canon Sha256 in
    (a ++ octets v, (a, octets v, sha256_made, one_left (Inside 0x04) (made_mac Sha256 v [] 0).mac (λ (i : DigestInfo). i.digest) (octets v) (v, refl, refl), refl), refl)

mac_made : (v salt : List ℕ) (count : ℕ) → count < 2 ^ 32 → MacText (mac_canon (made_mac Sha256 v salt count)) (made_mac Sha256 v salt count)
mac_made v salt count small =
    let m = made_mac Sha256 v salt count in
    let a = digest_canon m.mac in
    let rest = octets salt ++ uint count in
    (a ++ rest, (a, rest, digest_made v, (octets salt, uint count, (salt, refl, refl), one_left (OrNothing 1 (Uint (2 ^ 32 - 1))) m (λ m. m.iterations) (uint count) (inr (shortest count, (omega (arith, small), refl), refl)), refl), refl), refl)

pub store_made : (r : ℕ) (p salt : List ℕ) (cs : List ContentInfo) → r < 2 ^ 32 → IsShort (store_canon (store_of r p salt cs)) → IsStore (store_canon (store_of r p salt cs)) (store_of r p salt cs)
unfolding IsStore mac_of
store_made r p salt cs small short =
    let m = made_mac Sha256 (mac_value Sha256 (bmp_password p) salt r (contents_canon cs)) salt r in
    let s : PFX = store_of r p salt cs in
    let a = content_canon (content.Data (contents_canon cs)) in
    ((uint 3 ++ (a ++ mac_canon m), (uint 3, a ++ mac_canon m, (shortest 3, (omega arith, refl), refl), (a, mac_canon m, data_made (contents_canon cs), one_left (Perhaps MacText) s (λ (s : PFX). s.mac_data) (mac_canon m) (mac_made _ salt r small), refl), refl), refl), short)
