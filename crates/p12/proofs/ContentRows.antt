-- Contents and stores are read exactly.
use Rattle.std.proofs.Common.{◌≡◌, ℕ, List, Option, refl, sym, ap, subst, ◌∙◌, inl, inr, IsTrue, nat_eq}
use Rattle.std.specs.Str.{bytes_eq}
use Rattle.std.proofs.lemmas.Slice.Eq.{bytes_eq-Decides}
use Rattle.std.proofs.lemmas.Bool.{eqb-true}
use Rattle.asn1_core.specs.Texts.{Exact, ExactAll, Made, Within, Inside, Raw, Many}
use Rattle.asn1_core.specs.Oid.{oid_octets, same_oid, octets-oid_of}
use Rattle.asn1_core.specs.declared.identifier.ObjectIdentifier.{ObjectIdentifier}
use Rattle.asn1_core.specs.ExactLaws.{same-exact}
use Rattle.asn1_core.specs.ElementLaws.{inside-exact, raw-exact, oid-exact}
use Rattle.asn1_core.specs.NumberLaws.{uint-exact}
use Rattle.asn1_core.specs.Fields.{ByCase}
use Rattle.asn1_core.specs.FieldLaws.{sequence, field, end, last, choice, variant, the-exact, explicit, identified, set_of, within_some, all_of, if_there}
use Rattle.p12.specs.Identifiers.{data_oid, encrypted_data_oid, data_identifier}
use Rattle.p12.specs.EncryptedData.{EncryptedContentText, EncryptedDataText}
use Rattle.p12.specs.ContentInfo.{ContentCase, ContentText}
use Rattle.p12.specs.Pfx.{PfxText}
use Rattle.p12.specs.Reading.{encrypted_content_at, encrypted_data_at, content_all, content_at, contents_at, pfx_at}
use Rattle.p12.proofs.AlgorithmRows.{another, algorithm-exact, mac-exact}
use Rattle.p12.specs.declared.algorithm_identifier.AlgorithmIdentifier.{AlgorithmIdentifier}
use Rattle.p12.specs.declared.encrypted_data.EncryptedContentInfo.{EncryptedContentInfo}
use Rattle.p12.specs.declared.encrypted_data.EncryptedData.{EncryptedData}
use Rattle.p12.specs.declared.content_info.ContentInfo.{ContentInfo}
use Rattle.p12.specs.declared.content_info.ContentInfo.TheVariants as content
use Rattle.p12.specs.declared.mac_data.MacData.{MacData}
use Rattle.p12.specs.declared.pfx.PFX.{PFX}

-- ---- encrypted contents

abbrev made_encrypted : AlgorithmIdentifier → List ℕ → EncryptedContentInfo
made_encrypted a v = record { content_encryption_algorithm = a; encrypted_content = v }

data_octets : oid_octets data_identifier ≡ data_oid
data_octets = octets-oid_of data_oid refl

is_data : (o : ObjectIdentifier) → IsTrue (bytes_eq (oid_octets o) data_oid) → o ≡ data_identifier
is_data o t = same_oid o data_identifier ((bytes_eq-Decides (oid_octets o) data_oid).0 t ∙ sym data_octets)

data_is : IsTrue (bytes_eq (oid_octets data_identifier) data_oid)
data_is = (bytes_eq-Decides (oid_octets data_identifier) data_oid).1 data_octets

pub encrypted_content-exact : Exact EncryptedContentText encrypted_content_at
unfolding encrypted_content_at
encrypted_content-exact =
    sequence 0x30 refl (field (λ e. tt) (the-exact (λ o. bytes_eq (oid_octets o) data_oid) data_identifier is_data data_is oid-exact) (λ u. field (λ e. e.content_encryption_algorithm) algorithm-exact (λ a. field (λ e. e.encrypted_content) (inside-exact 0x80 refl) (λ v.
    end (made_encrypted a v) (((tt, refl), refl), refl) (λ w c i. made_encrypted (c.0.1 i) (c.1 i))))))

abbrev made_data : EncryptedContentInfo → EncryptedData
made_data e = record { encrypted_content_info = e }

pub encrypted_data-exact : Exact EncryptedDataText encrypted_data_at
unfolding encrypted_data_at
encrypted_data-exact =
    sequence 0x30 refl (field (λ e. tt) (the-exact (λ n. nat_eq n 0) 0 (λ n t. eqb-true n 0 t) refl (uint-exact 0xff)) (λ u. field (λ e. e.encrypted_content_info) encrypted_content-exact (λ e. end (made_data e) ((tt, refl), refl) (λ w c i. made_data (c.1 i)))))

-- ---- contents

abbrev other_content : ObjectIdentifier → List ℕ → ContentInfo
other_content k e = content.OtherContext (record { content_type = k; content = e })

abbrev ContentChoice : ObjectIdentifier → List ℕ → ContentInfo → Type 0
ContentChoice k = ByCase (oid_octets k) data_oid (Made content.Data (Within 0xa0 (Inside 0x04))) (ByCase (oid_octets k) encrypted_data_oid (Made content.EncryptedData (Within 0xa0 EncryptedDataText)) (Made (other_content k) (Within 0xa0 Raw)))

content_to : (k : ObjectIdentifier) (q : List ℕ) (v : ContentInfo) → ContentChoice k q v → ContentCase k q v
content_to k q v (inl (is, (o, r, e))) = subst (ContentCase k q) (sym e) (is, r)
content_to k q v (inr (ne, inl (is, (o, r, e)))) = subst (ContentCase k q) (sym e) (is, r)
content_to k q v (inr (ne, inr (nf, (o, r, e)))) = subst (ContentCase k q) (sym e) (ne, nf, refl, r)

content_from : (k : ObjectIdentifier) (q : List ℕ) (v : ContentInfo) → ContentCase k q v → ContentChoice k q v
content_from k q (content.Data v) (is, r) = inl (is, (v, r, refl))
content_from k q (content.EncryptedData e) (is, r) = inr (another (oid_octets k) encrypted_data_oid data_oid is refl, inl (is, (e, r, refl)))
content_from k q (content.OtherContext o) (ne, nf, is, r) = inr (ne, inr (nf, (o.content, r, ap (λ (t : ObjectIdentifier). other_content t o.content) is)))

content_case-exact : (k : ObjectIdentifier) → ExactAll (ContentCase k) (content_all k)
content_case-exact k =
    same-exact (ContentChoice k) (ContentCase k) _ (content_to k) (content_from k) (choice (oid_octets k) data_oid (variant content.Data (all_of (explicit 0xa0 refl (inside-exact 0x04 refl))))
    (choice (oid_octets k) encrypted_data_oid (variant content.EncryptedData (all_of (explicit 0xa0 refl encrypted_data-exact))) (variant (other_content k) (all_of (explicit 0xa0 refl raw-exact)))))

pub content-exact : Exact ContentText content_at
unfolding content_at
content-exact = identified content_case-exact

pub contents-exact : Exact (Within 0x30 (Many ContentText)) contents_at
unfolding contents_at
contents-exact = set_of 0x30 refl content-exact (within_some 0x30 _)

-- ---- stores

abbrev made_store : ℕ → ContentInfo → Option MacData → PFX
made_store n c m = record { version = n; auth_safe = c; mac_data = m }

pub pfx-exact : Exact PfxText pfx_at
unfolding pfx_at
pfx-exact =
    sequence 0x30 refl (field (λ s. s.version) (uint-exact 0xff) (λ n. field (λ s. s.auth_safe) content-exact (λ c.
    last (λ s. s.mac_data) (made_store n c) (if_there mac-exact (within_some 0x30 _)) (λ m. (((tt, refl), refl), refl)) (λ w c i. made_store (c.0.1 i) (c.1 i) w.mac_data))))
