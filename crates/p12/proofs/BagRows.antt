-- Bags and their attributes are read exactly.
use Rattle.std.proofs.Common.{ℕ, List, [], refl, sym, ap, subst, inl, inr}
use Rattle.std.proofs.Common.{Ok}
use Rattle.asn1_core.specs.Reading.{◌>>=◌, raw_at}
use Rattle.asn1_core.specs.Texts.{Exact, ExactAll, Made, Within, Inside, Raw, Many}
use Rattle.asn1_core.specs.Oid.{oid_octets}
use Rattle.asn1_core.specs.declared.identifier.ObjectIdentifier.{ObjectIdentifier}
use Rattle.asn1_core.specs.ExactLaws.{same-exact, bind_ok, ok_is}
use Rattle.asn1_core.specs.Texts.{Taken}
use Rattle.asn1_core.specs.ElementLaws.{inside-exact, raw-exact}
use Rattle.asn1_core.specs.Fields.{ByCase, Never, Latest}
use Rattle.asn1_core.specs.FieldLaws.{sequence, field, end, last, choice, no_more, variant, latest-exact, or_nothing-exact, explicit, inside, fields, identified, set_of, within_some, raw_some, all_of}
use Rattle.asn1_core.specs.Unicode.{Bmp, Ia5}
use Rattle.asn1_core.proofs.UnicodeLaws.{bmp-exact, ia5-exact}
use Rattle.p12.specs.Identifiers.{friendly_name_oid, local_key_id_oid, x509_certificate_oid, sdsi_certificate_oid, shrouded_key_bag_oid, cert_bag_oid}
use Rattle.p12.specs.EncryptedPrivateKeyInfo.{EncryptedKeyText}
use Rattle.p12.specs.CertBag.{CertBagCase, CertBagText}
use Rattle.p12.specs.Attribute.{AttributeCase, AttributeText, AttributesText}
use Rattle.p12.specs.SafeBag.{KindCase, KindText, BagText}
use Rattle.p12.specs.Reading.{encrypted_key_at, cert_bag_all, cert_bag_at, attribute_all, attribute_at, attributes_all, kind_all, kind_at, bag_at, bags_at}
use Rattle.p12.proofs.AlgorithmRows.{another, algorithm-exact}
use Rattle.p12.specs.declared.algorithm_identifier.AlgorithmIdentifier.{AlgorithmIdentifier}
use Rattle.p12.specs.declared.encrypted_private_key_info.EncryptedPrivateKeyInfo.{EncryptedPrivateKeyInfo}
use Rattle.p12.specs.declared.cert_bag.CertBag.{CertBag}
use Rattle.p12.specs.declared.cert_bag.CertBag.TheVariants.{X509, SDSI}
use Rattle.p12.specs.declared.attribute.PKCS12Attribute.{PKCS12Attribute}
use Rattle.p12.specs.declared.attribute.PKCS12Attribute.TheVariants.{FriendlyName, LocalKeyId, Other}
use Rattle.p12.specs.declared.safe_bag.SafeBagKind.{SafeBagKind}
use Rattle.p12.specs.declared.safe_bag.SafeBagKind.TheVariants as kind
use Rattle.p12.specs.declared.safe_bag.SafeBag.{SafeBag}

-- ---- encrypted keys

abbrev made_key : AlgorithmIdentifier → List ℕ → EncryptedPrivateKeyInfo
made_key a v = record { encryption_algorithm = a; encrypted_data = v }

pub encrypted_key-exact : Exact EncryptedKeyText encrypted_key_at
unfolding encrypted_key_at
encrypted_key-exact = sequence 0x30 refl (field (λ e. e.encryption_algorithm) algorithm-exact (λ a. field (λ e. e.encrypted_data) (inside-exact 0x04 refl) (λ v. end (made_key a v) ((tt, refl), refl) (λ w c i. made_key (c.0.1 i) (c.1 i)))))

-- ---- certificates

abbrev CertChoice : ObjectIdentifier → List ℕ → CertBag → Type 0
CertChoice k = ByCase (oid_octets k) x509_certificate_oid (Made X509 (Within 0xa0 (Inside 0x04))) (ByCase (oid_octets k) sdsi_certificate_oid (Made SDSI (Within 0xa0 Ia5)) Never)

cert_to : (k : ObjectIdentifier) (q : List ℕ) (v : CertBag) → CertChoice k q v → CertBagCase k q v
cert_to k q v (inl (is, (o, r, e))) = subst (CertBagCase k q) (sym e) (is, r)
cert_to k q v (inr (ne, inl (is, (o, r, e)))) = subst (CertBagCase k q) (sym e) (is, r)
cert_to k q v (inr (ne, inr (nf, r))) = absurd r

cert_from : (k : ObjectIdentifier) (q : List ℕ) (v : CertBag) → CertBagCase k q v → CertChoice k q v
cert_from k q (X509 v) (is, r) = inl (is, (v, r, refl))
cert_from k q (SDSI v) (is, r) = inr (another (oid_octets k) sdsi_certificate_oid x509_certificate_oid is refl, inl (is, (v, r, refl)))

cert_case-exact : (k : ObjectIdentifier) → ExactAll (CertBagCase k) (cert_bag_all k)
cert_case-exact k =
    same-exact (CertChoice k) (CertBagCase k) _ (cert_to k) (cert_from k) (choice (oid_octets k) x509_certificate_oid (variant X509 (all_of (explicit 0xa0 refl (inside-exact 0x04 refl))))
    (choice (oid_octets k) sdsi_certificate_oid (variant SDSI (all_of (explicit 0xa0 refl ia5-exact))) no_more))

pub cert_bag-exact : Exact CertBagText cert_bag_at
unfolding cert_bag_at
cert_bag-exact = identified cert_case-exact

-- ---- attributes

abbrev other_attribute : ObjectIdentifier → List (List ℕ) → PKCS12Attribute
other_attribute k vs = Other (record { oid = k; values = vs })

abbrev AttributeChoice : ObjectIdentifier → List ℕ → PKCS12Attribute → Type 0
AttributeChoice k =
    ByCase (oid_octets k) friendly_name_oid (Made FriendlyName (Within 0x31 (Latest Bmp))) (ByCase (oid_octets k) local_key_id_oid (Made LocalKeyId (Within 0x31 (Latest (Inside 0x04)))) (Made (other_attribute k) (Within 0x31 (Many Raw))))

attribute_to : (k : ObjectIdentifier) (q : List ℕ) (v : PKCS12Attribute) → AttributeChoice k q v → AttributeCase k q v
attribute_to k q v (inl (is, (o, r, e))) = subst (AttributeCase k q) (sym e) (is, r)
attribute_to k q v (inr (ne, inl (is, (o, r, e)))) = subst (AttributeCase k q) (sym e) (is, r)
attribute_to k q v (inr (ne, inr (nf, (o, r, e)))) = subst (AttributeCase k q) (sym e) (ne, nf, refl, r)

attribute_from : (k : ObjectIdentifier) (q : List ℕ) (v : PKCS12Attribute) → AttributeCase k q v → AttributeChoice k q v
attribute_from k q (FriendlyName t) (is, r) = inl (is, (t, r, refl))
attribute_from k q (LocalKeyId v) (is, r) = inr (another (oid_octets k) local_key_id_oid friendly_name_oid is refl, inl (is, (v, r, refl)))
attribute_from k q (Other o) (ne, nf, is, r) = inr (ne, inr (nf, (o.values, r, ap (λ (t : ObjectIdentifier). other_attribute t o.values) is)))

attribute_case-exact : (k : ObjectIdentifier) → ExactAll (AttributeCase k) (attribute_all k)
attribute_case-exact k =
    same-exact (AttributeChoice k) (AttributeCase k) _ (attribute_to k) (attribute_from k) (choice (oid_octets k) friendly_name_oid (variant FriendlyName (all_of (inside 0x31 refl (latest-exact bmp-exact (within_some 0x1e _)))))
    (choice (oid_octets k) local_key_id_oid (variant LocalKeyId (all_of (inside 0x31 refl (latest-exact (inside-exact 0x04 refl) (within_some 0x04 _))))) (variant (other_attribute k) (all_of (set_of 0x31 refl raw-exact raw_some)))))

pub attribute-exact : Exact AttributeText attribute_at
unfolding attribute_at
attribute-exact = identified attribute_case-exact

attributes-exact : ExactAll AttributesText attributes_all
attributes-exact = or_nothing-exact [] (within_some 0x31 (Many AttributeText)) (all_of (set_of 0x31 refl attribute-exact (within_some 0x30 _)))

-- ---- bags

abbrev other_kind : ObjectIdentifier → List ℕ → SafeBagKind
other_kind k e = kind.OtherBagKind (record { bag_id = k; bag_value = e })

abbrev KindChoice : ObjectIdentifier → List ℕ → SafeBagKind → Type 0
KindChoice k = ByCase (oid_octets k) cert_bag_oid (Made kind.CertBag CertBagText) (ByCase (oid_octets k) shrouded_key_bag_oid (Made kind.Pkcs8ShroudedKeyBag EncryptedKeyText) (Made (other_kind k) Raw))

kind_to : (k : ObjectIdentifier) (q : List ℕ) (v : SafeBagKind) → KindChoice k q v → KindCase k q v
kind_to k q v (inl (is, (o, r, e))) = subst (KindCase k q) (sym e) (is, r)
kind_to k q v (inr (ne, inl (is, (o, r, e)))) = subst (KindCase k q) (sym e) (is, r)
kind_to k q v (inr (ne, inr (nf, (o, r, e)))) = subst (KindCase k q) (sym e) (ne, nf, refl, r)

kind_from : (k : ObjectIdentifier) (q : List ℕ) (v : SafeBagKind) → KindCase k q v → KindChoice k q v
kind_from k q (kind.CertBag c) (is, r) = inl (is, (c, r, refl))
kind_from k q (kind.Pkcs8ShroudedKeyBag e) (is, r) = inr (another (oid_octets k) shrouded_key_bag_oid cert_bag_oid is refl, inl (is, (e, r, refl)))
kind_from k q (kind.OtherBagKind o) (ne, nf, is, r) = inr (ne, inr (nf, (o.bag_value, r, ap (λ (t : ObjectIdentifier). other_kind t o.bag_value) is)))

pub kind-exact : (k : ObjectIdentifier) → ExactAll (KindCase k) (kind_all k)
kind-exact k =
    same-exact (KindChoice k) (KindCase k) _ (kind_to k) (kind_from k) (choice (oid_octets k) cert_bag_oid (variant kind.CertBag (all_of cert_bag-exact)) (choice (oid_octets k) shrouded_key_bag_oid (variant kind.Pkcs8ShroudedKeyBag (all_of encrypted_key-exact)) (variant (other_kind k) (all_of raw-exact))))

abbrev made_bag : SafeBagKind → List PKCS12Attribute → SafeBag
made_bag x vs = record { bag = x; attributes = vs }

pub bag-exact : Exact BagText bag_at
unfolding bag_at
bag-exact = identified (λ k. fields (field (λ g. g.bag) (inside 0xa0 refl (kind-exact k)) (λ x. last (λ g. g.attributes) (made_bag x) attributes-exact (λ vs. ((tt, refl), refl)) (λ w c i. made_bag (c.1 i) w.attributes))))

pub bags-exact : Exact (Within 0x30 (Many BagText)) bags_at
unfolding bags_at
bags-exact = set_of 0x30 refl bag-exact (within_some 0x30 _)

-- ---- a bag's value by itself

pub kind_front-exact : (k : ObjectIdentifier) → Exact (KindText k) (kind_at k)
kind_front-exact k = record {
  found = λ b v rest e.
      let x = bind_ok (raw_at b) (λ x. kind_all k x.0 >>= λ v. Ok (v, x.1)) (v, rest) e in
      let y = bind_ok (kind_all k x.0.0) (λ v. Ok (v, x.0.1)) (v, rest) x.2 in
      let f = raw-exact.found b x.0.0 x.0.1 x.1 in
      let holds : KindCase k f.text y.0 = subst (λ (t : List ℕ). KindCase k t y.0) f.holds.0 ((kind-exact k).found x.0.0 y.0 y.1) in
      let made : Taken (KindText k) b y.0 x.0.1 = record { text = f.text; holds = (holds, f.holds.1); short = f.short; is = f.is } in
      subst (λ (z : SafeBagKind × List ℕ). Taken (KindText k) b z.0 z.1) (ok_is (y.0, x.0.1) (v, rest) y.2) made;
  again = λ t v rest r short. rw (raw-exact.again t t rest (refl, r.1) short, (kind-exact k).again t v r.0 short) refl;
}
