-- What is written of a value that some text has is read again.
use Rattle.std.proofs.Common.{◌≡◌, ℕ, suc, ◌-◌, ◌^◌, List, [], ◌∷◌, ◌++◌, map, length, Option, Some, None, refl, sym, ap, subst, ◌∙◌, inl, inr, arith, append-nil}
use Rattle.std.proofs.lemmas.List.{map-id}
use Rattle.std.proofs.lemmas.List.Sorted.{IsPermutation-refl, IsPermutation-trans, IsPermutation-map, length_permutation}
use Rattle.std.proofs.lemmas.List.Elements.{All-nil, All-cons}
use Rattle.std.specs.Prelude.{All, IsPermutation}
use Rattle.asn1_core.specs.Der.{IsElement, el, seq, set, oid, octets, uint, ctx, pctx, null, joined, shortest}
use Rattle.asn1_core.specs.Oid.{oid_octets}
use Rattle.asn1_core.specs.Texts.{On, Within, Many, Perhaps, Raw, Uint, Inside, Oid}
use Rattle.asn1_core.specs.Fields.{Field, End, Sequence, OrNothing, Latest}
use Rattle.asn1_core.specs.Sets.{Each, SameSet, Decodes, IsRead, in_order}
use Rattle.asn1_core.specs.Unicode.{Bmp, text_units}
use Rattle.asn1_core.specs.declared.identifier.ObjectIdentifier.{ObjectIdentifier}
use Rattle.asn1_core.proofs.SetLaws.{spelled_set, in_order-permutes, in_order-sorted, sorted_is_in_order, same_nothing}
use Rattle.asn1_core.proofs.TextLaws.{bmp_written}
use Rattle.der_core.specs.Optional.{canon_option, writable_option}
use Rattle.pkcs5.specs.Identifiers.{pbes2_oid}
use Rattle.pkcs5.specs.Parameters.{parameters_content}
use Rattle.pkcs5.specs.ParametersLaws.{parameters_canonical, parameters_spelled}
use Rattle.p12.specs.Identifiers.{sha1_oid, sha256_oid, rc2_scheme_oid, triple_des_scheme_oid, data_oid, encrypted_data_oid, friendly_name_oid, local_key_id_oid, x509_certificate_oid, sdsi_certificate_oid}
use Rattle.p12.specs.AlgorithmIdentifier.{AlgorithmCase, AlgorithmText, ParamsText}
use Rattle.p12.specs.DigestInfo.{DigestText}
use Rattle.p12.specs.MacData.{MacText}
use Rattle.p12.specs.EncryptedData.{EncryptedContentText, EncryptedDataText}
use Rattle.p12.specs.ContentInfo.{ContentCase, ContentText}
use Rattle.p12.specs.EncryptedPrivateKeyInfo.{EncryptedKeyText}
use Rattle.p12.specs.CertBag.{CertBagCase, CertBagText}
use Rattle.p12.specs.Attribute.{AttributeCase, AttributeText, AttributesText}
use Rattle.p12.specs.SafeBag.{BagText, KindCase, KindText, kind_oid}
use Rattle.p12.specs.Pfx.{PfxText}
use Rattle.p12.specs.Same.{CanBeWritten, IsReadAgain, IsReadAsSame, SameAttribute, SameBag}
use Rattle.p12.specs.Canonical.{WritableAlgorithm, WritableAttribute, WritableBag, WritableCertBag, WritableContent, WritableDigest, WritableEncryptedContent, WritableEncryptedData, WritableKey, WritableKind, WritableMac, WritableStore, params_canon, algorithm_canon, digest_canon, mac_canon, encrypted_content_canon, encrypted_data_canon, content_canon, contents_canon, encrypted_key_canon, cert_bag_canon, set_of, attribute_canon, attributes_canon, kind_canon, bag_canon, bags_canon, store_canon}
use Rattle.p12.specs.declared.algorithm_identifier.AlgorithmIdentifier.TheVariants.{Sha1, Sha256, PbewithSHAAnd40BitRC2CBC, PbeWithSHAAnd3KeyTripleDESCBC, Pbes2, OtherAlg}
use Rattle.p12.specs.declared.content_info.ContentInfo.TheVariants as content
use Rattle.p12.specs.declared.encrypted_data.EncryptedContentInfo.{EncryptedContentInfo}
use Rattle.p12.specs.declared.encrypted_data.EncryptedData.{EncryptedData}
use Rattle.p12.specs.declared.encrypted_private_key_info.EncryptedPrivateKeyInfo.{EncryptedPrivateKeyInfo}
use Rattle.p12.specs.declared.mac_data.MacData.{MacData}
use Rattle.p12.specs.declared.cert_bag.CertBag.TheVariants.{X509, SDSI}
use Rattle.p12.specs.declared.attribute.OtherAttribute.{OtherAttribute}
use Rattle.p12.specs.declared.attribute.PKCS12Attribute.{PKCS12Attribute}
use Rattle.p12.specs.declared.attribute.PKCS12Attribute.TheVariants.{FriendlyName, LocalKeyId, Other}
use Rattle.p12.specs.declared.safe_bag.SafeBag.{SafeBag}
use Rattle.p12.specs.declared.safe_bag.SafeBagKind.{SafeBagKind}
use Rattle.p12.specs.declared.safe_bag.SafeBagKind.TheVariants as kind

-- ---- how rows are put together

-- the last part of a row
pub one_left : {A W : Type 0} (R : List ℕ → A → Type 0) (w : W) (get : W → A) (t : List ℕ) → R t (get w) → Field R get End t w
one_left R w get t r = (t, [], r, refl, sym (append-nil t))

-- what comes after a known identifier
pub known : {A : Type 0} (Case : ObjectIdentifier → List ℕ → A → Type 0) (k : ObjectIdentifier) (name q : List ℕ) (v : A) → oid_octets k ≡ name → Case k q v
    → Sequence (On Oid Case) (seq (oid name ++ q)) v
known Case k name q v is c = (oid name ++ q, (oid name, q, k, (name, sym is, refl), c, refl), refl)

pub uint_again : (max n : ℕ) (b : List ℕ) → Uint max b n → Uint max (uint n) n
uint_again max n b (p, (le, is), e) = (shortest n, (le, refl), refl)

pub raw_is : (q : List ℕ) (o : Option (List ℕ)) → Perhaps Raw q o → q ≡ canon_option (λ e. e) o
raw_is q None r = r
raw_is q (Some v) r = sym r.0

pub many_again : {A : Type 0} (R : List ℕ → A → Type 0) (canon : A → List ℕ) → IsReadAgain R canon → (b : List ℕ) (vs : List A) → Many R b vs → Many R (joined (map canon vs)) vs
many_again R canon h b [] m = refl
many_again R canon h b (v ∷ vs) (p, q, r, m, e) = (canon v, joined (map canon vs), h v (p, r), many_again R canon h q vs m, refl)

-- ---- algorithms and the MAC

pub params_again : IsReadAgain ParamsText params_canon
params_again p (t, (w, (x, y, r, (u, z, s, e2, e1), e), e0)) =
    (octets p.salt ++ uint p.iterations, (octets p.salt, uint p.iterations, (p.salt, refl, refl), one_left (Uint (2 ^ 64 - 1)) p (λ p. p.iterations) (uint p.iterations) (uint_again (2 ^ 64 - 1) p.iterations u s), refl), refl)

pub algorithm_again : IsReadAgain AlgorithmText algorithm_canon
algorithm_again Sha1 (t, (w, (p, q, k, o, (is, r), e), e0)) = known AlgorithmCase k sha1_oid null Sha1 is (is, inr refl)
algorithm_again Sha256 (t, (w, (p, q, k, o, (is, r), e), e0)) = known AlgorithmCase k sha256_oid null Sha256 is (is, inr refl)
algorithm_again (PbewithSHAAnd40BitRC2CBC v) (t, (w, (p, q, k, o, (is, r), e), e0)) =
    known AlgorithmCase k rc2_scheme_oid (params_canon v) (PbewithSHAAnd40BitRC2CBC v) is (is, params_again v (q, r))
algorithm_again (PbeWithSHAAnd3KeyTripleDESCBC v) (t, (w, (p, q, k, o, (is, r), e), e0)) =
    known AlgorithmCase k triple_des_scheme_oid (params_canon v) (PbeWithSHAAnd3KeyTripleDESCBC v) is (is, params_again v (q, r))
algorithm_again (Pbes2 v) (t, (w, (p, q, k, o, (is, r), e), e0)) =
    known AlgorithmCase k pbes2_oid (seq (parameters_content v)) (Pbes2 v) is (is, parameters_canonical v ((parameters_spelled q v).0 r).0)
algorithm_again (OtherAlg v) (t, (w, (p, q, k, o, c, e), e0)) =
    known AlgorithmCase k (oid_octets v.algorithm_type) (canon_option (λ e. e) v.params) (OtherAlg v) (ap oid_octets (sym c.5)) (subst (λ (x : List ℕ). AlgorithmCase k x (OtherAlg v)) (raw_is q v.params c.6) c)

pub digest_again : IsReadAgain DigestText digest_canon
digest_again d (t, (w, (x, y, r, s, e), e0)) =
    let a = algorithm_canon d.digest_algorithm in
    (a ++ octets d.digest, (a, octets d.digest, algorithm_again d.digest_algorithm (x, r), one_left (Inside 0x04) d (λ d. d.digest) (octets d.digest) (d.digest, refl, refl), refl), refl)

abbrev pub Count : List ℕ → ℕ → Type 0
Count = OrNothing 1 (Uint (2 ^ 32 - 1))

pub count_again : (b : List ℕ) (n : ℕ) → Count b n → Count (uint n) n
count_again b n (inl (e, is)) = inr (shortest n, (omega (arith, is), refl), refl)
count_again b n (inr u) = inr (uint_again (2 ^ 32 - 1) n b u)

pub mac_again : IsReadAgain MacText mac_canon
mac_again m (t, (w, (x, y, r, (x2, y2, s, (x3, y3, n, e3, e2), e1), e), e0)) =
    let a = digest_canon m.mac in
    let rest = octets m.salt ++ uint m.iterations in
    (a ++ rest, (a, rest, digest_again m.mac (x, r), (octets m.salt, uint m.iterations, (m.salt, refl, refl), one_left Count m (λ m. m.iterations) (uint m.iterations) (count_again x3 m.iterations n), refl), refl), refl)

-- ---- contents

pub encrypted_content_of : (c : EncryptedContentInfo) → AlgorithmText (algorithm_canon c.content_encryption_algorithm) c.content_encryption_algorithm → EncryptedContentText (encrypted_content_canon c) c
encrypted_content_of c r =
    let a = algorithm_canon c.content_encryption_algorithm in
    let v = pctx 0 c.encrypted_content in
    (oid data_oid ++ (a ++ v), (oid data_oid, a ++ v, (data_oid, refl, refl), (a, v, r, one_left (Inside 0x80) c (λ e. e.encrypted_content) v (c.encrypted_content, refl, refl), refl), refl), refl)

pub encrypted_content_again : IsReadAgain EncryptedContentText encrypted_content_canon
encrypted_content_again c (t, (w, (x, y, r, (x2, y2, s, z, e1), e), e0)) = encrypted_content_of c (algorithm_again c.content_encryption_algorithm (x2, s))

pub encrypted_data_of : (c : EncryptedData) → EncryptedContentText (encrypted_content_canon c.encrypted_content_info) c.encrypted_content_info → EncryptedDataText (encrypted_data_canon c) c
encrypted_data_of c r =
    let a = encrypted_content_canon c.encrypted_content_info in
    (uint 0 ++ a, (uint 0, a, (shortest 0, (omega arith, refl), refl), one_left EncryptedContentText c (λ e. e.encrypted_content_info) a r, refl), refl)

pub encrypted_data_again : IsReadAgain EncryptedDataText encrypted_data_canon
encrypted_data_again c (t, (w, (x, y, r, (x2, y2, s, e2, e1), e), e0)) = encrypted_data_of c (encrypted_content_again c.encrypted_content_info (x2, s))

pub content_again : IsReadAgain ContentText content_canon
content_again (content.Data v) (t, (w, (p, q, k, o, (is, r), e), e0)) =
    known ContentCase k data_oid (ctx 0 (octets v)) (content.Data v) is (is, (octets v, (v, refl, refl), refl))
content_again (content.EncryptedData d) (t, (w, (p, q, k, o, (is, (x, r, e1)), e), e0)) =
    known ContentCase k encrypted_data_oid (ctx 0 (encrypted_data_canon d)) (content.EncryptedData d) is (is, (encrypted_data_canon d, encrypted_data_again d (x, r), refl))
content_again (content.OtherContext v) (t, (w, (p, q, k, o, (n1, n2, same, (x, r, e1)), e), e0)) =
    known ContentCase k (oid_octets v.content_type) (ctx 0 v.content) (content.OtherContext v) (ap oid_octets (sym same)) (n1, n2, same, (v.content, subst (λ (l : List ℕ). Raw l v.content) (sym r.0) r, refl))

pub contents_again : IsReadAgain (Within 0x30 (Many ContentText)) contents_canon
contents_again cs (t, (w, m, e)) = (joined (map content_canon cs), many_again ContentText content_canon content_again w cs m, refl)

-- ---- bags

pub encrypted_key_of : (d : EncryptedPrivateKeyInfo) → AlgorithmText (algorithm_canon d.encryption_algorithm) d.encryption_algorithm → EncryptedKeyText (encrypted_key_canon d) d
encrypted_key_of d r =
    let a = algorithm_canon d.encryption_algorithm in
    (a ++ octets d.encrypted_data, (a, octets d.encrypted_data, r, one_left (Inside 0x04) d (λ d. d.encrypted_data) (octets d.encrypted_data) (d.encrypted_data, refl, refl), refl), refl)

pub encrypted_key_again : IsReadAgain EncryptedKeyText encrypted_key_canon
encrypted_key_again d (t, (w, (x, y, r, s, e), e0)) = encrypted_key_of d (algorithm_again d.encryption_algorithm (x, r))

pub cert_bag_again : IsReadAgain CertBagText cert_bag_canon
cert_bag_again (X509 v) (t, (w, (p, q, k, o, (is, r), e), e0)) =
    known CertBagCase k x509_certificate_oid (ctx 0 (octets v)) (X509 v) is (is, (octets v, (v, refl, refl), refl))
cert_bag_again (SDSI v) (t, (w, (p, q, k, o, (is, (x, (y, (same, low), e2), e1)), e), e0)) =
    known CertBagCase k sdsi_certificate_oid (ctx 0 (el 0x16 v)) (SDSI v) is (is, (el 0x16 v, (v, (refl, low), refl), refl))

-- a set of one
pub latest_again : {A : Type 0} (R : List ℕ → A → Type 0) (t : List ℕ) (v : A) → R t v → Latest R t v
latest_again R t v r = ([], (t, [], r, refl, sym (append-nil t)))

-- some text of which this is the last value
pub last_text : {A : Type 0} (R : List ℕ → A → Type 0) (b : List ℕ) (more : List A) (v : A) → Many R b (more ++ v ∷ []) → IsRead R v
last_text R b [] v (p, q, r, m, e) = (p, r)
last_text R b (u ∷ more) v (p, q, r, m, e) = last_text R q more v m

pub name_again : (b t : List ℕ) → Bmp b t → Bmp (el 0x1e (text_units t)) t
name_again b t (p, (cs, scalars, is, e1), e0) = bmp_written t (cs, (scalars, is))

-- whole elements, in any order
pub raws : (b : List ℕ) (vs : List (List ℕ)) → Many Raw b vs → Each Raw vs vs
raws b [] m = tt
raws b (v ∷ vs) (p, q, r, m, e) = (subst (λ (l : List ℕ). Raw l v) (sym r.0) r, raws q vs m)

raw_set : (b : List ℕ) (vs : List (List ℕ)) → Many Raw b vs → Decodes (Many Raw) (SameSet (λ x y. x ≡ y)) (joined (in_order vs)) vs
raw_set b vs m = spelled_set Raw Raw (λ x y. x ≡ y) (λ t v r. (v, r, refl)) (joined (in_order vs)) vs (vs, in_order vs, raws b vs m, in_order-permutes vs, refl)

pub attribute_again : IsReadAsSame AttributeText SameAttribute attribute_canon
attribute_again (FriendlyName v) (t, (w, (p, q, k, o, (is, (x, (more, m), e1)), e), e0)) =
    let b = el 0x1e (text_units v) in
    let l = last_text Bmp x more v m in
    (FriendlyName v, known AttributeCase k friendly_name_oid (set b) (FriendlyName v) is (is, (b, latest_again Bmp b v (name_again l.0 v l.1), refl)), refl)
attribute_again (LocalKeyId v) (t, (w, (p, q, k, o, (is, r), e), e0)) =
    (LocalKeyId v, known AttributeCase k local_key_id_oid (set (octets v)) (LocalKeyId v) is (is, (octets v, latest_again (Inside 0x04) (octets v) v (v, refl, refl), refl)), refl)
attribute_again (Other v) (t, (w, (p, q, k, o, (n1, n2, same, (x, m, e1)), e), e0)) =
    let d = raw_set x v.values m in
    let u : OtherAttribute = record v { values = d.0 } in
    (Other u, known AttributeCase k (oid_octets v.oid) (set_of v.values) (Other u) (ap oid_octets (sym same)) (n1, n2, same, (joined (in_order v.values), d.1, refl)), (refl, d.2))

-- one text for each value, the canonical one, of a value that some text has
abbrev OfRead : {A : Type 0} → (List ℕ → A → Type 0) → (A → List ℕ) → List ℕ → A → Type 0
OfRead R canon t v = (t ≡ canon v) × IsRead R v

module _ {A : Type 0} (R : List ℕ → A → Type 0) (S : A → A → Type 0) (canon : A → List ℕ) (h : IsReadAsSame R S canon) where
  read_texts : (b : List ℕ) (vs : List A) → Many R b vs → Each (OfRead R canon) (map canon vs) vs
  read_texts b [] m = tt
  read_texts b (v ∷ vs) (p, q, r, m, e) = ((refl, (p, r)), read_texts q vs m)

  set_again : (b : List ℕ) (vs : List A) → Many R b vs → Decodes (Many R) (SameSet S) (joined (in_order (map canon vs))) vs
  set_again b vs m =
      spelled_set R (OfRead R canon) S (λ t v r. subst (λ (x : List ℕ). Decodes R S x v) (sym r.0) (h v r.1)) (joined (in_order (map canon vs))) vs
      (map canon vs, in_order (map canon vs), read_texts b vs m, in_order-permutes (map canon vs), refl)

  list_again : (b : List ℕ) (vs : List A) → Many R b vs → Decodes (Many R) (Each S) (joined (map canon vs)) vs
  list_again b [] m = ([], refl, tt)
  list_again b (v ∷ vs) (p, q, r, m, e) =
      let d = h v (p, r) in
      let more = list_again q vs m in
      (d.0 ∷ more.0, (canon v, joined (map canon vs), d.1, more.1, refl), (d.2, more.2))

attributes_again : (b : List ℕ) (vs : List PKCS12Attribute) → AttributesText b vs → Decodes AttributesText (SameSet SameAttribute) (attributes_canon vs) vs
attributes_again b [] h = ([], inl (refl, refl), ([], IsPermutation-refl [], tt))
attributes_again b (v ∷ vs) (inl (e, is)) = absurd cc
attributes_again b (v ∷ vs) (inr (p, m, e)) =
    let d = set_again AttributeText SameAttribute attribute_canon attribute_again p (v ∷ vs) m in
    (d.0, inr (joined (in_order (map attribute_canon (v ∷ vs))), d.1, refl), d.2)

pub kind_again : (k : ObjectIdentifier) (q : List ℕ) (v : SafeBagKind) → KindCase k q v → (oid_octets k ≡ kind_oid v) × KindCase k (kind_canon v) v
kind_again k q (kind.CertBag c) (is, r) = (is, (is, cert_bag_again c (q, r)))
kind_again k q (kind.Pkcs8ShroudedKeyBag e) (is, r) = (is, (is, encrypted_key_again e (q, r)))
kind_again k q (kind.OtherBagKind o) (n1, n2, same, r) = (ap oid_octets (sym same), (n1, n2, same, subst (λ (l : List ℕ). Raw l o.bag_value) (sym r.0) r))

pub bag_again : IsReadAsSame BagText SameBag bag_canon
bag_again g (t, (w, (p, q, k, o, (x, y, (z, r, e3), (x2, y2, s, e4, e2), e1), e), e0)) =
    let a = kind_again k z g.bag r in
    let d = attributes_again x2 g.attributes s in
    let u : SafeBag = record g { attributes = d.0 } in
    let inner = ctx 0 (kind_canon g.bag) in
    let behind = attributes_canon g.attributes in
    (u, (oid (kind_oid g.bag) ++ (inner ++ behind), (oid (kind_oid g.bag), inner ++ behind, k, (kind_oid g.bag, sym a.0, refl), (inner, behind, (kind_canon g.bag, a.1, refl), one_left AttributesText u (λ g. g.attributes) behind d.1, refl), refl), refl), (refl, d.2))

pub bags_again : IsReadAsSame (Within 0x30 (Many BagText)) (Each SameBag) bags_canon
bags_again gs (t, (w, m, e)) =
    let d = list_again BagText SameBag bag_canon bag_again w gs m in
    (d.0, (joined (map bag_canon gs), d.1, refl), d.2)

-- ---- stores

mac_if_there : (q : List ℕ) (m : Option MacData) → Perhaps MacText q m → Perhaps MacText (canon_option mac_canon m) m
mac_if_there q None r = refl
mac_if_there q (Some m) r = mac_again m (q, r)

pub store_again : IsReadAgain PfxText store_canon
store_again s (t, (w, (x, y, r, (x2, y2, c, (x3, y3, m, e3, e2), e1), e), e0)) =
    let a = content_canon s.auth_safe in
    let b = canon_option mac_canon s.mac_data in
    (uint s.version ++ (a ++ b), (uint s.version, a ++ b, uint_again 0xff s.version x r, (a, b, content_again s.auth_safe (x2, c), one_left (Perhaps MacText) s (λ s. s.mac_data) b (mac_if_there x3 s.mac_data m), refl), refl), refl)

-- ---- values that are the same have one text

order_once : (xs ys : List (List ℕ)) → IsPermutation xs ys → in_order xs ≡ in_order ys
order_once xs ys p = sym (sorted_is_in_order xs (in_order ys) (IsPermutation-trans xs ys (in_order ys) p (in_order-permutes ys)) (in_order-sorted ys))

each_same : {A B : Type 0} (S : A → A → Type 0) (f : A → B) → ((v w : A) → S v w → f v ≡ f w) → (vs ws : List A) → Each S vs ws → map f vs ≡ map f ws
each_same S f h [] [] e = refl
each_same S f h [] (w ∷ ws) e = absurd e
each_same S f h (v ∷ vs) [] e = absurd e
each_same S f h (v ∷ vs) (w ∷ ws) e = rw (h v w e.0, each_same S f h vs ws e.1) refl

each_length : {A B : Type 0} (S : A → B → Type 0) (vs : List A) (ws : List B) → Each S vs ws → length vs ≡ length ws
each_length S [] [] e = refl
each_length S [] (w ∷ ws) e = absurd e
each_length S (v ∷ vs) [] e = absurd e
each_length S (v ∷ vs) (w ∷ ws) e = ap (λ (n : ℕ). suc n) (each_length S vs ws e.1)

set_once : {A : Type 0} (S : A → A → Type 0) (f : A → List ℕ) → ((v w : A) → S v w → f v ≡ f w) → (vs ws : List A) → SameSet S vs ws → in_order (map f vs) ≡ in_order (map f ws)
set_once S f h vs ws (zs, p, e) = order_once (map f vs) (map f zs) (IsPermutation-map f vs zs p) ∙ ap in_order (each_same S f h zs ws e)

raw_set_once : (vs ws : List (List ℕ)) → SameSet (λ x y. x ≡ y) vs ws → in_order vs ≡ in_order ws
raw_set_once vs ws s = let e = set_once (λ x y. x ≡ y) (λ (x : List ℕ). x) (λ v w e. e) vs ws s in ap in_order (sym (map-id vs)) ∙ e ∙ ap in_order (map-id ws)

pub attribute_once : (v w : PKCS12Attribute) → SameAttribute v w → attribute_canon v ≡ attribute_canon w
attribute_once (FriendlyName t) w e = ap attribute_canon (sym e)
attribute_once (LocalKeyId t) w e = ap attribute_canon (sym e)
attribute_once (Other o) (FriendlyName t) e = absurd e
attribute_once (Other o) (LocalKeyId t) e = absurd e
attribute_once (Other o) (Other p) e = rw (e.0, raw_set_once o.values p.values e.1) refl

attributes_once : (vs ws : List PKCS12Attribute) → SameSet SameAttribute vs ws → attributes_canon vs ≡ attributes_canon ws
attributes_once [] [] s = refl
attributes_once [] (w ∷ ws) s = absurd (let e = same_nothing SameAttribute [] (w ∷ ws) s refl in cc)
attributes_once (v ∷ vs) [] (zs, p, e) = absurd (omega (arith, length_permutation (v ∷ vs) zs p, each_length SameAttribute zs [] e))
attributes_once (v ∷ vs) (w ∷ ws) s = ap (λ (l : List (List ℕ)). set (joined l)) (set_once SameAttribute attribute_canon attribute_once (v ∷ vs) (w ∷ ws) s)

pub bag_once : (g h : SafeBag) → SameBag g h → bag_canon g ≡ bag_canon h
bag_once g h s = rw (s.0, attributes_once g.attributes h.attributes s.1) refl

pub bags_once : (gs hs : List SafeBag) → Each SameBag gs hs → bags_canon gs ≡ bags_canon hs
bags_once gs hs s = ap (λ (l : List (List ℕ)). seq (joined l)) (each_same SameBag bag_canon bag_once gs hs s)

-- ---- what some text has can be written

perhaps_raw : (q : List ℕ) (o : Option (List ℕ)) → Perhaps Raw q o → writable_option IsElement o
perhaps_raw q None r = tt
perhaps_raw q (Some v) r = subst IsElement (sym r.0) r.1

pub algorithm_writes : CanBeWritten AlgorithmText WritableAlgorithm
algorithm_writes Sha1 h = tt
algorithm_writes Sha256 h = tt
algorithm_writes (PbewithSHAAnd40BitRC2CBC v) h = tt
algorithm_writes (PbeWithSHAAnd3KeyTripleDESCBC v) h = tt
algorithm_writes (Pbes2 v) (t, (w, (p, q, k, o, (is, r), e), e0)) = ((parameters_spelled q v).0 r).0
algorithm_writes (OtherAlg v) (t, (w, (p, q, k, o, c, e), e0)) = perhaps_raw q v.params c.6

pub digest_writes : CanBeWritten DigestText WritableDigest
digest_writes d (t, (w, (x, y, r, s, e), e0)) = algorithm_writes d.digest_algorithm (x, r)

pub mac_writes : CanBeWritten MacText WritableMac
mac_writes m (t, (w, (x, y, r, s, e), e0)) = digest_writes m.mac (x, r)

pub encrypted_content_writes : CanBeWritten EncryptedContentText WritableEncryptedContent
encrypted_content_writes c (t, (w, (x, y, r, (x2, y2, s, z, e1), e), e0)) = algorithm_writes c.content_encryption_algorithm (x2, s)

pub encrypted_data_writes : CanBeWritten EncryptedDataText WritableEncryptedData
encrypted_data_writes c (t, (w, (x, y, r, (x2, y2, s, e2, e1), e), e0)) = encrypted_content_writes c.encrypted_content_info (x2, s)

pub content_writes : CanBeWritten ContentText WritableContent
content_writes (content.Data v) h = tt
content_writes (content.EncryptedData d) (t, (w, (p, q, k, o, (is, (x, r, e1)), e), e0)) = encrypted_data_writes d (x, r)
content_writes (content.OtherContext v) (t, (w, (p, q, k, o, (n1, n2, same, (x, r, e1)), e), e0)) = subst IsElement (sym r.0) r.1

pub encrypted_key_writes : CanBeWritten EncryptedKeyText WritableKey
encrypted_key_writes d (t, (w, (x, y, r, s, e), e0)) = algorithm_writes d.encryption_algorithm (x, r)

pub cert_bag_writes : CanBeWritten CertBagText WritableCertBag
cert_bag_writes (X509 v) h = tt
cert_bag_writes (SDSI v) (t, (w, (p, q, k, o, (is, (x, (y, (same, low), e2), e1)), e), e0)) = low

many_write : {A : Type 0} (R : List ℕ → A → Type 0) (writable : A → Type 0) → CanBeWritten R writable → (b : List ℕ) (vs : List A) → Many R b vs → All writable vs
many_write R writable h b [] m = All-nil writable
many_write R writable h b (v ∷ vs) (p, q, r, m, e) = All-cons writable v vs (h v (p, r)) (many_write R writable h q vs m)

pub attribute_writes : CanBeWritten AttributeText WritableAttribute
attribute_writes (FriendlyName v) h = tt
attribute_writes (LocalKeyId v) h = tt
attribute_writes (Other v) (t, (w, (p, q, k, o, (n1, n2, same, (x, m, e1)), e), e0)) = many_write Raw IsElement (λ v h. subst IsElement (sym h.1.0) h.1.1) x v.values m

attributes_write : (b : List ℕ) (vs : List PKCS12Attribute) → AttributesText b vs → All WritableAttribute vs
attributes_write b [] h = All-nil WritableAttribute
attributes_write b (v ∷ vs) (inl (e, is)) = absurd cc
attributes_write b (v ∷ vs) (inr (p, m, e)) = many_write AttributeText WritableAttribute attribute_writes p (v ∷ vs) m

kind_writes : (k : ObjectIdentifier) (q : List ℕ) (v : SafeBagKind) → KindCase k q v → WritableKind v
kind_writes k q (kind.CertBag c) (is, r) = cert_bag_writes c (q, r)
kind_writes k q (kind.Pkcs8ShroudedKeyBag e) (is, r) = encrypted_key_writes e (q, r)
kind_writes k q (kind.OtherBagKind o) (n1, n2, same, r) = subst IsElement (sym r.0) r.1

pub bag_writes : CanBeWritten BagText WritableBag
bag_writes g (t, (w, (p, q, k, o, (x, y, (z, r, e3), (x2, y2, s, e4, e2), e1), e), e0)) = (kind_writes k z g.bag r, attributes_write x2 g.attributes s)

mac_there_writes : (q : List ℕ) (m : Option MacData) → Perhaps MacText q m → writable_option WritableMac m
mac_there_writes q None r = tt
mac_there_writes q (Some m) r = mac_writes m (q, r)

pub store_writes : CanBeWritten PfxText WritableStore
store_writes s (t, (w, (x, y, r, (x2, y2, c, (x3, y3, m, e3, e2), e1), e), e0)) = (content_writes s.auth_safe (x2, c), mac_there_writes x3 s.mac_data m)

-- ---- a bag's value by itself, and lists

kind_element : (v : SafeBagKind) → WritableKind v → IsElement (kind_canon v)
kind_element (kind.CertBag (X509 v)) w = (0x30, _, refl, refl)
kind_element (kind.CertBag (SDSI v)) w = (0x30, _, refl, refl)
kind_element (kind.Pkcs8ShroudedKeyBag e) w = (0x30, _, refl, refl)
kind_element (kind.OtherBagKind o) w = w

-- a bag's value by itself
pub kind_text_again : (k : ObjectIdentifier) → IsReadAgain (KindText k) kind_canon
kind_text_again k v (q, r) = ((kind_again k q v r.0).1, kind_element v (kind_writes k q v r.0))

pub kind_tells : (k : ObjectIdentifier) (b : List ℕ) (v : SafeBagKind) → KindText k b v → kind_oid v ≡ oid_octets k
kind_tells k b v r = sym (kind_again k b v r.0).0

pub kind_text_writes : (k : ObjectIdentifier) → CanBeWritten (KindText k) WritableKind
kind_text_writes k v (q, r) = kind_writes k q v r.0

pub contents_write : CanBeWritten (Within 0x30 (Many ContentText)) (All WritableContent)
contents_write vs (t, (w, m, e)) = many_write ContentText WritableContent content_writes w vs m

pub bags_write : CanBeWritten (Within 0x30 (Many BagText)) (All WritableBag)
bags_write vs (t, (w, m, e)) = many_write BagText WritableBag bag_writes w vs m
