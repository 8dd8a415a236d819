-- The texts of contents, attributes, bags and stores are the canonical ones and their other spellings.
use Rattle.std.proofs.Common.{◌≡◌, ℕ, List, [], ◌∷◌, ◌++◌, Option, Some, None, refl, sym, ap, subst, ◌∙◌, inl, inr, arith, append-nil, append_assoc}
use Rattle.std.proofs.lemmas.List.Sorted.{IsPermutation-refl, length_permutation}
use Rattle.std.proofs.lemmas.Str.{chars-encodes}
use Rattle.std.specs.Char.Escape.{encode_utf16}
use Rattle.std.specs.List.{flat_map}
use Rattle.std.specs.Str.{chars}
use Rattle.asn1_core.specs.Der.{el, seq, set, oid, octets, uint, ctx, pctx, shortest}
use Rattle.asn1_core.specs.Oid.{oid_octets}
use Rattle.asn1_core.specs.Texts.{Many, Perhaps, Raw, Inside, Within}
use Rattle.asn1_core.specs.Fields.{Latest}
use Rattle.asn1_core.specs.Sets.{Decodes, IsRead, Each, SameSet}
use Rattle.asn1_core.specs.Unicode.{Bmp, text_units, unit_octets}
use Rattle.asn1_core.specs.declared.identifier.ObjectIdentifier.{ObjectIdentifier}
use Rattle.asn1_core.proofs.SetLaws.{set_spelled, spelled_set, told_apart, told_back, same_nothing}
use Rattle.der_core.specs.Optional.{SpellsOption}
use Rattle.p12.specs.Identifiers.{data_oid, encrypted_data_oid, friendly_name_oid, local_key_id_oid, x509_certificate_oid, sdsi_certificate_oid, data_identifier}
use Rattle.p12.specs.EncryptedData.{EncryptedContentText, EncryptedDataText}
use Rattle.p12.specs.ContentInfo.{ContentCase, ContentText}
use Rattle.p12.specs.CertBag.{CertBagText}
use Rattle.p12.specs.Attribute.{AttributeCase, AttributeText, AttributesText}
use Rattle.p12.specs.MacData.{MacText}
use Rattle.p12.specs.SafeBag.{BagText, KindCase, kind_oid}
use Rattle.p12.specs.Pfx.{PfxText}
use Rattle.p12.specs.Same.{IsReadAsSame, SameAttribute, SameBag}
use Rattle.p12.specs.Canonical.{encrypted_content_canon, encrypted_data_canon, content_canon, contents_canon, cert_bag_canon, attribute_canon, bag_canon, bags_canon, store_canon}
use Rattle.p12_laws.specs.Spellings.{AreSeveral, HasOneText, IsSpelled, IsSpelledAsSame, SpellsAttribute, SpellsAttributes, SpellsBag, SpellsBags, SpellsContent, SpellsContents, SpellsEncryptedContent, SpellsEncryptedData, SpellsKind, SpellsMac, SpellsStore}
use Rattle.p12.proofs.Again.{attribute_again, bag_again, bags_again, cert_bag_again, content_again, contents_again, encrypted_content_again, encrypted_data_again, kind_again, known, last_text, name_again, one_left, raws, store_again, uint_again}
use Rattle.p12_laws.proofs.Spelled.{algorithm_of_spelling, algorithm_text, at, behind, encrypted_key_of_spelling, encrypted_key_text, inside_is, last_is, mac_of_spelling, mac_text, oid_is, one_text, parts_are, spelled, uint_is, whole_is}
use Rattle.p12.specs.declared.content_info.ContentInfo.{ContentInfo}
use Rattle.p12.specs.declared.content_info.ContentInfo.TheVariants as content
use Rattle.p12.specs.declared.encrypted_data.EncryptedContentInfo.{EncryptedContentInfo}
use Rattle.p12.specs.declared.encrypted_data.EncryptedData.{EncryptedData}
use Rattle.p12.specs.declared.mac_data.MacData.{MacData}
use Rattle.p12.specs.declared.cert_bag.CertBag.{CertBag}
use Rattle.p12.specs.declared.cert_bag.CertBag.TheVariants.{X509, SDSI}
use Rattle.p12.specs.declared.attribute.OtherAttribute.{OtherAttribute}
use Rattle.p12.specs.declared.attribute.PKCS12Attribute.{PKCS12Attribute}
use Rattle.p12.specs.declared.attribute.PKCS12Attribute.TheVariants.{FriendlyName, LocalKeyId, Other}
use Rattle.p12.specs.declared.safe_bag.SafeBag.{SafeBag}
use Rattle.p12.specs.declared.safe_bag.SafeBagKind.{SafeBagKind}
use Rattle.p12.specs.declared.safe_bag.SafeBagKind.TheVariants as kind
use Rattle.p12.specs.declared.pfx.PFX.{PFX}

-- ---- lists of parts

many_to : {A : Type 0} (R Spell : List ℕ → A → Type 0) → ((b : List ℕ) (v : A) → R b v → Spell b v) → (b : List ℕ) (vs : List A) → Many R b vs → Many Spell b vs
many_to R Spell to b [] m = m
many_to R Spell to b (v ∷ vs) (p, q, r, m, e) = (p, q, to p v r, many_to R Spell to q vs m, e)

many_from : {A : Type 0} (R Spell : List ℕ → A → Type 0) → ((v : A) → IsRead R v → (b : List ℕ) → Spell b v → R b v) → (t b : List ℕ) (vs : List A) → Many R t vs → Many Spell b vs → Many R b vs
many_from R Spell from t b [] h m = m
many_from R Spell from t b (v ∷ vs) (x, y, r, more, e0) (p, q, s, m, e) = (p, q, from v (x, r) p s, many_from R Spell from y q vs more m, e)

-- ---- contents

pub encrypted_content_text : (b : List ℕ) (c : EncryptedContentInfo) → EncryptedContentText b c → SpellsEncryptedContent b c
encrypted_content_text b c (w, (x, y, r, (x2, y2, s, (x3, y3, z, e3, e2), e1), e), e0) =
    let v = pctx 0 c.encrypted_content in (
      x2,
      algorithm_text x2 c.content_encryption_algorithm s,
      whole_is 0x30 b w (oid data_oid ++ (x2 ++ v)) e0
          (parts_are x y w (oid data_oid) (x2 ++ v) (oid_is x data_identifier r) (parts_are x2 y2 y x2 v refl (last_is x3 y3 y2 v (inside_is 0x80 x3 c.encrypted_content z) e3 e2) e1) e),
    )

pub encrypted_content_of_spelling : (c : EncryptedContentInfo) → IsRead EncryptedContentText c → (b : List ℕ) → SpellsEncryptedContent b c → EncryptedContentText b c
encrypted_content_of_spelling c (t, (w, (x, y, r, (x2, y2, s, z, e1), e), e0)) b (a, sp, is) =
    let v = pctx 0 c.encrypted_content in
    (oid data_oid ++ (a ++ v), (oid data_oid, a ++ v, (data_oid, refl, refl), (a, v, algorithm_of_spelling c.content_encryption_algorithm (x2, s) a sp, one_left (Inside 0x80) c (λ e. e.encrypted_content) v (c.encrypted_content, refl, refl), refl), refl), is)

pub encrypted_content_spelled : IsSpelled EncryptedContentText encrypted_content_canon SpellsEncryptedContent
encrypted_content_spelled = spelled EncryptedContentText encrypted_content_canon SpellsEncryptedContent encrypted_content_again encrypted_content_text encrypted_content_of_spelling

pub encrypted_data_text : (b : List ℕ) (d : EncryptedData) → EncryptedDataText b d → SpellsEncryptedData b d
encrypted_data_text b d (w, (x, y, r, (x2, y2, s, e2, e1), e), e0) =
    (x2, encrypted_content_text x2 d.encrypted_content_info s, whole_is 0x30 b w (uint 0 ++ x2) e0 (parts_are x y w (uint 0) x2 (uint_is 0xff x 0 r) (last_is x2 y2 y x2 refl e2 e1) e))

pub encrypted_data_of_spelling : (d : EncryptedData) → IsRead EncryptedDataText d → (b : List ℕ) → SpellsEncryptedData b d → EncryptedDataText b d
encrypted_data_of_spelling d (t, (w, (x, y, r, (x2, y2, s, e2, e1), e), e0)) b (c, sp, is) =
    (uint 0 ++ c, (uint 0, c, (shortest 0, (omega arith, refl), refl), one_left EncryptedContentText d (λ e. e.encrypted_content_info) c (encrypted_content_of_spelling d.encrypted_content_info (x2, s) c sp), refl), is)

pub encrypted_data_spelled : IsSpelled EncryptedDataText encrypted_data_canon SpellsEncryptedData
encrypted_data_spelled = spelled EncryptedDataText encrypted_data_canon SpellsEncryptedData encrypted_data_again encrypted_data_text encrypted_data_of_spelling

pub content_text : (b : List ℕ) (v : ContentInfo) → ContentText b v → SpellsContent b v
content_text b (content.Data v) (w, (p, q, k, o, (is, (x, i, e1)), e), e0) =
    behind k data_oid p q w b o is e e0 ∙ ap (λ (l : List ℕ). seq (oid data_oid ++ l)) (whole_is 0xa0 q x (octets v) e1 (inside_is 0x04 x v i))
content_text b (content.EncryptedData d) (w, (p, q, k, o, (is, (x, r, e1)), e), e0) =
    (x, encrypted_data_text x d r, behind k encrypted_data_oid p q w b o is e e0 ∙ ap (λ (l : List ℕ). seq (oid encrypted_data_oid ++ l)) e1)
content_text b (content.OtherContext v) (w, (p, q, k, o, (n1, n2, same, (x, r, e1)), e), e0) =
    behind k (oid_octets v.content_type) p q w b o (ap oid_octets (sym same)) e e0 ∙ ap (λ (l : List ℕ). seq (oid (oid_octets v.content_type) ++ l)) (whole_is 0xa0 q x v.content e1 (sym r.0))

pub content_of_spelling : (v : ContentInfo) → IsRead ContentText v → (b : List ℕ) → SpellsContent b v → ContentText b v
content_of_spelling (content.Data v) h b s = at ContentText (content.Data v) b (content_canon (content.Data v)) (content_again (content.Data v) h) s
content_of_spelling (content.EncryptedData d) (t, (w, (p, q, k, o, (is, (x, r, e1)), e), e0)) b (y, sp, eb) =
    at ContentText (content.EncryptedData d) b (seq (oid encrypted_data_oid ++ ctx 0 y))
    (known ContentCase k encrypted_data_oid (ctx 0 y) (content.EncryptedData d) is (is, (y, encrypted_data_of_spelling d (x, r) y sp, refl))) eb
content_of_spelling (content.OtherContext v) h b s = at ContentText (content.OtherContext v) b (content_canon (content.OtherContext v)) (content_again (content.OtherContext v) h) s

pub content_spelled : IsSpelled ContentText content_canon SpellsContent
content_spelled = spelled ContentText content_canon SpellsContent content_again content_text content_of_spelling

contents_text : (b : List ℕ) (cs : List ContentInfo) → Within 0x30 (Many ContentText) b cs → SpellsContents b cs
contents_text b cs (w, m, e) = (w, many_to ContentText SpellsContent content_text w cs m, e)

contents_of_spelling : (cs : List ContentInfo) → IsRead (Within 0x30 (Many ContentText)) cs → (b : List ℕ) → SpellsContents b cs → Within 0x30 (Many ContentText) b cs
contents_of_spelling cs (t, (w, m, e0)) b (p, sp, e) = (p, many_from ContentText SpellsContent content_of_spelling w p cs m sp, e)

pub contents_spelled : IsSpelled (Within 0x30 (Many ContentText)) contents_canon SpellsContents
contents_spelled = spelled (Within 0x30 (Many ContentText)) contents_canon SpellsContents contents_again contents_text contents_of_spelling

-- ---- certificates

pub cert_bag_text : (b : List ℕ) (c : CertBag) → CertBagText b c → b ≡ cert_bag_canon c
cert_bag_text b (X509 v) (w, (p, q, k, o, (is, (x, i, e1)), e), e0) =
    behind k x509_certificate_oid p q w b o is e e0 ∙ ap (λ (l : List ℕ). seq (oid x509_certificate_oid ++ l)) (whole_is 0xa0 q x (octets v) e1 (inside_is 0x04 x v i))
cert_bag_text b (SDSI v) (w, (p, q, k, o, (is, (x, (y, (same, low), e2), e1)), e), e0) =
    behind k sdsi_certificate_oid p q w b o is e e0 ∙ ap (λ (l : List ℕ). seq (oid sdsi_certificate_oid ++ l)) (whole_is 0xa0 q x (el 0x16 v) e1 (whole_is 0x16 x y v e2 same))

pub cert_bag_spelled : HasOneText CertBagText cert_bag_canon
cert_bag_spelled = one_text CertBagText cert_bag_canon cert_bag_again cert_bag_text

-- ---- attributes

-- what is before the last of some texts
many_split : {A : Type 0} (R : List ℕ → A → Type 0) (b : List ℕ) (more : List A) (v : A) → Many R b (more ++ v ∷ []) → (y : List ℕ) × (t : List ℕ) × Many R y more × R t v × (b ≡ y ++ t)
many_split R b [] v (p, q, r, m, e) = ([], p, refl, r, e ∙ ap (λ (l : List ℕ). p ++ l) m ∙ append-nil p)
many_split R b (u ∷ more) v (p, q, r, m, e) =
    let s = many_split R q more v m in
    (p ++ s.0, s.1, (p, s.0, r, s.2, refl), s.3, e ∙ ap (λ (l : List ℕ). p ++ l) s.4 ∙ sym (append_assoc p s.0 s.1))

many_join : {A : Type 0} (R : List ℕ → A → Type 0) (y t : List ℕ) (more : List A) (v : A) → Many R y more → R t v → Many R (y ++ t) (more ++ v ∷ [])
many_join R y t [] v m r = (t, [], r, refl, ap (λ (l : List ℕ). l ++ t) m ∙ sym (append-nil t))
many_join R y t (u ∷ more) v (p, q, s, m, e) r = (p, q ++ t, s, many_join R q t more v m r, ap (λ (l : List ℕ). l ++ t) e ∙ append_assoc p q t)

-- a text of characters has one BMPString
bmp_once : (b c t : List ℕ) → Bmp b t → Bmp c t → b ≡ c
bmp_once b c t (p, (cs, s, is, e1), e0) (p2, (cs2, s2, is2, e3), e2) =
    let same : cs ≡ cs2 = sym (chars-encodes cs s) ∙ ap chars is ∙ sym (sym (chars-encodes cs2 s2) ∙ ap chars is2) in
    e0 ∙ ap (λ (x : List ℕ). el 0x1e x) (e1 ∙ ap (λ (x : List ℕ). unit_octets (flat_map encode_utf16 x)) same ∙ sym e3) ∙ sym e2

-- a set of names or of key ids, of which the last counts
latest_text : {A : Type 0} (R : List ℕ → A → Type 0) (canon : A → List ℕ) → ((t : List ℕ) (v : A) → R t v → t ≡ canon v) → (x : List ℕ) (v : A) → Latest R x v
    → (y : List ℕ) × AreSeveral R y × (x ≡ y ++ canon v)
latest_text R canon one x v (more, m) =
    let s = many_split R x more v m in
    (s.0, (more, s.2), s.4 ∙ ap (λ (l : List ℕ). s.0 ++ l) (one s.1 v s.3))

name_is : (t v : List ℕ) → Bmp t v → t ≡ el 0x1e (text_units v)
name_is t v r = bmp_once t (el 0x1e (text_units v)) v r (name_again t v r)

name_text : (b v : List ℕ) → AttributeText b (FriendlyName v) → SpellsAttribute b (FriendlyName v)
name_text b v (w, (p, q, k, o, (is, (x, l, e1)), e), e0) =
    let n = latest_text Bmp (λ t. el 0x1e (text_units t)) name_is x v l in
    (n.0, n.1, behind k friendly_name_oid p q w b o is e e0 ∙ ap (λ (l : List ℕ). seq (oid friendly_name_oid ++ l)) (whole_is 0x31 q x (n.0 ++ el 0x1e (text_units v)) e1 n.2))

key_id_text : (b v : List ℕ) → AttributeText b (LocalKeyId v) → SpellsAttribute b (LocalKeyId v)
key_id_text b v (w, (p, q, k, o, (is, (x, l, e1)), e), e0) =
    let n = latest_text (Inside 0x04) (λ (t : List ℕ). octets t) (inside_is 0x04) x v l in
    (n.0, n.1, behind k local_key_id_oid p q w b o is e e0 ∙ ap (λ (l : List ℕ). seq (oid local_key_id_oid ++ l)) (whole_is 0x31 q x (n.0 ++ octets v) e1 n.2))

pub attribute_text : (b : List ℕ) (v : PKCS12Attribute) → Decodes AttributeText SameAttribute b v → SpellsAttribute b v
attribute_text b v (FriendlyName t, r, s) = subst (λ (u : PKCS12Attribute). SpellsAttribute b u) (sym s) (name_text b t r)
attribute_text b v (LocalKeyId t, r, s) = subst (λ (u : PKCS12Attribute). SpellsAttribute b u) (sym s) (key_id_text b t r)
attribute_text b (FriendlyName t) (Other o, r, s) = absurd s
attribute_text b (LocalKeyId t) (Other o, r, s) = absurd s
attribute_text b (Other u) (Other v, (w, (p, q, k, o, (n1, n2, same, (x, m, e1)), e), e0), s) = (
  x,
  set_spelled Raw (λ t e. t ≡ e) (λ x y. x ≡ y) (λ t z d. sym d.1.0 ∙ d.2) x u.values (v.values, m, s.1),
  behind k (oid_octets u.oid) p q w b o (ap oid_octets (sym same ∙ s.0)) e e0 ∙ ap (λ (l : List ℕ). seq (oid (oid_octets u.oid) ++ l)) e1,
)

each_is : (ts vs : List (List ℕ)) → Each (λ t e. t ≡ e) ts vs → ts ≡ vs
each_is [] [] h = refl
each_is [] (v ∷ vs) h = absurd h
each_is (t ∷ ts) [] h = absurd h
each_is (t ∷ ts) (v ∷ vs) h = ap (λ (x : List ℕ). x ∷ ts) h.0 ∙ ap (λ (l : List (List ℕ)). v ∷ l) (each_is ts vs h.1)

pub attribute_of_spelling : (v : PKCS12Attribute) → IsRead AttributeText v → (b : List ℕ) → SpellsAttribute b v → Decodes AttributeText SameAttribute b v
attribute_of_spelling (FriendlyName v) (t, (w, (p, q, k, o, (is, (x, (more, m), e1)), e), e0)) b (y, (os, mo), eb) =
    let c = el 0x1e (text_units v) in
    let l = last_text Bmp x more v m in (
      FriendlyName v,
      at AttributeText (FriendlyName v) b (seq (oid friendly_name_oid ++ set (y ++ c)))
          (known AttributeCase k friendly_name_oid (set (y ++ c)) (FriendlyName v) is (is, (y ++ c, (os, many_join Bmp y c os v mo (name_again l.0 v l.1)), refl))) eb,
      refl,
    )
attribute_of_spelling (LocalKeyId v) (t, (w, (p, q, k, o, (is, r), e), e0)) b (y, (os, mo), eb) =
    let c = octets v in (
      LocalKeyId v,
      at AttributeText (LocalKeyId v) b (seq (oid local_key_id_oid ++ set (y ++ c)))
          (known AttributeCase k local_key_id_oid (set (y ++ c)) (LocalKeyId v) is (is, (y ++ c, (os, many_join (Inside 0x04) y c os v mo (v, refl, refl)), refl))) eb,
      refl,
    )
attribute_of_spelling (Other v) (t, (w, (p, q, k, o, (n1, n2, same, (x, m, e1)), e), e0)) b (y, (ts, us, each, perm, is), eb) =
    let d = spelled_set Raw Raw (λ x y. x ≡ y) (λ t v r. (v, r, refl)) y v.values (ts, us, subst (λ (l : List (List ℕ)). Each Raw l v.values) (sym (each_is ts v.values each)) (raws x v.values m), perm, is) in
    let u : OtherAttribute = record v { values = d.0 } in (
      Other u,
      at AttributeText (Other u) b (seq (oid (oid_octets v.oid) ++ set y))
          (known AttributeCase k (oid_octets v.oid) (set y) (Other u) (ap oid_octets (sym same)) (n1, n2, same, (y, d.1, refl))) eb,
      (refl, d.2),
    )

pub spelled_as_same : {A : Type 0} (R : List ℕ → A → Type 0) (S : A → A → Type 0) (canon : A → List ℕ) (Spell : List ℕ → A → Type 0) → IsReadAsSame R S canon
    → ((b : List ℕ) (v : A) → Decodes R S b v → Spell b v) → ((v : A) → IsRead R v → (b : List ℕ) → Spell b v → Decodes R S b v) → IsSpelledAsSame R S canon Spell
spelled_as_same R S canon Spell again to from v h b =
    (λ r. told_apart Spell canon b v (to b v r), λ s. from v h b (told_back Spell canon b v (to (canon v) v (again v h)) s))

pub attribute_spelled : IsSpelledAsSame AttributeText SameAttribute attribute_canon SpellsAttribute
attribute_spelled = spelled_as_same AttributeText SameAttribute attribute_canon SpellsAttribute attribute_again attribute_text attribute_of_spelling

same_none : {A : Type 0} (S : A → A → Type 0) (vs : List A) → SameSet S vs [] → vs ≡ []
same_none S [] s = refl
same_none S (v ∷ vs) ([], p, e) = absurd (omega (arith, length_permutation (v ∷ vs) [] p))
same_none S (v ∷ vs) (z ∷ zs, p, e) = absurd e

-- no attributes
no_attributes : (b : List ℕ) (vs : List PKCS12Attribute) → vs ≡ [] → Within 0x31 (Many AttributeText) b vs → b ≡ set []
no_attributes b [] is (p, m, e) = e ∙ ap (λ (l : List ℕ). set l) m
no_attributes b (v ∷ vs) is h = absurd cc

attributes_text : (b : List ℕ) (vs : List PKCS12Attribute) → Decodes AttributesText (SameSet SameAttribute) b vs → SpellsAttributes b vs
attributes_text b [] (ws, inl (nil, is), s) = inl nil
attributes_text b [] (ws, inr r, s) = inr (no_attributes b ws (same_none SameAttribute ws s) r)
attributes_text b (v ∷ vs) (ws, inl (nil, is), s) = absurd (let e = same_nothing SameAttribute ws (v ∷ vs) s is in cc)
attributes_text b (v ∷ vs) (ws, inr (p, m, e), s) = (p, set_spelled AttributeText SpellsAttribute SameAttribute attribute_text p (v ∷ vs) (ws, m, s), e)

-- a spelling of an attribute that some text has
abbrev SpellsRead : List ℕ → PKCS12Attribute → Type 0
SpellsRead b v = SpellsAttribute b v × IsRead AttributeText v

each_read : (t : List ℕ) (ts : List (List ℕ)) (vs : List PKCS12Attribute) → Many AttributeText t vs → Each SpellsAttribute ts vs → Each SpellsRead ts vs
each_read t [] [] m h = tt
each_read t [] (v ∷ vs) m h = absurd h
each_read t (x ∷ ts) [] m h = absurd h
each_read t (x ∷ ts) (v ∷ vs) (p, q, r, m, e) h = ((h.0, (p, r)), each_read q ts vs m h.1)

attributes_of_spelling : (t : List ℕ) (vs : List PKCS12Attribute) → AttributesText t vs → (b : List ℕ) → SpellsAttributes b vs → Decodes AttributesText (SameSet SameAttribute) b vs
attributes_of_spelling t [] h b (inl nil) = ([], inl (nil, refl), ([], IsPermutation-refl [], tt))
attributes_of_spelling t [] h b (inr e) = ([], inr ([], refl, e), ([], IsPermutation-refl [], tt))
attributes_of_spelling t (v ∷ vs) (inl (e, is)) b s = absurd cc
attributes_of_spelling t (v ∷ vs) (inr (p, m, e)) b (y, (ts, us, each, perm, is), eb) =
    let d = spelled_set AttributeText SpellsRead SameAttribute (λ t v r. attribute_of_spelling v r.1 t r.0) y (v ∷ vs) (ts, us, each_read p ts (v ∷ vs) m each, perm, is) in
    (d.0, inr (y, d.1, eb), d.2)

-- ---- bags

kind_text : (k : ObjectIdentifier) (q : List ℕ) (v : SafeBagKind) → KindCase k q v → SpellsKind q v
kind_text k q (kind.CertBag c) (is, r) = cert_bag_text q c r
kind_text k q (kind.Pkcs8ShroudedKeyBag e) (is, r) = encrypted_key_text q e r
kind_text k q (kind.OtherBagKind o) (n1, n2, same, r) = sym r.0

kind_of_spelling : (k : ObjectIdentifier) (q : List ℕ) (v : SafeBagKind) → KindCase k q v → (b : List ℕ) → SpellsKind b v → KindCase k b v
kind_of_spelling k q (kind.CertBag c) (is, r) b e = (is, at CertBagText c b (cert_bag_canon c) (cert_bag_again c (q, r)) e)
kind_of_spelling k q (kind.Pkcs8ShroudedKeyBag d) (is, r) b s = (is, encrypted_key_of_spelling d (q, r) b s)
kind_of_spelling k q (kind.OtherBagKind o) (n1, n2, same, r) b s = (n1, n2, same, at Raw o.bag_value b q r (s ∙ r.0))

pub bag_text : (b : List ℕ) (g : SafeBag) → Decodes BagText SameBag b g → SpellsBag b g
bag_text b g (h, (w, (p, q, k, o, (x, y, (z, r, e3), (x2, y2, a, e4, e2), e1), e), e0), s) =
    let i = kind_again k z h.bag r in (
      z,
      x2,
      subst (λ (v : SafeBagKind). SpellsKind z v) s.0 (kind_text k z h.bag r),
      attributes_text x2 g.attributes (h.attributes, a, s.1),
      behind k (kind_oid g.bag) p q w b o (i.0 ∙ ap kind_oid s.0) e e0 ∙ ap (λ (l : List ℕ). seq (oid (kind_oid g.bag) ++ l)) (parts_are x y q (ctx 0 z) x2 e3 (last_is x2 y2 y x2 refl e4 e2) e1),
    )

pub bag_of_spelling : (g : SafeBag) → IsRead BagText g → (b : List ℕ) → SpellsBag b g → Decodes BagText SameBag b g
bag_of_spelling g (t, (w, (p, q, k, o, (x, y, (z, r, e3), (x2, y2, s, e4, e2), e1), e), e0)) b (c, d, sk, sa, eb) =
    let a = kind_again k z g.bag r in
    let m = attributes_of_spelling x2 g.attributes s d sa in
    let u : SafeBag = record g { attributes = m.0 } in
    (u, (oid (kind_oid g.bag) ++ (ctx 0 c ++ d), (oid (kind_oid g.bag), ctx 0 c ++ d, k, (kind_oid g.bag, sym a.0, refl), (ctx 0 c, d, (c, kind_of_spelling k z g.bag r c sk, refl), one_left AttributesText u (λ g. g.attributes) d m.1, refl), refl), eb), (refl, m.2))

pub bag_spelled : IsSpelledAsSame BagText SameBag bag_canon SpellsBag
bag_spelled = spelled_as_same BagText SameBag bag_canon SpellsBag bag_again bag_text bag_of_spelling

many_same : (b : List ℕ) (hs gs : List SafeBag) → Many BagText b hs → Each SameBag hs gs → Many SpellsBag b gs
many_same b [] [] m s = m
many_same b [] (g ∷ gs) m s = absurd s
many_same b (h ∷ hs) [] m s = absurd s
many_same b (h ∷ hs) (g ∷ gs) (p, q, r, m, e) s = (p, q, bag_text p g (h, r, s.0), many_same q hs gs m s.1, e)

same_of_spellings : (t b : List ℕ) (gs : List SafeBag) → Many BagText t gs → Many SpellsBag b gs → Decodes (Many BagText) (Each SameBag) b gs
same_of_spellings t b [] h m = ([], m, tt)
same_of_spellings t b (g ∷ gs) (x, y, r, more, e0) (p, q, s, m, e) =
    let d = bag_of_spelling g (x, r) p s in
    let rest = same_of_spellings y q gs more m in
    (d.0 ∷ rest.0, (p, q, d.1, rest.1, e), (d.2, rest.2))

bags_text : (b : List ℕ) (gs : List SafeBag) → Decodes (Within 0x30 (Many BagText)) (Each SameBag) b gs → SpellsBags b gs
bags_text b gs (hs, (w, m, e), s) = (w, many_same w hs gs m s, e)

bags_of_spelling : (gs : List SafeBag) → IsRead (Within 0x30 (Many BagText)) gs → (b : List ℕ) → SpellsBags b gs → Decodes (Within 0x30 (Many BagText)) (Each SameBag) b gs
bags_of_spelling gs (t, (w, m, e0)) b (p, sp, e) =
    let d = same_of_spellings w p gs m sp in
    (d.0, (p, d.1, e), d.2)

pub bags_spelled : IsSpelledAsSame (Within 0x30 (Many BagText)) (Each SameBag) bags_canon SpellsBags
bags_spelled = spelled_as_same (Within 0x30 (Many BagText)) (Each SameBag) bags_canon SpellsBags bags_again bags_text bags_of_spelling

-- ---- stores

mac_option_text : (b : List ℕ) (m : Option MacData) → Perhaps MacText b m → SpellsOption SpellsMac b m
mac_option_text b None r = r
mac_option_text b (Some m) r = mac_text b m r

mac_option_of_spelling : (t b : List ℕ) (m : Option MacData) → Perhaps MacText t m → SpellsOption SpellsMac b m → Perhaps MacText b m
mac_option_of_spelling t b None h s = s
mac_option_of_spelling t b (Some m) h s = mac_of_spelling m (t, h) b s

pub store_text : (b : List ℕ) (s : PFX) → PfxText b s → SpellsStore b s
store_text b s (w, (x, y, r, (x2, y2, c, (x3, y3, m, e3, e2), e1), e), e0) = (
  x2,
  x3,
  content_text x2 s.auth_safe c,
  mac_option_text x3 s.mac_data m,
  whole_is 0x30 b w (uint s.version ++ (x2 ++ x3)) e0
      (parts_are x y w (uint s.version) (x2 ++ x3) (uint_is 0xff x s.version r) (parts_are x2 y2 y x2 x3 refl (last_is x3 y3 y2 x3 refl e3 e2) e1) e),
)

pub store_of_spelling : (s : PFX) → IsRead PfxText s → (b : List ℕ) → SpellsStore b s → PfxText b s
store_of_spelling s (t, (w, (x, y, r, (x2, y2, c, (x3, y3, m, e3, e2), e1), e), e0)) b (d, n, sc, sm, is) =
    (uint s.version ++ (d ++ n), (uint s.version, d ++ n, uint_again 0xff s.version x r, (d, n, content_of_spelling s.auth_safe (x2, c) d sc, one_left (Perhaps MacText) s (λ s. s.mac_data) n (mac_option_of_spelling x3 n s.mac_data m sm), refl), refl), is)

pub store_spelled : IsSpelled PfxText store_canon SpellsStore
store_spelled = spelled PfxText store_canon SpellsStore store_again store_text store_of_spelling
