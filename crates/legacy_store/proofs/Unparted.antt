-- A list of contents that p12 reads has no encrypted octets in parts, and is its own text.
use Rattle.std.proofs.Common.{◌≡◌, ℕ, List, [], ◌∷◌, ◌++◌, refl, sym, subst, ap, ◌∙◌, inr, arith}
use Rattle.std.proofs.lemmas.List.{append-nil}
use Rattle.asn1_core.specs.Der.{IsElement, el, joined, seq}
use Rattle.asn1_core.specs.Gives.{IsNone}
use Rattle.asn1_core.specs.Oid.{octets-oid_of, oid_octets}
use Rattle.asn1_core.specs.Texts.{Many, Within}
use Rattle.asn1_core.specs.declared.identifier.ObjectIdentifier.{ObjectIdentifier}
use Rattle.asn1_core.proofs.Parted.{el_one}
use Rattle.p12.specs.ContentInfo.{ContentCase, ContentText, IsContents}
use Rattle.p12.specs.EncryptedData.{EncryptedContentText, EncryptedDataText}
use Rattle.p12.specs.Identifiers.{encrypted_data_oid}
use Rattle.p12.specs.declared.content_info.ContentInfo.{ContentInfo}
use Rattle.p12.specs.declared.content_info.ContentInfo.TheVariants as content
use Rattle.p12.specs.declared.encrypted_data.EncryptedContentInfo.{EncryptedContentInfo}
use Rattle.p12.specs.declared.encrypted_data.EncryptedData.{EncryptedData}
use Rattle.legacy_store.specs.Joined.{JoinedContent, JoinedSafe, PartedContent, PartedDataText, PartedInfoText, PartedText}

-- Two texts that begin with an element are told apart by it.
told : (t u : ℕ) (v w a x b y : List ℕ) → a ≡ el t v → x ≡ el u w → a ++ b ≡ x ++ y → (t ≡ u) × (v ≡ w) × (b ≡ y)
told t u v w a x b y p q e = el_one t u v w b y (ap (λ (l : List ℕ). l ++ b) (sym p) ∙ e ∙ ap (λ (l : List ℕ). l ++ y) q)

same_value : (t u : ℕ) (v w b : List ℕ) → b ≡ el t v → b ≡ el u w → v ≡ w
same_value t u v w b p q = (told t u v w b b [] [] p q refl).1

no_info : (b : List ℕ) (i : EncryptedContentInfo) (p : PartedContent) → EncryptedContentText b i → PartedInfoText b p → ⊥
no_info b i p r s =
    let f = r.1 in
    let g = s.1 in
    let one = sym f.4 ∙ same_value 0x30 0x30 r.0 s.0 b r.2 s.2 ∙ g.4 in
    let two = (told 0x06 0x06 _ _ f.0 g.0 f.1 g.1 f.2.2 g.2.2 one).2 in
    let three = sym f.3.4 ∙ two ∙ g.3.4 in
    let four = (told 0x30 _ _ _ f.3.0 g.3.0 f.3.1 g.3.1 f.3.2.2 g.3.2.1.3 three).2 in
    let five = sym f.3.3.4 ∙ four ∙ g.3.3.4 in
    let tags : 0x80 ≡ 0xa0 = (told 0x80 0xa0 _ _ f.3.3.0 g.3.3.0 f.3.3.1 g.3.3.1 f.3.3.2.2 g.3.3.2.2 five).0 in
    omega (arith, tags)

no_data : (b : List ℕ) (d : EncryptedData) (p : PartedContent) → EncryptedDataText b d → PartedDataText b p → ⊥
no_data b d p r s =
    let f = r.1 in
    let g = s.1 in
    let one = sym f.4 ∙ same_value 0x30 0x30 r.0 s.0 b r.2 s.2 ∙ g.4 in
    let two = (told 0x02 0x02 _ _ f.0 g.0 f.1 g.1 f.2.2 g.2.2 one).2 in
    let three = sym f.3.4 ∙ two ∙ g.3.4 in
    let four = told 0x30 0x30 _ _ f.3.0 g.3.0 f.3.1 g.3.1 f.3.2.2 g.3.2.2 three in
    no_info f.3.0 d.encrypted_content_info p f.3.2 (subst (λ (l : List ℕ). PartedInfoText l p) (g.3.2.2 ∙ ap (λ (l : List ℕ). el 0x30 l) (sym four.1) ∙ sym f.3.2.2) g.3.2)

not_in : (k : ObjectIdentifier) (b z w : List ℕ) (c : ContentInfo) (p : PartedContent) → oid_octets k ≡ encrypted_data_oid → ContentCase k b c → Within 0xa0 PartedDataText z p → w ≡ [] → b ≡ z ++ w → ⊥
not_in k b z w (content.Data v) p is (data_is, r) s none e = absurd (let both = sym data_is ∙ is in cc)
not_in k b z w (content.EncryptedData d) p is (_, r) s none e =
    let same = told 0xa0 0xa0 r.0 s.0 b z [] w r.2 s.2 (rw (append-nil b) e) in
    no_data r.0 d p r.1 (subst (λ (l : List ℕ). PartedDataText l p) (sym same.1) s.1)
not_in k b z w (content.OtherContext o) p is (_, other, _, _) s none e = other is

not_parted : (q : List ℕ) (c : ContentInfo) → ContentText q c → IsNone PartedText q
not_parted q c r p s =
    let f = r.1 in
    let g = s.1 in
    let one = sym f.5 ∙ same_value 0x30 0x30 r.0 s.0 q r.2 s.2 ∙ g.4 in
    let two = told 0x06 0x06 _ _ f.0 g.0 f.1 g.1 f.3.2 g.2.2 one in
    let is : oid_octets f.2 ≡ encrypted_data_oid = sym f.3.1 ∙ two.1 ∙ g.2.1 ∙ octets-oid_of encrypted_data_oid refl in
    not_in f.2 f.1 g.3.0 g.3.1 c p is f.4 g.3.2 g.3.3 (two.2 ∙ g.3.4)

contents_stay : (b : List ℕ) (cs : List ContentInfo) → Many ContentText b cs → (es : List (List ℕ)) × Many JoinedContent b es × (joined es ≡ b)
contents_stay b [] m = ([], m, sym m)
contents_stay b (c ∷ cs) (p, q, r, m, is) =
    let s = contents_stay q cs m in
    let element : IsElement p = (0x30, r.0, refl, r.2) in
    (p ∷ s.0, (p, q, inr (element, not_parted p c r, refl), s.1, is), ap (λ (l : List ℕ). p ++ l) s.2 ∙ sym is)

pub lists_stay : (v : List ℕ) (cs : List ContentInfo) → IsContents v cs → JoinedSafe v v
unfolding IsContents JoinedSafe
lists_stay v cs ((b, m, is), short) =
    let s = contents_stay b cs m in
    (s.0, (b, s.1, is), is ∙ ap seq (sym s.2), short)
