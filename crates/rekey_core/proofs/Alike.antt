-- A further change draws as many octets, and comes to a text of the same size.
use Rattle.std.proofs.Common.{◌≡◌, ℕ, List, [], ◌∷◌, length, map, Option, Some, refl, sym, ap, subst, ◌∙◌, arith}
use Rattle.std.specs.List.{sum_by}
use Rattle.std.proofs.lemmas.List.Sums.{sum_by-append, sum_by-cons}
use Rattle.asn1_core.specs.Sets.{Each}
use Rattle.p12.specs.AlgorithmIdentifier.{unlock}
use Rattle.p12.specs.Canonical.{contents_canon, store_canon}
use Rattle.p12.specs.Collected.{HoldsBags}
use Rattle.p12.specs.ContentInfo.{IsContents}
use Rattle.p12.specs.Same.{SameBag}
use Rattle.p12.specs.declared.algorithm_identifier.AlgorithmIdentifier.{AlgorithmIdentifier}
use Rattle.p12.specs.declared.algorithm_identifier.AlgorithmIdentifier.TheVariants.{Sha1, Sha256, PbewithSHAAnd40BitRC2CBC, PbeWithSHAAnd3KeyTripleDESCBC, Pbes2, OtherAlg}
use Rattle.p12.specs.declared.content_info.ContentInfo.{ContentInfo}
use Rattle.p12.specs.declared.content_info.ContentInfo.TheVariants as content
use Rattle.p12.specs.declared.encrypted_private_key_info.EncryptedPrivateKeyInfo.{EncryptedPrivateKeyInfo}
use Rattle.p12.specs.declared.mac_data.MacData.{MacData}
use Rattle.p12.specs.declared.pfx.PFX.{PFX}
use Rattle.p12.specs.declared.safe_bag.SafeBag.{SafeBag}
use Rattle.p12.specs.declared.safe_bag.SafeBagKind.{SafeBagKind}
use Rattle.p12.specs.declared.safe_bag.SafeBagKind.TheVariants as kind
use Rattle.p12.proofs.Again.{bags_once}
use Rattle.p12.proofs.DefinitionLaws.{contents_sole, store_sole}
use Rattle.transfer.specs.Opening.{all_shrouded, shrouded_among, shrouded_in}
use Rattle.rekey_core.specs.Kinds.{mac_for}
use Rattle.rekey_core.specs.Anew.{anew, content_draws, drawn_for, key_draws}
use Rattle.rekey_core.specs.Change.{Changes}
use Rattle.rekey_core.specs.Like.{BagLike, ContentLike, FormLike, IsAnew, KindLike}
use Rattle.rekey_core.specs.Resealing.{EachDrawn, OpensEqually}
use Rattle.rekey_core.specs.Rekeyed.{IsAllowed, draws, size}
use Rattle.rekey_core.proofs.Held.{held}
use Rattle.rekey_core.specs.Unlocking.{under}
use Rattle.rekey_core.specs.Size.{blank, blank_algorithm, blank_bag, blank_content, blank_contents, blank_key, blank_kind, blank_mac, blank_text, changed_size, digest_size, sealed_size, size_in}
use Rattle.rekey_core.proofs.OuterParts.{data_is, mac_is}
use Rattle.rekey_core.proofs.Sizes.{holds_sole}
use Rattle.rekey_core.specs.declared.kinds.Kinds.TheVariants.{Kept}

-- ---- algorithms

anew_draws : (a : AlgorithmIdentifier) (z : List ℕ) → drawn_for (anew a z) ≡ drawn_for a
anew_draws Sha1 z = refl
anew_draws Sha256 z = refl
anew_draws (PbewithSHAAnd40BitRC2CBC p) z = refl
anew_draws (PbeWithSHAAnd3KeyTripleDESCBC p) z = refl
anew_draws (Pbes2 par) z = refl
anew_draws (OtherAlg o) z = refl

anew_sizes : (a : AlgorithmIdentifier) (z : List ℕ) (n : ℕ) → sealed_size (anew a z) n ≡ sealed_size a n
anew_sizes Sha1 z n = refl
anew_sizes Sha256 z n = refl
anew_sizes (PbewithSHAAnd40BitRC2CBC p) z n = refl
anew_sizes (PbeWithSHAAnd3KeyTripleDESCBC p) z n = refl
anew_sizes (Pbes2 par) z n = refl
anew_sizes (OtherAlg o) z n = refl

anew_blank : (a : AlgorithmIdentifier) (z : List ℕ) → blank_algorithm (anew a z) ≡ blank_algorithm a
anew_blank Sha1 z = refl
anew_blank Sha256 z = refl
anew_blank (PbewithSHAAnd40BitRC2CBC p) z = refl
anew_blank (PbeWithSHAAnd3KeyTripleDESCBC p) z = refl
anew_blank (Pbes2 par) z = refl
anew_blank (OtherAlg o) z = refl

draws_alike : (a b : AlgorithmIdentifier) (z : List ℕ) → IsAnew Kept z a b → drawn_for b ≡ drawn_for a
draws_alike a b z n = ap drawn_for n.algorithm ∙ anew_draws a z

sizes_alike : (a b : AlgorithmIdentifier) (z : List ℕ) (m : ℕ) → IsAnew Kept z a b → sealed_size b m ≡ sealed_size a m
sizes_alike a b z m n = ap (λ (x : AlgorithmIdentifier). sealed_size x m) n.algorithm ∙ anew_sizes a z m

blank_alike : (a b : AlgorithmIdentifier) (z : List ℕ) → IsAnew Kept z a b → blank_algorithm b ≡ blank_algorithm a
blank_alike a b z n = ap blank_algorithm n.algorithm ∙ anew_blank a z

-- ---- bags

key_alike : (p q z : List ℕ) (k l : EncryptedPrivateKeyInfo) → IsAnew Kept z k.encryption_algorithm l.encryption_algorithm
    → OpensEqually (under p) q k.encryption_algorithm k.encrypted_data l.encryption_algorithm l.encrypted_data → blank_key Kept (under q) l ≡ blank_key Kept (under p) k
key_alike p q z k l n o =
    let a = k.encryption_algorithm in
    let b = l.encryption_algorithm in
    let make : AlgorithmIdentifier → ℕ → EncryptedPrivateKeyInfo = λ x m. record { encryption_algorithm = x; encrypted_data = blank m } in
    let new : sealed_size b (size_in (unlock b q l.encrypted_data)) ≡ sealed_size b (length o.text) = ap (λ (x : Option (List ℕ)). sealed_size b (size_in x)) o.opens_anew in
    let old : sealed_size a (size_in (unlock a p k.encrypted_data)) ≡ sealed_size a (length o.text) = ap (λ (x : Option (List ℕ)). sealed_size a (size_in x)) o.opens in
    ap (λ x. make x (sealed_size b (size_in (unlock b q l.encrypted_data)))) (blank_alike a b z n) ∙ ap (λ m. make (blank_algorithm a) m) (new ∙ sizes_alike a b z (length o.text) n ∙ sym old)

kind_alike : (p q z : List ℕ) (k l : SafeBagKind) → KindLike Kept (under p) q z k l → blank_kind Kept (under q) l ≡ blank_kind Kept (under p) k
kind_alike p q z (kind.CertBag c) l v = ap (blank_kind Kept (under q)) v.1
kind_alike p q z (kind.OtherBagKind o) l v = ap (blank_kind Kept (under q)) v.1
kind_alike p q z (kind.Pkcs8ShroudedKeyBag k) (kind.CertBag c) v = absurd v
kind_alike p q z (kind.Pkcs8ShroudedKeyBag k) (kind.OtherBagKind o) v = absurd v
kind_alike p q z (kind.Pkcs8ShroudedKeyBag k) (kind.Pkcs8ShroudedKeyBag l) v = ap (λ (x : EncryptedPrivateKeyInfo). kind.Pkcs8ShroudedKeyBag x) (key_alike p q z k l v.0 v.1)

one_draws : (k l : EncryptedPrivateKeyInfo) → key_draws Kept l ≡ key_draws Kept k → sum_by (key_draws Kept) (l ∷ []) ≡ sum_by (key_draws Kept) (k ∷ [])
one_draws k l e = omega (arith, e, sum_by-cons (key_draws Kept) l [], sum_by-cons (key_draws Kept) k [])

kind_draws : (p q z : List ℕ) (k l : SafeBagKind) → KindLike Kept (under p) q z k l → sum_by (key_draws Kept) (shrouded_in l) ≡ sum_by (key_draws Kept) (shrouded_in k)
kind_draws p q z (kind.CertBag c) l v = ap (λ (x : SafeBagKind). sum_by (key_draws Kept) (shrouded_in x)) v.1
kind_draws p q z (kind.OtherBagKind o) l v = ap (λ (x : SafeBagKind). sum_by (key_draws Kept) (shrouded_in x)) v.1
kind_draws p q z (kind.Pkcs8ShroudedKeyBag k) (kind.CertBag c) v = absurd v
kind_draws p q z (kind.Pkcs8ShroudedKeyBag k) (kind.OtherBagKind o) v = absurd v
kind_draws p q z (kind.Pkcs8ShroudedKeyBag k) (kind.Pkcs8ShroudedKeyBag l) v = one_draws k l (draws_alike k.encryption_algorithm l.encryption_algorithm z v.0)

bags_alike : (p q : List ℕ) (gs hs : List SafeBag) (d : List ℕ) → EachDrawn (BagLike Kept (under p) q) gs hs d → Each SameBag (map (blank_bag Kept (under q)) hs) (map (blank_bag Kept (under p)) gs)
bags_alike p q [] [] d s = tt
bags_alike p q [] (h ∷ hs) d s = absurd s
bags_alike p q (g ∷ gs) [] d s = absurd s
bags_alike p q (g ∷ gs) (h ∷ hs) d (z, rest, e, b, s) = ((kind_alike p q z g.bag h.bag b.value, b.attributes), bags_alike p q gs hs rest s)

text_alike : (p q : List ℕ) (gs hs : List SafeBag) (d : List ℕ) → EachDrawn (BagLike Kept (under p) q) gs hs d → blank_text Kept (under q) hs ≡ blank_text Kept (under p) gs
text_alike p q gs hs d s = bags_once (map (blank_bag Kept (under q)) hs) (map (blank_bag Kept (under p)) gs) (bags_alike p q gs hs d s)

bags_draw_alike : (p q : List ℕ) (gs hs : List SafeBag) (d : List ℕ) → EachDrawn (BagLike Kept (under p) q) gs hs d → sum_by (key_draws Kept) (shrouded_among hs) ≡ sum_by (key_draws Kept) (shrouded_among gs)
bags_draw_alike p q [] [] d s = refl
bags_draw_alike p q [] (h ∷ hs) d s = absurd s
bags_draw_alike p q (g ∷ gs) [] d s = absurd s
bags_draw_alike p q (g ∷ gs) (h ∷ hs) d (z, rest, e, b, s) =
    omega (arith, kind_draws p q z g.bag h.bag b.value, bags_draw_alike p q gs hs rest s, sum_by-append (key_draws Kept) (shrouded_in h.bag) (shrouded_among hs), sum_by-append (key_draws Kept) (shrouded_in g.bag) (shrouded_among gs))

-- ---- contents

abbrev content_of : AlgorithmIdentifier → ℕ → ContentInfo
content_of a n = content.EncryptedData (record { encrypted_content_info = record { content_encryption_algorithm = a; encrypted_content = blank n } })

content_alike : (p q d : List ℕ) (c e : ContentInfo) → (l : ContentLike Kept (under p) q d c e) → blank_content Kept (under q) e l.bags_anew ≡ blank_content Kept (under p) c l.bags
content_alike p q d (content.Data v) (content.Data w) l = ap content.Data (text_alike p q l.bags l.bags_anew l.of_keys l.like)
content_alike p q d (content.EncryptedData v) (content.EncryptedData w) l =
    let a = v.encrypted_content_info.content_encryption_algorithm in
    let b = w.encrypted_content_info.content_encryption_algorithm in
    let n : sealed_size b (length (blank_text Kept (under q) l.bags_anew)) ≡ sealed_size a (length (blank_text Kept (under p) l.bags)) =
    sizes_alike a b l.own (length (blank_text Kept (under q) l.bags_anew)) l.form ∙ ap (λ (t : List ℕ). sealed_size a (length t)) (text_alike p q l.bags l.bags_anew l.of_keys l.like) in
    ap (λ x. content_of x (sealed_size b (length (blank_text Kept (under q) l.bags_anew)))) (blank_alike a b l.own l.form) ∙ ap (λ m. content_of (blank_algorithm a) m) n
content_alike p q d (content.Data v) (content.EncryptedData w) l = absurd l.form
content_alike p q d (content.Data v) (content.OtherContext o) l = absurd l.form
content_alike p q d (content.EncryptedData v) (content.Data w) l = absurd l.form
content_alike p q d (content.EncryptedData v) (content.OtherContext o) l = absurd l.form
content_alike p q d (content.OtherContext o) e l = absurd l.form

form_draws : (z : List ℕ) (c e : ContentInfo) → FormLike Kept z c e → content_draws Kept e ≡ content_draws Kept c
form_draws z (content.Data v) (content.Data w) l = refl
form_draws z (content.EncryptedData v) (content.EncryptedData w) l = draws_alike _ _ z l
form_draws z (content.Data v) (content.EncryptedData w) l = absurd l
form_draws z (content.Data v) (content.OtherContext o) l = absurd l
form_draws z (content.EncryptedData v) (content.Data w) l = absurd l
form_draws z (content.EncryptedData v) (content.OtherContext o) l = absurd l
form_draws z (content.OtherContext o) e l = absurd l

record PartsAlike (p q : List ℕ) (cs es : List ContentInfo) (gss hss : List (List SafeBag)) : Type 0 where
  pub blank : blank_contents Kept (under q) es hss ≡ blank_contents Kept (under p) cs gss
  pub own : sum_by (content_draws Kept) es ≡ sum_by (content_draws Kept) cs
  pub of_keys : sum_by (key_draws Kept) (all_shrouded hss) ≡ sum_by (key_draws Kept) (all_shrouded gss)

parts_alike : (p q : List ℕ) (cs es : List ContentInfo) (gss hss : List (List SafeBag)) (d : List ℕ) → EachDrawn (ContentLike Kept (under p) q) cs es d → Each (HoldsBags p) cs gss → Each (HoldsBags q) es hss
    → PartsAlike p q cs es gss hss
parts_alike p q [] [] [] [] d s h k = record { blank = refl; own = refl; of_keys = refl }
parts_alike p q [] [] (g ∷ gss) hss d s h k = absurd h
parts_alike p q [] [] [] (g ∷ hss) d s h k = absurd k
parts_alike p q [] (e ∷ es) gss hss d s h k = absurd s
parts_alike p q (c ∷ cs) [] gss hss d s h k = absurd s
parts_alike p q (c ∷ cs) (e ∷ es) [] hss d s h k = absurd h
parts_alike p q (c ∷ cs) (e ∷ es) (g ∷ gss) [] d s h k = absurd k
parts_alike p q (c ∷ cs) (e ∷ es) (gs ∷ gss) (hs ∷ hss) d (z, rest, f, l, s) h k =
    let m = parts_alike p q cs es gss hss rest s h.1 k.1 in
    let old : l.bags ≡ gs = holds_sole (under p) c l.bags gs l.holds (held p c gs h.0) in
    let new : l.bags_anew ≡ hs = holds_sole (under q) e l.bags_anew hs (held q e l.bags_anew l.holds_anew) (held q e hs k.0) in
    let like : EachDrawn (BagLike Kept (under p) q) gs hs l.of_keys = subst (λ (x : List SafeBag). EachDrawn (BagLike Kept (under p) q) x hs l.of_keys) old (subst (λ (x : List SafeBag). EachDrawn (BagLike Kept (under p) q) l.bags x l.of_keys) new l.like) in
    let one : blank_content Kept (under q) e hs ≡ blank_content Kept (under p) c gs = sym (ap (blank_content Kept (under q) e) new) ∙ content_alike p q z c e l ∙ ap (blank_content Kept (under p) c) old in
    record {
      blank = ap (λ (x : ContentInfo). x ∷ blank_contents Kept (under q) es hss) one ∙ ap (λ (x : List ContentInfo). blank_content Kept (under p) c gs ∷ x) m.blank;
      own = omega (arith, form_draws l.own c e l.form, m.own, sum_by-cons (content_draws Kept) e es, sum_by-cons (content_draws Kept) c cs);
      of_keys = omega (arith, bags_draw_alike p q gs hs l.of_keys like, m.of_keys, sum_by-append (key_draws Kept) (shrouded_among hs) (all_shrouded hss), sum_by-append (key_draws Kept) (shrouded_among gs) (all_shrouded gss));
    }

-- ---- stores

abbrev mac_like : AlgorithmIdentifier → ℕ → MacData
mac_like a n = record { mac = record { digest_algorithm = a; digest = blank (digest_size a) }; salt = blank 8; iterations = n }

abbrev store_like : ℕ → MacData → List ContentInfo → PFX
store_like version m cs = record { version = version; auth_safe = content.Data (contents_canon cs); mac_data = Some m }

size_alike : (p q : List ℕ) (v w : ℕ) (m n : MacData) (cs es : List ContentInfo) (gss hss : List (List SafeBag)) → w ≡ v → n.mac.digest_algorithm ≡ m.mac.digest_algorithm → n.iterations ≡ m.iterations
    → blank_contents Kept (under q) es hss ≡ blank_contents Kept (under p) cs gss → changed_size Kept w (mac_for Kept n) (under q) es hss ≡ changed_size Kept v (mac_for Kept m) (under p) cs gss
unfolding changed_size
size_alike p q v w m n cs es gss hss version digest count parts =
    let mac : blank_mac Kept (mac_for Kept n) ≡ blank_mac Kept (mac_for Kept m) = ap (λ (a : AlgorithmIdentifier). mac_like a n.iterations) digest ∙ ap (λ (k : ℕ). mac_like m.mac.digest_algorithm k) count in
    ap (λ (x : ℕ). length (store_canon (store_like x (blank_mac Kept (mac_for Kept n)) (blank_contents Kept (under q) es hss)))) version
    ∙ ap (λ (x : MacData). length (store_canon (store_like v x (blank_contents Kept (under q) es hss)))) mac
    ∙ ap (λ (x : List ContentInfo). length (store_canon (store_like v (blank_mac Kept (mac_for Kept m)) x))) parts

pub changes_alike : (b p c q d : List ℕ) (limit : ℕ) (first : IsAllowed b p limit) (further : IsAllowed c q limit) → Changes b p c q d
    → (draws c q limit further ≡ draws b p limit first) × (size c q limit further ≡ size b p limit first)
changes_alike b p c q d limit first further ch =
    let x = ch.changed in
    let o = first.opens in
    let r = further.opens in
    let store : o.store ≡ ch.store = store_sole b o.store ch.store o.is ch.is in
    let text : o.text ≡ x.text = data_is o.text x.text (sym o.is_data ∙ ap (λ (s : PFX). s.auth_safe) store ∙ x.is_data) in
    let mac : o.mac ≡ x.mac = mac_is o.mac x.mac (sym o.has ∙ ap (λ (s : PFX). s.mac_data) store ∙ x.has_mac) in
    let parts : o.parts ≡ x.parts = contents_sole x.text o.parts x.parts (subst (λ (t : List ℕ). IsContents t o.parts) text o.opening.contents) x.lists in
    let store_anew : r.store ≡ ch.store_anew = store_sole c r.store ch.store_anew r.is ch.is_anew in
    let text_anew : r.text ≡ x.text_anew = data_is r.text x.text_anew (sym r.is_data ∙ ap (λ (s : PFX). s.auth_safe) store_anew ∙ x.is_data_anew) in
    let mac_anew : r.mac ≡ x.mac_anew = mac_is r.mac x.mac_anew (sym r.has ∙ ap (λ (s : PFX). s.mac_data) store_anew ∙ x.has_mac_anew) in
    let parts_anew : r.parts ≡ x.parts_anew = contents_sole x.text_anew r.parts x.parts_anew (subst (λ (t : List ℕ). IsContents t r.parts) text_anew r.opening.contents) x.lists_anew in
    let bags : Each (HoldsBags p) x.parts first.bags = subst (λ (t : List ContentInfo). Each (HoldsBags p) t first.bags) parts o.opening.bags in
    let bags_anew : Each (HoldsBags q) x.parts_anew further.bags = subst (λ (t : List ContentInfo). Each (HoldsBags q) t further.bags) parts_anew r.opening.bags in
    let k = parts_alike p q x.parts x.parts_anew first.bags further.bags x.of_parts x.like bags bags_anew in
    let own : sum_by (content_draws Kept) r.parts ≡ sum_by (content_draws Kept) o.parts = ap (sum_by (content_draws Kept)) parts_anew ∙ k.own ∙ sym (ap (sum_by (content_draws Kept)) parts) in
    let version : r.store.version ≡ o.store.version = ap (λ (s : PFX). s.version) store_anew ∙ x.version ∙ sym (ap (λ (s : PFX). s.version) store) in
    let digest : r.mac.mac.digest_algorithm ≡ o.mac.mac.digest_algorithm = ap (λ (m : MacData). m.mac.digest_algorithm) mac_anew ∙ x.digest ∙ sym (ap (λ (m : MacData). m.mac.digest_algorithm) mac) in
    let count : r.mac.iterations ≡ o.mac.iterations = ap (λ (m : MacData). m.iterations) mac_anew ∙ x.count ∙ sym (ap (λ (m : MacData). m.iterations) mac) in
    let blank : blank_contents Kept (under q) r.parts further.bags ≡ blank_contents Kept (under p) o.parts first.bags =
    ap (λ (t : List ContentInfo). blank_contents Kept (under q) t further.bags) parts_anew ∙ k.blank ∙ sym (ap (λ (t : List ContentInfo). blank_contents Kept (under p) t first.bags) parts) in
    (omega (arith, own, k.of_keys), size_alike p q o.store.version r.store.version o.mac r.mac o.parts r.parts first.bags further.bags version digest count blank)
