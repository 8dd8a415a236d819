-- What changes of a store's password keep.
use Rattle.std.proofs.Common.{◌≡◌, ℕ, ◌*◌, ◌≤◌, List, [], ◌∷◌, ◌++◌, length, Option, Some, None, mul-suc, suc, zero, refl, sym, ap, subst, ◌∙◌, arith}
use Rattle.p12.specs.SafeBag.{x509_of}
use Rattle.std.specs.List.{sum_by}
use Rattle.std.proofs.lemmas.List.Sorted.{IsPermutation-trans}
use Rattle.std.proofs.lemmas.List.Sums.{sum_by-append, sum_by-cons}
use Rattle.asn1_core.specs.Sets.{Each, SameSet}
use Rattle.asn1_core.proofs.SetLaws.{SameSet-refl, each-permuted, each-refl, each-swapped, each-through}
use Rattle.pbkdf2.specs.Pbkdf2.{block_count}
use Rattle.pkcs5.specs.Kinds.{key_size, rounds_of}
use Rattle.pkcs5.specs.Opening.{answers_of, prf_output}
use Rattle.pkcs5.specs.declared.pbes2.encryption_scheme.EncryptionScheme.{EncryptionScheme}
use Rattle.pkcs5.specs.declared.pbes2.encryption_scheme.EncryptionScheme.TheVariants.{Aes128Cbc, Aes192Cbc, Aes256Cbc, Aes128Gcm, Aes256Gcm, DesEde3Cbc, DesCbc}
use Rattle.pkcs5.specs.declared.pbes2.kdf.Kdf.{Kdf}
use Rattle.pkcs5.specs.declared.pbes2.kdf.Kdf.TheVariants.{Pbkdf2, Scrypt}
use Rattle.pkcs5.specs.declared.pbes2.pbkdf2_prf.Pbkdf2Prf.{Pbkdf2Prf}
use Rattle.pkcs5.specs.declared.pbes2.pbkdf2_prf.Pbkdf2Prf.TheVariants.{HmacWithSha1, HmacWithSha224, HmacWithSha256, HmacWithSha384, HmacWithSha512}
use Rattle.p12.specs.AlgorithmIdentifier.{cost}
use Rattle.p12.specs.Collected.{HoldsBags, at_most_one, certificates_among}
use Rattle.p12.specs.ContentInfo.{IsContents}
use Rattle.p12.specs.Same.{SameAttribute}
use Rattle.p12.specs.declared.algorithm_identifier.AlgorithmIdentifier.{AlgorithmIdentifier}
use Rattle.p12.specs.declared.algorithm_identifier.AlgorithmIdentifier.TheVariants.{Sha1, Sha256, PbewithSHAAnd40BitRC2CBC, PbeWithSHAAnd3KeyTripleDESCBC, Pbes2, OtherAlg}
use Rattle.p12.specs.declared.attribute.PKCS12Attribute.{PKCS12Attribute}
use Rattle.p12.specs.declared.attribute.PKCS12Attribute.TheVariants.{FriendlyName, LocalKeyId, Other}
use Rattle.p12.specs.declared.content_info.ContentInfo.{ContentInfo}
use Rattle.p12.specs.declared.content_info.ContentInfo.TheVariants as content
use Rattle.p12.specs.declared.encrypted_private_key_info.EncryptedPrivateKeyInfo.{EncryptedPrivateKeyInfo}
use Rattle.p12.specs.declared.pfx.PFX.{PFX}
use Rattle.p12.specs.declared.safe_bag.SafeBag.{SafeBag}
use Rattle.p12.specs.declared.safe_bag.SafeBagKind.{SafeBagKind}
use Rattle.p12.specs.declared.safe_bag.SafeBagKind.TheVariants as kind
use Rattle.p12.proofs.DefinitionLaws.{contents_sole, store_sole}
use Rattle.transfer.specs.Limits.{store_limit}
use Rattle.transfer.specs.Opening.{FirstCause, KeyOpens, all_certificates, all_shrouded, content_share, key_share, shrouded_among, shrouded_in}
use Rattle.transfer.specs.Verdicts.{StoreOpens, work}
use Rattle.transfer.proofs.Valid.{opened_exactly}
use Rattle.rekey_core.specs.Anew.{anew}
use Rattle.rekey_core.specs.Change.{Changes, ChangesTo}
use Rattle.rekey_core.specs.Changes.{BagKept, IsKept, IsKeptTo, KindKept, RekeysAll, last_of}
use Rattle.rekey_core.specs.Like.{BagLike, ContentLike, IsAnew, KindLike}
use Rattle.rekey_core.specs.Resealing.{EachDrawn}
use Rattle.rekey_core.proofs.OuterParts.{data_is, mac_is}
use Rattle.rekey_core.proofs.Sizes.{holds_sole}
use Rattle.rekey_core.specs.Kinds.{count_for, kind_for}
use Rattle.rekey_core.specs.Unlocking.{HoldsBy, KeyOpensBy, Unlocking, under}
use Rattle.rekey_core.specs.Work.{content_work, key_work, work_to}
use Rattle.rekey_core.specs.declared.kinds.Kinds.{Kinds}
use Rattle.rekey_core.specs.declared.kinds.Kinds.TheVariants.{Kept}
use Rattle.rekey_core.proofs.Held.{all_held}

-- ---- costs

-- each cipher's key takes an answer of the function at least
one_answer : (e : EncryptionScheme) (f : Pbkdf2Prf) → 1 ≤ block_count (key_size e) (prf_output f)
one_answer (Aes128Cbc v) HmacWithSha1 = omega arith
one_answer (Aes128Cbc v) HmacWithSha224 = omega arith
one_answer (Aes128Cbc v) HmacWithSha256 = omega arith
one_answer (Aes128Cbc v) HmacWithSha384 = omega arith
one_answer (Aes128Cbc v) HmacWithSha512 = omega arith
one_answer (Aes192Cbc v) HmacWithSha1 = omega arith
one_answer (Aes192Cbc v) HmacWithSha224 = omega arith
one_answer (Aes192Cbc v) HmacWithSha256 = omega arith
one_answer (Aes192Cbc v) HmacWithSha384 = omega arith
one_answer (Aes192Cbc v) HmacWithSha512 = omega arith
one_answer (Aes256Cbc v) HmacWithSha1 = omega arith
one_answer (Aes256Cbc v) HmacWithSha224 = omega arith
one_answer (Aes256Cbc v) HmacWithSha256 = omega arith
one_answer (Aes256Cbc v) HmacWithSha384 = omega arith
one_answer (Aes256Cbc v) HmacWithSha512 = omega arith
one_answer (Aes128Gcm v) HmacWithSha1 = omega arith
one_answer (Aes128Gcm v) HmacWithSha224 = omega arith
one_answer (Aes128Gcm v) HmacWithSha256 = omega arith
one_answer (Aes128Gcm v) HmacWithSha384 = omega arith
one_answer (Aes128Gcm v) HmacWithSha512 = omega arith
one_answer (Aes256Gcm v) HmacWithSha1 = omega arith
one_answer (Aes256Gcm v) HmacWithSha224 = omega arith
one_answer (Aes256Gcm v) HmacWithSha256 = omega arith
one_answer (Aes256Gcm v) HmacWithSha384 = omega arith
one_answer (Aes256Gcm v) HmacWithSha512 = omega arith
one_answer (DesEde3Cbc v) HmacWithSha1 = omega arith
one_answer (DesEde3Cbc v) HmacWithSha224 = omega arith
one_answer (DesEde3Cbc v) HmacWithSha256 = omega arith
one_answer (DesEde3Cbc v) HmacWithSha384 = omega arith
one_answer (DesEde3Cbc v) HmacWithSha512 = omega arith
one_answer (DesCbc v) HmacWithSha1 = omega arith
one_answer (DesCbc v) HmacWithSha224 = omega arith
one_answer (DesCbc v) HmacWithSha256 = omega arith
one_answer (DesCbc v) HmacWithSha384 = omega arith
one_answer (DesCbc v) HmacWithSha512 = omega arith

answers : (k : Kdf) (e : EncryptionScheme) → rounds_of k ≤ rounds_of k * answers_of k (key_size e)
answers (Pbkdf2 p) e = more p.iteration_count (block_count (key_size e) (prf_output p.prf)) (one_answer e p.prf)
  where
    more : (n m : ℕ) → 1 ≤ m → n ≤ n * m
    more n zero le = absurd (omega (arith, le))
    more n (suc m) le = let s = mul-suc n m in omega (arith, s)
answers (Scrypt p) e = omega arith

-- The cost of the algorithm that is stated never passes that of the one of whose kind it is.
cost_kind : (a : AlgorithmIdentifier) (z : List ℕ) → cost (anew a z) ≤ cost a
cost_kind Sha1 z = omega arith
cost_kind Sha256 z = omega arith
cost_kind (PbewithSHAAnd40BitRC2CBC p) z = omega arith
cost_kind (PbeWithSHAAnd3KeyTripleDESCBC p) z = omega arith
cost_kind (Pbes2 par) z = let k = answers par.kdf par.encryption in omega (arith, k)
cost_kind (OtherAlg p) z = omega arith

pub cost_anew : (to : Kinds) (a b : AlgorithmIdentifier) (z : List ℕ) → IsAnew to z a b → cost b ≤ cost (kind_for to a)
cost_anew to a b z n = subst (λ (x : AlgorithmIdentifier). cost x ≤ cost (kind_for to a)) (sym n.algorithm) (cost_kind (kind_for to a) z)

-- ---- attributes

same_set_trans : {A : Type 0} (S : A → A → Type 0) → ((x y z : A) → S x y → S y z → S x z) → (xs ys zs : List A) → SameSet S xs ys → SameSet S ys zs → SameSet S xs zs
same_set_trans {A} S trans xs ys zs (us, p, e) (vs, q, f) =
    let k = each-permuted (λ (y x : A). S x y) ys vs us (each-swapped S us ys e) q in
    let back = each-swapped (λ (y x : A). S x y) vs k.0 k.1 in
    (k.0, IsPermutation-trans xs us k.0 p k.2, each-through S S S trans k.0 vs zs back f)

path_trans : (x y z : List ℕ) → x ≡ y → y ≡ z → x ≡ z
path_trans x y z e f = e ∙ f

same_trans : (v w u : PKCS12Attribute) → SameAttribute v w → SameAttribute w u → SameAttribute v u
same_trans (FriendlyName t) w u e f = subst (λ (x : PKCS12Attribute). SameAttribute x u) e f
same_trans (LocalKeyId t) w u e f = subst (λ (x : PKCS12Attribute). SameAttribute x u) e f
same_trans (Other o) (FriendlyName t) u e f = absurd e
same_trans (Other o) (LocalKeyId t) u e f = absurd e
same_trans (Other o) (Other p) (FriendlyName t) e f = absurd f
same_trans (Other o) (Other p) (LocalKeyId t) e f = absurd f
same_trans (Other o) (Other p) (Other q) e f = (e.0 ∙ f.0, same_set_trans (λ (x y : List ℕ). x ≡ y) path_trans o.values p.values q.values e.1 f.1)

same_refl : (v : PKCS12Attribute) → SameAttribute v v
same_refl (FriendlyName t) = refl
same_refl (LocalKeyId t) = refl
same_refl (Other o) = (refl, SameSet-refl (λ (x y : List ℕ). x ≡ y) (λ x. refl) o.values)

kind_refl : (k : SafeBagKind) → KindKept k k
kind_refl (kind.CertBag c) = refl
kind_refl (kind.OtherBagKind o) = refl
kind_refl (kind.Pkcs8ShroudedKeyBag k) = tt

kept_refl : (g : SafeBag) → BagKept g g
kept_refl g = record { attributes = SameSet-refl SameAttribute same_refl g.attributes; value = kind_refl g.bag }

kind_trans : (k l m : SafeBagKind) → KindKept k l → KindKept l m → KindKept k m
kind_trans (kind.CertBag c) l m e f = subst (λ (x : SafeBagKind). KindKept x m) e f
kind_trans (kind.OtherBagKind o) l m e f = subst (λ (x : SafeBagKind). KindKept x m) e f
kind_trans (kind.Pkcs8ShroudedKeyBag k) (kind.CertBag c) m e f = absurd e
kind_trans (kind.Pkcs8ShroudedKeyBag k) (kind.OtherBagKind o) m e f = absurd e
kind_trans (kind.Pkcs8ShroudedKeyBag k) (kind.Pkcs8ShroudedKeyBag l) (kind.CertBag c) e f = absurd f
kind_trans (kind.Pkcs8ShroudedKeyBag k) (kind.Pkcs8ShroudedKeyBag l) (kind.OtherBagKind o) e f = absurd f
kind_trans (kind.Pkcs8ShroudedKeyBag k) (kind.Pkcs8ShroudedKeyBag l) (kind.Pkcs8ShroudedKeyBag m) e f = tt

kept_trans : (g h u : SafeBag) → BagKept g h → BagKept h u → BagKept g u
kept_trans g h u e f = record {
  attributes = same_set_trans SameAttribute same_trans u.attributes h.attributes g.attributes f.attributes e.attributes;
  value = kind_trans g.bag h.bag u.bag e.value f.value;
}

all_kept_trans : (gs hs us : List SafeBag) → Each BagKept gs hs → Each BagKept hs us → Each BagKept gs us
all_kept_trans gs hs us e f = each-through BagKept BagKept BagKept kept_trans gs hs us e f

-- ---- bags that are like others

some_is : (x y : List ℕ) → Some x ≡ Some y → x ≡ y
some_is x y e = cc

-- what bags that are like others give
record BagsKeep (to : Kinds) (q : List ℕ) (gs hs : List SafeBag) (us : List (List ℕ)) : Type 0 where
  pub keys : Each (KeyOpens q) (shrouded_among hs) us
  pub certificates : certificates_among hs ≡ certificates_among gs
  pub cost : sum_by key_share (shrouded_among hs) ≤ sum_by (key_work to) (shrouded_among gs)
  pub kept : Each BagKept gs hs

key_keeps : (to : Kinds) (u : Unlocking) (q z : List ℕ) (k l : EncryptedPrivateKeyInfo) (y : List ℕ) → KindLike to u q z (kind.Pkcs8ShroudedKeyBag k) (kind.Pkcs8ShroudedKeyBag l) → KeyOpensBy u k y → KeyOpens q l y
key_keeps to u q z k l y v o = (v.1.opens_anew ∙ ap (λ (x : List ℕ). Some x) (some_is v.1.text y (sym v.1.opens ∙ o.0)), o.1)

kind_kept : (to : Kinds) (u : Unlocking) (q z : List ℕ) (k l : SafeBagKind) → KindLike to u q z k l → KindKept k l
kind_kept to u q z (kind.CertBag c) l v = v.1
kind_kept to u q z (kind.OtherBagKind o) l v = v.1
kind_kept to u q z (kind.Pkcs8ShroudedKeyBag k) (kind.CertBag c) v = absurd v
kind_kept to u q z (kind.Pkcs8ShroudedKeyBag k) (kind.OtherBagKind o) v = absurd v
kind_kept to u q z (kind.Pkcs8ShroudedKeyBag k) (kind.Pkcs8ShroudedKeyBag l) v = tt

one_keeps : (to : Kinds) (u : Unlocking) (q z : List ℕ) (g h : SafeBag) (k l : SafeBagKind) (gs hs : List SafeBag) (us : List (List ℕ)) → g.bag ≡ k → h.bag ≡ l → KindLike to u q z k l → SameSet SameAttribute h.attributes g.attributes
    → ((ws : List (List ℕ)) → Each (KeyOpensBy u) (shrouded_among gs) ws → BagsKeep to q gs hs ws) → Each (KeyOpensBy u) (shrouded_in k ++ shrouded_among gs) us → BagsKeep to q (g ∷ gs) (h ∷ hs) us
one_keeps to u q z g h (kind.CertBag c) l gs hs us is il v s e o =
    let m = e us o in
    let same : h.bag ≡ g.bag = il ∙ v.1 ∙ sym is in
    let none : shrouded_in h.bag ≡ [] = ap shrouded_in (il ∙ v.1) in
    let none_old : shrouded_in g.bag ≡ [] = ap shrouded_in is in
    record {
      keys = subst (λ (x : List EncryptedPrivateKeyInfo). Each (KeyOpens q) (x ++ shrouded_among hs) us) (sym none) m.keys;
      certificates = ap (λ (x : SafeBagKind). at_most_one (x509_of x) ++ certificates_among hs) same ∙ ap (λ x. at_most_one (x509_of g.bag) ++ x) m.certificates;
      cost = subst (λ (x : List EncryptedPrivateKeyInfo). sum_by key_share (x ++ shrouded_among hs) ≤ sum_by (key_work to) (shrouded_in g.bag ++ shrouded_among gs)) (sym none)
          (subst (λ (x : List EncryptedPrivateKeyInfo). sum_by key_share (shrouded_among hs) ≤ sum_by (key_work to) (x ++ shrouded_among gs)) (sym none_old) m.cost);
      kept = (record { attributes = s; value = subst (λ (x : SafeBagKind). KindKept x h.bag) (sym is) (il ∙ v.1) }, m.kept);
    }
one_keeps to u q z g h (kind.OtherBagKind c) l gs hs us is il v s e o =
    let m = e us o in
    let same : h.bag ≡ g.bag = il ∙ v.1 ∙ sym is in
    let none : shrouded_in h.bag ≡ [] = ap shrouded_in (il ∙ v.1) in
    let none_old : shrouded_in g.bag ≡ [] = ap shrouded_in is in
    record {
      keys = subst (λ (x : List EncryptedPrivateKeyInfo). Each (KeyOpens q) (x ++ shrouded_among hs) us) (sym none) m.keys;
      certificates = ap (λ (x : SafeBagKind). at_most_one (x509_of x) ++ certificates_among hs) same ∙ ap (λ x. at_most_one (x509_of g.bag) ++ x) m.certificates;
      cost = subst (λ (x : List EncryptedPrivateKeyInfo). sum_by key_share (x ++ shrouded_among hs) ≤ sum_by (key_work to) (shrouded_in g.bag ++ shrouded_among gs)) (sym none)
          (subst (λ (x : List EncryptedPrivateKeyInfo). sum_by key_share (shrouded_among hs) ≤ sum_by (key_work to) (x ++ shrouded_among gs)) (sym none_old) m.cost);
      kept = (record { attributes = s; value = subst (λ (x : SafeBagKind). KindKept x h.bag) (sym is) (il ∙ v.1) }, m.kept);
    }
one_keeps to u q z g h (kind.Pkcs8ShroudedKeyBag k) (kind.CertBag c) gs hs us is il v s e o = absurd v
one_keeps to u q z g h (kind.Pkcs8ShroudedKeyBag k) (kind.OtherBagKind c) gs hs us is il v s e o = absurd v
one_keeps to u q z g h (kind.Pkcs8ShroudedKeyBag k) (kind.Pkcs8ShroudedKeyBag l) gs hs [] is il v s e o = absurd o
one_keeps to u q z g h (kind.Pkcs8ShroudedKeyBag k) (kind.Pkcs8ShroudedKeyBag l) gs hs (y ∷ us) is il v s e o =
    let m = e us o.1 in
    let new : shrouded_in h.bag ≡ l ∷ [] = ap shrouded_in il in
    let old : shrouded_in g.bag ≡ k ∷ [] = ap shrouded_in is in
    let less : cost l.encryption_algorithm ≤ cost (kind_for to k.encryption_algorithm) = cost_anew to k.encryption_algorithm l.encryption_algorithm z v.0 in
    let all : sum_by key_share (l ∷ shrouded_among hs) ≤ sum_by (key_work to) (k ∷ shrouded_among gs) = omega (arith, m.cost, less, sum_by-cons key_share l (shrouded_among hs), sum_by-cons (key_work to) k (shrouded_among gs)) in
    let keys : Each (KeyOpens q) (l ∷ shrouded_among hs) (y ∷ us) = (key_keeps to u q z k l y v o.0, m.keys) in
    record {
      keys = subst (λ (x : List EncryptedPrivateKeyInfo). Each (KeyOpens q) (x ++ shrouded_among hs) (y ∷ us)) (sym new) keys;
      certificates = ap (λ (x : SafeBagKind). at_most_one (x509_of x) ++ certificates_among hs) il ∙ m.certificates ∙ sym (ap (λ (x : SafeBagKind). at_most_one (x509_of x) ++ certificates_among gs) is);
      cost = subst (λ (x : List EncryptedPrivateKeyInfo). sum_by key_share (x ++ shrouded_among hs) ≤ sum_by (key_work to) (shrouded_in g.bag ++ shrouded_among gs)) (sym new)
          (subst (λ (x : List EncryptedPrivateKeyInfo). sum_by key_share (l ∷ shrouded_among hs) ≤ sum_by (key_work to) (x ++ shrouded_among gs)) (sym old) all);
      kept = (record { attributes = s; value = subst (λ (x : SafeBagKind). KindKept x h.bag) (sym is) (subst (λ (x : SafeBagKind). KindKept (kind.Pkcs8ShroudedKeyBag k) x) (sym il) tt) }, m.kept);
    }

bags_keep : (to : Kinds) (u : Unlocking) (q : List ℕ) (gs hs : List SafeBag) (d : List ℕ) (us : List (List ℕ)) → EachDrawn (BagLike to u q) gs hs d → Each (KeyOpensBy u) (shrouded_among gs) us → BagsKeep to q gs hs us
bags_keep to u q [] [] d us e o = record { keys = o; certificates = refl; cost = omega arith; kept = tt }
bags_keep to u q [] (h ∷ hs) d us e o = absurd e
bags_keep to u q (g ∷ gs) [] d us e o = absurd e
bags_keep to u q (g ∷ gs) (h ∷ hs) d us (z, rest, f, b, e) o = one_keeps to u q z g h g.bag h.bag gs hs us refl refl b.value b.attributes (λ ws r. bags_keep to u q gs hs rest ws e r) o

-- ---- contents that are like others

pub record PartsKeep (to : Kinds) (q : List ℕ) (cs es : List ContentInfo) (gss : List (List SafeBag)) (us : List (List ℕ)) : Type 0 where
  pub bags : List (List SafeBag)
  pub holds : Each (HoldsBags q) es bags
  pub keys : Each (KeyOpens q) (all_shrouded bags) us
  pub certificates : all_certificates bags ≡ all_certificates gss
  pub share : sum_by content_share es ≤ sum_by (content_work to) cs
  pub cost : sum_by key_share (all_shrouded bags) ≤ sum_by (key_work to) (all_shrouded gss)
  pub kept : Each (Each BagKept) gss bags

share_keeps : (to : Kinds) (u : Unlocking) (q d : List ℕ) (c e : ContentInfo) → ContentLike to u q d c e → content_share e ≤ content_work to c
share_keeps to u q d (content.Data v) (content.Data w) l = omega arith
share_keeps to u q d (content.EncryptedData v) (content.EncryptedData w) l =
    cost_anew to v.encrypted_content_info.content_encryption_algorithm w.encrypted_content_info.content_encryption_algorithm l.own l.form
share_keeps to u q d (content.Data v) (content.EncryptedData w) l = absurd l.form
share_keeps to u q d (content.Data v) (content.OtherContext o) l = absurd l.form
share_keeps to u q d (content.EncryptedData v) (content.Data w) l = absurd l.form
share_keeps to u q d (content.EncryptedData v) (content.OtherContext o) l = absurd l.form
share_keeps to u q d (content.OtherContext o) e l = absurd l.form

record Halves {A B : Type 0} (R : A → B → Type 0) (xs ys : List A) (zs : List B) : Type 0 where
  front : List B
  back : List B
  are : zs ≡ front ++ back
  first : Each R xs front
  second : Each R ys back

halves : {A B : Type 0} (R : A → B → Type 0) (xs ys : List A) (zs : List B) → Each R (xs ++ ys) zs → Halves R xs ys zs
halves R [] ys zs e = record { front = []; back = zs; are = refl; first = tt; second = e }
halves R (x ∷ xs) ys [] e = absurd e
halves R (x ∷ xs) ys (z ∷ zs) e =
    let p = halves R xs ys zs e.1 in
    record { front = z ∷ p.front; back = p.back; are = ap (λ l. z ∷ l) p.are; first = (e.0, p.first); second = p.second }

whole : {A B : Type 0} (R : A → B → Type 0) (xs ys : List A) (us vs : List B) → Each R xs us → Each R ys vs → Each R (xs ++ ys) (us ++ vs)
whole R [] ys [] vs e f = f
whole R [] ys (u ∷ us) vs e f = absurd e
whole R (x ∷ xs) ys [] vs e f = absurd e
whole R (x ∷ xs) ys (u ∷ us) vs e f = (e.0, whole R xs ys us vs e.1 f)

pub parts_keep : (to : Kinds) (u : Unlocking) (q : List ℕ) (cs es : List ContentInfo) (gss : List (List SafeBag)) (d : List ℕ) (us : List (List ℕ)) → EachDrawn (ContentLike to u q) cs es d → Each (HoldsBy u) cs gss
    → Each (KeyOpensBy u) (all_shrouded gss) us → PartsKeep to q cs es gss us
parts_keep to u q [] [] [] d us e h o = record { bags = []; holds = tt; keys = o; certificates = refl; share = omega arith; cost = omega arith; kept = tt }
parts_keep to u q [] [] (gs ∷ gss) d us e h o = absurd h
parts_keep to u q [] (x ∷ es) gss d us e h o = absurd e
parts_keep to u q (c ∷ cs) [] gss d us e h o = absurd e
parts_keep to u q (c ∷ cs) (x ∷ es) [] d us e h o = absurd h
parts_keep to u q (c ∷ cs) (x ∷ es) (gs ∷ gss) d us (z, rest, f, l, e) h o =
    let k = halves (KeyOpensBy u) (shrouded_among gs) (all_shrouded gss) us o in
    let same : l.bags ≡ gs = holds_sole u c l.bags gs l.holds h.0 in
    let b = bags_keep to u q gs l.bags_anew l.of_keys k.front (subst (λ (g : List SafeBag). EachDrawn (BagLike to u q) g l.bags_anew l.of_keys) same l.like) k.first in
    let m = parts_keep to u q cs es gss rest k.back e h.1 k.second in
    let one : content_share x ≤ content_work to c = share_keeps to u q z c x l in
    record {
      bags = l.bags_anew ∷ m.bags;
      holds = (l.holds_anew, m.holds);
      keys = subst (λ (t : List (List ℕ)). Each (KeyOpens q) (shrouded_among l.bags_anew ++ all_shrouded m.bags) t) (sym k.are) (whole (KeyOpens q) (shrouded_among l.bags_anew) (all_shrouded m.bags) k.front k.back b.keys m.keys);
      certificates = ap (λ t. t ++ all_certificates m.bags) b.certificates ∙ ap (λ t. certificates_among gs ++ t) m.certificates;
      share = omega (arith, one, m.share, sum_by-cons content_share x es, sum_by-cons (content_work to) c cs);
      cost = omega (arith, b.cost, m.cost, sum_by-append key_share (shrouded_among l.bags_anew) (all_shrouded m.bags), sum_by-append (key_work to) (shrouded_among gs) (all_shrouded gss));
      kept = (b.kept, m.kept);
    }

-- ---- stores

pub change_keeps_to : (to : Kinds) (b p q c d : List ℕ) → length c ≤ store_limit → ChangesTo to b p c q d → IsKeptTo to b p c q
change_keeps_to to b p q c d short ch = record { keeps = keeps }
  where
    keeps : (gss : List (List SafeBag)) (ks : List (List ℕ)) (n : ℕ) → (o : StoreOpens b p gss ks n)
        → (hss : List (List SafeBag)) × (m : ℕ) × StoreOpens c q hss ks m × (m ≤ work_to to o.mac o.parts gss) × (all_certificates hss ≡ all_certificates gss) × Each (Each BagKept) gss hss
    keeps gss ks n o =
        let x = ch.changed in
        let store : o.store ≡ ch.store = store_sole b o.store ch.store o.is ch.is in
        let text : o.text ≡ x.text = data_is o.text x.text (sym o.is_data ∙ ap (λ (s : PFX). s.auth_safe) store ∙ x.is_data) in
        let mac : o.mac ≡ x.mac = mac_is o.mac x.mac (sym o.has ∙ ap (λ (s : PFX). s.mac_data) store ∙ x.has_mac) in
        let parts : o.parts ≡ x.parts = contents_sole x.text o.parts x.parts (subst (λ (t : List ℕ). IsContents t o.parts) text o.opening.contents) x.lists in
        let bags : Each (HoldsBags p) x.parts gss = subst (λ (t : List ContentInfo). Each (HoldsBags p) t gss) parts o.opening.bags in
        let k = parts_keep to (under p) q x.parts x.parts_anew gss x.of_parts ks x.like (all_held p x.parts gss bags) o.opening.keys in
        let made : StoreOpens c q k.bags ks (work x.mac_anew x.parts_anew k.bags) = record {
          short = short;
          store = ch.store_anew;
          is = ch.is_anew;
          text = x.text_anew;
          is_data = x.is_data_anew;
          mac = x.mac_anew;
          has = x.has_mac_anew;
          mac_ok = x.agrees;
          parts = x.parts_anew;
          opening = record { contents = x.lists_anew; bags = k.holds; keys = k.keys };
          work = refl;
        } in
        let rounds : x.mac_anew.iterations ≡ count_for to o.mac = x.count ∙ sym (ap (count_for to) mac) in
        let shares : sum_by (content_work to) o.parts ≡ sum_by (content_work to) x.parts = ap (sum_by (content_work to)) parts in
        (k.bags, work x.mac_anew x.parts_anew k.bags, made, omega (arith, rounds, shares, k.share, k.cost), k.certificates, k.kept)

-- where each part keeps its kind, no more than before
content_kept : (c : ContentInfo) → content_work Kept c ≡ content_share c
content_kept (content.Data v) = refl
content_kept (content.EncryptedData d) = refl
content_kept (content.OtherContext o) = refl

contents_kept : (cs : List ContentInfo) → sum_by (content_work Kept) cs ≡ sum_by content_share cs
contents_kept [] = refl
contents_kept (c ∷ cs) = omega (arith, content_kept c, contents_kept cs, sum_by-cons (content_work Kept) c cs, sum_by-cons content_share c cs)

pub change_keeps : (b p q c d : List ℕ) → length c ≤ store_limit → Changes b p c q d → IsKept b p c q
change_keeps b p q c d short ch = record {
  keeps = λ gss ks n o. (
      let k = (change_keeps_to Kept b p q c d short ch).keeps gss ks n o in
      (k.0, k.1, k.2, omega (arith, k.3, o.work, contents_kept o.parts), k.4, k.5)
      );
}

all_refl : (gss : List (List SafeBag)) → Each (Each BagKept) gss gss
all_refl gss = each-refl (Each BagKept) (λ gs. each-refl BagKept kept_refl gs) gss

pub no_change : (b p : List ℕ) → IsKept b p b p
no_change b p = record { keeps = λ gss ks n o. (gss, n, o, omega arith, refl, all_refl gss) }

pub kept_on : (b p c q d r : List ℕ) → IsKept b p c q → IsKept c q d r → IsKept b p d r
kept_on b p c q d r e f = record {
  keeps = λ gss ks n o. (
      let k = e.keeps gss ks n o in
      let l = f.keeps k.0 ks k.1 k.2 in
      (l.0, l.1, l.2, omega (arith, k.3, l.3), l.4 ∙ k.4, each-through (Each BagKept) (Each BagKept) (Each BagKept) all_kept_trans gss k.0 l.0 k.5 l.5)
      );
}

pub all_keep : (b p : List ℕ) (ps : List (List ℕ)) (limit : ℕ) (left left_after : Option (List ℕ)) (n m : ℕ) (c : List ℕ) → RekeysAll b (p ∷ ps) limit left left_after n m c → IsKept b p c (last_of (p ∷ ps))
all_keep b p [] limit left left_after n m c h = subst (λ (x : List ℕ). IsKept b p x p) (sym h.0) (no_change b p)
all_keep b p (q ∷ ps) limit left left_after n m c (x, between, midway, one, all) =
    kept_on b p x q c (last_of (q ∷ ps)) (change_keeps b p q x one.drawn one.short one.changes) (all_keep x q ps limit between left_after midway m c all)

pub none_after : (b p q c d : List ℕ) (limit : ℕ) → length c ≤ store_limit → Changes b p c q d → FirstCause b p limit None → FirstCause c q limit None
none_after b p q c d limit short ch (gss, ks, n, v) =
    let o = (opened_exactly b p limit gss ks n).0 v in
    let k = (change_keeps b p q c d short ch).keeps gss ks n o.0 in
    (k.0, ks, k.1, (opened_exactly c q limit k.0 ks k.1).1 (k.2, omega (arith, k.3, o.1)))
