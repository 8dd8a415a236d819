-- The sample's store opens to the certificates and keys that were generated.
use Rattle.std.proofs.Common.{◌≡◌, ℕ, zero, suc, ◌+◌, ◌*◌, List, [], ◌∷◌, map, length, Option, Some, refl, sym, ap, subst, ◌∙◌, inl, arith, append-nil}
use Rattle.std.specs.List.{sum_by}
use Rattle.std.proofs.lemmas.List.Sums.{sum_by-cons}
use Rattle.asn1_core.specs.Der.{IsShort, joined}
use Rattle.asn1_core.specs.Texts.{Many}
use Rattle.asn1_core.specs.Sets.{Each}
use Rattle.p12.specs.Canonical.{bag_canon, bags_canon, contents_canon, store_canon}
use Rattle.p12.specs.ContentInfo.{IsContents}
use Rattle.p12.specs.MacData.{mac_of, mac_value}
use Rattle.pkcs12_kdf.specs.Password.{bmp_password}
use Rattle.p12.specs.Pfx.{IsStore, PfxText}
use Rattle.p12.specs.SafeBag.{BagText, IsBags}
use Rattle.p12.proofs.DefinitionLaws.{bags_sole, contents_sole, store_sole}
use Rattle.p12.proofs.MadeTexts.{both_made, certificate_made, key_made, store_made}
use Rattle.p12.specs.declared.algorithm_identifier.AlgorithmIdentifier.TheVariants.{Sha1}
use Rattle.p12.specs.declared.content_info.ContentInfo.{ContentInfo}
use Rattle.p12.specs.declared.content_info.ContentInfo.TheVariants as content
use Rattle.p12.specs.declared.encrypted_private_key_info.EncryptedPrivateKeyInfo.{EncryptedPrivateKeyInfo}
use Rattle.p12.specs.declared.mac_data.MacData.{MacData}
use Rattle.p12.specs.declared.pfx.PFX.{PFX}
use Rattle.p12.specs.declared.safe_bag.SafeBag.{SafeBag}
use Rattle.p12.specs.Collected.{HoldsBags, certificates_among}
use Rattle.transfer.specs.Opening.{KeyOpens, all_certificates, all_shrouded, key_share, shrouded_among}
use Rattle.transfer.specs.Sample.{IsKeyBag, IsSampleStore, OpensTo, SampleMakes, behind_keys, behind_salt, certificate_at, certificate_bag, certificate_bags, content_salt_at, drawn_octets, key_bag, mac_salt_at, salt_at, sample_command, sample_password, sample_text, sample_work, starts, store_of, triple_des_once, two_contents}
use Rattle.frame.specs.Calls.{Effects, effects}
use Rattle.frame.specs.Stream.{stream}
use Rattle.transfer.specs.Sealing.{SealsAll}
use Rattle.transfer.specs.Transferred.{Transfers}
use Rattle.transfer.specs.Words.{Command, command}
use Rattle.transfer.specs.Verdicts.{StoreOpens, work}
use Rattle.transfer.proofs.Valid.{verdict_open}

-- ---- the parts have texts

two_made : (salt c : List ℕ) (gs : List SafeBag) → IsShort (contents_canon (two_contents salt c gs)) → IsContents (contents_canon (two_contents salt c gs)) (two_contents salt c gs)
two_made salt c gs short = both_made salt 1 c (bags_canon gs) (omega arith) short

certificate_text : (v : List ℕ) → BagText (bag_canon (certificate_bag v)) (certificate_bag v)
certificate_text v = certificate_made v [] [] (inl (refl, refl))

key_text : (salt c : List ℕ) → BagText (bag_canon (key_bag salt c)) (key_bag salt c)
key_text salt c = key_made salt 1 c [] [] (omega arith) (inl (refl, refl))

certificates_made : (ys : List ℕ) → Many BagText (joined (map bag_canon (certificate_bags ys))) (certificate_bags ys)
certificates_made [] = refl
certificates_made (y ∷ ys) = (bag_canon (certificate_bag (certificate_at y)), joined (map bag_canon (certificate_bags ys)), certificate_text (certificate_at y), certificates_made ys, refl)

keys_made : (ys : List ℕ) (gs : List SafeBag) → Each IsKeyBag ys gs → Many BagText (joined (map bag_canon gs)) gs
keys_made [] [] e = refl
keys_made [] (g ∷ gs) e = absurd e
keys_made (y ∷ ys) [] e = absurd e
keys_made (y ∷ ys) (g ∷ gs) ((c, o, is), e) =
    (bag_canon g, joined (map bag_canon gs), subst (λ (x : SafeBag). BagText (bag_canon x) x) (sym is) (key_text (salt_at y) c), keys_made ys gs e, refl)

-- the bags that a canonical text lists are those that it was written of
bags_back : (gs hs : List SafeBag) → Many BagText (joined (map bag_canon hs)) hs → IsBags (bags_canon hs) gs → gs ≡ hs
unfolding IsBags
bags_back gs hs m r = bags_sole (bags_canon hs) gs hs r ((joined (map bag_canon hs), m, refl), r.1)

-- ---- the whole store

store_text : (outer salt : List ℕ) → PfxText (store_canon (store_of outer salt)) (store_of outer salt)
unfolding mac_of
store_text outer salt = store_made outer (mac_value Sha1 (bmp_password sample_password) salt 1 outer) salt 1 (omega arith)

only_store : (outer salt : List ℕ) (s : PFX) → IsStore (store_canon (store_of outer salt)) s → s ≡ store_of outer salt
unfolding IsStore
only_store outer salt s is = store_sole (store_canon (store_of outer salt)) s (store_of outer salt) is (store_text outer salt, is.1)

one_round : (outer salt : List ℕ) (m : MacData) → (store_of outer salt).mac_data ≡ Some m → m.iterations ≡ 1
unfolding mac_of
one_round outer salt m e = cc

-- ---- what it opens to

some_is : (x y : List ℕ) → Some x ≡ Some y → x ≡ y
some_is x y e = cc

contents_short : (t : List ℕ) (cs : List ContentInfo) → IsContents t cs → IsShort t
unfolding IsContents
contents_short t cs is = is.1

lists_contents : (salt c : List ℕ) (gs : List SafeBag) (cs : List ContentInfo) → IsContents (contents_canon (two_contents salt c gs)) cs → cs ≡ two_contents salt c gs
lists_contents salt c gs cs is =
    let t = contents_canon (two_contents salt c gs) in
    contents_sole t cs (two_contents salt c gs) is (two_made salt c gs (contents_short t cs is))

-- the bags of both contents
two_open : (keys : ℕ) (salt c : List ℕ) (gs : List SafeBag) (gss : List (List SafeBag)) → OpensTo salt (bags_canon (certificate_bags (starts keys keys))) c → Each IsKeyBag (starts keys keys) gs
    → Each (HoldsBags sample_password) (two_contents salt c gs) gss → gss ≡ certificate_bags (starts keys keys) ∷ gs ∷ []
two_open keys salt c gs [] o k e = absurd e
two_open keys salt c gs (a ∷ []) o k e = absurd e.1
two_open keys salt c gs (a ∷ b ∷ x ∷ more) o k e = absurd e.1.1
two_open keys salt c gs (a ∷ b ∷ []) o k ((m, is, lists), ((n, js, others), none)) =
    let ys = starts keys keys in
    let first = bags_back a (certificate_bags ys) (certificates_made ys) (subst (λ (t : List ℕ). IsBags t a) (some_is m (bags_canon (certificate_bags ys)) (sym is ∙ o.1)) lists) in
    let second = bags_back b gs (keys_made ys gs k) (subst (λ (t : List ℕ). IsBags t b) (sym (some_is (bags_canon gs) n js)) others) in
    rw (first, second) refl

certificates_of_bags : (ys : List ℕ) → certificates_among (certificate_bags ys) ≡ map certificate_at ys
certificates_of_bags [] = refl
certificates_of_bags (y ∷ ys) = ap (λ (t : List (List ℕ)). certificate_at y ∷ t) (certificates_of_bags ys)

no_certificates : (ys : List ℕ) (gs : List SafeBag) → Each IsKeyBag ys gs → certificates_among gs ≡ []
no_certificates [] [] e = refl
no_certificates [] (g ∷ gs) e = absurd e
no_certificates (y ∷ ys) [] e = absurd e
no_certificates (y ∷ ys) (g ∷ gs) ((c, o, is), e) = rw is (no_certificates ys gs e)

no_keys : (ys : List ℕ) → shrouded_among (certificate_bags ys) ≡ []
no_keys [] = refl
no_keys (y ∷ ys) = no_keys ys

-- as many keys as states, each of one round
keys_share : (ys : List ℕ) (gs : List SafeBag) → Each IsKeyBag ys gs → sum_by key_share (shrouded_among gs) ≡ 3 * length ys
keys_share [] [] e = refl
keys_share [] (g ∷ gs) e = absurd e
keys_share (y ∷ ys) [] e = absurd e
keys_share (y ∷ ys) (g ∷ gs) ((c, o, is), e) =
    let k : EncryptedPrivateKeyInfo = record { encryption_algorithm = triple_des_once (salt_at y); encrypted_data = c } in
    let more = keys_share ys gs e in
    rw is (sum_by-cons key_share k (shrouded_among gs) ∙ omega (arith, more))

keys_count : (ys : List ℕ) (gs : List SafeBag) → Each IsKeyBag ys gs → length (shrouded_among gs) ≡ length ys
keys_count [] [] e = refl
keys_count [] (g ∷ gs) e = absurd e
keys_count (y ∷ ys) [] e = absurd e
keys_count (y ∷ ys) (g ∷ gs) ((c, o, is), e) = rw is (ap suc (keys_count ys gs e))

starts_count : (n y : ℕ) → length (starts y n) ≡ n
starts_count zero y = refl
starts_count (suc n) y = ap suc (starts_count n (behind_salt y))

each_length : {A B : Type 0} (S : A → B → Type 0) (xs : List A) (ys : List B) → Each S xs ys → length ys ≡ length xs
each_length S [] [] e = refl
each_length S [] (y ∷ ys) e = absurd e
each_length S (x ∷ xs) [] e = absurd e
each_length S (x ∷ xs) (y ∷ ys) e = ap suc (each_length S xs ys e.1)

same_data : (v w : List ℕ) → content.Data v ≡ content.Data w → w ≡ v
same_data v w e = cc

data_of : (outer salt v : List ℕ) (s : PFX) → s ≡ store_of outer salt → s.auth_safe ≡ content.Data v → v ≡ outer
data_of outer salt v s is at = same_data outer v (sym (ap (λ (x : PFX). x.auth_safe) is) ∙ at)

rounds_of_mac : (outer salt : List ℕ) (m : MacData) (s : PFX) → s ≡ store_of outer salt → s.mac_data ≡ Some m → m.iterations ≡ 1
rounds_of_mac outer salt m s is has = one_round outer salt m (sym (ap (λ (x : PFX). x.mac_data) is) ∙ has)

all_certificates_of : (keys : ℕ) (gs : List SafeBag) → Each IsKeyBag (starts keys keys) gs → all_certificates (certificate_bags (starts keys keys) ∷ gs ∷ []) ≡ map certificate_at (starts keys keys)
all_certificates_of keys gs k =
    let ys = starts keys keys in
    rw (certificates_of_bags ys, no_certificates ys gs k) (append-nil (map certificate_at ys))

all_shrouded_of : (keys : ℕ) (gs : List SafeBag) → all_shrouded (certificate_bags (starts keys keys) ∷ gs ∷ []) ≡ shrouded_among gs
all_shrouded_of keys gs = rw (no_keys (starts keys keys)) (append-nil (shrouded_among gs))

work_of : (keys : ℕ) (salt c : List ℕ) (gs : List SafeBag) (m : MacData) → Each IsKeyBag (starts keys keys) gs → m.iterations ≡ 1
    → work m (two_contents salt c gs) (certificate_bags (starts keys keys) ∷ gs ∷ []) ≡ sample_work keys
work_of keys salt c gs m k one =
    let ys = starts keys keys in
    let share = keys_share ys gs k ∙ ap (λ n. 3 * n) (starts_count keys keys) in
    rw (all_shrouded_of keys gs, one, share) (omega arith)

-- What the store of so many keys opens to.
pub record SampleOpens (keys : ℕ) (gss : List (List SafeBag)) (ks : List (List ℕ)) (n : ℕ) : Type 0 where
  pub certificates : all_certificates gss ≡ map certificate_at (starts keys keys)
  pub as_many : length ks ≡ keys
  pub work : n ≡ sample_work keys

opens_to : (keys : ℕ) (salt c : List ℕ) (gs : List SafeBag) (m : MacData) (cs : List ContentInfo) (gss : List (List SafeBag)) (ks : List (List ℕ)) (n : ℕ)
    → OpensTo salt (bags_canon (certificate_bags (starts keys keys))) c → Each IsKeyBag (starts keys keys) gs → m.iterations ≡ 1
    → cs ≡ two_contents salt c gs → gss ≡ certificate_bags (starts keys keys) ∷ gs ∷ [] → Each (KeyOpens sample_password) (all_shrouded gss) ks → n ≡ work m cs gss → SampleOpens keys gss ks n
opens_to keys salt c gs m cs gss ks n o k one contents bags texts worked = record {
  certificates = rw bags (all_certificates_of keys gs k);
  as_many = each_length (KeyOpens sample_password) (all_shrouded gss) ks texts ∙ ap (λ t. length (all_shrouded t)) bags ∙ ap length (all_shrouded_of keys gs) ∙ keys_count (starts keys keys) gs k ∙ starts_count keys keys;
  work = worked ∙ rw (contents, bags) (work_of keys salt c gs m k one);
}

pub sample_opens : (keys : ℕ) (store : PFX) (gss : List (List SafeBag)) (ks : List (List ℕ)) (n : ℕ) → IsSampleStore keys store → StoreOpens (store_canon store) sample_password gss ks n → SampleOpens keys gss ks n
sample_opens keys store gss ks n s opens =
    let y = behind_keys keys keys in
    let salt = content_salt_at y in
    let outer = contents_canon (two_contents salt s.encrypted s.bags) in
    let o = subst (λ (x : PFX). StoreOpens (store_canon x) sample_password gss ks n) s.is opens in
    let only = only_store outer (mac_salt_at y) o.store o.is in
    let contents = lists_contents salt s.encrypted s.bags o.parts (subst (λ (t : List ℕ). IsContents t o.parts) (data_of outer (mac_salt_at y) o.text o.store only o.is_data) o.opening.contents) in
    let bags = two_open keys salt s.encrypted s.bags gss s.certificates s.sealed (subst (λ (cs : List ContentInfo). Each (HoldsBags sample_password) cs gss) contents o.opening.bags) in
    opens_to keys salt s.encrypted s.bags o.mac o.parts gss ks n s.certificates s.sealed (rounds_of_mac outer (mac_salt_at y) o.mac o.store only o.has) contents bags o.opening.keys o.work

-- ---- what its transfer gives

pub record SampleTransfers (keys : ℕ) (e : Effects) (certificates documents : List (List ℕ)) : Type 0 where
  pub certificates_are : certificates ≡ map certificate_at (starts keys keys)
  pub as_many : length documents ≡ keys
  pub work : e.steps_after ≡ e.steps + sample_work keys

sample_transfers : (keys limit rounds : ℕ) (q : List ℕ) (e : Effects) (store : PFX) (certificates documents : List (List ℕ)) → IsSampleStore keys store
    → Transfers (command sample_password q rounds limit) e (store_canon store) certificates documents → SampleTransfers keys e certificates documents
sample_transfers keys limit rounds q e store certificates documents s t =
    let o = verdict_open (store_canon store) sample_password limit t.bags t.keys t.work t.verdict in
    let is = sample_opens keys store t.bags t.keys t.work s o.0 in
    record { certificates_are = t.in_order ∙ is.certificates; as_many = t.sealed.each_one ∙ is.as_many; work = t.counted ∙ ap (λ n. e.steps + n) is.work }

-- What the draw was counted to have failed does not matter.
uncounted : (c : Command) (e : Effects) (store : List ℕ) (certificates documents : List (List ℕ)) (left : List ℕ) → e.draw.told ≡ Some left → Transfers c e store certificates documents
    → Transfers c (effects (stream (Some left) e.draw.told_after 0 0) e.steps e.steps_after) store certificates documents
uncounted c e store certificates documents left is t = record {
  bags = t.bags;
  keys = t.keys;
  work = t.work;
  verdict = t.verdict;
  in_order = t.in_order;
  sealed = subst (λ (told : Option (List ℕ)). SealsAll c.rounds c.new_password told e.draw.told_after t.keys documents) is t.sealed;
  counted = t.counted;
}

-- the lines that are due for it
pub sample_makes : (keys limit : ℕ) (e : Effects) (store : PFX) (b d p q text : List ℕ) (certificates documents : List (List ℕ)) → IsSampleStore keys store
    → limit ≡ sample_work keys → b ≡ store_canon store → d ≡ store_canon store → p ≡ sample_password → q ≡ sample_password → e.draw.told ≡ Some (drawn_octets keys)
    → Transfers (command p q 1 limit) e b certificates documents → text ≡ sample_text keys d certificates documents → SampleMakes keys e.steps e.steps_after text
sample_makes keys limit e store b d p q text certificates documents s of_limit of_b of_d of_p of_q of_left t lines =
    let zero = subst (λ (n : ℕ). Transfers (command p q 1 n) e b certificates documents) of_limit t in
    let one = subst (λ (b : List ℕ). Transfers (command p q 1 (sample_work keys)) e b certificates documents) of_b zero in
    let two = subst (λ (p : List ℕ). Transfers (command p q 1 (sample_work keys)) e (store_canon store) certificates documents) of_p one in
    let three = subst (λ (q : List ℕ). Transfers (command sample_password q 1 (sample_work keys)) e (store_canon store) certificates documents) of_q two in
    let is = sample_transfers keys (sample_work keys) 1 sample_password e store certificates documents s three in
    record {
      store = store;
      is = s;
      certificates = certificates;
      documents = documents;
      rest = e.draw.told_after;
      transferred = uncounted (sample_command keys) e (store_canon store) certificates documents (drawn_octets keys) of_left three;
      counted = is.work;
      each_certificate = is.certificates_are;
      each_document = is.as_many;
      lines = lines ∙ ap (λ (t : List ℕ). sample_text keys t certificates documents) of_d;
    }
