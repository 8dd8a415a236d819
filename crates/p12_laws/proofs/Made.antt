-- Stores that are made here open here.
use Rattle.std.proofs.Common.{◌≡◌, ℕ, ◌-◌, List, [], ◌∷◌, ◌++◌, map, length, Some, None, refl, sym, ap, subst, ◌∙◌, inl, inr, arith, append-nil, true}
use Rattle.std.specs.Str.{IsUtf8}
use Rattle.asn1_core.specs.Der.{IsShort, el, seq, set, octets}
use Rattle.asn1_core.specs.Oid.{oid_of}
use Rattle.asn1_core.specs.Texts.{Many, Inside}
use Rattle.asn1_core.specs.Sets.{Each, IsRead}
use Rattle.asn1_core.specs.Unicode.{Bmp, text_units}
use Rattle.asn1_core.proofs.TextLaws.{bmp_written}
use Rattle.sha1.specs.Sha1.{sha1}
use Rattle.p12.specs.Identifiers.{friendly_name_oid, local_key_id_oid, shrouded_key_bag_oid, cert_bag_oid}
use Rattle.p12.specs.AlgorithmIdentifier.{unlock}
use Rattle.p12.specs.Building.{Entry, Salts, GivesBack, IsCiphertext, IsOuterText, IsStoreOf, certificate_bag, certificate_bags, key_bag, own_attributes, store_over, triple_des, two_contents}
use Rattle.p12.specs.Canonical.{WritableStore, attribute_canon, bags_canon, cert_bag_canon, contents_canon, encrypted_key_canon, store_canon}
use Rattle.p12.specs.Collected.{ContentFault, FirstFault, HoldAll, HoldsBags, StoreFault, StoreHolds, certificates_among, keys_among, store_agrees}
use Rattle.p12.specs.ContentInfo.{ContentFits, IsContents}
use Rattle.p12.specs.Attribute.{AttributeCase, AttributeText, AttributesText}
use Rattle.p12.specs.MacData.{mac_of, mac_value}
use Rattle.pkcs12_kdf.specs.Password.{bmp_password}
use Rattle.p12.specs.Pfx.{IsStore, PfxText}
use Rattle.p12.specs.SafeBag.{BagText, IsBags}
use Rattle.p12.specs.Same.{SameBag}
use Rattle.p12.proofs.Again.{known, latest_again, bags_again}
use Rattle.p12.proofs.DefinitionLaws.{bags_sole, contents_fit, contents_sole, store_sole}
use Rattle.p12.proofs.Macs.{mac_of_agrees}
use Rattle.p12.proofs.MadeTexts.{bag_text, both_made, certificate_made, key_made, sealed_key, store_made}
use Rattle.p12.specs.declared.algorithm_identifier.AlgorithmIdentifier.TheVariants.{Sha1}
use Rattle.p12.specs.declared.attribute.PKCS12Attribute.{PKCS12Attribute}
use Rattle.p12.specs.declared.attribute.PKCS12Attribute.TheVariants.{FriendlyName, LocalKeyId}
use Rattle.p12.specs.declared.cert_bag.CertBag.TheVariants.{X509}
use Rattle.p12.specs.declared.content_info.ContentInfo.{ContentInfo}
use Rattle.p12.specs.declared.content_info.ContentInfo.TheVariants as content
use Rattle.p12.specs.declared.error.Error.{Error}
use Rattle.p12.specs.declared.pfx.PFX.{PFX}
use Rattle.p12.specs.declared.safe_bag.SafeBag.{SafeBag}

-- ---- the parts have texts

two_made : (e : Entry) (s : Salts) (c v : List ℕ) → IsShort (contents_canon (two_contents e s c v)) → IsContents (contents_canon (two_contents e s c v)) (two_contents e s c v)
two_made e s c v short = both_made s.certificates 2048 c (bags_canon (key_bag e s.key v ∷ [])) (omega arith) short

name_made : (t : List ℕ) → IsUtf8 t → AttributeText (attribute_canon (FriendlyName t)) (FriendlyName t)
name_made t u =
    let b = el 0x1e (text_units t) in
    known AttributeCase (oid_of friendly_name_oid refl) friendly_name_oid (set b) (FriendlyName t) refl (refl, (b, latest_again Bmp b t (bmp_written t u), refl))

key_id_made : (v : List ℕ) → AttributeText (attribute_canon (LocalKeyId v)) (LocalKeyId v)
key_id_made v = known AttributeCase (oid_of local_key_id_oid refl) local_key_id_oid (set (octets v)) (LocalKeyId v) refl (refl, (octets v, latest_again (Inside 0x04) (octets v) v (v, refl, refl), refl))

own_made : (e : Entry) → IsUtf8 e.name → IsRead AttributesText (own_attributes e)
own_made e u =
    let a = attribute_canon (FriendlyName e.name) in
    let b = attribute_canon (LocalKeyId (sha1 e.certificate)) in
    (set (a ++ (b ++ [])), inr (a ++ (b ++ []), (a, b ++ [], name_made e.name u, (b, [], key_id_made (sha1 e.certificate), refl, refl), refl), refl))

none_made : IsRead AttributesText []
none_made = ([], inl (refl, refl))

certificate_read : (vs : List PKCS12Attribute) (v : List ℕ) → IsRead AttributesText vs → IsRead BagText (certificate_bag vs v)
certificate_read vs v (a, s) = (bag_text (oid_of cert_bag_oid refl) (cert_bag_canon (X509 v)) a, certificate_made v a vs s)

key_read : (e : Entry) (salt v : List ℕ) → IsUtf8 e.name → IsRead BagText (key_bag e salt v)
key_read e salt v u =
    let own = own_made e u in
    (bag_text (oid_of shrouded_key_bag_oid refl) (encrypted_key_canon (sealed_key salt 2048 v)) own.0, key_made salt 2048 v own.0 (own_attributes e) (omega arith) own.1)

-- ---- lists of bags

more_made : (g : SafeBag) (gs : List SafeBag) → IsRead BagText g → IsRead (Many BagText) gs → IsRead (Many BagText) (g ∷ gs)
more_made g gs (t, r) (b, m) = (t ++ b, (t, b, r, m, refl))

others_made : (vs : List (List ℕ)) → IsRead (Many BagText) (map (certificate_bag []) vs)
others_made [] = ([], refl)
others_made (v ∷ vs) = more_made (certificate_bag [] v) (map (certificate_bag []) vs) (certificate_read [] v none_made) (others_made vs)

certificates_made : (e : Entry) → IsUtf8 e.name → IsRead (Many BagText) (certificate_bags e)
certificates_made e u = more_made (certificate_bag (own_attributes e) e.certificate) (map (certificate_bag []) e.others) (certificate_read (own_attributes e) e.certificate (own_made e u)) (others_made e.others)

-- what a list of bags is read as, of which the canonical text was written
bags_back : (gs hs : List SafeBag) → IsRead (Many BagText) hs → IsBags (bags_canon hs) gs → Each SameBag gs hs
unfolding IsBags
bags_back gs hs (b, m) r =
    let d = bags_again hs (seq b, (b, m, refl)) in
    subst (λ (l : List SafeBag). Each SameBag l hs) (bags_sole (bags_canon hs) d.0 gs (d.1, r.1) r) d.2

-- ---- what bags that are the same give

same_certificates : (gs hs : List SafeBag) → Each SameBag gs hs → certificates_among gs ≡ certificates_among hs
same_certificates [] [] e = refl
same_certificates [] (h ∷ hs) e = absurd e
same_certificates (g ∷ gs) [] e = absurd e
same_certificates (g ∷ gs) (h ∷ hs) e = rw (e.0.0, same_certificates gs hs e.1) refl

same_keys : (p : List ℕ) (gs hs : List SafeBag) → Each SameBag gs hs → keys_among p gs ≡ keys_among p hs
same_keys p [] [] e = refl
same_keys p [] (h ∷ hs) e = absurd e
same_keys p (g ∷ gs) [] e = absurd e
same_keys p (g ∷ gs) (h ∷ hs) e = rw (e.0.0, same_keys p gs hs e.1) refl

each_joined : {A B : Type 0} (S : A → B → Type 0) (xs cs : List A) (bs ds : List B) → Each S xs bs → Each S cs ds → Each S (xs ++ cs) (bs ++ ds)
each_joined S [] cs [] ds e f = f
each_joined S [] cs (b ∷ bs) ds e f = absurd e
each_joined S (a ∷ xs) cs [] ds e f = absurd e
each_joined S (a ∷ xs) cs (b ∷ bs) ds e f = (e.0, each_joined S xs cs bs ds e.1 f)

others_certificates : (vs : List (List ℕ)) (gs : List SafeBag) → certificates_among (map (certificate_bag []) vs ++ gs) ≡ vs ++ certificates_among gs
others_certificates [] gs = refl
others_certificates (v ∷ vs) gs = ap (λ (l : List (List ℕ)). v ∷ l) (others_certificates vs gs)

others_keys : (p : List ℕ) (vs : List (List ℕ)) (gs : List SafeBag) → keys_among p (map (certificate_bag []) vs ++ gs) ≡ keys_among p gs
others_keys p [] gs = refl
others_keys p (v ∷ vs) gs = others_keys p vs gs

-- ---- opening

some_is : (x y : List ℕ) → Some x ≡ Some y → x ≡ y
some_is x y e = cc

none_is : (x : List ℕ) → Some x ≡ None → ⊥
none_is x e = cc

opens_here : (p salt m c : List ℕ) → IsCiphertext (bmp_password p) salt m c → unlock (triple_des salt) p c ≡ Some m
unfolding unlock
opens_here p salt m c o = o.opens

opens_back : (p m : List ℕ) (gs hs : List SafeBag) → m ≡ bags_canon hs → IsRead (Many BagText) hs → IsBags m gs → Each SameBag gs hs
opens_back p m gs hs e r b = bags_back gs hs r (subst (λ (x : List ℕ). IsBags x gs) e b)

all_keys : (p : List ℕ) (e : Entry) (salt v : List ℕ) → unlock (triple_des salt) p v ≡ Some e.key → keys_among p (certificate_bags e ++ key_bag e salt v ∷ []) ≡ e.key ∷ []
all_keys p e salt v o = others_keys p e.others (key_bag e salt v ∷ []) ∙ rw o refl

all_certificates : (e : Entry) (salt v : List ℕ) → certificates_among (certificate_bags e ++ key_bag e salt v ∷ []) ≡ e.certificate ∷ e.others
all_certificates e salt v = ap (λ (l : List (List ℕ)). e.certificate ∷ l) (others_certificates e.others (key_bag e salt v ∷ []) ∙ append-nil e.others)

contents_back : (p : List ℕ) (e : Entry) (s : Salts) (c v : List ℕ) (gs : List SafeBag) → IsUtf8 e.name → IsCiphertext (bmp_password p) s.certificates (bags_canon (certificate_bags e)) c
    → HoldAll p (two_contents e s c v) gs → Each SameBag gs (certificate_bags e ++ key_bag e s.key v ∷ [])
contents_back p e s c v gs u o (first, more, (m, is, b), (second, last, (n, js, d), none, f), g) =
    let one = opens_back p m first (certificate_bags e) (some_is m (bags_canon (certificate_bags e)) (sym is ∙ opens_here p s.certificates (bags_canon (certificate_bags e)) c o)) (certificates_made e u) b in
    let k = key_bag e s.key v in
    let two = opens_back p n second (k ∷ []) (sym (some_is (bags_canon (k ∷ [])) n js)) (more_made k [] (key_read e s.key v u) ([], refl)) d in
    let all = each_joined SameBag first second (certificate_bags e) (k ∷ []) one two in
    let rest : more ≡ second = f ∙ ap (λ (l : List SafeBag). second ++ l) none ∙ append-nil second in
    subst (λ (l : List SafeBag). Each SameBag l (certificate_bags e ++ k ∷ [])) (sym (g ∙ ap (λ (l : List SafeBag). first ++ l) rest)) all

-- the outer text lists the two contents
outer_lists : (q : List ℕ) (e : Entry) (s : Salts) (t : List ℕ) (o : IsOuterText q e s t) → IsContents t (two_contents e s o.certificates o.key)
outer_lists q e s t o = subst (λ (x : List ℕ). IsContents x (two_contents e s o.certificates o.key)) (sym o.is) (two_made e s o.certificates o.key (subst IsShort o.is o.short))

pub made_gives_back : (p : List ℕ) (e : Entry) (s : Salts) (store : PFX) (gs : List SafeBag) → IsUtf8 e.name → IsStoreOf (bmp_password p) e store s → StoreHolds p store gs → GivesBack p e gs
made_gives_back p e s store gs u (t, o, is) held =
    let h = subst (λ (x : PFX). StoreHolds p x gs) is held in
    let same : h.0 ≡ t = sym (some_is t h.0 h.2) in
    let list : IsContents t h.1 = subst (λ (x : List ℕ). IsContents x h.1) same h.3 in
    let two = contents_sole t h.1 (two_contents e s o.certificates o.key) list (outer_lists (bmp_password p) e s t o) in
    let each = contents_back p e s o.certificates o.key gs u o.certificates_seal (subst (λ (x : List ContentInfo). HoldAll p x gs) two h.4) in
    record {
      salt = s.key;
      key = o.key;
      bags = each;
      certificates = same_certificates gs _ each ∙ all_certificates e s.key o.key;
      keys = same_keys p gs _ each ∙ all_keys p e s.key o.key (opens_here p s.key e.key o.key o.key_seals);
    }

-- ---- it does open

-- the canonical text of bags that some text has lists some bags
some_bags : (hs : List SafeBag) → IsRead (Many BagText) hs → IsShort (bags_canon hs) → (gs : List SafeBag) × IsBags (bags_canon hs) gs
unfolding IsBags
some_bags hs (b, m) short = let d = bags_again hs (seq b, (b, m, refl)) in (d.0, (d.1, short))

-- the text of the key's bag is a part of the outer text
key_short : (q : List ℕ) (e : Entry) (s : Salts) (t : List ℕ) (o : IsOuterText q e s t) → IsShort (bags_canon (key_bag e s.key o.key ∷ []))
key_short q e s t o =
    let two = two_contents e s o.certificates o.key in
    let fits : ContentFits (length t) (content.Data (bags_canon (key_bag e s.key o.key ∷ []))) = contents_fit t two (outer_lists q e s t o) 1 (content.Data (bags_canon (key_bag e s.key o.key ∷ []))) (omega arith) in
    omega (arith, fits.0, o.short)

pub made_holds : (p : List ℕ) (e : Entry) (s : Salts) (store : PFX) → IsUtf8 e.name → IsStoreOf (bmp_password p) e store s → (gs : List SafeBag) × StoreHolds p store gs
made_holds p e s store u (t, o, is) =
    let k = key_bag e s.key o.key in
    let first = some_bags (certificate_bags e) (certificates_made e u) o.certificates_short in
    let second = some_bags (k ∷ []) (more_made k [] (key_read e s.key o.key u) ([], refl)) (key_short (bmp_password p) e s t o) in
    let gs = first.0 ++ (second.0 ++ []) in
    let holds : StoreHolds p (store_over (bmp_password p) s.mac t) gs = (
      t,
      two_contents e s o.certificates o.key,
      refl,
      outer_lists (bmp_password p) e s t o,
      (
        first.0,
        second.0 ++ [],
        (bags_canon (certificate_bags e), opens_here p s.certificates (bags_canon (certificate_bags e)) o.certificates o.certificates_seal, first.1),
        (second.0, [], (bags_canon (k ∷ []), refl, second.1), refl, refl),
        refl,
      ),
    ) in
    (gs, subst (λ (x : PFX). StoreHolds p x gs) (sym is) holds)

-- ---- what opens has no fault

content_sound : (p : List ℕ) (c : ContentInfo) (gs : List SafeBag) (f : Error) → HoldsBags p c gs → ContentFault p c f → ⊥
content_sound p c gs f (m, is, b) (inl (none, e)) = none_is m (sym is ∙ none)
content_sound p c gs f (m, is, b) (inr (n, js, unlisted, e)) = unlisted gs (subst (λ (x : List ℕ). IsBags x gs) (some_is m n (sym is ∙ js)) b)

contents_sound : (p : List ℕ) (cs : List ContentInfo) (gs : List SafeBag) (f : Error) → HoldAll p cs gs → FirstFault p cs f → ⊥
contents_sound p [] gs f h fault = fault
contents_sound p (c ∷ cs) gs f (first, more, h, all, e) (inl fault) = content_sound p c first f h fault
contents_sound p (c ∷ cs) gs f (first, more, h, all, e) (inr (hs, k, fault)) = contents_sound p cs more f all fault

pub store_sound : (p : List ℕ) (s : PFX) (gs : List SafeBag) (f : Error) → StoreHolds p s gs → StoreFault p s f → ⊥
store_sound p s gs f (t, cs, is, list, all) (inl (none, e)) = none_is t (sym is ∙ none)
store_sound p s gs f (t, cs, is, list, all) (inr (v, js, inl (unlisted, e))) = unlisted cs (subst (λ (x : List ℕ). IsContents x cs) (some_is t v (sym is ∙ js)) list)
store_sound p s gs f (t, cs, is, list, all) (inr (v, js, inr (ds, more, fault))) =
    let same : v ≡ t = some_is v t (sym js ∙ is) in
    contents_sound p cs gs f all (subst (λ (x : List ContentInfo). FirstFault p x f) (contents_sole t ds cs (subst (λ (x : List ℕ). IsContents x ds) same more) list) fault)

-- ---- its MAC agrees, and its parts fit

pub made_agrees : (p : List ℕ) (e : Entry) (s : Salts) (store : PFX) → IsStoreOf (bmp_password p) e store s → store_agrees p store ≡ true
made_agrees p e s store (t, o, is) = rw is (mac_of_agrees Sha1 (bmp_password p) t s.mac 2048 refl (omega arith))

-- ---- the whole store has its text

pub made_is_read : (q : List ℕ) (e : Entry) (s : Salts) (store : PFX) → IsStoreOf q e store s → IsShort (store_canon store) → IsStore (store_canon store) store
unfolding IsStore mac_of
made_is_read q e s store (t, o, is) short = (subst (λ (x : PFX). PfxText (store_canon x) x) (sym is) (store_made t (mac_value Sha1 q s.mac 2048 t) s.mac 2048 (omega arith)), short)

pub made_is_written : (q : List ℕ) (e : Entry) (s : Salts) (store : PFX) → IsStoreOf q e store s → WritableStore store
unfolding mac_of
made_is_written q e s store (t, o, is) = subst WritableStore (sym is) (tt, tt)

-- ---- what was written is read again

-- the store that is read is the one that was written
reread : (q : List ℕ) (e : Entry) (s : Salts) (store read : PFX) → IsStoreOf q e store s → IsStore (store_canon store) read → store ≡ read
unfolding IsStore
reread q e s store read made is = store_sole (store_canon store) store read (made_is_read q e s store made is.1) is

pub reread_holds : (p : List ℕ) (e : Entry) (s : Salts) (store read : PFX) → IsUtf8 e.name → IsStoreOf (bmp_password p) e store s → IsStore (store_canon store) read → (gs : List SafeBag) × StoreHolds p read gs
reread_holds p e s store read u made is =
    subst (λ x. (gs : List SafeBag) × StoreHolds p x gs) (reread (bmp_password p) e s store read made is) (made_holds p e s store u made)

pub reread_gives_back : (p : List ℕ) (e : Entry) (s : Salts) (store read : PFX) (gs : List SafeBag) → IsUtf8 e.name → IsStoreOf (bmp_password p) e store s → IsStore (store_canon store) read → StoreHolds p read gs → GivesBack p e gs
reread_gives_back p e s store read gs u made is held =
    made_gives_back p e s store gs u made (subst (λ x. StoreHolds p x gs) (sym (reread (bmp_password p) e s store read made is)) held)

pub reread_agrees : (p : List ℕ) (e : Entry) (s : Salts) (store read : PFX) → IsStoreOf (bmp_password p) e store s → IsStore (store_canon store) read → store_agrees p read ≡ true
reread_agrees p e s store read made is =
    subst (λ x. store_agrees p x ≡ true) (reread (bmp_password p) e s store read made is) (made_agrees p e s store made)
