-- What is sealed anew is like what it was, once it is read again.
use Rattle.std.proofs.Common.{◌≡◌, ℕ, ◌≤◌, List, [], ◌∷◌, ◌++◌, length, Some, true, refl, sym, ap, subst, ◌∙◌}
use Rattle.asn1_core.specs.Der.{IsShort, seq}
use Rattle.asn1_core.specs.Sets.{Each, IsRead, SameSet}
use Rattle.asn1_core.specs.Texts.{Many}
use Rattle.p12.specs.Canonical.{bags_canon, contents_canon, store_canon}
use Rattle.p12.specs.ContentInfo.{IsContents}
use Rattle.p12.specs.MacData.{is_mac_digest, mac_of}
use Rattle.p12.specs.Pfx.{IsStore}
use Rattle.p12.specs.SafeBag.{BagText, IsBags}
use Rattle.p12.specs.Same.{SameAttribute, SameBag}
use Rattle.p12.proofs.Again.{bags_again, bags_once}
use Rattle.p12.proofs.Macs.{mac_of_agrees}
use Rattle.p12.specs.declared.attribute.PKCS12Attribute.{PKCS12Attribute}
use Rattle.p12.specs.declared.content_info.ContentInfo.{ContentInfo}
use Rattle.p12.specs.declared.content_info.ContentInfo.TheVariants as content
use Rattle.p12.specs.declared.mac_data.MacData.{MacData}
use Rattle.p12.specs.declared.pfx.PFX.{PFX}
use Rattle.p12.specs.declared.safe_bag.SafeBag.{SafeBag}
use Rattle.p12.specs.declared.safe_bag.SafeBagKind.{SafeBagKind}
use Rattle.pkcs12_kdf.specs.Password.{bmp_password}
use Rattle.rekey_core.specs.Like.{BagLike, ContentLike, KindLike, resealing}
use Rattle.rekey_core.specs.Resealing.{EachDrawn, Reseals}
use Rattle.rekey_core.specs.Making.{store_anew}
use Rattle.rekey_core.specs.Sealing.{BagSealed, ContentSealed}
use Rattle.rekey_core.proofs.Texts.{bags_sealed, contents_list, store_text}
use Rattle.rekey_core.specs.Unlocking.{Unlocking}
use Rattle.rekey_core.specs.Kinds.{count_for, digest_for, mac_for, mac_salt}
use Rattle.rekey_core.specs.declared.kinds.Kinds.{Kinds}
use Rattle.rekey_core.proofs.KindFacts.{count_some, digest_known}

bag_like : (to : Kinds) (u : Unlocking) (q z : List ℕ) (g h y : SafeBag) → BagSealed to u q z g h → SameBag y h → BagLike to u q z g y
bag_like to u q z g h y b s = record {
  attributes = subst (λ (vs : List PKCS12Attribute). SameSet SameAttribute y.attributes vs) b.attributes s.1;
  value = subst (λ (l : SafeBagKind). KindLike to u q z g.bag l) (sym s.0) b.value;
}

bags_like : (to : Kinds) (u : Unlocking) (q : List ℕ) (gs hs us : List SafeBag) (d : List ℕ) → EachDrawn (BagSealed to u q) gs hs d → Each SameBag us hs → EachDrawn (BagLike to u q) gs us d
bags_like to u q [] [] [] d s e = s
bags_like to u q [] [] (y ∷ us) d s e = absurd e
bags_like to u q [] (h ∷ hs) us d s e = absurd s
bags_like to u q (g ∷ gs) [] us d s e = absurd s
bags_like to u q (g ∷ gs) (h ∷ hs) [] d s e = absurd e
bags_like to u q (g ∷ gs) (h ∷ hs) (y ∷ us) d (z, rest, f, b, s) e = (z, rest, f, bag_like to u q z g h y b e.0, bags_like to u q gs hs us rest s e.1)

read_back : (hs : List SafeBag) → IsRead (Many BagText) hs → IsShort (bags_canon hs) → (us : List SafeBag) × IsBags (bags_canon hs) us × Each SameBag us hs
unfolding IsBags
read_back hs (b, m) short = let d = bags_again hs (seq b, (b, m, refl)) in (d.0, (d.1, short), d.2)

many_of : (m : List ℕ) (gs : List SafeBag) → IsBags m gs → IsRead (Many BagText) gs
unfolding IsBags
many_of m gs ((w, r, e), short) = (w, r)

pub content_like : (to : Kinds) (u : Unlocking) (q d : List ℕ) (c e : ContentInfo) → ContentSealed to u q d c e → ContentLike to u q d c e
content_like to u q d c e s =
    let held = many_of s.holds.0 s.bags s.holds.2 in
    let read = bags_sealed to u q s.bags s.bags_anew s.of_keys held.0 s.sealed held.1 in
    let back = read_back s.bags_anew read s.short in
    record {
      own = s.own;
      of_keys = s.of_keys;
      order = s.order;
      form = s.form;
      bags = s.bags;
      bags_anew = back.0;
      holds = s.holds;
      holds_anew = (bags_canon s.bags_anew, s.opens, back.1);
      like = bags_like to u q s.bags s.bags_anew back.0 s.of_keys s.sealed back.2;
      canonical = s.opens ∙ ap (λ (t : List ℕ). Some t) (sym (bags_once back.0 s.bags_anew back.2));
    }

pub contents_like : (to : Kinds) (u : Unlocking) (q : List ℕ) (cs es : List ContentInfo) (d : List ℕ) → EachDrawn (ContentSealed to u q) cs es d → EachDrawn (ContentLike to u q) cs es d
contents_like to u q [] [] d s = s
contents_like to u q [] (e ∷ es) d s = absurd s
contents_like to u q (c ∷ cs) [] d s = absurd s
contents_like to u q (c ∷ cs) (e ∷ es) d (z, rest, f, b, s) = (z, rest, f, content_like to u q z c e b, contents_like to u q cs es rest s)

-- The store that is made of contents that are sealed anew is a change.
pub store_changes : (to : Kinds) (u : Unlocking) (b v q : List ℕ) (s : PFX) (m : MacData) (cs es : List ContentInfo) (d salt : List ℕ) → IsStore b s → s.auth_safe ≡ content.Data v → s.mac_data ≡ Some m
    → is_mac_digest m.mac.digest_algorithm ≡ true → 1 ≤ m.iterations → IsContents v cs → EachDrawn (ContentSealed to u q) cs es d → length salt ≡ mac_salt to
    → IsShort (contents_canon es) → IsShort (store_canon (store_anew s.version (mac_for to m) q salt es)) → Reseals u (resealing to) b (store_canon (store_anew s.version (mac_for to m) q salt es)) q (d ++ salt)
unfolding mac_of
store_changes to u b v q s m cs es d salt is plain has known rounds lists sealed long short short_store = record {
  store = s;
  store_anew = store_anew s.version (mac_for to m) q salt es;
  is = is;
  is_anew = store_text to b v s m q salt es is plain has short_store;
  canonical = refl;
  changed = record {
    version = refl;
    text = v;
    text_anew = contents_canon es;
    is_data = plain;
    is_data_anew = refl;
    mac = m;
    mac_anew = mac_of (digest_for to m) (bmp_password q) (contents_canon es) salt (count_for to m);
    has_mac = has;
    has_mac_anew = refl;
    digest = refl;
    count = refl;
    agrees = record {
      known = digest_known to m known;
      some_rounds = count_some to m rounds;
      agrees = mac_of_agrees (digest_for to m) (bmp_password q) (contents_canon es) salt (count_for to m) (digest_known to m known) (count_some to m rounds);
    };
    parts = cs;
    parts_anew = es;
    lists = lists;
    lists_anew = contents_list to u q v cs es d lists sealed short;
    canonical = refl;
    of_parts = d;
    order = refl;
    salt_drawn = long;
    like = contents_like to u q cs es d sealed;
  };
}
