-- Bags and contents that are sealed anew one after the other.
use Rattle.std.proofs.Common.{◌≡◌, ℕ, ◌+◌, ◌<◌, ◌≤◌, ◌^◌, List, [], ◌∷◌, ◌++◌, length, Some, true, refl, sym, ap, subst, ◌∙◌, arith, append-nil}
use Rattle.std.specs.List.{sum_by}
use Rattle.std.proofs.lemmas.List.{append_assoc}
use Rattle.std.proofs.lemmas.List.Sums.{sum_by-append, sum_by-cons}
use Rattle.asn1_core.specs.Sets.{Each}
use Rattle.p12.specs.AlgorithmIdentifier.{count, openable, unlock}
use Rattle.p12.specs.Canonical.{bag_canon, content_canon, contents_canon}
use Rattle.p12.specs.declared.content_info.ContentInfo.{ContentInfo}
use Rattle.p12.specs.declared.encrypted_private_key_info.EncryptedPrivateKeyInfo.{EncryptedPrivateKeyInfo}
use Rattle.p12.specs.declared.safe_bag.SafeBag.{SafeBag}
use Rattle.p12.specs.declared.safe_bag.SafeBagKind.{SafeBagKind}
use Rattle.p12.specs.declared.safe_bag.SafeBagKind.TheVariants as kind
use Rattle.transfer.specs.Opening.{all_shrouded, shrouded_among, shrouded_in}
use Rattle.transfer.specs.declared.store.error.TransferError.{TransferError}
use Rattle.transfer.specs.declared.store.error.TransferError.TheVariants.{TooLong, Malformed, Unsupported, MacMissing, MacUnsupported, ZeroIterations, WorkLimit, MacMismatch, ContentMalformed, DecryptFailed, KeyMalformed, Rng, Memory}
use Rattle.rekey_core.specs.Anew.{content_draws, drawn_for, key_draws}
use Rattle.rekey_core.specs.Like.{IsAnew, KindLike}
use Rattle.rekey_core.specs.Resealing.{EachDrawn}
use Rattle.rekey_core.specs.Unlocking.{HoldsBy, KeyOpensBy, Unlocking}
use Rattle.rekey_core.specs.Sealing.{CanSeal, BagSealed, BagsSealed, ContentSealed, ContentsSealed, LongOnly, Supplies, SuppliesAll, bag_draws, bags_draw}
use Rattle.rekey_core.specs.Size.{blank_bag, blank_content, blank_contents, blank_text, sealed_size}
use Rattle.rekey_core.proofs.Sizes.{bag_in, blank_data_size, content_in, key_in}
use Rattle.rekey_core.specs.Kinds.{kind_for, mac_salt}
use Rattle.rekey_core.specs.declared.kinds.Kinds.{Kinds}

pub long_map : (P Q : Type 0) (e : TransferError) → (P → Q) → LongOnly P e → LongOnly Q e
long_map P Q TooLong f h = f h
long_map P Q Memory f h = tt
long_map P Q Malformed f h = absurd h
long_map P Q Unsupported f h = absurd h
long_map P Q MacMissing f h = absurd h
long_map P Q MacUnsupported f h = absurd h
long_map P Q ZeroIterations f h = absurd h
long_map P Q WorkLimit f h = absurd h
long_map P Q MacMismatch f h = absurd h
long_map P Q ContentMalformed f h = absurd h
long_map P Q DecryptFailed f h = absurd h
long_map P Q KeyMalformed f h = absurd h
long_map P Q Rng f h = absurd h

-- ---- how many octets are drawn

pub bags_draw_cons : (to : Kinds) (g : SafeBag) (gs : List SafeBag) → bags_draw to (g ∷ gs) ≡ bag_draws to g + bags_draw to gs
bags_draw_cons to g gs = sum_by-cons (bag_draws to) g gs

pub key_draw : (to : Kinds) (g : SafeBag) (k : EncryptedPrivateKeyInfo) → g.bag ≡ kind.Pkcs8ShroudedKeyBag k → bag_draws to g ≡ drawn_for (kind_for to k.encryption_algorithm)
key_draw to g k e = let zero_more : 0 + drawn_for (kind_for to k.encryption_algorithm) ≡ drawn_for (kind_for to k.encryption_algorithm) = omega arith in ap (λ (x : SafeBagKind). sum_by (key_draws to) (shrouded_in x)) e ∙ zero_more

pub bags_keys : (to : Kinds) (gs : List SafeBag) → bags_draw to gs ≡ sum_by (key_draws to) (shrouded_among gs)
bags_keys to [] = refl
bags_keys to (g ∷ gs) = bags_draw_cons to g gs ∙ ap (λ (n : ℕ). bag_draws to g + n) (bags_keys to gs) ∙ sym (sum_by-append (key_draws to) (shrouded_in g.bag) (shrouded_among gs))

pub all_keys : (to : Kinds) (gss : List (List SafeBag)) → sum_by (bags_draw to) gss ≡ sum_by (key_draws to) (all_shrouded gss)
all_keys to [] = refl
all_keys to (gs ∷ gss) = sum_by-cons (bags_draw to) gs gss ∙ ap (λ (n : ℕ). n + sum_by (bags_draw to) gss) (bags_keys to gs) ∙ ap (λ (n : ℕ). sum_by (key_draws to) (shrouded_among gs) + n) (all_keys to gss)
    ∙ sym (sum_by-append (key_draws to) (shrouded_among gs) (all_shrouded gss))

pub draws_cons : (to : Kinds) (c : ContentInfo) (cs : List ContentInfo) → sum_by (content_draws to) (c ∷ cs) ≡ content_draws to c + sum_by (content_draws to) cs
draws_cons to c cs = sum_by-cons (content_draws to) c cs

pub all_draws_cons : (to : Kinds) (gs : List SafeBag) (gss : List (List SafeBag)) → sum_by (bags_draw to) (gs ∷ gss) ≡ bags_draw to gs + sum_by (bags_draw to) gss
all_draws_cons to gs gss = sum_by-cons (bags_draw to) gs gss

-- ---- the supply of keys

record Parted {A B : Type 0} (R : A → B → Type 0) (xs ys : List A) (zs : List B) : Type 0 where
  pub front : List B
  pub back : List B
  pub are : zs ≡ front ++ back
  pub first : Each R xs front
  pub second : Each R ys back

each_split : {A B : Type 0} (R : A → B → Type 0) (xs ys : List A) (zs : List B) → Each R (xs ++ ys) zs → Parted R xs ys zs
each_split R [] ys zs e = record { front = []; back = zs; are = refl; first = tt; second = e }
each_split R (x ∷ xs) ys [] e = absurd e
each_split R (x ∷ xs) ys (z ∷ zs) e =
    let p = each_split R xs ys zs e.1 in
    record { front = z ∷ p.front; back = p.back; are = ap (λ l. z ∷ l) p.are; first = (e.0, p.first); second = p.second }

pub record SuppliesBoth (u : Unlocking) (g : SafeBag) (back : List SafeBag) (keys more : List (List ℕ)) : Type 0 where
  pub mid : List (List ℕ)
  pub one : Supplies u (g ∷ []) keys mid
  pub rest : Supplies u back mid more

pub supplies_split : (u : Unlocking) (g : SafeBag) (back : List SafeBag) (keys more : List (List ℕ)) → Supplies u (g ∷ back) keys more → SuppliesBoth u g back keys more
supplies_split u g back keys more s =
    let t = each_split (KeyOpensBy u) (shrouded_in g.bag) (shrouded_among back) s.front s.are_opened in
    record {
      mid = t.back ++ more;
      one = record {
        front = t.front;
        splits = s.splits ∙ ap (λ l. l ++ more) t.are ∙ append_assoc t.front t.back more;
        are_opened = subst (λ (l : List EncryptedPrivateKeyInfo). Each (KeyOpensBy u) l t.front) (sym (append-nil (shrouded_in g.bag))) t.first;
      };
      rest = record { front = t.back; splits = refl; are_opened = t.second };
    }

pub record SuppliesMany (u : Unlocking) (gs : List SafeBag) (gss : List (List SafeBag)) (keys more : List (List ℕ)) : Type 0 where
  pub mid : List (List ℕ)
  pub one : Supplies u gs keys mid
  pub rest : SuppliesAll u gss mid more

pub supplies_all_split : (u : Unlocking) (gs : List SafeBag) (gss : List (List SafeBag)) (keys more : List (List ℕ)) → SuppliesAll u (gs ∷ gss) keys more → SuppliesMany u gs gss keys more
supplies_all_split u gs gss keys more s =
    let t = each_split (KeyOpensBy u) (shrouded_among gs) (all_shrouded gss) s.front s.are_opened in
    record {
      mid = t.back ++ more;
      one = record { front = t.front; splits = s.splits ∙ ap (λ l. l ++ more) t.are ∙ append_assoc t.front t.back more; are_opened = t.first };
      rest = record { front = t.back; splits = refl; are_opened = t.second };
    }

none_left : (u : Unlocking) (front : List (List ℕ)) → Each (KeyOpensBy u) [] front → front ≡ []
none_left u [] e = refl
none_left u (f ∷ front) e = absurd e

supplies_none : (u : Unlocking) (keys more : List (List ℕ)) (front : List (List ℕ)) → keys ≡ front ++ more → Each (KeyOpensBy u) [] front → keys ≡ more
supplies_none u keys more front e o = e ∙ ap (λ l. l ++ more) (none_left u front o)

-- ---- one bag

pub plain_bag : (to : Kinds) (u : Unlocking) (q : List ℕ) (g : SafeBag) (keys more : List (List ℕ)) → shrouded_in g.bag ≡ [] → Supplies u (g ∷ []) keys more → (keys ≡ more) × BagSealed to u q [] g g
plain_bag to u q g keys more none s = plain g.bag refl
  where
    first : Each (KeyOpensBy u) [] s.front
    first = subst (λ (l : List EncryptedPrivateKeyInfo). Each (KeyOpensBy u) l s.front) (append-nil (shrouded_in g.bag) ∙ none) s.are_opened

    value : (k : SafeBagKind) → shrouded_in k ≡ [] → KindLike to u q [] k k
    value (kind.CertBag c) e = (refl, refl)
    value (kind.OtherBagKind o) e = (refl, refl)
    value (kind.Pkcs8ShroudedKeyBag k) e = absurd cc

    plain : (k : SafeBagKind) → g.bag ≡ k → (keys ≡ more) × BagSealed to u q [] g g
    plain k e = (supplies_none u keys more s.front s.splits first, record { attributes = refl; value = value g.bag none })

pub record FirstKey (u : Unlocking) (k : EncryptedPrivateKeyInfo) (keys more : List (List ℕ)) : Type 0 where
  pub key : List ℕ
  pub is : keys ≡ key ∷ more
  pub opens : KeyOpensBy u k key

key_of : (u : Unlocking) (k : EncryptedPrivateKeyInfo) (keys more front : List (List ℕ)) → keys ≡ front ++ more → Each (KeyOpensBy u) (k ∷ []) front → FirstKey u k keys more
key_of u k keys more [] e o = absurd o
key_of u k keys more (f ∷ []) e o = record { key = f; is = e; opens = o.0 }
key_of u k keys more (f ∷ g ∷ front) e o = absurd o.1

pub first_key : (u : Unlocking) (g : SafeBag) (k : EncryptedPrivateKeyInfo) (keys more : List (List ℕ)) → g.bag ≡ kind.Pkcs8ShroudedKeyBag k → Supplies u (g ∷ []) keys more → FirstKey u k keys more
first_key u g k keys more e s =
    key_of u k keys more s.front s.splits (subst (λ (x : SafeBagKind). Each (KeyOpensBy u) (shrouded_in x ++ []) s.front) e s.are_opened)

-- what is sealed can be opened
pub bag_opens : (to : Kinds) (g : SafeBag) (k : EncryptedPrivateKeyInfo) (keys : List (List ℕ)) → g.bag ≡ kind.Pkcs8ShroudedKeyBag k → (u : Unlocking) × (more : List (List ℕ)) × CanSeal to u × Supplies u (g ∷ []) keys more
    → (openable (kind_for to k.encryption_algorithm) ≡ true) × (0 < count (kind_for to k.encryption_algorithm))
bag_opens to g k keys is (u, more, can, s) =
    let f = first_key u g k keys more is s in
    can k.encryption_algorithm k.encrypted_data f.key f.opens.0

heads : (x y : List ℕ) (xs ys : List (List ℕ)) → x ∷ xs ≡ y ∷ ys → x ≡ y
heads x y xs ys e = cc

tails : (x y : List ℕ) (xs ys : List (List ℕ)) → x ∷ xs ≡ y ∷ ys → xs ≡ ys
tails x y xs ys e = cc

pub key_bag : (to : Kinds) (u : Unlocking) (q z : List ℕ) (g h : SafeBag) (k l : EncryptedPrivateKeyInfo) (key : List ℕ) (keys rest more : List (List ℕ)) → g.bag ≡ kind.Pkcs8ShroudedKeyBag k → h.bag ≡ kind.Pkcs8ShroudedKeyBag l
    → h.attributes ≡ g.attributes → keys ≡ key ∷ rest → Supplies u (g ∷ []) keys more → IsAnew to z k.encryption_algorithm l.encryption_algorithm → unlock l.encryption_algorithm q l.encrypted_data ≡ Some key
    → (rest ≡ more) × BagSealed to u q z g h
key_bag to u q z g h k l key keys rest more is il same e s n o =
    let f = first_key u g k keys more is s in
    let eq = sym e ∙ f.is in
    let opens = subst (λ (x : List ℕ). u k.encryption_algorithm k.encrypted_data ≡ Some x) (sym (heads key f.key rest more eq)) f.opens.0 in
    let v : KindLike to u q z (kind.Pkcs8ShroudedKeyBag k) (kind.Pkcs8ShroudedKeyBag l) = (n, record { text = key; opens = opens; opens_anew = o }) in (
      tails key f.key rest more eq,
      record {
        attributes = same;
        value = subst (λ (x : SafeBagKind). KindLike to u q z x h.bag) (sym is) (subst (λ (x : SafeBagKind). KindLike to u q z (kind.Pkcs8ShroudedKeyBag k) x) (sym il) v);
      },
    )

pub key_long : (to : Kinds) (u : Unlocking) (g : SafeBag) (k : EncryptedPrivateKeyInfo) (key : List ℕ) (keys rest more : List (List ℕ)) → g.bag ≡ kind.Pkcs8ShroudedKeyBag k → keys ≡ key ∷ rest → Supplies u (g ∷ []) keys more
    → 2 ^ 32 ≤ sealed_size (kind_for to k.encryption_algorithm) (length key) → 2 ^ 32 ≤ length (bag_canon (blank_bag to u g))
key_long to u g k key keys rest more is e s h =
    let f = first_key u g k keys more is s in
    let opens = subst (λ (x : List ℕ). u k.encryption_algorithm k.encrypted_data ≡ Some x) (sym (heads key f.key rest more (sym e ∙ f.is))) f.opens.0 in
    omega (arith, h, blank_data_size to u k key opens, key_in to u g k is)

-- ---- bags, one after the other

pub record BagsOn (to : Kinds) (q : List ℕ) (gs rest : List SafeBag) (keys keys_now : List (List ℕ)) (drawn drawn_now : List ℕ) (made : List SafeBag) : Type 0 where
  pub before : List SafeBag
  pub split : gs ≡ before ++ rest
  pub room : bags_draw to rest ≤ length drawn_now
  pub used : length drawn + bags_draw to rest ≡ bags_draw to gs + length drawn_now
  pub goes : (u : Unlocking) (more : List (List ℕ)) → Supplies u gs keys more → Supplies u rest keys_now more
      × ((hs : List SafeBag) (d tail : List ℕ) → drawn_now ≡ d ++ tail → EachDrawn (BagSealed to u q) rest hs d → (z : List ℕ) × (drawn ≡ z ++ tail) × EachDrawn (BagSealed to u q) gs (made ++ hs) z)

pub bags_start : (to : Kinds) (q : List ℕ) (gs : List SafeBag) (keys : List (List ℕ)) (drawn : List ℕ) → bags_draw to gs ≤ length drawn → BagsOn to q gs gs keys keys drawn drawn []
bags_start to q gs keys drawn room = record { before = []; split = refl; room = room; used = omega arith; goes = λ p more s. (s, λ hs d tail e t. (d, e, t)) }

pub bags_step : (to : Kinds) (q : List ℕ) (gs rest : List SafeBag) (g : SafeBag) (back : List SafeBag) (keys keys_now keys_after : List (List ℕ)) (drawn drawn_now drawn_after : List ℕ) (made : List SafeBag) (h : SafeBag)
    → BagsOn to q gs rest keys keys_now drawn drawn_now made → rest ≡ g ∷ back
    → ((u : Unlocking) (more : List (List ℕ)) → Supplies u (g ∷ []) keys_now more → (keys_after ≡ more) × (z : List ℕ) × (drawn_now ≡ z ++ drawn_after) × BagSealed to u q z g h)
    → length drawn_now ≡ bag_draws to g + length drawn_after → BagsOn to q gs back keys keys_after drawn drawn_after (made ++ h ∷ [])
bags_step to q gs rest g back keys keys_now keys_after drawn drawn_now drawn_after made h i e sealed used =
    let draws : bags_draw to rest ≡ bag_draws to g + bags_draw to back = ap (bags_draw to) e ∙ bags_draw_cons to g back in
    record {
      before = i.before ++ g ∷ [];
      split = i.split ∙ ap (λ l. i.before ++ l) e ∙ sym (append_assoc i.before (g ∷ []) back);
      room = omega (arith, i.room, draws, used);
      used = omega (arith, i.used, draws, used);
      goes = λ u more s. (
          let r = i.goes u more s in
          let b = supplies_split u g back keys_now more (subst (λ (l : List SafeBag). Supplies u l keys_now more) e r.0) in
          let one = sealed u b.mid b.one in (
            subst (λ (l : List (List ℕ)). Supplies u back l more) (sym one.0) b.rest,
            λ hs d tail f t. (
                let all = r.1 (h ∷ hs) (one.1 ++ d) tail (one.2 ∙ ap (λ l. one.1 ++ l) f ∙ sym (append_assoc one.1 d tail))
                (subst (λ (l : List SafeBag). EachDrawn (BagSealed to u q) l (h ∷ hs) (one.1 ++ d)) (sym e) (one.1, d, refl, one.3, t)) in
                (all.0, all.1, subst (λ (l : List SafeBag). EachDrawn (BagSealed to u q) gs l all.0) (sym (append_assoc made (h ∷ []) hs)) all.2)
                ),
          )
          );
    }

pub bags_end : (to : Kinds) (q : List ℕ) (gs rest : List SafeBag) (keys keys_now : List (List ℕ)) (drawn drawn_now : List ℕ) (made : List SafeBag) → BagsOn to q gs rest keys keys_now drawn drawn_now made → rest ≡ []
    → (u : Unlocking) (more : List (List ℕ)) → Supplies u gs keys more → (keys_now ≡ more) × BagsSealed to u q gs drawn drawn_now made
bags_end to q gs rest keys keys_now drawn drawn_now made i e u more s =
    let r = i.goes u more s in
    let o = subst (λ (l : List SafeBag). Supplies u l keys_now more) e r.0 in
    let all = r.1 [] [] drawn_now refl (subst (λ (l : List SafeBag). EachDrawn (BagSealed to u q) l [] []) (sym e) refl) in
    (supplies_none u keys_now more o.front o.splits o.are_opened, record { took = all.0; splits = all.1; sealed = subst (λ (l : List SafeBag). EachDrawn (BagSealed to u q) gs l all.0) (append-nil made) all.2 })

pub bags_used : (to : Kinds) (q : List ℕ) (gs rest : List SafeBag) (keys keys_now : List (List ℕ)) (drawn drawn_now : List ℕ) (made : List SafeBag) → BagsOn to q gs rest keys keys_now drawn drawn_now made → rest ≡ []
    → length drawn ≡ bags_draw to gs + length drawn_now
bags_used to q gs rest keys keys_now drawn drawn_now made i e = omega (arith, i.used, ap (bags_draw to) e)

pub bags_next : (to : Kinds) (q : List ℕ) (gs rest : List SafeBag) (g : SafeBag) (back : List SafeBag) (keys keys_now : List (List ℕ)) (drawn drawn_now : List ℕ) (made : List SafeBag)
    → BagsOn to q gs rest keys keys_now drawn drawn_now made → rest ≡ g ∷ back → (u : Unlocking) × (more : List (List ℕ)) × CanSeal to u × Supplies u gs keys more
    → (u : Unlocking) × (more : List (List ℕ)) × CanSeal to u × Supplies u (g ∷ []) keys_now more
bags_next to q gs rest g back keys keys_now drawn drawn_now made i e (u, more, can, s) =
    let b = supplies_split u g back keys_now more (subst (λ (l : List SafeBag). Supplies u l keys_now more) e (i.goes u more s).0) in
    (u, b.mid, can, b.one)

pub bags_room : (to : Kinds) (q : List ℕ) (gs rest : List SafeBag) (g : SafeBag) (back : List SafeBag) (keys keys_now : List (List ℕ)) (drawn drawn_now : List ℕ) (made : List SafeBag)
    → BagsOn to q gs rest keys keys_now drawn drawn_now made → rest ≡ g ∷ back → bag_draws to g ≤ length drawn_now
bags_room to q gs rest g back keys keys_now drawn drawn_now made i e = omega (arith, i.room, ap (bags_draw to) e ∙ bags_draw_cons to g back)

pub bags_long : (to : Kinds) (q : List ℕ) (gs rest : List SafeBag) (g : SafeBag) (back : List SafeBag) (keys keys_now : List (List ℕ)) (drawn drawn_now : List ℕ) (made : List SafeBag) (f : TransferError)
    → BagsOn to q gs rest keys keys_now drawn drawn_now made → rest ≡ g ∷ back
    → LongOnly ((u : Unlocking) (more : List (List ℕ)) → Supplies u (g ∷ []) keys_now more → 2 ^ 32 ≤ length (bag_canon (blank_bag to u g))) f
    → LongOnly ((u : Unlocking) (more : List (List ℕ)) → Supplies u gs keys more → 2 ^ 32 ≤ length (blank_text to u gs)) f
bags_long to q gs rest g back keys keys_now drawn drawn_now made f i e h =
    long_map _ _ f (λ all u more s. (
    let b = supplies_split u g back keys_now more (subst (λ (l : List SafeBag). Supplies u l keys_now more) e (i.goes u more s).0) in
    omega (arith, all u b.mid b.one, bag_in to u i.before g back gs (i.split ∙ ap (λ l. i.before ++ l) e))
    )) h

-- ---- contents, one after the other

pub record ContentsOn (to : Kinds) (q : List ℕ) (cs rest : List ContentInfo) (gss rest_bags : List (List SafeBag)) (keys keys_now : List (List ℕ)) (drawn drawn_now : List ℕ) (made : List ContentInfo) : Type 0 where
  pub before : List ContentInfo
  pub bags_before : List (List SafeBag)
  pub split : cs ≡ before ++ rest
  pub bags_split : gss ≡ bags_before ++ rest_bags
  pub room : sum_by (content_draws to) rest + sum_by (bags_draw to) rest_bags ≤ length drawn_now
  pub used : length drawn + (sum_by (content_draws to) rest + sum_by (bags_draw to) rest_bags) ≡ sum_by (content_draws to) cs + sum_by (bags_draw to) gss + length drawn_now
  pub holds : (u : Unlocking) → Each (HoldsBy u) cs gss → Each (HoldsBy u) before bags_before × Each (HoldsBy u) rest rest_bags
  pub goes : (u : Unlocking) (more : List (List ℕ)) → Each (HoldsBy u) cs gss → SuppliesAll u gss keys more → SuppliesAll u rest_bags keys_now more
      × ((es : List ContentInfo) (d tail : List ℕ) → drawn_now ≡ d ++ tail → EachDrawn (ContentSealed to u q) rest es d → (z : List ℕ) × (drawn ≡ z ++ tail) × EachDrawn (ContentSealed to u q) cs (made ++ es) z)

pub contents_start : (to : Kinds) (q : List ℕ) (cs : List ContentInfo) (gss : List (List SafeBag)) (keys : List (List ℕ)) (drawn : List ℕ) → sum_by (content_draws to) cs + sum_by (bags_draw to) gss ≤ length drawn
    → ContentsOn to q cs cs gss gss keys keys drawn drawn []
contents_start to q cs gss keys drawn room = record {
  before = [];
  bags_before = [];
  split = refl;
  bags_split = refl;
  room = room;
  used = omega arith;
  holds = λ p h. (tt, h);
  goes = λ p more h s. (s, λ es d tail e t. (d, e, t));
}

each_more : {A B : Type 0} (R : A → B → Type 0) (xs : List A) (x : A) (ys : List B) (y : B) → Each R xs ys → R x y → Each R (xs ++ x ∷ []) (ys ++ y ∷ [])
each_more R [] x [] y e r = (r, tt)
each_more R [] x (z ∷ ys) y e r = absurd e
each_more R (w ∷ xs) x [] y e r = absurd e
each_more R (w ∷ xs) x (z ∷ ys) y e r = (e.0, each_more R xs x ys y e.1 r)

pub contents_step : (to : Kinds) (q : List ℕ) (cs rest : List ContentInfo) (c : ContentInfo) (back : List ContentInfo) (gss rest_bags : List (List SafeBag)) (gs : List SafeBag) (bags_after : List (List SafeBag))
    (keys keys_now keys_after : List (List ℕ)) (drawn drawn_now drawn_after : List ℕ) (made : List ContentInfo) (e : ContentInfo)
    → ContentsOn to q cs rest gss rest_bags keys keys_now drawn drawn_now made → rest ≡ c ∷ back → rest_bags ≡ gs ∷ bags_after
    → ((u : Unlocking) (more : List (List ℕ)) → HoldsBy u c gs → Supplies u gs keys_now more → (keys_after ≡ more) × (z : List ℕ) × (drawn_now ≡ z ++ drawn_after) × ContentSealed to u q z c e)
    → length drawn_now ≡ content_draws to c + bags_draw to gs + length drawn_after → ContentsOn to q cs back gss bags_after keys keys_after drawn drawn_after (made ++ e ∷ [])
contents_step to q cs rest c back gss rest_bags gs bags_after keys keys_now keys_after drawn drawn_now drawn_after made e i is are sealed used =
    let draws : sum_by (content_draws to) rest ≡ content_draws to c + sum_by (content_draws to) back = ap (sum_by (content_draws to)) is ∙ draws_cons to c back in
    let drawn_back : sum_by (bags_draw to) rest_bags ≡ bags_draw to gs + sum_by (bags_draw to) bags_after = ap (sum_by (bags_draw to)) are ∙ all_draws_cons to gs bags_after in
    let both : (u : Unlocking) → Each (HoldsBy u) cs gss → Each (HoldsBy u) (c ∷ back) (gs ∷ bags_after) =
    λ u h. subst (λ (l : List ContentInfo). Each (HoldsBy u) l (gs ∷ bags_after)) is (subst (λ (l : List (List SafeBag)). Each (HoldsBy u) rest l) are (i.holds u h).1) in
    record {
      before = i.before ++ c ∷ [];
      bags_before = i.bags_before ++ gs ∷ [];
      split = i.split ∙ ap (λ l. i.before ++ l) is ∙ sym (append_assoc i.before (c ∷ []) back);
      bags_split = i.bags_split ∙ ap (λ l. i.bags_before ++ l) are ∙ sym (append_assoc i.bags_before (gs ∷ []) bags_after);
      room = omega (arith, i.room, draws, drawn_back, used);
      used = omega (arith, i.used, draws, drawn_back, used);
      holds = λ u h. (each_more (HoldsBy u) i.before c i.bags_before gs (i.holds u h).0 (both u h).0, (both u h).1);
      goes = λ u more h s. (
          let r = i.goes u more h s in
          let b = supplies_all_split u gs bags_after keys_now more (subst (λ (l : List (List SafeBag)). SuppliesAll u l keys_now more) are r.0) in
          let one = sealed u b.mid (both u h).0 b.one in (
            subst (λ (l : List (List ℕ)). SuppliesAll u bags_after l more) (sym one.0) b.rest,
            λ es d tail f t. (
                let all = r.1 (e ∷ es) (one.1 ++ d) tail (one.2 ∙ ap (λ l. one.1 ++ l) f ∙ sym (append_assoc one.1 d tail))
                (subst (λ (l : List ContentInfo). EachDrawn (ContentSealed to u q) l (e ∷ es) (one.1 ++ d)) (sym is) (one.1, d, refl, one.3, t)) in
                (all.0, all.1, subst (λ (l : List ContentInfo). EachDrawn (ContentSealed to u q) cs l all.0) (sym (append_assoc made (e ∷ []) es)) all.2)
                ),
          )
          );
    }

pub contents_end : (to : Kinds) (q : List ℕ) (cs rest : List ContentInfo) (gss rest_bags : List (List SafeBag)) (keys keys_now : List (List ℕ)) (drawn drawn_now : List ℕ) (made : List ContentInfo)
    → ContentsOn to q cs rest gss rest_bags keys keys_now drawn drawn_now made → rest ≡ [] → (u : Unlocking) (more : List (List ℕ)) → Each (HoldsBy u) cs gss → SuppliesAll u gss keys more
    → ContentsSealed to u q cs drawn drawn_now made
contents_end to q cs rest gss rest_bags keys keys_now drawn drawn_now made i e u more h s =
    let all = (i.goes u more h s).1 [] [] drawn_now refl (subst (λ (l : List ContentInfo). EachDrawn (ContentSealed to u q) l [] []) (sym e) refl) in
    record { took = all.0; splits = all.1; sealed = subst (λ (l : List ContentInfo). EachDrawn (ContentSealed to u q) cs l all.0) (append-nil made) all.2 }

both_done : (u : Unlocking) (rest_bags : List (List SafeBag)) → Each (HoldsBy u) [] rest_bags → rest_bags ≡ []
both_done u [] h = refl
both_done u (gs ∷ gss) h = absurd h

pub contents_used : (to : Kinds) (q : List ℕ) (cs rest : List ContentInfo) (gss rest_bags : List (List SafeBag)) (keys keys_now : List (List ℕ)) (drawn drawn_now : List ℕ) (made : List ContentInfo)
    → ContentsOn to q cs rest gss rest_bags keys keys_now drawn drawn_now made → rest ≡ [] → (u : Unlocking) × (more : List (List ℕ)) × CanSeal to u × Each (HoldsBy u) cs gss × SuppliesAll u gss keys more
    → length drawn ≡ sum_by (content_draws to) cs + sum_by (bags_draw to) gss + length drawn_now
contents_used to q cs rest gss rest_bags keys keys_now drawn drawn_now made i e (u, more, can, h, s) =
    let none = both_done u rest_bags (subst (λ (l : List ContentInfo). Each (HoldsBy u) l rest_bags) e (i.holds u h).1) in
    omega (arith, i.used, ap (sum_by (content_draws to)) e, ap (sum_by (bags_draw to)) none)

pub contents_next : (to : Kinds) (q : List ℕ) (cs rest : List ContentInfo) (c : ContentInfo) (back : List ContentInfo) (gss rest_bags : List (List SafeBag)) (gs : List SafeBag) (bags_after : List (List SafeBag))
    (keys keys_now : List (List ℕ)) (drawn drawn_now : List ℕ) (made : List ContentInfo) → ContentsOn to q cs rest gss rest_bags keys keys_now drawn drawn_now made → rest ≡ c ∷ back → rest_bags ≡ gs ∷ bags_after
    → (u : Unlocking) × (more : List (List ℕ)) × CanSeal to u × Each (HoldsBy u) cs gss × SuppliesAll u gss keys more → (u : Unlocking) × (more : List (List ℕ)) × CanSeal to u × HoldsBy u c gs × Supplies u gs keys_now more
contents_next to q cs rest c back gss rest_bags gs bags_after keys keys_now drawn drawn_now made i is are (u, more, can, h, s) =
    let both = subst (λ (l : List ContentInfo). Each (HoldsBy u) l (gs ∷ bags_after)) is (subst (λ (l : List (List SafeBag)). Each (HoldsBy u) rest l) are (i.holds u h).1) in
    let b = supplies_all_split u gs bags_after keys_now more (subst (λ (l : List (List SafeBag)). SuppliesAll u l keys_now more) are (i.goes u more h s).0) in
    (u, b.mid, can, both.0, b.one)

pub contents_room : (to : Kinds) (q : List ℕ) (cs rest : List ContentInfo) (c : ContentInfo) (back : List ContentInfo) (gss rest_bags : List (List SafeBag)) (gs : List SafeBag) (bags_after : List (List SafeBag))
    (keys keys_now : List (List ℕ)) (drawn drawn_now : List ℕ) (made : List ContentInfo) → ContentsOn to q cs rest gss rest_bags keys keys_now drawn drawn_now made → rest ≡ c ∷ back → rest_bags ≡ gs ∷ bags_after
    → content_draws to c + bags_draw to gs ≤ length drawn_now
contents_room to q cs rest c back gss rest_bags gs bags_after keys keys_now drawn drawn_now made i is are =
    omega (arith, i.room, ap (sum_by (content_draws to)) is ∙ draws_cons to c back, ap (sum_by (bags_draw to)) are ∙ all_draws_cons to gs bags_after)

-- there are bags for each content
pub contents_have : (to : Kinds) (q : List ℕ) (cs rest : List ContentInfo) (c : ContentInfo) (back : List ContentInfo) (gss rest_bags : List (List SafeBag)) (keys keys_now : List (List ℕ)) (drawn drawn_now : List ℕ)
    (made : List ContentInfo) → ContentsOn to q cs rest gss rest_bags keys keys_now drawn drawn_now made → rest ≡ c ∷ back → (u : Unlocking) × (more : List (List ℕ)) × CanSeal to u × Each (HoldsBy u) cs gss × SuppliesAll u gss keys more
    → rest_bags ≡ [] → ⊥
contents_have to q cs rest c back gss rest_bags keys keys_now drawn drawn_now made i is (u, more, can, h, s) none =
    subst (λ (l : List ContentInfo). Each (HoldsBy u) l []) is (subst (λ (l : List (List SafeBag)). Each (HoldsBy u) rest l) none (i.holds u h).1)

pub contents_long : (to : Kinds) (q : List ℕ) (cs rest : List ContentInfo) (c : ContentInfo) (back : List ContentInfo) (gss rest_bags : List (List SafeBag)) (gs : List SafeBag) (bags_after : List (List SafeBag))
    (keys keys_now : List (List ℕ)) (drawn drawn_now : List ℕ) (made : List ContentInfo) (f : TransferError) → ContentsOn to q cs rest gss rest_bags keys keys_now drawn drawn_now made → rest ≡ c ∷ back
    → rest_bags ≡ gs ∷ bags_after
    → LongOnly ((u : Unlocking) (more : List (List ℕ)) → HoldsBy u c gs → Supplies u gs keys_now more → 2 ^ 32 ≤ length (content_canon (blank_content to u c gs))) f
    → LongOnly ((u : Unlocking) (more : List (List ℕ)) → Each (HoldsBy u) cs gss → SuppliesAll u gss keys more → 2 ^ 32 ≤ length (contents_canon (blank_contents to u cs gss))) f
contents_long to q cs rest c back gss rest_bags gs bags_after keys keys_now drawn drawn_now made f i is are h =
    long_map _ _ f (λ all u more k s. (
    let both = subst (λ (l : List ContentInfo). Each (HoldsBy u) l (gs ∷ bags_after)) is (subst (λ (l : List (List SafeBag)). Each (HoldsBy u) rest l) are (i.holds u k).1) in
    let b = supplies_all_split u gs bags_after keys_now more (subst (λ (l : List (List SafeBag)). SuppliesAll u l keys_now more) are (i.goes u more k s).0) in
    omega (arith, all u b.mid both.0 b.one, content_in to u i.before c back cs i.bags_before gs bags_after gss (i.holds u k).0 (i.split ∙ ap (λ l. i.before ++ l) is) (i.bags_split ∙ ap (λ l. i.bags_before ++ l) are))
    )) h

pub room_is : (to : Kinds) (n : ℕ) (rest : List (List SafeBag)) (cs : List ContentInfo) (gss : List (List SafeBag)) → rest ≡ [] → n + sum_by (bags_draw to) rest ≡ mac_salt to + sum_by (content_draws to) cs + sum_by (bags_draw to) gss
    → n ≡ sum_by (content_draws to) cs + sum_by (key_draws to) (all_shrouded gss) + mac_salt to
room_is to n rest cs gss e h = omega (arith, h, ap (sum_by (bags_draw to)) e, all_keys to gss)

pub empty_is : {A : Type 0} (xs : List A) → length xs ≡ 0 → xs ≡ []
empty_is [] h = refl
empty_is (x ∷ xs) h = absurd (omega (arith, h))
