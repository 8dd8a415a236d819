-- The text of a store that is sealed anew.
use Rattle.std.proofs.Common.{◌≡◌, ℕ, ◌+◌, ◌<◌, ◌≤◌, ◌^◌, List, [], ◌∷◌, ◌++◌, length, Option, Some, None, true, Bor, refl, sym, ap, ◌∙◌, arith, append-nil}
use Rattle.std.specs.Prelude.{All}
use Rattle.std.specs.List.{sum_by}
use Rattle.std.proofs.lemmas.List.{length-append}
use Rattle.std.proofs.lemmas.List.Elements.{All-nil, All-cons}
use Rattle.asn1_core.specs.Sets.{Each, IsRead}
use Rattle.asn1_core.specs.Texts.{Many}
use Rattle.p12.specs.Canonical.{WritableContent, contents_canon, store_canon}
use Rattle.p12.specs.ContentInfo.{ContentText, IsContents}
use Rattle.asn1_core.specs.Texts.{seen_option}
use Rattle.p12.specs.ContentView.{seen_content}
use Rattle.p12.specs.MacData.{is_mac_digest}
use Rattle.p12.specs.MacView.{seen_mac}
use Rattle.p12.specs.Pfx.{IsStore}
use Rattle.p12.specs.StoreView.{seen_store}
use Rattle.p12.specs.declared.content_info.ContentView.{ContentView}
use Rattle.p12.specs.declared.content_info.ContentView.TheVariants as view
use Rattle.p12.specs.declared.mac_data.MacView.{MacView}
use Rattle.p12.specs.declared.pfx.PFX.{PFX}
use Rattle.p12.specs.declared.pfx.StoreView.{StoreView}
use Rattle.p12.specs.declared.place.Place.{Place}
use Rattle.p12.proofs.DefinitionLaws.{store_sole}
use Rattle.p12.specs.declared.content_info.ContentInfo.{ContentInfo}
use Rattle.p12.specs.declared.mac_data.MacData.{MacData}
use Rattle.p12.specs.declared.safe_bag.SafeBag.{SafeBag}
use Rattle.p12.proofs.Again.{content_writes}
use Rattle.transfer.specs.Limits.{store_limit}
use Rattle.transfer.specs.declared.store.error.TransferError.{TransferError}
use Rattle.rekey_core.specs.Anew.{change_draws, content_draws}
use Rattle.rekey_core.specs.Making.{HeldOpen, IsMacked, TextSealed, store_anew}
use Rattle.p12.specs.declared.content_info.ContentInfo.TheVariants as content
use Rattle.rekey_core.specs.Unlocking.{HoldsBy, Unlocking}
use Rattle.rekey_core.specs.Sealing.{CanSeal, ContentsSealed, LongOnly, SuppliesAll, bags_draw}
use Rattle.rekey_core.specs.Size.{blank_contents, changed_size}
use Rattle.rekey_core.proofs.Sizes.{contents_in, store_size}
use Rattle.rekey_core.proofs.Supplying.{all_keys, long_map}
use Rattle.rekey_core.proofs.Texts.{contents_many}
use Rattle.rekey_core.specs.Kinds.{MacKind, mac_salt}
use Rattle.rekey_core.specs.declared.kinds.Kinds.{Kinds}

pub supply_of : (u : Unlocking) (cs : List ContentInfo) (gss : List (List SafeBag)) (keys : List (List ℕ)) → HeldOpen u cs gss keys → SuppliesAll u gss keys []
supply_of u cs gss keys h = record { front = keys; splits = sym (append-nil keys); are_opened = h.are_opened }

pub supplied : (to : Kinds) (cs : List ContentInfo) (gss : List (List SafeBag)) (keys : List (List ℕ)) → (u : Unlocking) × CanSeal to u × HeldOpen u cs gss keys → (u : Unlocking) × (more : List (List ℕ)) × CanSeal to u × Each (HoldsBy u) cs gss × SuppliesAll u gss keys more
supplied to cs gss keys (u, can, h) = (u, [], can, h.bags, supply_of u cs gss keys h)

pub room_of : (to : Kinds) (cs : List ContentInfo) (gss : List (List SafeBag)) (drawn : List ℕ) → length drawn ≡ change_draws to cs gss → sum_by (content_draws to) cs + sum_by (bags_draw to) gss ≤ length drawn
room_of to cs gss drawn e = omega (arith, e, all_keys to gss)

pub salt_left : (to : Kinds) (cs : List ContentInfo) (gss : List (List SafeBag)) (drawn rest : List ℕ) → length drawn ≡ change_draws to cs gss → length drawn ≡ sum_by (content_draws to) cs + sum_by (bags_draw to) gss + length rest → length rest ≡ mac_salt to
salt_left to cs gss drawn rest e u = omega (arith, e, u, all_keys to gss)

write_all : (t : List ℕ) (es : List ContentInfo) → Many ContentText t es → All WritableContent es
write_all t [] m = All-nil WritableContent
write_all t (e ∷ es) (x, y, r, m, f) = All-cons WritableContent e es (content_writes e (x, r)) (write_all y es m)

many_of : (v : List ℕ) (cs : List ContentInfo) → IsContents v cs → IsRead (Many ContentText) cs
unfolding IsContents
many_of v cs ((w, m, e), short) = (w, m)

pub contents_write : (to : Kinds) (u : Unlocking) (v q : List ℕ) (cs es : List ContentInfo) (drawn rest : List ℕ) → IsContents v cs → ContentsSealed to u q cs drawn rest es → All WritableContent es
contents_write to u v q cs es drawn rest is s = let m = many_of v cs is in write_all _ es (contents_many to u q cs es s.took m.0 s.sealed m.1)

all_of_it : (n : ℕ) (rest salt more : List ℕ) → rest ≡ salt ++ more → length rest ≡ n → length salt ≡ n → rest ≡ salt
all_of_it n rest salt more e l k = e ∙ ap (λ t. salt ++ t) (none more (omega (arith, ap length e, length-append salt more, l, k))) ∙ append-nil salt
  where
    none : (t : List ℕ) → length t ≡ 0 → t ≡ []
    none [] h = refl
    none (x ∷ t) h = absurd (omega (arith, h))

pub text_sealed : (to : Kinds) (u : Unlocking) (q : List ℕ) (version : ℕ) (m : MacKind) (cs es : List ContentInfo) (gss : List (List SafeBag)) (keys : List (List ℕ)) (drawn rest salt more b : List ℕ)
    → ((u : Unlocking) (k : List (List ℕ)) → Each (HoldsBy u) cs gss → SuppliesAll u gss keys k → ContentsSealed to u q cs drawn rest es) → length rest ≡ mac_salt to → rest ≡ salt ++ more → length salt ≡ mac_salt to
    → (b ≡ store_canon (store_anew version m q salt es)) × (length b ≤ store_limit) → HeldOpen u cs gss keys → TextSealed to u q version m cs drawn b
text_sealed to u q version m cs es gss keys drawn rest salt more b all left e long is h =
    let s = all u [] h.bags (supply_of u cs gss keys h) in
    record {
      contents = es;
      taken = s.took;
      salt = salt;
      order = s.splits ∙ ap (λ t. s.took ++ t) (all_of_it (mac_salt to) rest salt more e left long);
      salt_drawn = long;
      sealed = s.sealed;
      is = is.0;
      short = is.1;
    }

pub long_contents : (to : Kinds) (version : ℕ) (m : MacKind) (cs : List ContentInfo) (gss : List (List SafeBag)) (keys : List (List ℕ)) (f : TransferError)
    → LongOnly ((u : Unlocking) (more : List (List ℕ)) → Each (HoldsBy u) cs gss → SuppliesAll u gss keys more → 2 ^ 32 ≤ length (contents_canon (blank_contents to u cs gss))) f
    → LongOnly ((u : Unlocking) → HeldOpen u cs gss keys → store_limit < changed_size to version m u cs gss) f
long_contents to version m cs gss keys f h = long_map _ _ f (λ all u o. omega (arith, all u [] o.bags (supply_of u cs gss keys o), contents_in to version m u cs gss)) h

pub long_store : (to : Kinds) (q : List ℕ) (version : ℕ) (m : MacKind) (cs es : List ContentInfo) (gss : List (List SafeBag)) (keys : List (List ℕ)) (drawn rest salt : List ℕ) (f : TransferError)
    → ((u : Unlocking) (k : List (List ℕ)) → Each (HoldsBy u) cs gss → SuppliesAll u gss keys k → ContentsSealed to u q cs drawn rest es) → length salt ≡ mac_salt to → is_mac_digest m.digest ≡ true
    → LongOnly (store_limit < length (store_canon (store_anew version m q salt es))) f → LongOnly ((u : Unlocking) → HeldOpen u cs gss keys → store_limit < changed_size to version m u cs gss) f
long_store to q version m cs es gss keys drawn rest salt f all long known h = long_map _ _ f (λ l u o. (
    let s = all u [] o.bags (supply_of u cs gss keys o) in
    omega (arith, l, store_size to u q version m cs es gss s.took salt known s.sealed o.bags long)
    )) h

-- ---- the parts around the contents

plain_case : (a : ContentView) (v : List ℕ) → seen_content a ≡ content.Data v → ((x : Bor (List ℕ)) (at : Place) → a ≡ view.Plain x at → ⊥) → ⊥
plain_case (view.Plain x at) v e f = f x at refl
plain_case (view.Encrypted a x at) v e f = cc
plain_case (view.Other k x) v e f = cc

pub view_plain : (b : List ℕ) (w : StoreView) → IsStore b (seen_store w) → IsMacked b → ((x : Bor (List ℕ)) (at : Place) → w.auth_safe ≡ view.Plain x at → ⊥) → ⊥
view_plain b w is (s, v, m, that, plain, has) f = plain_case w.auth_safe v (ap (λ (t : PFX). t.auth_safe) (store_sole b (seen_store w) s is that) ∙ plain) f

none_some : (o : Option MacView) (m : MacData) → o ≡ None → seen_option seen_mac o ≡ Some m → ⊥
none_some None m e h = cc
none_some (Some v) m e h = cc

pub view_mac : (b : List ℕ) (w : StoreView) → IsStore b (seen_store w) → IsMacked b → w.mac_data ≡ None → ⊥
view_mac b w is (s, v, m, that, plain, has) e = none_some w.mac_data m e (ap (λ (t : PFX). t.mac_data) (store_sole b (seen_store w) s is that) ∙ has)

pub outer_is : (b : List ℕ) (w : StoreView) (x : Bor (List ℕ)) (at : Place) (mac : MacView) → IsStore b (seen_store w) → w.auth_safe ≡ view.Plain x at → w.mac_data ≡ Some mac
    → (s : PFX) → IsStore b s → (s.version ≡ w.version) × (s.auth_safe ≡ content.Data x.now) × (s.mac_data ≡ Some (seen_mac mac))
outer_is b w x at mac is plain has s that =
    let e = store_sole b s (seen_store w) that is in (
      ap (λ (t : PFX). t.version) e,
      ap (λ (t : PFX). t.auth_safe) e ∙ ap seen_content plain,
      ap (λ (t : PFX). t.mac_data) e ∙ ap (seen_option seen_mac) has,
    )
