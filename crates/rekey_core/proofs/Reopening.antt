-- What is upgraded opens again, by as many steps as sealing it took rounds.
use Rattle.std.proofs.Common.{◌≡◌, ℕ, ◌+◌, ◌*◌, ◌≤◌, List, [], ◌∷◌, length, Option, None, refl, sym, ap, subst, ◌∙◌, arith, mul-suc}
use Rattle.std.specs.Prelude.{All}
use Rattle.std.specs.List.{sum_by}
use Rattle.std.proofs.Math.Nat.{mul-add}
use Rattle.std.proofs.lemmas.List.Elements.{All-head, All-tail}
use Rattle.std.proofs.lemmas.List.Sums.{sum_by-cons}
use Rattle.asn1_core.specs.Sets.{Each}
use Rattle.p12.specs.AlgorithmIdentifier.{cost}
use Rattle.p12.specs.ContentInfo.{IsContents}
use Rattle.p12.specs.declared.algorithm_identifier.AlgorithmIdentifier.{AlgorithmIdentifier}
use Rattle.p12.specs.declared.content_info.ContentInfo.{ContentInfo}
use Rattle.p12.specs.declared.content_info.ContentInfo.TheVariants as content
use Rattle.p12.specs.declared.encrypted_private_key_info.EncryptedPrivateKeyInfo.{EncryptedPrivateKeyInfo}
use Rattle.p12.specs.declared.pfx.PFX.{PFX}
use Rattle.p12.specs.declared.safe_bag.SafeBag.{SafeBag}
use Rattle.p12.proofs.DefinitionLaws.{contents_sole, store_sole}
use Rattle.transfer.specs.Opening.{FirstCause, all_certificates, all_shrouded, content_share, key_share}
use Rattle.transfer.specs.Verdicts.{StoreOpens}
use Rattle.transfer.proofs.Valid.{opened_exactly}
use Rattle.rekey_core.specs.Kinds.{renewed_mac}
use Rattle.rekey_core.specs.Change.{ChangesTo}
use Rattle.rekey_core.specs.Unlocking.{Unlocking, under}
use Rattle.rekey_core.specs.Changes.{BagKept}
use Rattle.rekey_core.specs.Like.{ContentLike, FormLike}
use Rattle.rekey_core.specs.Renewed.{ContentRenewed, IsRenewed, KeyRenewed, encrypted_in, encrypted_parts}
use Rattle.rekey_core.specs.Resealing.{EachDrawn}
use Rattle.rekey_core.specs.Upgraded.{Upgrades, seal_rounds, sealing}
use Rattle.rekey_core.specs.declared.kinds.Kinds.{Kinds}
use Rattle.rekey_core.specs.declared.kinds.Kinds.TheVariants.{Renewed}
use Rattle.rekey_core.specs.declared.kinds.Renewal.{Renewal}
use Rattle.rekey_core.specs.declared.kinds.Rounds.{Rounds}
use Rattle.rekey_core.proofs.Keeping.{change_keeps_to, parts_keep}
use Rattle.p12.proofs.Macs.{mac_of_agrees}
use Rattle.p12.specs.Canonical.{contents_canon, store_canon}
use Rattle.p12.specs.Collected.{HoldsBags}
use Rattle.p12.specs.MacData.{mac_of}
use Rattle.p12.specs.declared.algorithm_identifier.AlgorithmIdentifier.TheVariants.{Sha256}
use Rattle.pkcs12_kdf.specs.Password.{bmp_password}
use Rattle.transfer.specs.Limits.{store_limit}
use Rattle.rekey_core.specs.Making.{HeldOpen, TextSealed, store_anew}
use Rattle.rekey_core.proofs.Likeness.{contents_like}
use Rattle.rekey_core.proofs.Texts.{contents_list, renewed_store}
use Rattle.rekey_core.proofs.Writing.{outer_in}
use Rattle.rekey_core.proofs.OuterParts.{data_is}
use Rattle.rekey_core.proofs.Renewing.{changes_renew, contents_renewed, keys_renewed}

-- ---- the work of renewed parts

renewed_cost : (n : ℕ) (a : AlgorithmIdentifier) → IsRenewed n a → cost a ≡ n
renewed_cost n a (z, l, e) = omega (arith, ap cost e)

content_cost : (n : ℕ) (c : ContentInfo) → ContentRenewed n c → content_share c ≡ n * encrypted_in c
content_cost n (content.Data v) r = omega arith
content_cost n (content.EncryptedData d) r = let e = renewed_cost n _ r in omega (arith, e)
content_cost n (content.OtherContext o) r = omega arith

contents_cost : (n : ℕ) (cs : List ContentInfo) → All (ContentRenewed n) cs → sum_by content_share cs ≡ n * sum_by encrypted_in cs
contents_cost n [] r = omega arith
contents_cost n (c ∷ cs) r = omega (
  arith,
  content_cost n c (All-head (ContentRenewed n) c cs r),
  contents_cost n cs (All-tail (ContentRenewed n) c cs r),
  sum_by-cons content_share c cs,
  ap (λ (k : ℕ). n * k) (sum_by-cons encrypted_in c cs),
  mul-add n (encrypted_in c) (sum_by encrypted_in cs),
)

keys_cost : (n : ℕ) (ks : List EncryptedPrivateKeyInfo) → All (KeyRenewed n) ks → sum_by key_share ks ≡ n * length ks
keys_cost n [] r = omega arith
keys_cost n (k ∷ ks) r =
    let one = renewed_cost n k.encryption_algorithm (All-head (KeyRenewed n) k ks r) in
    let s = mul-suc n (length ks) in
    omega (arith, one, keys_cost n ks (All-tail (KeyRenewed n) k ks r), sum_by-cons key_share k ks, s)

-- ---- as many parts are encrypted

form_encrypted : (to : Kinds) (z : List ℕ) (c e : ContentInfo) → FormLike to z c e → encrypted_in e ≡ encrypted_in c
form_encrypted to z (content.Data v) (content.Data w) l = omega arith
form_encrypted to z (content.EncryptedData v) (content.EncryptedData w) l = omega arith
form_encrypted to z (content.Data v) (content.EncryptedData w) l = absurd l
form_encrypted to z (content.Data v) (content.OtherContext o) l = absurd l
form_encrypted to z (content.EncryptedData v) (content.Data w) l = absurd l
form_encrypted to z (content.EncryptedData v) (content.OtherContext o) l = absurd l
form_encrypted to z (content.OtherContext o) e l = absurd l

contents_encrypted : (to : Kinds) (u : Unlocking) (q : List ℕ) (cs es : List ContentInfo) (d : List ℕ) → EachDrawn (ContentLike to u q) cs es d → sum_by encrypted_in es ≡ sum_by encrypted_in cs
contents_encrypted to u q [] [] d s = omega arith
contents_encrypted to u q [] (e ∷ es) d s = absurd s
contents_encrypted to u q (c ∷ cs) [] d s = absurd s
contents_encrypted to u q (c ∷ cs) (e ∷ es) d (z, rest, f, l, s) =
    omega (arith, form_encrypted to l.own c e l.form, contents_encrypted to u q cs es rest s, sum_by-cons encrypted_in c cs, sum_by-cons encrypted_in e es)

as_many : {A B : Type 0} (R : A → B → Type 0) (xs : List A) (ys : List B) → Each R xs ys → length xs ≡ length ys
as_many R [] [] e = omega arith
as_many R [] (y ∷ ys) e = absurd e
as_many R (x ∷ xs) [] e = absurd e
as_many R (x ∷ xs) (y ∷ ys) e = omega (arith, as_many R xs ys e.1)

-- the parts of a store are those that it is known to list
parts_are : (c q : List ℕ) (hss : List (List SafeBag)) (ks : List (List ℕ)) (n : ℕ) (o : StoreOpens c q hss ks n) (s : PFX) (v : List ℕ) (es : List ContentInfo) → s.auth_safe ≡ content.Data v → o.store ≡ s → IsContents v es → o.parts ≡ es
parts_are c q hss ks n o s v es plain store lists =
    let text : o.text ≡ v = data_is o.text v (sym o.is_data ∙ ap (λ (t : PFX). t.auth_safe) store ∙ plain) in
    contents_sole v o.parts es (subst (λ (t : List ℕ). IsContents t o.parts) text o.opening.contents) lists

pub encrypted_kept : (to : Kinds) (b p c q d : List ℕ) (gss hss : List (List SafeBag)) (ks : List (List ℕ)) (n m : ℕ) → ChangesTo to b p c q d → (o : StoreOpens b p gss ks n) (r : StoreOpens c q hss ks m)
    → encrypted_parts r.parts hss ≡ encrypted_parts o.parts gss
encrypted_kept to b p c q d gss hss ks n m ch o r =
    let x = ch.changed in
    let old : o.parts ≡ x.parts = parts_are b p gss ks n o ch.store x.text x.parts x.is_data (store_sole b o.store ch.store o.is ch.is) x.lists in
    let new : r.parts ≡ x.parts_anew = parts_are c q hss ks m r ch.store_anew x.text_anew x.parts_anew x.is_data_anew (store_sole c r.store ch.store_anew r.is ch.is_anew) x.lists_anew in
    omega (
      arith,
      ap (sum_by encrypted_in) old,
      ap (sum_by encrypted_in) new,
      contents_encrypted to (under p) q x.parts x.parts_anew x.of_parts x.like,
      as_many _ (all_shrouded gss) ks o.opening.keys,
      as_many _ (all_shrouded hss) ks r.opening.keys,
    )

-- the steps of opening a renewed store
renewed_steps : (r : Rounds) (b p c q d : List ℕ) (gss hss : List (List SafeBag)) (ks : List (List ℕ)) (n m : ℕ) → ChangesTo (Renewed r) b p c q d → (o : StoreOpens b p gss ks n) → StoreOpens c q hss ks m → m ≡ seal_rounds r o.parts gss
renewed_steps r b p c q d gss hss ks n m ch o k =
    let w = (changes_renew r b p q c d ch).renewed hss ks m k in
    let parts = sum_by encrypted_in k.parts in
    let keys = length (all_shrouded hss) in
    omega (
      arith,
      k.work,
      w.1,
      contents_cost r.count k.parts w.3,
      keys_cost r.count (all_shrouded hss) w.4,
      mul-add r.count 1 (parts + keys),
      mul-add r.count parts keys,
      ap (λ (t : ℕ). r.count * (1 + t)) (encrypted_kept (Renewed r) b p c q d gss hss ks n m ch o k),
    )

pub upgrades_reopen : (r : Renewal) (b p q : List ℕ) (limit : ℕ) (left left_after : Option (List ℕ)) (steps steps_after : ℕ) (c : List ℕ) → (u : Upgrades r b p q limit left left_after steps steps_after c)
    → (hss : List (List SafeBag)) × StoreOpens c q hss u.rekeys.allowed.keys (sealing r b p limit u.rekeys.allowed) × (all_certificates hss ≡ all_certificates u.rekeys.allowed.bags) × Each (Each BagKept) u.rekeys.allowed.bags hss
    × FirstCause c q r.seal_limit None
upgrades_reopen r b p q limit left left_after steps steps_after c u =
    let a = u.rekeys.allowed in
    let k = (change_keeps_to (Renewed r.rounds) b p q c u.rekeys.drawn u.rekeys.short u.rekeys.changes).keeps a.bags a.keys a.work a.opens in
    let exact : k.1 ≡ sealing r b p limit a = renewed_steps r.rounds b p c q u.rekeys.drawn a.bags k.0 a.keys a.work k.1 u.rekeys.changes a.opens k.2 in
    let opens = subst (λ (n : ℕ). StoreOpens c q k.0 a.keys n) exact k.2 in
    (k.0, opens, k.4, k.5, (k.0, a.keys, sealing r b p limit a, (opened_exactly c q r.seal_limit k.0 a.keys (sealing r b p limit a)).1 (opens, u.afforded)))

-- ---- what was opened in any way

renewed_shares : (r : Rounds) (u : Unlocking) (q : List ℕ) (cs es : List ContentInfo) (gss hss : List (List SafeBag)) (d : List ℕ) → EachDrawn (ContentLike (Renewed r) u q) cs es d → Each (HoldsBags q) es hss
    → length (all_shrouded hss) ≡ length (all_shrouded gss) → r.count + sum_by content_share es + sum_by key_share (all_shrouded hss) ≡ seal_rounds r cs gss
renewed_shares r u q cs es gss hss d like holds many =
    let parts = sum_by encrypted_in cs in
    let keys = length (all_shrouded gss) in
    omega (
      arith,
      contents_cost r.count es (contents_renewed r u q cs es d like),
      keys_cost r.count (all_shrouded hss) (keys_renewed r u q cs es hss d like holds),
      ap (λ (n : ℕ). r.count * n) (contents_encrypted (Renewed r) u q cs es d like),
      ap (λ (n : ℕ). r.count * n) many,
      mul-add r.count 1 (parts + keys),
      mul-add r.count parts keys,
    )

pub renewed_opens : (rounds : Rounds) (u : Unlocking) (v q : List ℕ) (version : ℕ) (cs : List ContentInfo) (gss : List (List SafeBag)) (ks : List (List ℕ)) (drawn c : List ℕ) → version ≤ 255 → IsContents v cs
    → HeldOpen u cs gss ks → TextSealed (Renewed rounds) u q version (renewed_mac rounds) cs drawn c
    → (hss : List (List SafeBag)) × StoreOpens c q hss ks (seal_rounds rounds cs gss) × (all_certificates hss ≡ all_certificates gss) × Each (Each BagKept) gss hss
unfolding mac_of
renewed_opens rounds u v q version cs gss ks drawn c small lists held s =
    let es = s.contents in
    let made = store_anew version (renewed_mac rounds) q s.salt es in
    let like = contents_like (Renewed rounds) u q cs es s.taken s.sealed in
    let k = parts_keep (Renewed rounds) u q cs es gss s.taken ks like held.bags held.are_opened in
    let whole : length (store_canon made) ≤ store_limit = omega (arith, ap length s.is, s.short) in
    let text = contents_list (Renewed rounds) u q v cs es s.taken lists s.sealed (omega (arith, outer_in version (renewed_mac rounds) q s.salt es, whole)) in
    let many : length (all_shrouded k.bags) ≡ length (all_shrouded gss) = as_many _ (all_shrouded k.bags) ks k.keys ∙ sym (as_many _ (all_shrouded gss) ks held.are_opened) in
    let opens : StoreOpens (store_canon made) q k.bags ks (seal_rounds rounds cs gss) = record {
      short = whole;
      store = made;
      is = renewed_store rounds version q s.salt es small (omega (arith, whole));
      text = contents_canon es;
      is_data = refl;
      mac = mac_of Sha256 (bmp_password q) (contents_canon es) s.salt rounds.count;
      has = refl;
      mac_ok = record { known = refl; some_rounds = rounds.some; agrees = mac_of_agrees Sha256 (bmp_password q) (contents_canon es) s.salt rounds.count refl rounds.some };
      parts = es;
      opening = record { contents = text; bags = k.holds; keys = k.keys };
      work = sym (renewed_shares rounds u q cs es gss k.bags s.taken like k.holds many);
    } in
    (k.bags, subst (λ (x : List ℕ). StoreOpens x q k.bags ks (seal_rounds rounds cs gss)) (sym s.is) opens, k.certificates, k.kept)
