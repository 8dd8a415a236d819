-- What is changed to renewed kinds is of them.
use Rattle.std.proofs.Common.{◌≡◌, ℕ, ◌+◌, ◌*◌, List, [], ◌∷◌, length, sym, ap, subst, ◌∙◌, arith, mul-suc}
use Rattle.std.specs.List.{sum_by}
use Rattle.std.proofs.Math.Nat.{mul-add}
use Rattle.std.proofs.lemmas.List.Sums.{sum_by-cons}
use Rattle.std.specs.Prelude.{All}
use Rattle.std.proofs.lemmas.List.Elements.{All-append, All-cons, All-nil}
use Rattle.asn1_core.specs.Sets.{Each}
use Rattle.p12.specs.Collected.{HoldsBags}
use Rattle.p12.specs.ContentInfo.{IsContents}
use Rattle.p12.specs.declared.algorithm_identifier.AlgorithmIdentifier.{AlgorithmIdentifier}
use Rattle.p12.specs.declared.content_info.ContentInfo.{ContentInfo}
use Rattle.p12.specs.declared.content_info.ContentInfo.TheVariants as content
use Rattle.p12.specs.declared.encrypted_private_key_info.EncryptedPrivateKeyInfo.{EncryptedPrivateKeyInfo}
use Rattle.p12.specs.declared.mac_data.MacData.{MacData}
use Rattle.p12.specs.declared.pfx.PFX.{PFX}
use Rattle.p12.specs.declared.safe_bag.SafeBag.{SafeBag}
use Rattle.p12.specs.declared.safe_bag.SafeBagKind.{SafeBagKind}
use Rattle.p12.specs.declared.safe_bag.SafeBagKind.TheVariants as kind
use Rattle.p12.proofs.DefinitionLaws.{contents_sole, store_sole}
use Rattle.transfer.specs.Opening.{all_shrouded, shrouded_among, shrouded_in}
use Rattle.rekey_core.specs.Change.{ChangesTo}
use Rattle.rekey_core.specs.Unlocking.{Unlocking, under}
use Rattle.rekey_core.proofs.Held.{held}
use Rattle.rekey_core.specs.Like.{BagLike, ContentLike, FormLike, IsAnew, KindLike}
use Rattle.rekey_core.specs.Renewed.{ContentRenewed, IsRenewed, KeyRenewed, StoreRenewed, encrypted_in, encrypted_parts}
use Rattle.rekey_core.specs.Work.{content_work, key_work, work_to}
use Rattle.rekey_core.specs.Resealing.{EachDrawn}
use Rattle.rekey_core.specs.declared.kinds.Kinds.TheVariants.{Renewed}
use Rattle.rekey_core.specs.declared.kinds.Rounds.{Rounds}
use Rattle.rekey_core.proofs.OuterParts.{data_is, mac_is}
use Rattle.rekey_core.proofs.Sizes.{holds_sole}

algorithm_renewed : (r : Rounds) (z : List ℕ) (a b : AlgorithmIdentifier) → IsAnew (Renewed r) z a b → IsRenewed r.count b
algorithm_renewed r z a b n = (z, n.drawn, n.algorithm)

kind_renewed : (r : Rounds) (u : Unlocking) (q z : List ℕ) (k l : SafeBagKind) → KindLike (Renewed r) u q z k l → All (KeyRenewed r.count) (shrouded_in l)
kind_renewed r u q z (kind.CertBag c) l v = subst (λ (x : SafeBagKind). All (KeyRenewed r.count) (shrouded_in x)) (sym v.1) (All-nil (KeyRenewed r.count))
kind_renewed r u q z (kind.OtherBagKind o) l v = subst (λ (x : SafeBagKind). All (KeyRenewed r.count) (shrouded_in x)) (sym v.1) (All-nil (KeyRenewed r.count))
kind_renewed r u q z (kind.Pkcs8ShroudedKeyBag k) (kind.CertBag c) v = absurd v
kind_renewed r u q z (kind.Pkcs8ShroudedKeyBag k) (kind.OtherBagKind o) v = absurd v
kind_renewed r u q z (kind.Pkcs8ShroudedKeyBag k) (kind.Pkcs8ShroudedKeyBag l) v =
    All-cons (KeyRenewed r.count) l [] (algorithm_renewed r z k.encryption_algorithm l.encryption_algorithm v.0) (All-nil (KeyRenewed r.count))

bags_renewed : (r : Rounds) (u : Unlocking) (q : List ℕ) (gs hs : List SafeBag) (d : List ℕ) → EachDrawn (BagLike (Renewed r) u q) gs hs d → All (KeyRenewed r.count) (shrouded_among hs)
bags_renewed r u q [] [] d s = All-nil (KeyRenewed r.count)
bags_renewed r u q [] (h ∷ hs) d s = absurd s
bags_renewed r u q (g ∷ gs) [] d s = absurd s
bags_renewed r u q (g ∷ gs) (h ∷ hs) d (z, rest, e, b, s) =
    All-append (KeyRenewed r.count) (shrouded_in h.bag) (shrouded_among hs) (kind_renewed r u q z g.bag h.bag b.value) (bags_renewed r u q gs hs rest s)

form_renewed : (r : Rounds) (z : List ℕ) (c e : ContentInfo) → FormLike (Renewed r) z c e → ContentRenewed r.count e
form_renewed r z (content.Data v) (content.Data w) l = tt
form_renewed r z (content.EncryptedData v) (content.EncryptedData w) l = algorithm_renewed r z _ _ l
form_renewed r z (content.Data v) (content.EncryptedData w) l = absurd l
form_renewed r z (content.Data v) (content.OtherContext o) l = absurd l
form_renewed r z (content.EncryptedData v) (content.Data w) l = absurd l
form_renewed r z (content.EncryptedData v) (content.OtherContext o) l = absurd l
form_renewed r z (content.OtherContext o) e l = absurd l

pub contents_renewed : (r : Rounds) (u : Unlocking) (q : List ℕ) (cs es : List ContentInfo) (d : List ℕ) → EachDrawn (ContentLike (Renewed r) u q) cs es d → All (ContentRenewed r.count) es
contents_renewed r u q [] [] d s = All-nil (ContentRenewed r.count)
contents_renewed r u q [] (e ∷ es) d s = absurd s
contents_renewed r u q (c ∷ cs) [] d s = absurd s
contents_renewed r u q (c ∷ cs) (e ∷ es) d (z, rest, f, l, s) =
    All-cons (ContentRenewed r.count) e es (form_renewed r l.own c e l.form) (contents_renewed r u q cs es rest s)

pub keys_renewed : (r : Rounds) (u : Unlocking) (q : List ℕ) (cs es : List ContentInfo) (hss : List (List SafeBag)) (d : List ℕ) → EachDrawn (ContentLike (Renewed r) u q) cs es d → Each (HoldsBags q) es hss
    → All (KeyRenewed r.count) (all_shrouded hss)
keys_renewed r u q [] [] [] d s h = All-nil (KeyRenewed r.count)
keys_renewed r u q [] [] (hs ∷ hss) d s h = absurd h
keys_renewed r u q [] (e ∷ es) hss d s h = absurd s
keys_renewed r u q (c ∷ cs) [] hss d s h = absurd s
keys_renewed r u q (c ∷ cs) (e ∷ es) [] d s h = absurd h
keys_renewed r u q (c ∷ cs) (e ∷ es) (hs ∷ hss) d (z, rest, f, l, s) h =
    let same : l.bags_anew ≡ hs = holds_sole (under q) e l.bags_anew hs (held q e l.bags_anew l.holds_anew) (held q e hs h.0) in
    let first = subst (λ (x : List SafeBag). All (KeyRenewed r.count) (shrouded_among x)) same (bags_renewed r u q l.bags l.bags_anew l.of_keys l.like) in
    All-append (KeyRenewed r.count) (shrouded_among hs) (all_shrouded hss) first (keys_renewed r u q cs es hss rest s h.1)

pub changes_renew : (r : Rounds) (b p q c d : List ℕ) → ChangesTo (Renewed r) b p c q d → StoreRenewed r.count c q
changes_renew r b p q c d ch = record {
  renewed = λ gss ks n o. (
      let x = ch.changed in
      let store : o.store ≡ ch.store_anew = store_sole c o.store ch.store_anew o.is ch.is_anew in
      let text : o.text ≡ x.text_anew = data_is o.text x.text_anew (sym o.is_data ∙ ap (λ (s : PFX). s.auth_safe) store ∙ x.is_data_anew) in
      let mac : o.mac ≡ x.mac_anew = mac_is o.mac x.mac_anew (sym o.has ∙ ap (λ (s : PFX). s.mac_data) store ∙ x.has_mac_anew) in
      let parts : o.parts ≡ x.parts_anew = contents_sole x.text_anew o.parts x.parts_anew (subst (λ (t : List ℕ). IsContents t o.parts) text o.opening.contents) x.lists_anew in
      let bags : Each (HoldsBags q) x.parts_anew gss = subst (λ (t : List ContentInfo). Each (HoldsBags q) t gss) parts o.opening.bags in (
        ap (λ (m : MacData). m.mac.digest_algorithm) mac ∙ x.digest,
        ap (λ (m : MacData). m.iterations) mac ∙ x.count,
        ap (λ (m : MacData). length m.salt) mac ∙ x.salt_drawn,
        subst (λ (t : List ContentInfo). All (ContentRenewed r.count) t) (sym parts) (contents_renewed r (under p) q x.parts x.parts_anew x.of_parts x.like),
        keys_renewed r (under p) q x.parts x.parts_anew gss x.of_parts x.like bags,
      )
      );
}

-- ---- the work

share_renewed : (r : Rounds) (c : ContentInfo) → content_work (Renewed r) c ≡ r.count * encrypted_in c
share_renewed r (content.Data v) = omega arith
share_renewed r (content.EncryptedData d) = omega arith
share_renewed r (content.OtherContext o) = omega arith

shares_renewed : (r : Rounds) (cs : List ContentInfo) → sum_by (content_work (Renewed r)) cs ≡ r.count * sum_by encrypted_in cs
shares_renewed r [] = omega arith
shares_renewed r (c ∷ cs) = omega (
  arith,
  share_renewed r c,
  shares_renewed r cs,
  sum_by-cons (content_work (Renewed r)) c cs,
  ap (λ (n : ℕ). r.count * n) (sum_by-cons encrypted_in c cs),
  mul-add r.count (encrypted_in c) (sum_by encrypted_in cs),
)

keys_work : (r : Rounds) (ks : List EncryptedPrivateKeyInfo) → sum_by (key_work (Renewed r)) ks ≡ r.count * length ks
keys_work r [] = omega arith
keys_work r (k ∷ ks) = let s = mul-suc r.count (length ks) in omega (arith, keys_work r ks, sum_by-cons (key_work (Renewed r)) k ks, s)

pub renewed_work : (r : Rounds) (m : MacData) (cs : List ContentInfo) (gss : List (List SafeBag)) → work_to (Renewed r) m cs gss ≡ r.count * (1 + encrypted_parts cs gss)
renewed_work r m cs gss =
    let a = sum_by encrypted_in cs in
    let b = length (all_shrouded gss) in
    omega (arith, shares_renewed r cs, keys_work r (all_shrouded gss), mul-add r.count 1 (a + b), mul-add r.count a b)
