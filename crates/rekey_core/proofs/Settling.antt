-- Each answer of a change comes where its cause holds.
use Rattle.std.proofs.Common.{◌≡◌, ◌⊎◌, inl, inr, ℕ, ◌+◌, ◌<◌, ◌≤◌, List, length, Option, Some, None, refl, sym, ap, subst, ◌∙◌, arith, true}
use Rattle.std.specs.Prelude.{Result, Ok, Err, IsOk, IfSome}
use Rattle.std.specs.Io.KnownBytes.{Consumes}
use Rattle.octet_core.specs.Draw.{Lacks}
use Rattle.std.proofs.lemmas.List.{length-append}
use Rattle.asn1_core.specs.Sets.{Each}
use Rattle.p12.specs.Canonical.{contents_canon, store_canon}
use Rattle.p12.specs.Collected.{HoldsBags}
use Rattle.p12.specs.ContentInfo.{IsContents}
use Rattle.p12.specs.MacData.{is_mac_digest}
use Rattle.p12.specs.Pfx.{IsStore}
use Rattle.p12.specs.declared.content_info.ContentInfo.{ContentInfo}
use Rattle.p12.specs.declared.content_info.ContentInfo.TheVariants as content
use Rattle.p12.specs.declared.mac_data.MacData.{MacData}
use Rattle.p12.specs.declared.pfx.PFX.{PFX}
use Rattle.p12.specs.declared.safe_bag.SafeBag.{SafeBag}
use Rattle.p12.proofs.DefinitionLaws.{contents_sole, store_sole}
use Rattle.transfer.specs.Limits.{store_limit}
use Rattle.transfer.specs.Opening.{FirstCause}
use Rattle.transfer.specs.TransferError.{RefusedBy}
use Rattle.transfer.specs.Transferred.{IsDecided, IsRefusal}
use Rattle.transfer.specs.Verdicts.{IsMacOk, StoreOpens}
use Rattle.transfer.specs.declared.store.error.TransferError.{TransferError}
use Rattle.transfer.specs.declared.store.error.TransferError.TheVariants.{TooLong, Malformed, Unsupported, MacMissing, MacUnsupported, ZeroIterations, WorkLimit, MacMismatch, ContentMalformed, DecryptFailed, KeyMalformed, Rng, Memory}
use Rattle.transfer.proofs.Sole.{each_sole, verdict_sole}
use Rattle.transfer.proofs.Valid.{not_refused, opened_exactly}
use Rattle.rekey_core.specs.Kinds.{mac_for}
use Rattle.rekey_core.specs.Anew.{change_draws}
use Rattle.rekey_core.specs.Change.{ChangesTo}
use Rattle.rekey_core.specs.Making.{HeldOpen, TextSealed, store_anew}
use Rattle.rekey_core.specs.Rekeyed.{GrowsTooLongTo, IsAllowed, IsSettledTo, IsUndrawn, RefusedFor, RekeysTo, RunsShortTo, draws_to, size_to}
use Rattle.rekey_core.specs.Opened.{DrawsTooLong, IsOpened, SealsDrawn}
use Rattle.rekey_core.specs.Sealing.{LongOnly}
use Rattle.rekey_core.specs.Size.{changed_size}
use Rattle.rekey_core.specs.Unlocking.{under}
use Rattle.rekey_core.proofs.KindFacts.{digest_known}
use Rattle.rekey_core.proofs.Held.{all_held, held}
use Rattle.rekey_core.proofs.OuterParts.{data_is, mac_is}
use Rattle.rekey_core.proofs.Likeness.{store_changes}
use Rattle.rekey_core.proofs.Sizes.{contents_same, holds_sole, contents_in, store_size}
use Rattle.rekey_core.specs.declared.kinds.Kinds.{Kinds}

-- what is seen of a store that opens
pub record Seen (b p : List ℕ) (gss : List (List SafeBag)) (ks : List (List ℕ)) (n : ℕ) (o : StoreOpens b p gss ks n) (v : ℕ) (m : MacData) (cs : List ContentInfo) : Type 0 where
  pub version : o.store.version ≡ v
  pub mac : o.mac ≡ m
  pub parts : o.parts ≡ cs
  pub held : HeldOpen (under p) cs gss ks

seen_of : (b p : List ℕ) (limit steps steps_after version : ℕ) (m : MacData) (cs : List ContentInfo) (gss : List (List SafeBag)) (ks : List (List ℕ)) (w : IsOpened b p limit steps steps_after version m cs gss ks) → Seen b p gss ks w.work w.opens version m cs
seen_of b p limit steps steps_after version m cs gss ks w = record {
  version = w.is_version;
  mac = w.is_mac;
  parts = w.are_parts;
  held = record { bags = all_held p cs gss (subst (λ (x : List ContentInfo). Each (HoldsBags p) x gss) w.are_parts w.opens.opening.bags); are_opened = w.opens.opening.keys };
}

-- an opened store, by what a parsed one shows of it
pub opened_of : (b p : List ℕ) (limit steps steps_after version : ℕ) (text : List ℕ) (m : MacData) (cs : List ContentInfo) (gss : List (List SafeBag)) (ks : List (List ℕ)) → (n : ℕ) × StoreOpens b p gss ks n × (n ≤ limit) × (steps_after ≡ steps + n)
    → ((s : PFX) → IsStore b s → (s.version ≡ version) × (s.auth_safe ≡ content.Data text) × (s.mac_data ≡ Some m)) → IsContents text cs → IsOpened b p limit steps steps_after version m cs gss ks
opened_of b p limit steps steps_after version text m cs gss ks (n, o, within, counted) outer lists =
    let u = outer o.store o.is in
    let t : o.text ≡ text = data_is o.text text (sym o.is_data ∙ u.1) in
    record {
      work = n;
      opens = o;
      within = within;
      counted = counted;
      is_version = u.0;
      is_mac = mac_is o.mac m (sym o.has ∙ u.2);
      are_parts = contents_sole text o.parts cs (subst (λ (x : List ℕ). IsContents x o.parts) t o.opening.contents) lists;
    }

-- A store opens in one way.
pub record OpensOnce (b p : List ℕ) (gss hss : List (List SafeBag)) (ks js : List (List ℕ)) (n m : ℕ) (o : StoreOpens b p gss ks n) (r : StoreOpens b p hss js m) : Type 0 where
  pub bags : gss ≡ hss
  pub parts : o.parts ≡ r.parts
  pub mac : o.mac ≡ r.mac
  pub store : o.store ≡ r.store

pub opens_once : (b p : List ℕ) (gss hss : List (List SafeBag)) (ks js : List (List ℕ)) (n m : ℕ) (o : StoreOpens b p gss ks n) (r : StoreOpens b p hss js m) → OpensOnce b p gss hss ks js n m o r
opens_once b p gss hss ks js n m o r =
    let store : o.store ≡ r.store = store_sole b o.store r.store o.is r.is in
    let text : o.text ≡ r.text = data_is o.text r.text (sym o.is_data ∙ ap (λ (s : PFX). s.auth_safe) store ∙ r.is_data) in
    let parts : o.parts ≡ r.parts = contents_sole r.text o.parts r.parts (subst (λ (x : List ℕ). IsContents x o.parts) text o.opening.contents) r.opening.contents in
    record {
      bags = each_sole (HoldsBags p) r.parts gss hss (λ c x y h k. holds_sole (under p) c x y (held p c x h) (held p c y k)) (subst (λ (x : List ContentInfo). Each (HoldsBags p) x gss) parts o.opening.bags) r.opening.bags;
      parts = parts;
      mac = mac_is o.mac r.mac (sym o.has ∙ ap (λ (s : PFX). s.mac_data) store ∙ r.has);
      store = store;
    }

pub draws_once : (to : Kinds) (b p : List ℕ) (limit : ℕ) (a d : IsAllowed b p limit) → draws_to to b p limit a ≡ draws_to to b p limit d
draws_once to b p limit a d =
    let s = opens_once b p a.bags d.bags a.keys d.keys a.work d.work a.opens d.opens in
    ap (λ (x : List ContentInfo). change_draws to x a.bags) s.parts ∙ ap (λ (x : List (List SafeBag)). change_draws to d.opens.parts x) s.bags

pub size_once : (to : Kinds) (b p : List ℕ) (limit : ℕ) (a d : IsAllowed b p limit) → size_to to b p limit a ≡ size_to to b p limit d
size_once to b p limit a d =
    let s = opens_once b p a.bags d.bags a.keys d.keys a.work d.work a.opens d.opens in
    ap (λ (x : PFX). changed_size to x.version (mac_for to a.opens.mac) (under p) a.opens.parts a.bags) s.store ∙ ap (λ (x : MacData). changed_size to d.opens.store.version (mac_for to x) (under p) a.opens.parts a.bags) s.mac
    ∙ ap (λ (x : List ContentInfo). changed_size to d.opens.store.version (mac_for to d.opens.mac) (under p) x a.bags) s.parts ∙ ap (λ (x : List (List SafeBag)). changed_size to d.opens.store.version (mac_for to d.opens.mac) (under p) d.opens.parts x) s.bags

-- ---- causes

pub no_cause : (b p : List ℕ) (limit : ℕ) → IsAllowed b p limit → FirstCause b p limit None
no_cause b p limit a = (a.bags, a.keys, a.work, (opened_exactly b p limit a.bags a.keys a.work).1 (a.opens, a.within))

pub no_refusal : (b p : List ℕ) (limit : ℕ) (e : TransferError) → IsAllowed b p limit → FirstCause b p limit (Some e) → ⊥
no_refusal b p limit e a (n, v) =
    let w = (opened_exactly b p limit a.bags a.keys a.work).1 (a.opens, a.within) in
    not_refused a.bags a.keys e (verdict_sole b p limit _ _ a.work n w v).0

abbrev pub Answer : Type 0
Answer = Result (List ℕ) TransferError

abbrev pub err : TransferError → Answer
err e = Err e

pub memory_rng : err Memory ≡ err Rng → ⊥
memory_rng e = cc

long_rng : err TooLong ≡ err Rng → ⊥
long_rng e = cc

pub ok_rng : (c : List ℕ) → Ok c ≡ err Rng → ⊥
ok_rng c e = cc

pub if_told : (left : Option (List ℕ)) (P Q : List ℕ → Type 0) → ((d : List ℕ) → P d → Q d) → IfSome left P → IfSome left Q
if_told None P Q f h = tt
if_told (Some d) P Q f h = f d h

pub told_all : (left : Option (List ℕ)) (Q : List ℕ → Type 0) → ((d : List ℕ) → Q d) → IfSome left Q
told_all None Q f = tt
told_all (Some d) Q f = f d

pub settled_memory : (to : Kinds) (b p : List ℕ) (limit : ℕ) (left : Option (List ℕ)) → IsSettledTo to b p limit left (Err Memory)
settled_memory to b p limit left = record {
  refuses = λ e f. inl refl;
  fits = λ a h. inr (inl refl);
  grows = λ a h. inl (inl refl);
  lacks = λ a. told_all left _ (λ d h. inl refl);
  suffices = λ a. told_all left _ (λ d h e. memory_rng e);
}

pub is_memory : {T : Type 0} (e : TransferError) (r : Result T TransferError) → r ≡ Err e → IsOk r ⊎ (r ≡ Err Memory) → e ≡ Memory
is_memory e (Ok x) is h = absurd cc
is_memory e (Err f) is (inl h) = absurd cc
is_memory e (Err f) is (inr h) = cc

pub refusal_as : {T : Type 0} (e f : TransferError) (r : Result T TransferError) → r ≡ Err e → IsRefusal r f → IsRefusal (err e) f
refusal_as e f r is (inl h) = let k : e ≡ Memory = cc in inl (ap err k)
refusal_as e f r is (inr h) = let k : e ≡ f = cc in inr (ap err k)

pub settled_refused : (to : Kinds) {T : Type 0} (b p : List ℕ) (limit : ℕ) (left : Option (List ℕ)) (e : TransferError) (r : Result T TransferError) → r ≡ Err e → IsDecided b p limit r → IsSettledTo to b p limit left (Err e)
settled_refused to b p limit left e r is d = record {
  refuses = λ f h. refusal_as e f r is (d.refuses f h);
  fits = λ a h. inr (inl (ap err (is_memory e r is (d.completes (no_cause b p limit a)))));
  grows = λ a h. inl (inl (ap err (is_memory e r is (d.completes (no_cause b p limit a)))));
  lacks = λ a. told_all left _ (λ l h. inl (ap err (is_memory e r is (d.completes (no_cause b p limit a)))));
  suffices = λ a. told_all left _ (λ l h f. memory_rng (sym (ap err (is_memory e r is (d.completes (no_cause b p limit a)))) ∙ f));
}

pub settled_short : (to : Kinds) (b p : List ℕ) (limit : ℕ) (left : Option (List ℕ)) (before now : ℕ) (o : IsAllowed b p limit) → Lacks before now left (draws_to to b p limit o) → IsSettledTo to b p limit left (Err Rng)
settled_short to b p limit left before now o l = record {
  refuses = λ f h. absurd (no_refusal b p limit f o h);
  fits = λ a h. inr (inr refl);
  grows = λ a h. inr refl;
  lacks = λ a. told_all left _ (λ d h. inr refl);
  suffices = λ a. if_told left _ _ (λ d short enough e. omega (arith, short, enough, draws_once to b p limit a o)) l.1;
}

enough_in : (left after : Option (List ℕ)) (drawn : List ℕ) → Consumes left after drawn → IfSome left (λ d. length drawn ≤ length d)
enough_in None after drawn h = tt
enough_in (Some d) None drawn h = absurd h
enough_in (Some d) (Some e) drawn h = omega (arith, ap length h, length-append drawn e)

pub settled_long : (to : Kinds) (b p : List ℕ) (limit : ℕ) (left after : Option (List ℕ)) (drawn : List ℕ) (o : IsAllowed b p limit) → length drawn ≡ draws_to to b p limit o → Consumes left after drawn → store_limit < size_to to b p limit o
    → IsSettledTo to b p limit left (Err TooLong)
settled_long to b p limit left after drawn o l c long = record {
  refuses = λ f h. absurd (no_refusal b p limit f o h);
  fits = λ a h. absurd (omega (arith, h, long, size_once to b p limit a o));
  grows = λ a h. inl (inr refl);
  lacks = λ a. if_told left _ _ (λ d enough h. absurd (omega (arith, enough, h, l, draws_once to b p limit a o))) (enough_in left after drawn c);
  suffices = λ a. told_all left _ (λ d h e. long_rng e);
}

pub settled_done : (to : Kinds) (b p : List ℕ) (limit : ℕ) (left after : Option (List ℕ)) (drawn c : List ℕ) (o : IsAllowed b p limit) → length drawn ≡ draws_to to b p limit o → Consumes left after drawn
    → length c ≡ size_to to b p limit o → length c ≤ store_limit → IsSettledTo to b p limit left (Ok c)
settled_done to b p limit left after drawn c o l k sized short = record {
  refuses = λ f h. absurd (no_refusal b p limit f o h);
  fits = λ a h. inl refl;
  grows = λ a h. absurd (omega (arith, h, sized, short, size_once to b p limit a o));
  lacks = λ a. if_told left _ _ (λ d enough h. absurd (omega (arith, enough, h, l, draws_once to b p limit a o))) (enough_in left after drawn k);
  suffices = λ a. told_all left _ (λ d h e. ok_rng c e);
}

-- what is opened in another form is as decided
one_refusal : {S : Type 0} (e f : TransferError) → (let r : Result S TransferError = Err e in r) ≡ Err f → e ≡ f
one_refusal e f h = cc

refusal_of : {S T : Type 0} (e f : TransferError) → IsRefusal {T = S} (Err e) f → IsRefusal {T = T} (Err e) f
refusal_of {S} e f (inl h) = inl (ap Err (one_refusal {S = S} e Memory h))
refusal_of {S} e f (inr h) = inr (ap Err (one_refusal {S = S} e f h))

no_memory : {S : Type 0} (e : TransferError) → IsOk (let r : Result S TransferError = Err e in r) ⊎ ((let r : Result S TransferError = Err e in r) ≡ Err Memory) → e ≡ Memory
no_memory e (inl h) = absurd (let t = h in cc)
no_memory {S} e (inr h) = one_refusal {S = S} e Memory h

pub decided_refused : (S T : Type 0) (b p : List ℕ) (limit : ℕ) (e : TransferError) → IsDecided {T = S} b p limit (Err e) → IsDecided {T = T} b p limit (Err e)
decided_refused S T b p limit e d = record {
  refuses = λ f h. refusal_of {S = S} e f (d.refuses f h);
  completes = λ h. inr (ap Err (no_memory {S = S} e (d.completes h)));
}

pub decided_memory : (T : Type 0) (b p : List ℕ) (limit : ℕ) → IsDecided {T = T} b p limit (Err Memory)
decided_memory T b p limit = record { refuses = λ e h. inl refl; completes = λ h. inr refl }

no_error : {S : Type 0} (s : S) (e : TransferError) → IsRefusal (Ok s) e → ⊥
no_error s e (inl h) = cc
no_error s e (inr h) = cc

pub decided_opened : (S T : Type 0) (b p : List ℕ) (limit : ℕ) (s : S) (t : T) → IsDecided b p limit (Ok s) → IsDecided b p limit (Ok t)
decided_opened S T b p limit s t d = record { refuses = λ e h. absurd (no_error s e (d.refuses e h)); completes = λ h. inl refl }

-- ---- a change

pub draws_seen : (to : Kinds) (b p : List ℕ) (gss : List (List SafeBag)) (ks : List (List ℕ)) (n version : ℕ) (m : MacData) (cs : List ContentInfo) (o : StoreOpens b p gss ks n) → Seen b p gss ks n o version m cs
    → change_draws to cs gss ≡ change_draws to o.parts gss
draws_seen to b p gss ks n version m cs o s = ap (λ (x : List ContentInfo). change_draws to x gss) (sym s.parts)

pub size_seen : (to : Kinds) (b p : List ℕ) (gss : List (List SafeBag)) (ks : List (List ℕ)) (n version : ℕ) (m : MacData) (cs : List ContentInfo) (o : StoreOpens b p gss ks n) → Seen b p gss ks n o version m cs
    → changed_size to version (mac_for to m) (under p) cs gss ≡ changed_size to o.store.version (mac_for to o.mac) (under p) o.parts gss
size_seen to b p gss ks n version m cs o s =
    ap (λ (x : ℕ). changed_size to x (mac_for to m) (under p) cs gss) (sym s.version) ∙ ap (λ (x : MacData). changed_size to o.store.version (mac_for to x) (under p) cs gss) (sym s.mac) ∙ ap (λ (x : List ContentInfo). changed_size to o.store.version (mac_for to o.mac) (under p) x gss) (sym s.parts)

pub rekeyed : (to : Kinds) (b p q : List ℕ) (limit : ℕ) (left after : Option (List ℕ)) (steps steps_after : ℕ) (gss : List (List SafeBag)) (ks : List (List ℕ)) (n version : ℕ) (m : MacData) (cs : List ContentInfo) (drawn c : List ℕ)
    (o : StoreOpens b p gss ks n) → n ≤ limit → Seen b p gss ks n o version m cs → length drawn ≡ change_draws to cs gss → Consumes left after drawn → steps_after ≡ steps + n
    → TextSealed to (under p) q version (mac_for to m) cs drawn c → RekeysTo to b p q limit left after steps steps_after c
rekeyed to b p q limit left after steps steps_after gss ks n version m cs drawn c o within s l k counted t =
    let a : IsAllowed b p limit = record { bags = gss; keys = ks; work = n; opens = o; within = within } in
    let made = store_anew o.store.version (mac_for to o.mac) q t.salt t.contents in
    let is : c ≡ store_canon made = t.is ∙ ap (λ (x : ℕ). store_canon (store_anew x (mac_for to m) q t.salt t.contents)) (sym s.version) ∙ ap (λ (x : MacData). store_canon (store_anew o.store.version (mac_for to x) q t.salt t.contents)) (sym s.mac) in
    let bags = all_held p cs gss (subst (λ (x : List ContentInfo). Each (HoldsBags p) x gss) s.parts o.opening.bags) in
    let sized : length c ≡ size_to to b p limit a = ap length is ∙ store_size to (under p) q o.store.version (mac_for to o.mac) cs t.contents gss t.taken t.salt (digest_known to o.mac o.mac_ok.known) t.sealed bags t.salt_drawn
    ∙ ap (λ (x : List ContentInfo). changed_size to o.store.version (mac_for to o.mac) (under p) x gss) (sym s.parts) in
    let outer : length (contents_canon t.contents) ≤ size_to to b p limit a = omega (
      arith,
      contents_same to (under p) q cs t.contents gss t.taken t.sealed bags,
      contents_in to o.store.version (mac_for to o.mac) (under p) cs gss,
      ap (λ (x : List ContentInfo). changed_size to o.store.version (mac_for to o.mac) (under p) x gss) (sym s.parts),
    ) in
    let lists = subst (λ (x : List ContentInfo). IsContents o.text x) s.parts o.opening.contents in
    let ch = store_changes to (under p) b o.text q o.store o.mac cs t.contents t.taken t.salt o.is o.is_data o.has o.mac_ok.known o.mac_ok.some_rounds lists t.sealed t.salt_drawn (omega (arith, outer, sized, t.short)) (omega (arith, ap length is, t.short)) in
    record {
      allowed = a;
      drawn = drawn;
      exactly = l ∙ draws_seen to b p gss ks n version m cs o s;
      took = k;
      changes = subst (λ (x : List ℕ). ChangesTo to b p x q drawn) (sym is) (subst (λ (x : List ℕ). ChangesTo to b p (store_canon made) q x) (sym t.order) ch);
      sized = sized;
      short = t.short;
      counted = counted;
    }

-- ---- the refusals back the opening

pub refused_as : (F G : TransferError → Type 0) (R S T U : Type 0) (e : TransferError) → ((e : TransferError) → F e → G e) → (R → S) → (T → U) → RefusedFor F R T e → RefusedFor G S U e
refused_as F G R S T U Memory n f g h = tt
refused_as F G R S T U Rng n f g h = f h
refused_as F G R S T U TooLong n f g (inl h) = inl (n TooLong h)
refused_as F G R S T U TooLong n f g (inr h) = inr (g h)
refused_as F G R S T U Malformed n f g h = n Malformed h
refused_as F G R S T U Unsupported n f g h = n Unsupported h
refused_as F G R S T U MacMissing n f g h = n MacMissing h
refused_as F G R S T U MacUnsupported n f g h = n MacUnsupported h
refused_as F G R S T U ZeroIterations n f g h = n ZeroIterations h
refused_as F G R S T U WorkLimit n f g h = n WorkLimit h
refused_as F G R S T U MacMismatch n f g h = n MacMismatch h
refused_as F G R S T U ContentMalformed n f g h = n ContentMalformed h
refused_as F G R S T U DecryptFailed n f g h = n DecryptFailed h
refused_as F G R S T U KeyMalformed n f g h = n KeyMalformed h

-- a draw that failed is a refusal of sealing, and so is a text that is too long
pub refused_draw : (R T : Type 0) (e : TransferError) → RefusedBy (λ e. ⊥) R e → RefusedFor (λ e. ⊥) R T e
refused_draw R T Memory h = tt
refused_draw R T Rng h = h
refused_draw R T TooLong h = absurd h
refused_draw R T Malformed h = absurd h
refused_draw R T Unsupported h = absurd h
refused_draw R T MacMissing h = absurd h
refused_draw R T MacUnsupported h = absurd h
refused_draw R T ZeroIterations h = absurd h
refused_draw R T WorkLimit h = absurd h
refused_draw R T MacMismatch h = absurd h
refused_draw R T ContentMalformed h = absurd h
refused_draw R T DecryptFailed h = absurd h
refused_draw R T KeyMalformed h = absurd h

pub refused_text : (P R T : Type 0) (e : TransferError) → (P → T) → LongOnly P e → RefusedFor (λ e. ⊥) R T e
refused_text P R T Memory f h = tt
refused_text P R T TooLong f h = inr (f h)
refused_text P R T Rng f h = absurd h
refused_text P R T Malformed f h = absurd h
refused_text P R T Unsupported f h = absurd h
refused_text P R T MacMissing f h = absurd h
refused_text P R T MacUnsupported f h = absurd h
refused_text P R T ZeroIterations f h = absurd h
refused_text P R T WorkLimit f h = absurd h
refused_text P R T MacMismatch f h = absurd h
refused_text P R T ContentMalformed f h = absurd h
refused_text P R T DecryptFailed f h = absurd h
refused_text P R T KeyMalformed f h = absurd h

-- what a change of an opened store to these kinds comes to
pub record Known (to : Kinds) (b p : List ℕ) (limit steps steps_after : ℕ) (gss : List (List SafeBag)) (ks : List (List ℕ)) (version : ℕ) (m : MacData) (cs : List ContentInfo) : Type 0 where
  pub allowed : IsAllowed b p limit
  pub counted : steps_after ≡ steps + allowed.work
  pub draws_are : change_draws to cs gss ≡ draws_to to b p limit allowed
  pub size_is : changed_size to version (mac_for to m) (under p) cs gss ≡ size_to to b p limit allowed
  pub held : HeldOpen (under p) cs gss ks
  pub rekeys : (q : List ℕ) (left after : Option (List ℕ)) (c : List ℕ) → SealsDrawn to version (mac_for to m) cs gss ks q left after c → RekeysTo to b p q limit left after steps steps_after c

abbrev pub allowed_of : (b p : List ℕ) (limit steps steps_after version : ℕ) (m : MacData) (cs : List ContentInfo) (gss : List (List SafeBag)) (ks : List (List ℕ)) → IsOpened b p limit steps steps_after version m cs gss ks → IsAllowed b p limit
allowed_of b p limit steps steps_after version m cs gss ks s = record { bags = gss; keys = ks; work = s.work; opens = s.opens; within = s.within }

pub held_of : (b p : List ℕ) (limit steps steps_after version : ℕ) (m : MacData) (cs : List ContentInfo) (gss : List (List SafeBag)) (ks : List (List ℕ)) → IsOpened b p limit steps steps_after version m cs gss ks → HeldOpen (under p) cs gss ks
held_of b p limit steps steps_after version m cs gss ks s = (seen_of b p limit steps steps_after version m cs gss ks s).held

pub known_of : (to : Kinds) (b p : List ℕ) (limit steps steps_after version : ℕ) (m : MacData) (cs : List ContentInfo) (gss : List (List SafeBag)) (ks : List (List ℕ)) → IsOpened b p limit steps steps_after version m cs gss ks
    → Known to b p limit steps steps_after gss ks version m cs
known_of to b p limit steps steps_after version m cs gss ks w =
    let s = seen_of b p limit steps steps_after version m cs gss ks w in
    record {
      allowed = allowed_of b p limit steps steps_after version m cs gss ks w;
      counted = w.counted;
      draws_are = draws_seen to b p gss ks w.work version m cs w.opens s;
      size_is = size_seen to b p gss ks w.work version m cs w.opens s;
      held = s.held;
      rekeys = λ q left after c d. rekeyed to b p q limit left after steps steps_after gss ks w.work version m cs d.drawn c w.opens w.within s d.exactly d.took w.counted (d.sealed (under p) s.held);
    }

-- the MAC of an opened store is one that a changed store may have
pub mac_known : (b p : List ℕ) (limit steps steps_after version : ℕ) (m : MacData) (cs : List ContentInfo) (gss : List (List SafeBag)) (ks : List (List ℕ)) → IsOpened b p limit steps steps_after version m cs gss ks
    → (is_mac_digest m.mac.digest_algorithm ≡ true) × (1 ≤ m.iterations)
mac_known b p limit steps steps_after version m cs gss ks w =
    let ok = subst (λ (x : MacData). IsMacOk p w.opens.text x) w.is_mac w.opens.mac_ok in
    (ok.known, ok.some_rounds)

pub short_of : (to : Kinds) (b p : List ℕ) (limit steps steps_after : ℕ) (gss : List (List SafeBag)) (ks : List (List ℕ)) (version : ℕ) (m : MacData) (cs : List ContentInfo) (left : Option (List ℕ)) (before now : ℕ)
    → Known to b p limit steps steps_after gss ks version m cs → Lacks before now left (change_draws to cs gss) → RunsShortTo to b p limit left before now steps steps_after
short_of to b p limit steps steps_after gss ks version m cs left before now w l =
    record { allowed = w.allowed; short = subst (λ (x : ℕ). Lacks before now left x) w.draws_are l; counted = w.counted }

pub long_of : (to : Kinds) (b p : List ℕ) (limit steps steps_after : ℕ) (gss : List (List SafeBag)) (ks : List (List ℕ)) (version : ℕ) (m : MacData) (cs : List ContentInfo) (left after : Option (List ℕ))
    → Known to b p limit steps steps_after gss ks version m cs → DrawsTooLong to version (mac_for to m) cs gss ks left after → GrowsTooLongTo to b p limit left after steps steps_after
long_of to b p limit steps steps_after gss ks version m cs left after w d = record {
  allowed = w.allowed;
  drawn = d.drawn;
  exactly = d.exactly ∙ w.draws_are;
  took = d.took;
  long = omega (arith, d.long (under p) w.held, w.size_is);
  counted = w.counted;
}

-- ---- the refusals of sealing

pub refused_sealing : (to : Kinds) (F : TransferError → Type 0) (b p : List ℕ) (limit steps steps_after : ℕ) (gss : List (List SafeBag)) (ks : List (List ℕ)) (version : ℕ) (m : MacData) (cs : List ContentInfo) (left after : Option (List ℕ)) (before now : ℕ) (e : TransferError)
    → Known to b p limit steps steps_after gss ks version m cs → RefusedFor (λ e. ⊥) (Lacks before now left (change_draws to cs gss)) (DrawsTooLong to version (mac_for to m) cs gss ks left after) e
    → RefusedFor F (RunsShortTo to b p limit left before now steps steps_after) (GrowsTooLongTo to b p limit left after steps steps_after) e
refused_sealing to F b p limit steps steps_after gss ks version m cs left after before now e w h =
    refused_as (λ e. ⊥) F _ _ _ _ e (λ e n. absurd n) (λ l. short_of to b p limit steps steps_after gss ks version m cs left before now w l) (λ d. long_of to b p limit steps steps_after gss ks version m cs left after w d) h

settled_for : (to : Kinds) (R T : Type 0) (b p : List ℕ) (limit : ℕ) (left : Option (List ℕ)) (e : TransferError) → (R → IsSettledTo to b p limit left (Err Rng)) → (T → IsSettledTo to b p limit left (Err TooLong)) → RefusedFor (λ e. ⊥) R T e
    → IsSettledTo to b p limit left (Err e)
settled_for to R T b p limit left Memory f g h = settled_memory to b p limit left
settled_for to R T b p limit left Rng f g h = f h
settled_for to R T b p limit left TooLong f g (inl n) = absurd n
settled_for to R T b p limit left TooLong f g (inr h) = g h
settled_for to R T b p limit left Malformed f g h = absurd h
settled_for to R T b p limit left Unsupported f g h = absurd h
settled_for to R T b p limit left MacMissing f g h = absurd h
settled_for to R T b p limit left MacUnsupported f g h = absurd h
settled_for to R T b p limit left ZeroIterations f g h = absurd h
settled_for to R T b p limit left WorkLimit f g h = absurd h
settled_for to R T b p limit left MacMismatch f g h = absurd h
settled_for to R T b p limit left ContentMalformed f g h = absurd h
settled_for to R T b p limit left DecryptFailed f g h = absurd h
settled_for to R T b p limit left KeyMalformed f g h = absurd h

pub settled_sealing : (to : Kinds) (b p : List ℕ) (limit steps steps_after : ℕ) (gss : List (List SafeBag)) (ks : List (List ℕ)) (version : ℕ) (m : MacData) (cs : List ContentInfo) (left after : Option (List ℕ)) (before now : ℕ) (e : TransferError)
    → Known to b p limit steps steps_after gss ks version m cs → RefusedFor (λ e. ⊥) (Lacks before now left (change_draws to cs gss)) (DrawsTooLong to version (mac_for to m) cs gss ks left after) e → IsSettledTo to b p limit left (Err e)
settled_sealing to b p limit steps steps_after gss ks version m cs left after before now e w h = settled_for to _ _ b p limit left e
    (λ l. (let r = short_of to b p limit steps steps_after gss ks version m cs left before now w l in settled_short to b p limit left before now r.allowed r.short))
    (λ d. (let r = long_of to b p limit steps steps_after gss ks version m cs left after w d in settled_long to b p limit left after r.drawn r.allowed r.exactly r.took r.long)) h

pub done_settles : (to : Kinds) (b p q : List ℕ) (limit steps steps_after : ℕ) (left after : Option (List ℕ)) (c : List ℕ) → RekeysTo to b p q limit left after steps steps_after c → IsSettledTo to b p limit left (Ok c)
done_settles to b p q limit steps steps_after left after c r = settled_done to b p limit left after r.drawn c r.allowed r.exactly r.took r.sized r.short

-- ---- refusals on which nothing was drawn

pub undrawn_of : (R T P : Type 0) (e : TransferError) → RefusedFor (λ e. ⊥) R T e → IsUndrawn e → P
undrawn_of R T P Memory h u = absurd (u.not_memory refl)
undrawn_of R T P Rng h u = absurd (u.not_rng refl)
undrawn_of R T P TooLong h u = absurd (u.not_too_long refl)
undrawn_of R T P Malformed h u = absurd h
undrawn_of R T P Unsupported h u = absurd h
undrawn_of R T P MacMissing h u = absurd h
undrawn_of R T P MacUnsupported h u = absurd h
undrawn_of R T P ZeroIterations h u = absurd h
undrawn_of R T P WorkLimit h u = absurd h
undrawn_of R T P MacMismatch h u = absurd h
undrawn_of R T P ContentMalformed h u = absurd h
undrawn_of R T P DecryptFailed h u = absurd h
undrawn_of R T P KeyMalformed h u = absurd h
