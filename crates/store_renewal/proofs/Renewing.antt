-- An old store that was opened is sealed by what was read of it.
use Rattle.std.proofs.Common.{◌≡◌, ◌≤◌, ◌<◌, ◌+◌, inl, inr, ℕ, List, [], ◌∷◌, Option, None, sym, ap, subst, ◌∙◌, arith}
use Rattle.asn1_core.specs.Sets.{Each}
use Rattle.octet_core.specs.Draw.{Lacks}
use Rattle.p12.specs.ContentInfo.{IsContents}
use Rattle.p12.specs.Pfx.{IsStore}
use Rattle.p12.specs.declared.content_info.ContentInfo.{ContentInfo}
use Rattle.p12.specs.declared.content_info.ContentInfo.TheVariants as content
use Rattle.p12.specs.declared.pfx.PFX.{PFX}
use Rattle.p12.specs.declared.safe_bag.SafeBag.{SafeBag}
use Rattle.transfer.specs.Opening.{FirstCause, all_certificates}
use Rattle.transfer.specs.Verdicts.{StoreOpens}
use Rattle.transfer.specs.declared.store.error.TransferError.{TransferError}
use Rattle.transfer.specs.declared.store.error.TransferError.TheVariants.{TooLong, Malformed, Unsupported, MacMissing, MacUnsupported, ZeroIterations, WorkLimit, MacMismatch, ContentMalformed, DecryptFailed, KeyMalformed, Rng, Memory}
use Rattle.transfer.proofs.Valid.{opened_exactly}
use Rattle.legacy_store.specs.Forms.{Forms}
use Rattle.legacy_store.specs.Opening.{LegacyHolds}
use Rattle.legacy_store.specs.Texts.{IsLegacySafe, IsLegacyStore}
use Rattle.legacy_store.specs.Verdicts.{IsLegacyOpening, LegacyOpens}
use Rattle.legacy_store.proofs.Verdict.{legacy_safe_sole, legacy_store_sole}
use Rattle.rekey_core.specs.Anew.{change_draws}
use Rattle.rekey_core.specs.Changes.{BagKept}
use Rattle.rekey_core.specs.Kinds.{renewed_mac}
use Rattle.rekey_core.specs.Making.{HeldOpen}
use Rattle.rekey_core.specs.Opened.{DrawsTooLong, SealsDrawn}
use Rattle.rekey_core.specs.Unlocking.{HoldsBy}
use Rattle.rekey_core.specs.Upgraded.{RenewedTextsOpen, UpgradeRefusedFor, seal_rounds}
use Rattle.rekey_core.specs.declared.kinds.Kinds.TheVariants.{Renewed}
use Rattle.rekey_core.specs.declared.kinds.Renewal.{Renewal}
use Rattle.store_renewal.specs.Parts.{HasParts}
use Rattle.store_renewal.specs.Renewals.{OldGrowsTooLong, OldRunsShort, OldSealsTooLong, RenewsOld, by_forms, old_sealing}
use Rattle.store_renewal.proofs.PartTexts.{data_is}

-- ---- how the parts open

held : (f : Forms) (c : ContentInfo) (gs : List SafeBag) → LegacyHolds f c gs → HoldsBy (by_forms f) c gs
held f (content.Data v) gs h = h
held f (content.EncryptedData d) gs h = h
held f (content.OtherContext o) gs h = h

all_held : (f : Forms) (cs : List ContentInfo) (gss : List (List SafeBag)) → Each (LegacyHolds f) cs gss → Each (HoldsBy (by_forms f)) cs gss
all_held f [] [] h = h
all_held f [] (gs ∷ gss) h = absurd h
all_held f (c ∷ cs) [] h = absurd h
all_held f (c ∷ cs) (gs ∷ gss) h = (held f c gs h.0, all_held f cs gss h.1)

pub held_open : (f : Forms) (v : List ℕ) (cs : List ContentInfo) (gss : List (List SafeBag)) (ks : List (List ℕ)) → IsLegacyOpening f v cs gss ks → HeldOpen (by_forms f) cs gss ks
held_open f v cs gss ks o = record { bags = all_held f cs gss o.bags; are_opened = o.keys }

-- ---- what the text of a store shows

pub listed : (v : List ℕ) (cs : List ContentInfo) → IsLegacySafe v cs → (w : List ℕ) × IsContents w cs
unfolding IsLegacySafe
listed v cs (inl is) = (v, is)
listed v cs (inr (e, none, ber, is)) = (e, is)

version_small : (b : List ℕ) (s : PFX) → IsStore b s → s.version ≤ 255
unfolding IsStore
version_small b s ((w, (x, y, r, more, e), e0), short) = omega (arith, r.1.0)

old_version_small : (b : List ℕ) (s : PFX) → IsLegacyStore b s → s.version ≤ 255
unfolding IsLegacyStore
old_version_small b s (inl is) = version_small b s is
old_version_small b s (inr (d, none, ber, is)) = version_small d s is

-- ---- a store that was opened, and its parts as they were read

pub record IsOldOpened (b p : List ℕ) (limit steps steps_after version : ℕ) (cs : List ContentInfo) (gss : List (List SafeBag)) (ks : List (List ℕ)) : Type 0 where
  pub work : ℕ
  pub opens : LegacyOpens b p gss ks work
  pub within : work ≤ limit
  pub counted : steps_after ≡ steps + work
  pub is_version : opens.store.version ≡ version
  pub are_parts : opens.parts ≡ cs

pub old_opened : (b p : List ℕ) (limit steps steps_after version : ℕ) (cs : List ContentInfo) (gss : List (List SafeBag)) (ks : List (List ℕ)) → (n : ℕ) × LegacyOpens b p gss ks n × (n ≤ limit) × (steps_after ≡ steps + n) → HasParts b version cs
    → IsOldOpened b p limit steps steps_after version cs gss ks
old_opened b p limit steps steps_after version cs gss ks (n, o, within, counted) (s, v, is, same, at, lists) =
    let store : o.store ≡ s = legacy_store_sole b o.store s o.is is in
    let text : o.text ≡ v = data_is o.text v (sym o.is_data ∙ ap (λ (t : PFX). t.auth_safe) store ∙ at) in
    record {
      work = n;
      opens = o;
      within = within;
      counted = counted;
      is_version = ap (λ (t : PFX). t.version) store ∙ same;
      are_parts = legacy_safe_sole v o.parts cs (subst (λ (t : List ℕ). IsLegacySafe t o.parts) text o.opening.contents) lists;
    }

pub held_as : (b p : List ℕ) (limit steps steps_after version : ℕ) (cs : List ContentInfo) (gss : List (List SafeBag)) (ks : List (List ℕ)) (w : IsOldOpened b p limit steps steps_after version cs gss ks) → HeldOpen (by_forms w.opens.forms) cs gss ks
held_as b p limit steps steps_after version cs gss ks w = subst (λ (x : List ContentInfo). HeldOpen (by_forms w.opens.forms) x gss ks) w.are_parts (held_open w.opens.forms w.opens.text w.opens.parts gss ks w.opens.opening)

module _ (r : Renewal) (b p : List ℕ) (limit steps steps_after version : ℕ) (cs : List ContentInfo) (gss : List (List SafeBag)) (ks : List (List ℕ)) (w : IsOldOpened b p limit steps steps_after version cs gss ks) where
  pub renewed : (q : List ℕ) (left after : Option (List ℕ)) (c : List ℕ) → SealsDrawn (Renewed r.rounds) version (renewed_mac r.rounds) cs gss ks q left after c → seal_rounds r.rounds cs gss ≤ r.seal_limit
      → RenewsOld r b p q limit left after steps steps_after c
  renewed q left after c s le = record {
    allowed = record { bags = gss; keys = ks; work = w.work; opens = w.opens; within = w.within };
    sealed = rw (w.is_version, w.are_parts) s;
    afforded = rw (w.are_parts) le;
    counted = w.counted;
  }

  sealing_over : r.seal_limit < seal_rounds r.rounds cs gss → OldSealsTooLong r b p limit steps steps_after
  sealing_over over = record {
    allowed = record { bags = gss; keys = ks; work = w.work; opens = w.opens; within = w.within };
    over = rw (w.are_parts) over;
    counted = w.counted;
  }

  runs_short : (left : Option (List ℕ)) (before now : ℕ) → Lacks before now left (change_draws (Renewed r.rounds) cs gss) → OldRunsShort r b p limit left before now steps steps_after
  runs_short left before now l = record {
    allowed = record { bags = gss; keys = ks; work = w.work; opens = w.opens; within = w.within };
    short = rw (w.are_parts) l;
    counted = w.counted;
  }

  grows_too_long : (left after : Option (List ℕ)) → DrawsTooLong (Renewed r.rounds) version (renewed_mac r.rounds) cs gss ks left after → OldGrowsTooLong r b p limit left after steps steps_after
  grows_too_long left after d = record {
    allowed = record { bags = gss; keys = ks; work = w.work; opens = w.opens; within = w.within };
    long = rw (w.is_version, w.are_parts) d;
    counted = w.counted;
  }

  pub refused_sealing : (F : TransferError → Type 0) (left after : Option (List ℕ)) (before now : ℕ) (e : TransferError)
      → UpgradeRefusedFor (λ e. ⊥) (r.seal_limit < seal_rounds r.rounds cs gss) (Lacks before now left (change_draws (Renewed r.rounds) cs gss)) (DrawsTooLong (Renewed r.rounds) version (renewed_mac r.rounds) cs gss ks left after) e
      → UpgradeRefusedFor F (OldSealsTooLong r b p limit steps steps_after) (OldRunsShort r b p limit left before now steps steps_after) (OldGrowsTooLong r b p limit left after steps steps_after) e
  refused_sealing F left after before now Memory h = tt
  refused_sealing F left after before now Rng h = runs_short left before now h
  refused_sealing F left after before now TooLong (inl h) = absurd h
  refused_sealing F left after before now TooLong (inr h) = inr (grows_too_long left after h)
  refused_sealing F left after before now WorkLimit (inl h) = absurd h
  refused_sealing F left after before now WorkLimit (inr h) = inr (sealing_over h)
  refused_sealing F left after before now Malformed h = absurd h
  refused_sealing F left after before now Unsupported h = absurd h
  refused_sealing F left after before now MacMissing h = absurd h
  refused_sealing F left after before now MacUnsupported h = absurd h
  refused_sealing F left after before now ZeroIterations h = absurd h
  refused_sealing F left after before now MacMismatch h = absurd h
  refused_sealing F left after before now ContentMalformed h = absurd h
  refused_sealing F left after before now DecryptFailed h = absurd h
  refused_sealing F left after before now KeyMalformed h = absurd h

-- ---- the new store opens

pub renewed_opens : RenewedTextsOpen → (r : Renewal) (b p q : List ℕ) (limit : ℕ) (left after : Option (List ℕ)) (steps steps_after : ℕ) (c : List ℕ) → (u : RenewsOld r b p q limit left after steps steps_after c)
    → (hss : List (List SafeBag)) × StoreOpens c q hss u.allowed.keys (old_sealing r b p limit u.allowed) × (all_certificates hss ≡ all_certificates u.allowed.bags) × Each (Each BagKept) u.allowed.bags hss × FirstCause c q r.seal_limit None
renewed_opens law r b p q limit left after steps steps_after c u =
    let a = u.allowed in
    let o = a.opens in
    let held = held_open o.forms o.text o.parts a.bags a.keys o.opening in
    let lists = listed o.text o.parts o.opening.contents in
    let k = law r.rounds (by_forms o.forms) lists.0 q o.store.version o.parts a.bags a.keys u.sealed.drawn c (old_version_small b o.store o.is) lists.1 held (u.sealed.sealed (by_forms o.forms) held) in
    (k.0, k.1, k.2, k.3, (k.0, a.keys, old_sealing r b p limit a, (opened_exactly c q r.seal_limit k.0 a.keys (old_sealing r b p limit a)).1 (k.1, u.afforded)))
