-- Each result comes where its cause holds.
use Rattle.std.proofs.Common.{◌≡◌, ◌≤◌, ◌<◌, ◌⊎◌, inl, inr, ℕ, List, [], length, Option, Some, None, refl, sym, ap, subst, ◌∙◌, arith}
use Rattle.std.specs.Prelude.{Result, Ok, Err, IsOk, IfSome}
use Rattle.std.specs.Result.{IsErrOf}
use Rattle.std.specs.Io.KnownBytes.{Consumes}
use Rattle.std.proofs.lemmas.List.{length-append}
use Rattle.octet_core.specs.Draw.{Lacks}
use Rattle.p12.specs.declared.algorithm_identifier.AlgorithmIdentifier.TheVariants.{Sha256}
use Rattle.p12.specs.declared.content_info.ContentInfo.{ContentInfo}
use Rattle.p12.specs.declared.mac_data.MacData.{MacData}
use Rattle.p12.specs.declared.pfx.PFX.{PFX}
use Rattle.p12.specs.declared.safe_bag.SafeBag.{SafeBag}
use Rattle.transfer.specs.Opening.{opened, refused}
use Rattle.transfer.specs.Transferred.{IsRefusal}
use Rattle.transfer.specs.declared.store.error.TransferError.{TransferError}
use Rattle.transfer.specs.declared.store.error.TransferError.TheVariants.{TooLong, Malformed, Unsupported, MacMissing, MacUnsupported, ZeroIterations, WorkLimit, MacMismatch, ContentMalformed, DecryptFailed, KeyMalformed, Rng, Memory}
use Rattle.transfer.proofs.Valid.{first_same, not_refused}
use Rattle.legacy_store.specs.Forms.{Forms}
use Rattle.legacy_store.specs.Opening.{FirstLegacyCause, HasLegacyVerdict}
use Rattle.legacy_store.specs.Texts.{IsLegacySafe}
use Rattle.legacy_store.specs.Verdicts.{AgreesIn, IsDecidedUnder}
use Rattle.legacy_store.specs.declared.mac_rule.MacRule.TheVariants.{Required}
use Rattle.legacy_store.proofs.Closed.{opened_exactly}
use Rattle.legacy_store.proofs.Verdict.{legacy_safe_sole, legacy_store_sole, verdict_sole}
use Rattle.rekey_core.specs.Anew.{change_draws}
use Rattle.rekey_core.specs.Kinds.{renewed_mac}
use Rattle.rekey_core.specs.Making.{MadeStoresAreSized}
use Rattle.rekey_core.specs.Opened.{DrawsTooLong, SealsDrawn}
use Rattle.rekey_core.specs.Size.{changed_size}
use Rattle.rekey_core.specs.Upgraded.{UpgradeRefusedFor, seal_rounds}
use Rattle.rekey_core.specs.declared.kinds.Kinds.TheVariants.{Renewed}
use Rattle.rekey_core.specs.declared.kinds.Renewal.{Renewal}
use Rattle.store_renewal.specs.Renewals.{IsOldAllowed, IsOldSealed, IsOldSettled, by_forms, old_draws, old_sealing, old_size}
use Rattle.store_renewal.proofs.PartTexts.{data_is}
use Rattle.store_renewal.proofs.Renewing.{IsOldOpened, held_as}

-- ---- a store opens in one way

mac_is : (m n : MacData) → (let o : Option MacData = Some m in o) ≡ Some n → m ≡ n
mac_is m n e = cc

forms_once : (p v : List ℕ) (m : MacData) (f g : Forms) (n k : ℕ) → AgreesIn p v m f n → AgreesIn p v m g k → f ≡ g
forms_once p v m f g n k (inl x) (inl y) = x.1 ∙ sym y.1
forms_once p v m f g n k (inl x) (inr y) = absurd (y.0 x.0)
forms_once p v m f g n k (inr x) (inl y) = absurd (x.0 y.0)
forms_once p v m f g n k (inr x) (inr y) = x.3 ∙ sym y.3

record AllowedOnce (b p : List ℕ) (limit : ℕ) (a d : IsOldAllowed b p limit) : Type 0 where
  pub bags : a.bags ≡ d.bags
  pub version : a.opens.store.version ≡ d.opens.store.version
  pub parts : a.opens.parts ≡ d.opens.parts
  pub forms : a.opens.forms ≡ d.opens.forms

verdict_of : (b p : List ℕ) (limit : ℕ) (a : IsOldAllowed b p limit) → HasLegacyVerdict b p limit (opened a.bags a.keys) a.work
verdict_of b p limit a = (opened_exactly Required b p limit a.bags a.keys a.work).1 (a.opens, a.within)

allowed_once : (b p : List ℕ) (limit : ℕ) (a d : IsOldAllowed b p limit) → AllowedOnce b p limit a d
allowed_once b p limit a d =
    let o = a.opens in
    let r = d.opens in
    let store : o.store ≡ r.store = legacy_store_sole b o.store r.store o.is r.is in
    let text : o.text ≡ r.text = data_is o.text r.text (sym o.is_data ∙ ap (λ (s : PFX). s.auth_safe) store ∙ r.is_data) in
    let mac : o.mac ≡ r.mac = mac_is o.mac r.mac (sym o.has ∙ ap (λ (s : PFX). s.mac_data) store ∙ r.has) in
    let agrees : AgreesIn p r.text r.mac o.forms o.tested = subst (λ (m : MacData). AgreesIn p r.text m o.forms o.tested) mac (subst (λ (v : List ℕ). AgreesIn p v o.mac o.forms o.tested) text o.mac_ok.agrees) in
    record {
      bags = first_same a.bags d.bags a.keys d.keys (verdict_sole Required b p limit (opened a.bags a.keys) (opened d.bags d.keys) a.work d.work (verdict_of b p limit a) (verdict_of b p limit d)).0;
      version = ap (λ (s : PFX). s.version) store;
      parts = legacy_safe_sole r.text o.parts r.parts (subst (λ (v : List ℕ). IsLegacySafe v o.parts) text o.opening.contents) r.opening.contents;
      forms = forms_once p r.text r.mac o.forms r.forms o.tested r.tested agrees r.mac_ok.agrees;
    }

no_refusal : (b p : List ℕ) (limit : ℕ) (e : TransferError) → IsOldAllowed b p limit → FirstLegacyCause b p limit (Some e) → ⊥
no_refusal b p limit e a (n, v) = not_refused a.bags a.keys e (verdict_sole Required b p limit (opened a.bags a.keys) (refused e) a.work n (verdict_of b p limit a) v).0

-- ---- results

abbrev Answer : Type 0
Answer = Result (List ℕ) TransferError

abbrev err : TransferError → Answer
err e = Err e

memory_rng : err Memory ≡ err Rng → ⊥
memory_rng e = cc

long_rng : err TooLong ≡ err Rng → ⊥
long_rng e = cc

rng_over : IsErrOf (err Rng) WorkLimit → ⊥
rng_over e = cc

long_over : IsErrOf (err TooLong) WorkLimit → ⊥
long_over e = cc

ok_rng : (c : List ℕ) → Ok c ≡ err Rng → ⊥
ok_rng c e = cc

if_told : (left : Option (List ℕ)) (P Q : List ℕ → Type 0) → ((d : List ℕ) → P d → Q d) → IfSome left P → IfSome left Q
if_told None P Q f h = tt
if_told (Some d) P Q f h = f d h

told_all : (left : Option (List ℕ)) (Q : List ℕ → Type 0) → ((d : List ℕ) → Q d) → IfSome left Q
told_all None Q f = tt
told_all (Some d) Q f = f d

enough_in : (left after : Option (List ℕ)) (drawn : List ℕ) → Consumes left after drawn → IfSome left (λ d. length drawn ≤ length d)
enough_in None after drawn h = tt
enough_in (Some d) None drawn h = absurd h
enough_in (Some d) (Some e) drawn h = omega (arith, ap length h, length-append drawn e)

pub settled_memory : (r : Renewal) (b p : List ℕ) (limit : ℕ) (left : Option (List ℕ)) (e : TransferError) → e ≡ Memory → IsOldSettled r b p limit left (Err e)
settled_memory r b p limit left e is = record {
  refuses = λ f h. inl (ap err is);
  over = λ a h. inl (ap err is);
  within = λ a h. record {
    fits = λ k. inr (inl (ap err is));
    grows = λ k. inl (inl (ap err is));
    lacks = told_all left _ (λ d k. inl (ap err is));
    suffices = told_all left _ (λ d k f. memory_rng (sym (ap err is) ∙ f));
  };
}

-- ---- a store that is refused before anything is sealed

is_memory : {T : Type 0} (e : TransferError) (r : Result T TransferError) → r ≡ Err e → IsOk r ⊎ (r ≡ Err Memory) → e ≡ Memory
is_memory e (Ok x) is h = absurd cc
is_memory e (Err f) is (inl h) = absurd cc
is_memory e (Err f) is (inr h) = cc

refusal_as : {T : Type 0} (e f : TransferError) (r : Result T TransferError) → r ≡ Err e → IsRefusal r f → IsRefusal (err e) f
refusal_as e f r is (inl h) = let k : e ≡ Memory = cc in inl (ap err k)
refusal_as e f r is (inr h) = let k : e ≡ f = cc in inr (ap err k)

pub settled_opening : {T : Type 0} (r : Renewal) (b p : List ℕ) (limit : ℕ) (left : Option (List ℕ)) (e : TransferError) (result : Result T TransferError) → result ≡ Err e → IsDecidedUnder Required b p limit result → IsOldSettled r b p limit left (Err e)
settled_opening r b p limit left e result is d =
    let memory = λ (a : IsOldAllowed b p limit). is_memory e result is (d.completes (a.bags, a.keys, a.work, verdict_of b p limit a)) in
    record {
      refuses = λ f h. refusal_as e f result is (d.refuses f h);
      over = λ a h. inl (ap err (memory a));
      within = λ a h. (settled_memory r b p limit left e (memory a)).within a h;
    }

-- ---- a store that was opened

module _ (r : Renewal) (b p : List ℕ) (limit steps steps_after version : ℕ) (cs : List ContentInfo) (gss : List (List SafeBag)) (ks : List (List ℕ)) (w : IsOldOpened b p limit steps steps_after version cs gss ks) where
  abbrev here : IsOldAllowed b p limit
  here = record { bags = gss; keys = ks; work = w.work; opens = w.opens; within = w.within }

  sealing_as : (a : IsOldAllowed b p limit) → old_sealing r b p limit a ≡ seal_rounds r.rounds cs gss
  sealing_as a =
      let s = allowed_once b p limit a here in
      ap (λ (x : List ContentInfo). seal_rounds r.rounds x a.bags) (s.parts ∙ w.are_parts) ∙ ap (λ (x : List (List SafeBag)). seal_rounds r.rounds cs x) s.bags

  draws_as : (a : IsOldAllowed b p limit) → old_draws r b p limit a ≡ change_draws (Renewed r.rounds) cs gss
  draws_as a =
      let s = allowed_once b p limit a here in
      ap (λ (x : List ContentInfo). change_draws (Renewed r.rounds) x a.bags) (s.parts ∙ w.are_parts) ∙ ap (λ (x : List (List SafeBag)). change_draws (Renewed r.rounds) cs x) s.bags

  size_as : (a : IsOldAllowed b p limit) → old_size r b p limit a ≡ changed_size (Renewed r.rounds) version (renewed_mac r.rounds) (by_forms w.opens.forms) cs gss
  size_as a =
      let s = allowed_once b p limit a here in
      ap (λ (x : ℕ). changed_size (Renewed r.rounds) x (renewed_mac r.rounds) (by_forms a.opens.forms) a.opens.parts a.bags) (s.version ∙ w.is_version)
      ∙ ap (λ (x : Forms). changed_size (Renewed r.rounds) version (renewed_mac r.rounds) (by_forms x) a.opens.parts a.bags) s.forms
      ∙ ap (λ (x : List ContentInfo). changed_size (Renewed r.rounds) version (renewed_mac r.rounds) (by_forms w.opens.forms) x a.bags) (s.parts ∙ w.are_parts)
      ∙ ap (λ (x : List (List SafeBag)). changed_size (Renewed r.rounds) version (renewed_mac r.rounds) (by_forms w.opens.forms) cs x) s.bags

  -- sealing would take too many rounds
  settled_over : (left : Option (List ℕ)) → r.seal_limit < seal_rounds r.rounds cs gss → IsOldSettled r b p limit left (Err WorkLimit)
  settled_over left over = record {
    refuses = λ f h. absurd (no_refusal b p limit f here h);
    over = λ a h. inr refl;
    within = λ a h. absurd (omega (arith, h, over, sealing_as a));
  }

  -- and where it does not
  settled_by : (left : Option (List ℕ)) (result : Answer) → (r.seal_limit < seal_rounds r.rounds cs gss → ⊥) → ((a : IsOldAllowed b p limit) → IsOldSealed r b p limit left a result) → IsOldSettled r b p limit left result
  settled_by left result none sealed = record {
    refuses = λ f h. absurd (no_refusal b p limit f here h);
    over = λ a h. absurd (none (omega (arith, h, sealing_as a)));
    within = λ a h. sealed a;
  }

  sealed_short : (left : Option (List ℕ)) (before now : ℕ) → Lacks before now left (change_draws (Renewed r.rounds) cs gss) → (a : IsOldAllowed b p limit) → IsOldSealed r b p limit left a (Err Rng)
  sealed_short left before now l a = record {
    fits = λ h. inr (inr refl);
    grows = λ h. inr refl;
    lacks = told_all left _ (λ d h. inr refl);
    suffices = if_told left _ _ (λ d short enough e. omega (arith, short, enough, draws_as a)) l.1;
  }

  sealed_long : (left after : Option (List ℕ)) → DrawsTooLong (Renewed r.rounds) version (renewed_mac r.rounds) cs gss ks left after → (a : IsOldAllowed b p limit) → IsOldSealed r b p limit left a (Err TooLong)
  sealed_long left after d a =
      let long = d.long (by_forms w.opens.forms) (held_as b p limit steps steps_after version cs gss ks w) in
      record {
        fits = λ h. absurd (omega (arith, h, long, size_as a));
        grows = λ h. inl (inr refl);
        lacks = if_told left _ _ (λ x enough h. absurd (omega (arith, enough, h, d.exactly, draws_as a))) (enough_in left after d.drawn d.took);
        suffices = told_all left _ (λ x h e. long_rng e);
      }

  pub settled_done : MadeStoresAreSized → (q : List ℕ) (left after : Option (List ℕ)) (c : List ℕ) → SealsDrawn (Renewed r.rounds) version (renewed_mac r.rounds) cs gss ks q left after c → seal_rounds r.rounds cs gss ≤ r.seal_limit
      → IsOldSettled r b p limit left (Ok c)
  settled_done law q left after c s le =
      let u = by_forms w.opens.forms in
      let held = held_as b p limit steps steps_after version cs gss ks w in
      let t = s.sealed u held in
      let any : MacData = record { mac = record { digest_algorithm = Sha256; digest = [] }; salt = []; iterations = 1 } in
      let size = ap length t.is ∙ law (Renewed r.rounds) u q version any cs t.contents gss t.taken t.salt refl t.sealed held.bags t.salt_drawn in
      settled_by left (Ok c) (λ over. omega (arith, over, le))
      (λ a. record {
        fits = λ h. inl refl;
        grows = λ h. absurd (omega (arith, h, size, t.short, size_as a));
        lacks = if_told left _ _ (λ d enough h. absurd (omega (arith, enough, h, s.exactly, draws_as a))) (enough_in left after s.drawn s.took);
        suffices = told_all left _ (λ d h e. ok_rng c e);
      })

  pub settled_sealing : (left after : Option (List ℕ)) (before now : ℕ) (e : TransferError)
      → UpgradeRefusedFor (λ e. ⊥) (r.seal_limit < seal_rounds r.rounds cs gss) (Lacks before now left (change_draws (Renewed r.rounds) cs gss)) (DrawsTooLong (Renewed r.rounds) version (renewed_mac r.rounds) cs gss ks left after) e
      → (r.seal_limit < seal_rounds r.rounds cs gss → IsErrOf (err e) WorkLimit) → IsOldSettled r b p limit left (Err e)
  settled_sealing left after before now Memory h over = settled_memory r b p limit left Memory refl
  settled_sealing left after before now Rng h over = settled_by left (Err Rng) (λ o. rng_over (over o)) (sealed_short left before now h)
  settled_sealing left after before now TooLong (inl h) over = absurd h
  settled_sealing left after before now TooLong (inr h) over = settled_by left (Err TooLong) (λ o. long_over (over o)) (sealed_long left after h)
  settled_sealing left after before now WorkLimit (inl h) over = absurd h
  settled_sealing left after before now WorkLimit (inr h) over = settled_over left h
  settled_sealing left after before now Malformed h over = absurd h
  settled_sealing left after before now Unsupported h over = absurd h
  settled_sealing left after before now MacMissing h over = absurd h
  settled_sealing left after before now MacUnsupported h over = absurd h
  settled_sealing left after before now ZeroIterations h over = absurd h
  settled_sealing left after before now MacMismatch h over = absurd h
  settled_sealing left after before now ContentMalformed h over = absurd h
  settled_sealing left after before now DecryptFailed h over = absurd h
  settled_sealing left after before now KeyMalformed h over = absurd h
