-- Each answer of an upgrade comes where its cause holds.
use Rattle.std.proofs.Common.{◌<◌, ◌≡◌, ℕ, ◌≤◌, List, Option, inl, inr, refl, ap, ◌∙◌, arith}
use Rattle.std.specs.Bool.{Decides}
use Rattle.std.specs.Prelude.{Bool, Result, Ok, Err, false}
use Rattle.std.proofs.lemmas.Bool.Decides.{not_from_Decides}
use Rattle.octet_core.specs.Draw.{Lacks}
use Rattle.p12.specs.declared.content_info.ContentInfo.{ContentInfo}
use Rattle.p12.specs.declared.mac_data.MacData.{MacData}
use Rattle.p12.specs.declared.safe_bag.SafeBag.{SafeBag}
use Rattle.transfer.specs.Transferred.{IsDecided}
use Rattle.transfer.specs.declared.store.error.TransferError.{TransferError}
use Rattle.transfer.specs.declared.store.error.TransferError.TheVariants.{TooLong, Malformed, Unsupported, MacMissing, MacUnsupported, ZeroIterations, WorkLimit, MacMismatch, ContentMalformed, DecryptFailed, KeyMalformed, Rng, Memory}
use Rattle.rekey_core.specs.Kinds.{mac_for}
use Rattle.rekey_core.specs.Anew.{change_draws}
use Rattle.rekey_core.specs.Opened.{DrawsTooLong, IsOpened, SealsDrawn}
use Rattle.rekey_core.specs.Rekeyed.{GrowsTooLongTo, IsAllowed, IsRefused, IsSettledTo, RefusedFor, RunsShortTo}
use Rattle.rekey_core.specs.Upgraded.{IsUpgradeSettled, SealsTooLong, UpgradeRefusedFor, Upgrades, seal_rounds, sealing}
use Rattle.rekey_core.specs.declared.kinds.Kinds.TheVariants.{Renewed}
use Rattle.rekey_core.specs.declared.kinds.Renewal.{Renewal}
use Rattle.rekey_core.proofs.Settling.{Known, allowed_of, done_settles, is_memory, known_of, no_cause, no_refusal, opens_once, refusal_as, refused_sealing, settled_refused, settled_sealing}

-- ---- how many rounds sealing takes

sealing_once : (r : Renewal) (b p : List ℕ) (limit : ℕ) (a d : IsAllowed b p limit) → sealing r b p limit a ≡ sealing r b p limit d
sealing_once r b p limit a d =
    let s = opens_once b p a.bags d.bags a.keys d.keys a.work d.work a.opens d.opens in
    ap (λ (x : List ContentInfo). seal_rounds r.rounds x a.bags) s.parts ∙ ap (λ (x : List (List SafeBag)). seal_rounds r.rounds d.opens.parts x) s.bags

-- ---- refusals

pub refused_opening : (F : TransferError → Type 0) (W R T : Type 0) (e : TransferError) → RefusedFor F R T e → UpgradeRefusedFor F W R T e
refused_opening F W R T Memory h = tt
refused_opening F W R T Rng h = h
refused_opening F W R T TooLong h = h
refused_opening F W R T WorkLimit h = inl h
refused_opening F W R T Malformed h = h
refused_opening F W R T Unsupported h = h
refused_opening F W R T MacMissing h = h
refused_opening F W R T MacUnsupported h = h
refused_opening F W R T ZeroIterations h = h
refused_opening F W R T MacMismatch h = h
refused_opening F W R T ContentMalformed h = h
refused_opening F W R T DecryptFailed h = h
refused_opening F W R T KeyMalformed h = h

pub settled_opening : {T : Type 0} (r : Renewal) (b p : List ℕ) (limit : ℕ) (left : Option (List ℕ)) (e : TransferError) (result : Result T TransferError) → result ≡ Err e → IsDecided b p limit result → IsUpgradeSettled r b p limit left (Err e)
settled_opening r b p limit left e result is d = record {
  refuses = λ f h. refusal_as e f result is (d.refuses f h);
  over = λ a h. inl (ap Err (is_memory e result is (d.completes (no_cause b p limit a))));
  within = λ a h. settled_refused (Renewed r.rounds) b p limit left e result is d;
}

-- where the test says no
pub is_over : (within : Bool) (n limit : ℕ) → Decides within (n ≤ limit) → within ≡ false → limit < n
is_over within n limit d e = let no = not_from_Decides within d e in omega (arith, no)

-- ---- a store that was opened

module _ (r : Renewal) (b p : List ℕ) (limit steps steps_after version : ℕ) (m : MacData) (cs : List ContentInfo) (gss : List (List SafeBag)) (ks : List (List ℕ)) (w : IsOpened b p limit steps steps_after version m cs gss ks) where
  abbrev a : IsAllowed b p limit
  a = allowed_of b p limit steps steps_after version m cs gss ks w

  sealing_seen : sealing r b p limit a ≡ seal_rounds r.rounds cs gss
  sealing_seen = ap (λ (x : List ContentInfo). seal_rounds r.rounds x gss) w.are_parts

  -- where the test says no
  pub over_limit : (within : Bool) → Decides within (seal_rounds r.rounds cs gss ≤ r.seal_limit) → within ≡ false → SealsTooLong r b p limit steps steps_after
  over_limit within d e = let no = not_from_Decides within d e in record { allowed = a; over = omega (arith, no, sealing_seen); counted = w.counted }

  pub settled_over : (left : Option (List ℕ)) → SealsTooLong r b p limit steps steps_after → IsUpgradeSettled r b p limit left (Err WorkLimit)
  settled_over left s = record {
    refuses = λ f h. absurd (no_refusal b p limit f s.allowed h);
    over = λ d h. inr refl;
    within = λ d h. absurd (omega (arith, h, s.over, sealing_once r b p limit d s.allowed));
  }

  -- what sealing it comes to
  known : Known (Renewed r.rounds) b p limit steps steps_after gss ks version m cs
  known = known_of (Renewed r.rounds) b p limit steps steps_after version m cs gss ks w

  pub refused_upgrade : (left after : Option (List ℕ)) (before now : ℕ) (e : TransferError) → RefusedFor (λ e. ⊥) (Lacks before now left (change_draws (Renewed r.rounds) cs gss)) (DrawsTooLong (Renewed r.rounds) version (mac_for (Renewed r.rounds) m) cs gss ks left after) e
      → UpgradeRefusedFor (IsRefused b p limit steps steps_after) (SealsTooLong r b p limit steps steps_after) (RunsShortTo (Renewed r.rounds) b p limit left before now steps steps_after) (GrowsTooLongTo (Renewed r.rounds) b p limit left after steps steps_after) e
  refused_upgrade left after before now e h = refused_opening (IsRefused b p limit steps steps_after) (SealsTooLong r b p limit steps steps_after) (RunsShortTo (Renewed r.rounds) b p limit left before now steps steps_after)
      (GrowsTooLongTo (Renewed r.rounds) b p limit left after steps steps_after) e
      (refused_sealing (Renewed r.rounds) (IsRefused b p limit steps steps_after) b p limit steps steps_after gss ks version m cs left after before now e known h)

  -- and within the limit
  module _ (le : seal_rounds r.rounds cs gss ≤ r.seal_limit) where
    settled_within : (left : Option (List ℕ)) (result : Result (List ℕ) TransferError) → IsSettledTo (Renewed r.rounds) b p limit left result → IsUpgradeSettled r b p limit left result
    settled_within left result s = record {
      refuses = s.refuses;
      over = λ d h. absurd (omega (arith, h, le, sealing_seen, sealing_once r b p limit d a));
      within = λ d h. s;
    }

    pub upgraded : (q : List ℕ) (left after : Option (List ℕ)) (c : List ℕ) → SealsDrawn (Renewed r.rounds) version (mac_for (Renewed r.rounds) m) cs gss ks q left after c → Upgrades r b p q limit left after steps steps_after c
    upgraded q left after c d = let h = known.rekeys q left after c d in record { rekeys = h; afforded = omega (arith, le, sealing_seen, sealing_once r b p limit h.allowed a) }

    pub settled_upgraded : (q : List ℕ) (left after : Option (List ℕ)) (c : List ℕ) → SealsDrawn (Renewed r.rounds) version (mac_for (Renewed r.rounds) m) cs gss ks q left after c → IsUpgradeSettled r b p limit left (Ok c)
    settled_upgraded q left after c d = settled_within left (Ok c) (done_settles (Renewed r.rounds) b p q limit steps steps_after left after c (known.rekeys q left after c d))

    pub settled_refused_upgrade : (left after : Option (List ℕ)) (before now : ℕ) (e : TransferError) → RefusedFor (λ e. ⊥) (Lacks before now left (change_draws (Renewed r.rounds) cs gss)) (DrawsTooLong (Renewed r.rounds) version (mac_for (Renewed r.rounds) m) cs gss ks left after) e
        → IsUpgradeSettled r b p limit left (Err e)
    settled_refused_upgrade left after before now e h = settled_within left (Err e) (settled_sealing (Renewed r.rounds) b p limit steps steps_after gss ks version m cs left after before now e known h)
