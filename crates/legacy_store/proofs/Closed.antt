-- A store is opened exactly where it opens within the limit; and each result comes where its cause holds.
use Rattle.std.proofs.Common.{ℕ, length, ◌≡◌, ◌≢◌, ◌+◌, ◌≤◌, ◌⊎◌, inl, inr, List, [], ◌∷◌, refl, sym, ap, ◌∙◌, arith, subst, Bool, true, false}
use Rattle.std.specs.Prelude.{Result, Ok, Err, IfOk, IfErr, None, ◌↔◌}
use Rattle.std.specs.List.{sum_by}
use Rattle.p12.specs.declared.mac_data.MacData.{MacData}
use Rattle.p12.specs.declared.content_info.ContentInfo.{ContentInfo}
use Rattle.p12.specs.declared.content_info.ContentInfo.TheVariants as content
use Rattle.p12.specs.declared.pfx.PFX.{PFX}
use Rattle.p12.specs.declared.safe_bag.SafeBag.{SafeBag}
use Rattle.transfer.specs.declared.store.error.TransferError.{TransferError}
use Rattle.transfer.specs.declared.store.error.TransferError.TheVariants.{TooLong, Malformed, Unsupported, MacMissing, MacUnsupported, ZeroIterations, WorkLimit, MacMismatch, ContentMalformed, DecryptFailed, KeyMalformed, Rng, Memory}
use Rattle.transfer.specs.Limits.{store_limit}
use Rattle.transfer.specs.Parts.{AreOpen}
use Rattle.transfer.specs.Opening.{RefusedAfter, Verdict, all_shrouded, opened, refused}
use Rattle.transfer.proofs.Valid.{first_same, not_less, not_refused, second_same}
use Rattle.transfer.specs.OpenedSafe.{BagsAndKeys}
use Rattle.legacy_store.specs.Forms.{Forms, forms_of, forms_without_mac, null_forms}
use Rattle.legacy_store.specs.declared.mac_rule.MacRule.{MacRule}
use Rattle.legacy_store.specs.declared.mac_rule.MacRule.TheVariants.{Required, Optional}
use Rattle.legacy_store.specs.Mac.{is_legacy_digest, legacy_agrees, mac_cost, mac_count}
use Rattle.legacy_store.specs.Opening.{BareTable, HasVerdictUnder, LegacyContentsTable, LegacyKeysTable, LegacyMacTable, LegacyTextTable, NullTable, legacy_contents, legacy_key_share, legacy_keys, legacy_share}
use Rattle.legacy_store.specs.Texts.{IsLegacySafe, IsLegacyStore}
use Rattle.legacy_store.specs.Verdicts.{AgreesIn, IsDecidedUnder, IsLegacyOpening, LegacyMacOk, LegacyOpens, OpensUnder}
use Rattle.legacy_store.proofs.Rows.{agreed, all_open, contents_then, disagreed, has_contents, has_mac, has_store, no_mac, null_agreed}
use Rattle.legacy_store.proofs.Verdict.{verdict_sole}

not_false : (b : Bool) → (b ≡ false → ⊥) → b ≡ true
not_false true h = refl
not_false false h = absurd (h refl)

not_true : (b : Bool) → (b ≡ true → ⊥) → b ≡ false
not_true true h = absurd (h refl)
not_true false h = refl

not_zero : (n : ℕ) → (n ≡ 0 → ⊥) → 1 ≤ n
not_zero n h = grind (arith, h)

is_nil : (p : List ℕ) → (p ≢ [] → ⊥) → p ≡ []
is_nil [] h = refl
is_nil (x ∷ xs) h = absurd (h (λ e. absurd cc))

-- ---- What a table that ends at `opened` says

record TextOpen (f : Forms) (limit sum : ℕ) (v : List ℕ) (gss : List (List SafeBag)) (ks : List (List ℕ)) (n : ℕ) : Type 0 where
  pub cs : List ContentInfo
  pub opening : IsLegacyOpening f v cs gss ks
  pub steps : n ≡ sum + sum_by legacy_share cs + sum_by legacy_key_share (all_shrouded gss)
  pub within : n ≤ limit

contents_open : (f : Forms) (limit sum : ℕ) (v : List ℕ) (cs : List ContentInfo) (gss : List (List SafeBag)) (ks : List (List ℕ)) (n : ℕ) → IsLegacySafe v cs
    → LegacyContentsTable f limit sum cs (opened gss ks) n → TextOpen f limit sum v gss ks n
unfolding LegacyContentsTable
contents_open f limit sum v cs gss ks n is (inl h) = absurd (not_refused gss ks h.0 h.3)
contents_open f limit sum v cs gss ks n is (inr (hss, a, inl h)) = absurd (not_refused gss ks h.0 h.3)
contents_open f limit sum v cs gss ks n is (inr (hss, a, inr (js, b, h))) =
    let one = sym (first_same gss hss ks js h.0) in
    let two = sym (second_same gss hss ks js h.0) in
    let c = subst (λ t. AreOpen (legacy_contents f limit) limit sum cs t) one a in
    let d = subst (λ t. AreOpen (legacy_keys f limit) limit (sum + sum_by legacy_share cs) (all_shrouded gss) t) two
    (subst (λ t. AreOpen (legacy_keys f limit) limit (sum + sum_by legacy_share cs) (all_shrouded t) js) one b) in
    let steps = h.1 ∙ ap (λ t. sum + sum_by legacy_share cs + sum_by legacy_key_share (all_shrouded t)) one in
    record { cs = cs; opening = record { contents = is; bags = c.each; keys = d.each }; steps = steps; within = omega (arith, steps, d.within) }

text_open : (f : Forms) (limit sum : ℕ) (v : List ℕ) (gss : List (List SafeBag)) (ks : List (List ℕ)) (n : ℕ) → LegacyTextTable f limit sum v (opened gss ks) n → TextOpen f limit sum v gss ks n
unfolding LegacyTextTable
text_open f limit sum v gss ks n (inl h) = absurd (not_refused gss ks _ h.1)
text_open f limit sum v gss ks n (inr (none, (cs, is, t))) = contents_open f limit sum v cs gss ks n is t

record MacOpen (p : List ℕ) (limit : ℕ) (v : List ℕ) (m : MacData) (gss : List (List SafeBag)) (ks : List (List ℕ)) (n : ℕ) : Type 0 where
  pub forms : Forms
  pub tested : ℕ
  pub ok : LegacyMacOk p v m forms tested
  pub text : TextOpen forms limit tested v gss ks n

null_open : (p : List ℕ) (limit : ℕ) (v : List ℕ) (m : MacData) (gss : List (List SafeBag)) (ks : List (List ℕ)) (n : ℕ) → is_legacy_digest m.mac.digest_algorithm ≡ true → 1 ≤ mac_count m
    → (legacy_agrees m (forms_of p) v ≡ true → ⊥) → NullTable p limit v m (opened gss ks) n → MacOpen p limit v m gss ks n
unfolding NullTable
null_open p limit v m gss ks n k r bad (inl h) = absurd (not_refused gss ks _ h.1)
null_open p limit v m gss ks n k r bad (inr (a, inl h)) = absurd (not_refused gss ks _ h.1)
null_open p limit v m gss ks n k r bad (inr (a, inr (b, inl h))) = absurd (not_refused gss ks _ h.1)
null_open p limit v m gss ks n k r bad (inr (a, inr (b, inr (c, t)))) = record {
  forms = null_forms;
  tested = mac_cost m + mac_cost m;
  ok = record { known = k; some_rounds = r; agrees = inr (bad, is_nil p a, not_false _ c, refl, refl) };
  text = text_open null_forms limit (mac_cost m + mac_cost m) v gss ks n t;
}

mac_open : (p : List ℕ) (limit : ℕ) (v : List ℕ) (m : MacData) (gss : List (List SafeBag)) (ks : List (List ℕ)) (n : ℕ) → LegacyMacTable p limit v m (opened gss ks) n → MacOpen p limit v m gss ks n
unfolding LegacyMacTable
mac_open p limit v m gss ks n (inl h) = absurd (not_refused gss ks _ h.1)
mac_open p limit v m gss ks n (inr (a, inl h)) = absurd (not_refused gss ks _ h.1)
mac_open p limit v m gss ks n (inr (a, inr (b, inl h))) = absurd (not_refused gss ks _ h.1)
mac_open p limit v m gss ks n (inr (a, inr (b, inr (c, inl h)))) = record {
  forms = forms_of p;
  tested = mac_cost m;
  ok = record { known = not_false _ a; some_rounds = not_zero _ b; agrees = inl (h.0, refl, refl) };
  text = text_open (forms_of p) limit (mac_cost m) v gss ks n h.1;
}
mac_open p limit v m gss ks n (inr (a, inr (b, inr (c, inr h)))) = null_open p limit v m gss ks n (not_false _ a) (not_zero _ b) h.0 h.1

-- A store with a MAC opens so under each rule.
with_mac : (rule : MacRule) (b p : List ℕ) (gss : List (List SafeBag)) (ks : List (List ℕ)) (n : ℕ) → LegacyOpens b p gss ks n → OpensUnder rule b p gss ks n
with_mac Required b p gss ks n o = o
with_mac Optional b p gss ks n o = inl o

bare_open : (rule : MacRule) (b p : List ℕ) (limit : ℕ) (s : PFX) (v : List ℕ) (gss : List (List SafeBag)) (ks : List (List ℕ)) (n : ℕ) → length b ≤ store_limit → IsLegacyStore b s
    → s.auth_safe ≡ content.Data v → s.mac_data ≡ None → BareTable rule p limit v (opened gss ks) n → OpensUnder rule b p gss ks n × (n ≤ limit)
bare_open Required b p limit s v gss ks n short is at none h = absurd (not_refused gss ks _ h.0)
bare_open Optional b p limit s v gss ks n short is at none h =
    let o = text_open (forms_without_mac p) limit 0 v gss ks n h in (
      inr (record { short = short; store = s; is = is; text = v; is_data = at; bare = none; parts = o.cs; opening = o.opening; work = omega (arith, o.steps) }),
      o.within,
    )

verdict_open : (rule : MacRule) (b p : List ℕ) (limit : ℕ) (gss : List (List SafeBag)) (ks : List (List ℕ)) (n : ℕ) → HasVerdictUnder rule b p limit (opened gss ks) n
    → OpensUnder rule b p gss ks n × (n ≤ limit)
unfolding HasVerdictUnder
verdict_open rule b p limit gss ks n (inl h) = absurd (not_refused gss ks _ h.1)
verdict_open rule b p limit gss ks n (inr (long, inl h)) = absurd (not_refused gss ks _ h.1)
verdict_open rule b p limit gss ks n (inr (long, inr (none, (s, is, inl h)))) = absurd (not_refused gss ks _ h.1)
verdict_open rule b p limit gss ks n (inr (long, inr (none, (s, is, inr (other, (v, at, inl h)))))) = bare_open rule b p limit s v gss ks n (not_less _ _ long) is at h.0 h.1
verdict_open rule b p limit gss ks n (inr (long, inr (none, (s, is, inr (other, (v, at, inr (bare, (m, has, t)))))))) =
    let o = mac_open p limit v m gss ks n t in (
      with_mac rule b p gss ks n (record {
        short = not_less _ _ long;
        store = s;
        is = is;
        text = v;
        is_data = at;
        mac = m;
        has = has;
        forms = o.forms;
        tested = o.tested;
        mac_ok = o.ok;
        parts = o.text.cs;
        opening = o.text.opening;
        work = o.text.steps;
      }),
      o.text.within,
    )

-- ---- And back

text_comes : (f : Forms) (limit sum : ℕ) (v : List ℕ) (cs : List ContentInfo) (gss : List (List SafeBag)) (ks : List (List ℕ)) (n : ℕ) → IsLegacyOpening f v cs gss ks
    → n ≡ sum + sum_by legacy_share cs + sum_by legacy_key_share (all_shrouded gss) → n ≤ limit → LegacyTextTable f limit sum v (opened gss ks) n
text_comes f limit sum v cs gss ks n o is le =
    let c : AreOpen (legacy_contents f limit) limit sum cs gss = record { each = o.bags; within = omega (arith, is, le) } in
    let k : AreOpen (legacy_keys f limit) limit (sum + sum_by legacy_share cs) (all_shrouded gss) ks = record { each = o.keys; within = omega (arith, is, le) } in
    has_contents f limit sum v cs (opened gss ks) n o.contents
    (contents_then f limit sum cs gss (opened gss ks) n c
    (subst (λ t. LegacyKeysTable f limit (sum + sum_by legacy_share cs) gss (opened gss ks) t) (sym is) (all_open f limit (sum + sum_by legacy_share cs) gss ks k)))

mac_comes : (p : List ℕ) (limit : ℕ) (v : List ℕ) (m : MacData) (f : Forms) (tested : ℕ) (w : Verdict) (n : ℕ) → is_legacy_digest m.mac.digest_algorithm ≡ true → 1 ≤ mac_count m → tested ≤ limit
    → AgreesIn p v m f tested → LegacyTextTable f limit tested v w n → LegacyMacTable p limit v m w n
mac_comes p limit v m f tested w n k r le (inl (good, forms, count)) t =
    agreed p limit v m w n k (omega (arith, r)) (omega (arith, count, le)) good (subst (λ s. LegacyTextTable (forms_of p) limit s v w n) count (subst (λ g. LegacyTextTable g limit tested v w n) forms t))
mac_comes p limit v m f tested w n k r le (inr (bad, none, good, forms, count)) t =
    disagreed p limit v m w n k (omega (arith, r)) (omega (arith, count, le)) (not_true _ bad)
    (null_agreed p limit v m w n none (omega (arith, count, le)) good (subst (λ s. LegacyTextTable null_forms limit s v w n) count (subst (λ g. LegacyTextTable g limit tested v w n) forms t)))

mac_store_comes : (rule : MacRule) (b p : List ℕ) (limit : ℕ) (gss : List (List SafeBag)) (ks : List (List ℕ)) (n : ℕ) → LegacyOpens b p gss ks n → n ≤ limit
    → HasVerdictUnder rule b p limit (opened gss ks) n
mac_store_comes rule b p limit gss ks n o le =
    has_store rule b p limit o.store (opened gss ks) n o.short o.is (has_mac rule p limit o.store o.text o.mac (opened gss ks) n o.is_data o.has
    (mac_comes p limit o.text o.mac o.forms o.tested (opened gss ks) n o.mac_ok.known o.mac_ok.some_rounds (omega (arith, o.work, le)) o.mac_ok.agrees
    (text_comes o.forms limit o.tested o.text o.parts gss ks n o.opening o.work le)))

open_comes : (rule : MacRule) (b p : List ℕ) (limit : ℕ) (gss : List (List SafeBag)) (ks : List (List ℕ)) (n : ℕ) → OpensUnder rule b p gss ks n → n ≤ limit
    → HasVerdictUnder rule b p limit (opened gss ks) n
open_comes Required b p limit gss ks n o le = mac_store_comes Required b p limit gss ks n o le
open_comes Optional b p limit gss ks n (inl o) le = mac_store_comes Optional b p limit gss ks n o le
open_comes Optional b p limit gss ks n (inr o) le =
    has_store Optional b p limit o.store (opened gss ks) n o.short o.is (no_mac Optional p limit o.store o.text (opened gss ks) n o.is_data o.bare
    (text_comes (forms_without_mac p) limit 0 o.text o.parts gss ks n o.opening (omega (arith, o.work)) le))

pub opened_exactly : (rule : MacRule) (b p : List ℕ) (limit : ℕ) (gss : List (List SafeBag)) (ks : List (List ℕ)) (n : ℕ)
    → HasVerdictUnder rule b p limit (opened gss ks) n ↔ (OpensUnder rule b p gss ks n × (n ≤ limit))
opened_exactly rule b p limit gss ks n = (λ h. verdict_open rule b p limit gss ks n h, λ h. open_comes rule b p limit gss ks n h.0 h.1)

-- ---- Each result comes where its cause holds

pub refused_same : (e g : TransferError) → refused e ≡ refused g → e ≡ g
refused_same e g h = grind (arith, h)

open_refused : {P : Type 0} (rule : MacRule) (b p : List ℕ) (limit : ℕ) (gss : List (List SafeBag)) (ks : List (List ℕ)) (e : TransferError) (m n : ℕ) → HasVerdictUnder rule b p limit (opened gss ks) m
    → HasVerdictUnder rule b p limit (refused e) n → P
open_refused rule b p limit gss ks e m n c d = absurd (not_refused gss ks e (verdict_sole rule b p limit (opened gss ks) (refused e) m n c d).0)

-- Why a refusal came.
refusal : (F : TransferError → ℕ → Type 0) (old new : ℕ) (e : TransferError) → RefusedAfter F old new e → (e ≡ Memory) ⊎ ((n : ℕ) × F e n)
refusal F old new TooLong h = inr (h.0, h.1)
refusal F old new Malformed h = inr (h.0, h.1)
refusal F old new Unsupported h = inr (h.0, h.1)
refusal F old new MacMissing h = inr (h.0, h.1)
refusal F old new MacUnsupported h = inr (h.0, h.1)
refusal F old new ZeroIterations h = inr (h.0, h.1)
refusal F old new WorkLimit h = inr (h.0, h.1)
refusal F old new MacMismatch h = inr (h.0, h.1)
refusal F old new ContentMalformed h = inr (h.0, h.1)
refusal F old new DecryptFailed h = inr (h.0, h.1)
refusal F old new KeyMalformed h = inr (h.0, h.1)
refusal F old new Rng h = absurd h
refusal F old new Memory h = inl refl

decided_by : {T : Type 0} (rule : MacRule) (b p : List ℕ) (limit : ℕ) (e : TransferError) → (e ≡ Memory) ⊎ ((n : ℕ) × HasVerdictUnder rule b p limit (refused e) n) → IsDecidedUnder {T = T} rule b p limit (Err e)
decided_by rule b p limit e (inl is) = record { refuses = λ g h. inl (ap Err is); completes = λ h. inr (ap Err is) }
decided_by rule b p limit e (inr (n, c)) = record {
  refuses = λ g h. inr (ap Err (refused_same e g (verdict_sole rule b p limit (refused e) (refused g) n h.0 c h.1).0));
  completes = λ h. open_refused rule b p limit h.0 h.1 e h.2 n h.3 c;
}

pub decided_refused : {T : Type 0} (rule : MacRule) (b p : List ℕ) (limit old new : ℕ) (e : TransferError) → RefusedAfter (λ e n. HasVerdictUnder rule b p limit (refused e) n) old new e → IsDecidedUnder {T = T} rule b p limit (Err e)
decided_refused rule b p limit old new e h = decided_by rule b p limit e (refusal (λ e n. HasVerdictUnder rule b p limit (refused e) n) old new e h)

pub decided_opened : {T : Type 0} (rule : MacRule) (b p : List ℕ) (limit : ℕ) (t : T) (gss : List (List SafeBag)) (ks : List (List ℕ)) (n : ℕ) → OpensUnder rule b p gss ks n → n ≤ limit → IsDecidedUnder rule b p limit (Ok t)
decided_opened rule b p limit t gss ks n o le = record {
  refuses = λ e c. open_refused rule b p limit gss ks e n c.0 (open_comes rule b p limit gss ks n o le) c.1;
  completes = λ c. inl refl;
}

pub decided : (rule : MacRule) (b p : List ℕ) (limit old new : ℕ) (r : Result BagsAndKeys TransferError)
    → IfOk r (λ o. (n : ℕ) × HasVerdictUnder rule b p limit (opened o.contents o.keys) n × (new ≡ old + n))
    → IfErr r (RefusedAfter (λ e n. HasVerdictUnder rule b p limit (refused e) n) old new) → IsDecidedUnder rule b p limit r
decided rule b p limit old new (Ok o) h k = record {
  refuses = λ e c. open_refused rule b p limit o.contents o.keys e h.0 c.0 h.1 c.1;
  completes = λ c. inl refl;
}
decided rule b p limit old new (Err e) h k = decided_refused rule b p limit old new e k

pub opens : (rule : MacRule) (b p : List ℕ) (limit old new : ℕ) (r : Result BagsAndKeys TransferError)
    → IfOk r (λ o. (n : ℕ) × HasVerdictUnder rule b p limit (opened o.contents o.keys) n × (new ≡ old + n))
    → IfOk r (λ o. (n : ℕ) × OpensUnder rule b p o.contents o.keys n × (n ≤ limit) × (new ≡ old + n))
opens rule b p limit old new (Ok o) h = let v = verdict_open rule b p limit o.contents o.keys h.0 h.1 in (h.0, v.0, v.1, h.2)
opens rule b p limit old new (Err e) h = tt
