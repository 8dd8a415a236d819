-- No cause refuses a store exactly where it is valid.
use Rattle.std.proofs.Common.{ℕ, ◌≡◌, ◌+◌, ◌≤◌, ◌<◌, inl, inr, List, refl, sym, ap, ◌∙◌, arith, subst, Bool, true, false}
use Rattle.std.specs.Prelude.{None, ◌↔◌}
use Rattle.std.specs.List.{sum_by}
use Rattle.p12.specs.declared.mac_data.MacData.{MacData}
use Rattle.p12.specs.declared.content_info.ContentInfo.{ContentInfo}
use Rattle.p12.specs.declared.safe_bag.SafeBag.{SafeBag}
use Rattle.p12.specs.ContentInfo.{IsContents}
use Rattle.transfer.specs.declared.store.error.TransferError.{TransferError}
use Rattle.transfer.specs.Parts.{AreOpen}
use Rattle.transfer.specs.Opening.{HasVerdict, ContentsTable, FirstCause, MacTable, all_shrouded, content_share, key_share, of_contents, of_keys, opened, refused}
use Rattle.transfer.specs.Transferred.{TransfersInTwo}
use Rattle.transfer.specs.Verdicts.{IsMacOk, IsValid, StoreOpens}
use Rattle.transfer.proofs.Sole.{verdict_sole}
use Rattle.transfer.proofs.Rows.{all_open, contents_then, has_contents, has_mac, has_store}

pub not_refused : (gss : List (List SafeBag)) (ks : List (List ℕ)) (e : TransferError) → opened gss ks ≡ refused e → ⊥
not_refused gss ks e h = grind (arith, h)

pub first_same : (gss hss : List (List SafeBag)) (ks js : List (List ℕ)) → opened gss ks ≡ opened hss js → gss ≡ hss
first_same gss hss ks js h = grind (arith, h)

pub second_same : (gss hss : List (List SafeBag)) (ks js : List (List ℕ)) → opened gss ks ≡ opened hss js → ks ≡ js
second_same gss hss ks js h = grind (arith, h)

not_false : (b : Bool) → (b ≡ false → ⊥) → b ≡ true
not_false true h = refl
not_false false h = absurd (h refl)

not_zero : (n : ℕ) → (n ≡ 0 → ⊥) → 1 ≤ n
not_zero n h = grind (arith, h)

pub not_less : (n m : ℕ) → (n < m → ⊥) → m ≤ n
not_less n m h = grind (arith, h)

-- What a table that ends at `opened` says of the contents and the keys.
record PartsOpen (p : List ℕ) (limit sum : ℕ) (cs : List ContentInfo) (gss : List (List SafeBag)) (ks : List (List ℕ)) (n : ℕ) : Type 0 where
  pub contents : AreOpen (of_contents p limit) limit sum cs gss
  pub keys : AreOpen (of_keys p limit) limit (sum + sum_by content_share cs) (all_shrouded gss) ks
  pub steps : n ≡ sum + sum_by content_share cs + sum_by key_share (all_shrouded gss)

contents_open : (p : List ℕ) (limit sum : ℕ) (cs : List ContentInfo) (gss : List (List SafeBag)) (ks : List (List ℕ)) (n : ℕ)
    → ContentsTable p limit sum cs (opened gss ks) n → PartsOpen p limit sum cs gss ks n
unfolding ContentsTable
contents_open p limit sum cs gss ks n (inl h) = absurd (not_refused gss ks h.0 h.3)
contents_open p limit sum cs gss ks n (inr (hss, a, inl h)) = absurd (not_refused gss ks h.0 h.3)
contents_open p limit sum cs gss ks n (inr (hss, a, inr (js, b, h))) =
    let one = sym (first_same gss hss ks js h.0) in
    let two = sym (second_same gss hss ks js h.0) in
    record {
      contents = subst (λ t. AreOpen (of_contents p limit) limit sum cs t) one a;
      keys = subst (λ t. AreOpen (of_keys p limit) limit (sum + sum_by content_share cs) (all_shrouded gss) t) two
          (subst (λ t. AreOpen (of_keys p limit) limit (sum + sum_by content_share cs) (all_shrouded t) js) one b);
      steps = h.1 ∙ ap (λ t. sum + sum_by content_share cs + sum_by key_share (all_shrouded t)) one;
    }

-- And of the MAC.
record MacOpen (p : List ℕ) (limit : ℕ) (v : List ℕ) (m : MacData) (gss : List (List SafeBag)) (ks : List (List ℕ)) (n : ℕ) : Type 0 where
  pub ok : IsMacOk p v m
  pub cs : List ContentInfo
  pub is : IsContents v cs
  pub parts : PartsOpen p limit m.iterations cs gss ks n

mac_open : (p : List ℕ) (limit : ℕ) (v : List ℕ) (m : MacData) (gss : List (List SafeBag)) (ks : List (List ℕ)) (n : ℕ) → MacTable p limit v m (opened gss ks) n → MacOpen p limit v m gss ks n
unfolding MacTable
mac_open p limit v m gss ks n (inl h) = absurd (not_refused gss ks _ h.1)
mac_open p limit v m gss ks n (inr (a, inl h)) = absurd (not_refused gss ks _ h.1)
mac_open p limit v m gss ks n (inr (a, inr (b, inl h))) = absurd (not_refused gss ks _ h.1)
mac_open p limit v m gss ks n (inr (a, inr (b, inr (c, inl h)))) = absurd (not_refused gss ks _ h.1)
mac_open p limit v m gss ks n (inr (a, inr (b, inr (c, inr (d, inl h))))) = absurd (not_refused gss ks _ h.1)
mac_open p limit v m gss ks n (inr (a, inr (b, inr (c, inr (d, inr (e, (cs, is, t))))))) = record {
  ok = record { known = not_false _ a; some_rounds = not_zero _ b; agrees = not_false _ d };
  cs = cs;
  is = is;
  parts = contents_open p limit m.iterations cs gss ks n t;
}

pub verdict_open : (b p : List ℕ) (limit : ℕ) (gss : List (List SafeBag)) (ks : List (List ℕ)) (n : ℕ) → HasVerdict b p limit (opened gss ks) n → StoreOpens b p gss ks n × (n ≤ limit)
unfolding HasVerdict
verdict_open b p limit gss ks n (inl h) = absurd (not_refused gss ks _ h.1)
verdict_open b p limit gss ks n (inr (long, inl h)) = absurd (not_refused gss ks _ h.1)
verdict_open b p limit gss ks n (inr (long, inr (none, (s, is, inl h)))) = absurd (not_refused gss ks _ h.1)
verdict_open b p limit gss ks n (inr (long, inr (none, (s, is, inr (other, (v, at, inl h)))))) = absurd (not_refused gss ks _ h.1)
verdict_open b p limit gss ks n (inr (long, inr (none, (s, is, inr (other, (v, at, inr (bare, (m, has, t)))))))) =
    let o = mac_open p limit v m gss ks n t in (
      record {
        short = not_less _ _ long;
        store = s;
        is = is;
        text = v;
        is_data = at;
        mac = m;
        has = has;
        mac_ok = o.ok;
        parts = o.cs;
        opening = record { contents = o.is; bags = o.parts.contents.each; keys = o.parts.keys.each };
        work = o.parts.steps;
      },
      omega (arith, o.parts.steps, o.parts.keys.within),
    )

pub open_comes : (b p : List ℕ) (limit : ℕ) (gss : List (List SafeBag)) (ks : List (List ℕ)) (n : ℕ) → StoreOpens b p gss ks n → n ≤ limit → HasVerdict b p limit (opened gss ks) n
open_comes b p limit gss ks n o le =
    let m = o.mac in
    let cs = o.parts in
    let c : AreOpen (of_contents p limit) limit m.iterations cs gss = record { each = o.opening.bags; within = omega (arith, o.work, le) } in
    let k : AreOpen (of_keys p limit) limit (m.iterations + sum_by content_share cs) (all_shrouded gss) ks = record { each = o.opening.keys; within = omega (arith, o.work, le) } in
    let t = contents_then p limit m.iterations (m.iterations + sum_by content_share cs) cs gss (opened gss ks) _ c refl (all_open p limit (m.iterations + sum_by content_share cs) gss ks k) in
    has_store b p limit o.store (opened gss ks) n o.short o.is (has_mac p limit o.store o.text m (opened gss ks) n o.is_data o.has
    (has_contents p limit o.text m cs (opened gss ks) n o.mac_ok (omega (arith, o.work, le)) o.opening.contents
    (subst (λ n. ContentsTable p limit m.iterations cs (opened gss ks) n) (omega (arith, o.work)) t)))

pub opened_exactly : (b p : List ℕ) (limit : ℕ) (gss : List (List SafeBag)) (ks : List (List ℕ)) (n : ℕ) → HasVerdict b p limit (opened gss ks) n ↔ (StoreOpens b p gss ks n × (n ≤ limit))
opened_exactly b p limit gss ks n = (λ h. verdict_open b p limit gss ks n h, λ h. open_comes b p limit gss ks n h.0 h.1)

pub valid_exactly : (b p : List ℕ) (limit : ℕ) → FirstCause b p limit None ↔ IsValid b p limit
valid_exactly b p limit =
    (λ h. let r = verdict_open b p limit h.0 h.1 h.2 h.3 in (h.0, h.1, h.2, r.0, r.1), λ h. (h.0, h.1, h.2, open_comes b p limit h.0 h.1 h.2 h.3 h.4))

pub transfer_in_two : TransfersInTwo
transfer_in_two c e store certificates documents = (
  λ t. let o = verdict_open store c.password c.limit t.bags t.keys t.work t.verdict in record {
    bags = t.bags;
    keys = t.keys;
    work = t.work;
    opens = o.0;
    within = o.1;
    counted = t.counted;
    seals = record { in_order = t.in_order; sealed = t.sealed };
  },
  λ o. record {
    bags = o.bags;
    keys = o.keys;
    work = o.work;
    verdict = open_comes store c.password c.limit o.bags o.keys o.work o.opens o.within;
    in_order = o.seals.in_order;
    sealed = o.seals.sealed;
    counted = o.counted;
  },
)

-- A store opens in one way: under a limit that lets both openings through it has one verdict.
pub one_opening : (b p : List ℕ) (gss hss : List (List SafeBag)) (ks js : List (List ℕ)) (n m : ℕ) → StoreOpens b p gss ks n → StoreOpens b p hss js m → (gss ≡ hss) × (ks ≡ js) × (n ≡ m)
one_opening b p gss hss ks js n m o r =
    let h = (opened_exactly b p (n + m) gss ks n).1 (o, omega arith) in
    let k = (opened_exactly b p (n + m) hss js m).1 (r, omega arith) in
    let w = verdict_sole b p (n + m) (opened gss ks) (opened hss js) n m h k in
    (first_same gss hss ks js w.0, second_same gss hss ks js w.0, w.1)
