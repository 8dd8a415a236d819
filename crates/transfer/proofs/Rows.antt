-- The rows of the table of causes.
use Rattle.std.proofs.Common.{ℕ, ◌≡◌, ◌+◌, ◌≤◌, ◌<◌, inl, inr, List, length, refl, arith, subst, true, false, Bor}
use Rattle.std.specs.Prelude.{Option, Some, None, Result, Ok, Err, IfOk, IfErr}
use Rattle.std.specs.List.{sum_by}
use Rattle.p12.specs.declared.pfx.PFX.{PFX}
use Rattle.p12.specs.declared.mac_data.MacData.{MacData}
use Rattle.p12.specs.declared.content_info.ContentInfo.{ContentInfo}
use Rattle.p12.specs.declared.content_info.ContentInfo.TheVariants as content
use Rattle.p12.specs.declared.content_info.ContentView.{ContentView}
use Rattle.p12.specs.declared.content_info.ContentView.TheVariants as view
use Rattle.p12.specs.declared.place.Place.{Place}
use Rattle.p12.specs.declared.safe_bag.SafeBag.{SafeBag}
use Rattle.p12.specs.ContentView.{seen_content}
use Rattle.p12.specs.ContentInfo.{IsContents, NoContents}
use Rattle.p12.specs.MacData.{is_mac_digest, mac_agrees, mac_steps}
use Rattle.pkcs12_kdf.specs.Password.{bmp_password}
use Rattle.p12.specs.Pfx.{IsStore, NoStore}
use Rattle.p12.specs.Walk.{Walk}
use Rattle.transfer.specs.Limits.{store_limit}
use Rattle.transfer.specs.declared.store.error.TransferError.{TransferError}
use Rattle.transfer.specs.declared.store.error.TransferError.TheVariants.{TooLong, Malformed, Unsupported, MacMissing, MacUnsupported, ZeroIterations, WorkLimit, MacMismatch, ContentMalformed}
use Rattle.transfer.specs.declared.store.budget.Budget.{Budget}
use Rattle.transfer.specs.declared.store.open.Listed.{Listed}
use Rattle.transfer.specs.InPlace.{AreListed, AreOpened, StandAt}
use Rattle.transfer.specs.OpenedSafe.{contents_at}
use Rattle.transfer.specs.Parts.{AreOpen, IsFirstFault}
use Rattle.transfer.specs.Opening.{HasVerdict, ContentsTable, KeysTable, MacTable, RefusedAfter, StoreTable, Verdict, all_shrouded, content_share, key_share, of_contents, of_keys, opened, refused}
use Rattle.transfer.specs.Verdicts.{IsMacOk}
use Rattle.transfer.proofs.Faults.{refused_later, refused_after_as, true_false}
use Rattle.transfer.proofs.BagsInPlace.{stand_are, stand_lists}
use Rattle.transfer.proofs.Lengths.{contents_within}

mac_none : {P : Type 0} (r : Option MacData) (m : MacData) → r ≡ Some m → r ≡ None → P
mac_none r m h k = grind (arith, h, k)

-- ---- Contents

pub content_fault : (p : List ℕ) (limit sum : ℕ) (cs : List ContentInfo) (e : TransferError) (k : ℕ) → IsFirstFault (of_contents p limit) limit sum cs e k
    → ContentsTable p limit sum cs (refused e) (sum + k)
unfolding ContentsTable
content_fault p limit sum cs e k h = inl (e, k, h, refl, refl)

pub contents_then : (p : List ℕ) (limit sum next : ℕ) (cs : List ContentInfo) (gss : List (List SafeBag)) (w : Verdict) (n : ℕ) → AreOpen (of_contents p limit) limit sum cs gss
    → next ≡ sum + sum_by content_share cs → KeysTable p limit next gss w n → ContentsTable p limit sum cs w n
unfolding ContentsTable
contents_then p limit sum next cs gss w n a is t = inr (gss, a, subst (λ s. KeysTable p limit s gss w n) is t)

-- ---- Keys

pub key_fault : (p : List ℕ) (limit sum : ℕ) (gss : List (List SafeBag)) (e : TransferError) (k : ℕ) → IsFirstFault (of_keys p limit) limit sum (all_shrouded gss) e k → KeysTable p limit sum gss (refused e) (sum + k)
key_fault p limit sum gss e k h = inl (e, k, h, refl, refl)

pub all_open : (p : List ℕ) (limit sum : ℕ) (gss : List (List SafeBag)) (ks : List (List ℕ)) → AreOpen (of_keys p limit) limit sum (all_shrouded gss) ks
    → KeysTable p limit sum gss (opened gss ks) (sum + sum_by key_share (all_shrouded gss))
all_open p limit sum gss ks a = inr (ks, a, (refl, refl))

-- ---- The MAC

pub mac_unsupported : (p : List ℕ) (limit : ℕ) (v : List ℕ) (m : MacData) → is_mac_digest m.mac.digest_algorithm ≡ false → MacTable p limit v m (refused MacUnsupported) 0
unfolding MacTable
mac_unsupported p limit v m h = inl (h, refl, refl)

-- the steps of a MAC that can be tested
pub mac_counted : (m : MacData) (old new : ℕ) → is_mac_digest m.mac.digest_algorithm ≡ true → new ≡ old + mac_steps m → new ≡ old + m.iterations
mac_counted m old new s h = grind (arith, s, h)

pub no_rounds : (p : List ℕ) (limit : ℕ) (v : List ℕ) (m : MacData) → is_mac_digest m.mac.digest_algorithm ≡ true → m.iterations ≡ 0 → MacTable p limit v m (refused ZeroIterations) 0
unfolding MacTable
no_rounds p limit v m s h = inr (λ f. true_false _ s f, inl (h, refl, refl))

pub too_much : (p : List ℕ) (limit : ℕ) (v : List ℕ) (m : MacData) → is_mac_digest m.mac.digest_algorithm ≡ true → 0 < m.iterations → limit < m.iterations → MacTable p limit v m (refused WorkLimit) 0
unfolding MacTable
too_much p limit v m s r h = inr (λ f. true_false _ s f, inr (λ z. omega (arith, z, r), inl (h, refl, refl)))

pub mismatch : (p : List ℕ) (limit : ℕ) (v : List ℕ) (m : MacData) → is_mac_digest m.mac.digest_algorithm ≡ true → 0 < m.iterations → m.iterations ≤ limit → mac_agrees m (bmp_password p) v ≡ false
    → MacTable p limit v m (refused MacMismatch) m.iterations
unfolding MacTable
mismatch p limit v m s r l h = inr (λ f. true_false _ s f, inr (λ z. omega (arith, z, r), inr (λ z. omega (arith, z, l), inl (h, refl, refl))))

pub no_contents : (p : List ℕ) (limit : ℕ) (v : List ℕ) (m : MacData) → IsMacOk p v m → m.iterations ≤ limit → NoContents v → MacTable p limit v m (refused ContentMalformed) m.iterations
unfolding MacTable
no_contents p limit v m ok l k =
    inr (λ f. true_false _ ok.known f, inr (λ z. omega (arith, z, ok.some_rounds), inr (λ z. omega (arith, z, l), inr (λ f. true_false _ ok.agrees f, inl (k, refl, refl)))))

pub has_contents : (p : List ℕ) (limit : ℕ) (v : List ℕ) (m : MacData) (cs : List ContentInfo) (w : Verdict) (n : ℕ) → IsMacOk p v m → m.iterations ≤ limit → IsContents v cs
    → ContentsTable p limit m.iterations cs w n → MacTable p limit v m w n
unfolding MacTable
has_contents p limit v m cs w n ok l k t =
    inr (λ f. true_false _ ok.known f, inr (λ z. omega (arith, z, ok.some_rounds), inr (λ z. omega (arith, z, l), inr (λ f. true_false _ ok.agrees f, inr (λ none. none cs k, (cs, k, t))))))

-- ---- The contents of a store whose MAC agrees

pub listed_so : (p : List ℕ) (limit : ℕ) (text : Bor (List ℕ)) (m : MacData) (contents : Walk ContentInfo) (budget : Budget) → IsMacOk p text.now m → m.iterations ≤ limit → length text.now ≤ store_limit
    → IsContents text.now contents.left → contents.bytes ≡ text.now → budget.spent ≡ m.iterations → AreListed (MacTable p limit text.now m) p limit (record { text = text; contents = contents; budget = budget })
listed_so p limit text m contents budget ok within short is bytes spent = record {
  bytes = bytes;
  short = short;
  fit = contents_within text.now contents.left short is;
  decides = λ w n t. has_contents p limit text.now m contents.left w n ok within is (subst (λ s. ContentsTable p limit s contents.left w n) spent t);
}

-- What is decided by T is decided by U.
pub listed_within : (T U : Verdict → ℕ → Type 0) (p : List ℕ) (limit old new : ℕ) (r : Result Listed TransferError) → ((w : Verdict) (n : ℕ) → T w n → U w n)
    → IfOk r (λ l. AreListed T p limit l × (l.budget.limit ≡ limit) × (new ≡ old + l.budget.spent))
    → IfOk r (λ l. AreListed U p limit l × (l.budget.limit ≡ limit) × (new ≡ old + l.budget.spent))
listed_within T U p limit old new (Ok l) f h = (record { bytes = h.0.bytes; short = h.0.short; fit = h.0.fit; decides = λ w n t. f w n (h.0.decides w n t) }, h.1, h.2)
listed_within T U p limit old new (Err e) f h = tt

module _ (T : Verdict → ℕ → Type 0) (p : List ℕ) (limit : ℕ) (l : Listed) (listed : AreListed T p limit l) (same : l.budget.limit ≡ limit) where
  -- What the keys of opened contents come to decides T.
  pub contents_decide : (now : ℕ) (gss : List (List SafeBag)) → AreOpen (of_contents p l.budget.limit) l.budget.limit l.budget.spent l.contents.left gss → now ≡ l.budget.spent + sum_by content_share l.contents.left
      → (w : Verdict) (n : ℕ) → KeysTable p limit now gss w n → T w n
  contents_decide now gss a is w n t =
      listed.decides w n (contents_then p limit l.budget.spent now l.contents.left gss w n (subst (λ k. AreOpen (of_contents p k) k l.budget.spent l.contents.left gss) same a) is t)

  pub contents_so : (text : List ℕ) (places : List Place) (now : ℕ) (gss : List (List SafeBag)) → AreOpen (of_contents p l.budget.limit) l.budget.limit l.budget.spent l.contents.left gss → StandAt text places gss
      → length text ≤ store_limit → now ≡ l.budget.spent + sum_by content_share l.contents.left → AreOpened T p limit text places now
  contents_so text places now gss a stand short n = record {
    short = short;
    lists = stand_lists text 0 places gss stand.each stand.order;
    decides = λ w m t. contents_decide now gss a n w m (subst (λ g. KeysTable p limit now g w m) (stand_are text places gss stand.each) t);
  }

  pub contents_refused_so : (old mid new : ℕ) (e : TransferError) → mid ≡ old + l.budget.spent → RefusedAfter (IsFirstFault (of_contents p l.budget.limit) l.budget.limit l.budget.spent l.contents.left) mid new e
      → RefusedAfter (λ e n. T (refused e) n) old new e
  contents_refused_so old mid new e steps h =
      refused_later (IsFirstFault (of_contents p limit) limit l.budget.spent l.contents.left) (λ e n. T (refused e) n) old mid new l.budget.spent steps
      (λ e n f. listed.decides (refused e) (l.budget.spent + n) (content_fault p limit l.budget.spent l.contents.left e n f)) e
      (subst (λ k. RefusedAfter (IsFirstFault (of_contents p k) k l.budget.spent l.contents.left) mid new e) same h)

-- ---- The store

pub too_long : (b p : List ℕ) (limit : ℕ) → store_limit < length b → HasVerdict b p limit (refused TooLong) 0
unfolding HasVerdict
too_long b p limit h = inl (h, refl, refl)

pub no_store : (b p : List ℕ) (limit : ℕ) → length b ≤ store_limit → NoStore b → HasVerdict b p limit (refused Malformed) 0
unfolding HasVerdict
no_store b p limit h k = inr (λ z. omega (arith, z, h), inl (k, refl, refl))

pub has_store : (b p : List ℕ) (limit : ℕ) (s : PFX) (w : Verdict) (n : ℕ) → length b ≤ store_limit → IsStore b s → StoreTable p limit s w n → HasVerdict b p limit w n
unfolding HasVerdict
has_store b p limit s w n h k t = inr (λ z. omega (arith, z, h), inr (λ none. none s k, (s, k, t)))

pub no_data : (p : List ℕ) (limit : ℕ) (s : PFX) → ((v : List ℕ) → s.auth_safe ≡ content.Data v → ⊥) → StoreTable p limit s (refused Unsupported) 0
no_data p limit s h = inl (h, refl, refl)

-- A content that is lent and not plain is no data.
pub not_plain : (v : ContentView) → ((x : Bor (List ℕ)) (at : Place) → v ≡ view.Plain x at → ⊥) → (b : List ℕ) → seen_content v ≡ content.Data b → ⊥
not_plain (view.Plain x at) none b h = none x at refl
not_plain (view.Encrypted a x at) none b h = absurd cc
not_plain (view.Other k x) none b h = absurd cc

pub no_mac : (p : List ℕ) (limit : ℕ) (s : PFX) (v : List ℕ) → s.auth_safe ≡ content.Data v → s.mac_data ≡ None → StoreTable p limit s (refused MacMissing) 0
no_mac p limit s v h k = inr (λ none. none v h, (v, h, inl (k, refl, refl)))

pub has_mac : (p : List ℕ) (limit : ℕ) (s : PFX) (v : List ℕ) (m : MacData) (w : Verdict) (n : ℕ) → s.auth_safe ≡ content.Data v → s.mac_data ≡ Some m → MacTable p limit v m w n → StoreTable p limit s w n
has_mac p limit s v m w n h k t = inr (λ none. none v h, (v, h, inr (λ z. mac_none _ m k z, (m, k, t))))

-- ---- A part of the opening is what the whole comes to

-- A refusal by F is one by G, where no step was taken before.
pub refused_still : {T : Type 0} (r : Result T TransferError) (F G : TransferError → ℕ → Type 0) (old new : ℕ) → ((e : TransferError) (n : ℕ) → F e n → G e n) → IfErr r (RefusedAfter F old new)
    → IfErr r (RefusedAfter G old new)
refused_still (Ok v) F G old new f h = tt
refused_still (Err e) F G old new f h = refused_after_as F G old new f e h

-- ---- The keys of a store whose contents are open

module _ (T : Verdict → ℕ → Type 0) (p : List ℕ) (limit allowed : ℕ) (text : List ℕ) (places : List Place) (spent : ℕ) (o : AreOpened T p limit text places spent) (same : allowed ≡ limit) where
  pub opened_so : (ks : List (List ℕ)) → AreOpen (of_keys p allowed) allowed spent (all_shrouded (contents_at text places)) ks
      → T (opened (contents_at text places) ks) (spent + sum_by key_share (all_shrouded (contents_at text places)))
  opened_so ks a = let gss = contents_at text places in o.decides _ _ (all_open p limit spent gss ks (subst (λ n. AreOpen (of_keys p n) n spent (all_shrouded gss) ks) same a))

  pub refused_so : (old mid new : ℕ) (e : TransferError) → mid ≡ old + spent → RefusedAfter (IsFirstFault (of_keys p allowed) allowed spent (all_shrouded (contents_at text places))) mid new e
      → RefusedAfter (λ e n. T (refused e) n) old new e
  refused_so old mid new e is h =
      let gss = contents_at text places in
      refused_later (IsFirstFault (of_keys p limit) limit spent (all_shrouded gss)) (λ e n. T (refused e) n) old mid new spent is (λ e n f. o.decides _ _ (key_fault p limit spent gss e n f)) e
      (subst (λ n. RefusedAfter (IsFirstFault (of_keys p n) n spent (all_shrouded gss)) mid new e) same h)
