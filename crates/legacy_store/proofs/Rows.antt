-- The rows of the table of causes.
use Rattle.std.proofs.Common.{ℕ, ◌≡◌, ◌≢◌, ◌+◌, ◌≤◌, ◌<◌, ◌^◌, inl, inr, List, [], ◌∷◌, length, get_or, refl, arith, subst, sym, true, false}
use Rattle.std.specs.Prelude.{All, Option, Some, None}
use Rattle.std.specs.List.{sum_by}
use Rattle.std.proofs.lemmas.List.Elements.{All-cons, All-nil}
use Rattle.asn1_core.specs.Sets.{Each}
use Rattle.p12.specs.declared.pfx.PFX.{PFX}
use Rattle.p12.specs.declared.mac_data.MacData.{MacData}
use Rattle.p12.specs.declared.content_info.ContentInfo.{ContentInfo}
use Rattle.p12.specs.declared.content_info.ContentInfo.TheVariants as content
use Rattle.p12.specs.declared.safe_bag.SafeBag.{SafeBag}
use Rattle.p12.specs.ContentInfo.{ContentFits, IsContents, SealFits}
use Rattle.p12.specs.SafeBag.{BagFits}
use Rattle.p12.proofs.DefinitionLaws.{bags_fit, contents_fit}
use Rattle.transfer.specs.Limits.{store_limit}
use Rattle.transfer.specs.Opening.{RefusedAfter, Verdict, all_shrouded, opened, refused}
use Rattle.transfer.specs.Parts.{AreOpen, IsFirstFault}
use Rattle.transfer.specs.declared.store.error.TransferError.{TransferError}
use Rattle.transfer.specs.declared.store.error.TransferError.TheVariants.{TooLong, Malformed, Unsupported, MacUnsupported, ZeroIterations, WorkLimit, MacMismatch, ContentMalformed}
use Rattle.legacy_store.specs.Forms.{Forms, forms_of, null_forms}
use Rattle.legacy_store.specs.declared.mac_rule.MacRule.{MacRule}
use Rattle.legacy_store.specs.Mac.{is_legacy_digest, legacy_agrees, mac_cost, mac_count}
use Rattle.legacy_store.specs.Texts.{IsLegacySafe, IsLegacyStore, NoLegacySafe, NoLegacyStore}
use Rattle.legacy_store.specs.Opening.{BareTable, HasVerdictUnder, LegacyContentsTable, LegacyHolds, LegacyKeysTable, LegacyMacTable, LegacyStoreTable, LegacyTextTable, NullTable, legacy_contents, legacy_key_share, legacy_keys, legacy_share}
use Rattle.transfer.specs.TransferError.{RefusedBy}
use Rattle.transfer.proofs.Faults.{refused_after_as, refused_as, refused_later, true_false}

pub mac_none : {P : Type 0} (r : Option MacData) (m : MacData) → r ≡ Some m → r ≡ None → P
mac_none r m h k = grind (arith, h, k)

-- ---- What a store's parts fit

seal_fits : (n : ℕ) (c : ContentInfo) → n < 2 ^ 32 → ContentFits n c → SealFits c
seal_fits n (content.Data v) h f = (omega arith, omega arith)
seal_fits n (content.EncryptedData d) h f = (omega (arith, h, f.0), omega (arith, h, f.1))
seal_fits n (content.OtherContext o) h f = (omega arith, omega arith)

contents_seal : (v : List ℕ) (cs : List ContentInfo) → length v < 2 ^ 32 → IsContents v cs → All SealFits cs
contents_seal v cs h is = λ k d lt. seal_fits (length v) (get_or cs k d) h (contents_fit v cs is k d lt)

contents_short : (v : List ℕ) (cs : List ContentInfo) → IsContents v cs → length v < 2 ^ 32
unfolding IsContents
contents_short v cs is = is.1

pub safe_seal : (v : List ℕ) (cs : List ContentInfo) → IsLegacySafe v cs → All SealFits cs
unfolding IsLegacySafe
safe_seal v cs (inl is) = contents_seal v cs (contents_short v cs is) is
safe_seal v cs (inr (d, none, ber, is)) = contents_seal d cs (contents_short d cs is) is

pub held_fit : (f : Forms) (cs : List ContentInfo) (gss : List (List SafeBag)) → Each (LegacyHolds f) cs gss → All (All BagFits) gss
held_fit f [] [] e = All-nil (All BagFits)
held_fit f [] (gs ∷ gss) e = absurd e
held_fit f (c ∷ cs) [] e = absurd e
held_fit f (c ∷ cs) (gs ∷ gss) e = All-cons (All BagFits) gs gss (bags_fit e.0.0 gs e.0.2) (held_fit f cs gss e.1)

-- ---- Contents and keys

pub no_contents : (f : Forms) (limit sum : ℕ) (v : List ℕ) → NoLegacySafe v → LegacyTextTable f limit sum v (refused ContentMalformed) (sum + 0)
unfolding LegacyTextTable
no_contents f limit sum v h = inl (h, refl, omega arith)

pub has_contents : (f : Forms) (limit sum : ℕ) (v : List ℕ) (cs : List ContentInfo) (w : Verdict) (n : ℕ) → IsLegacySafe v cs → LegacyContentsTable f limit sum cs w n → LegacyTextTable f limit sum v w n
unfolding LegacyTextTable
has_contents f limit sum v cs w n is t = inr (λ none. none cs is, (cs, is, t))

content_fault : (f : Forms) (limit sum : ℕ) (cs : List ContentInfo) (e : TransferError) (k : ℕ) → IsFirstFault (legacy_contents f limit) limit sum cs e k
    → LegacyContentsTable f limit sum cs (refused e) (sum + k)
unfolding LegacyContentsTable
content_fault f limit sum cs e k h = inl (e, k, h, refl, refl)

pub contents_then : (f : Forms) (limit sum : ℕ) (cs : List ContentInfo) (gss : List (List SafeBag)) (w : Verdict) (n : ℕ) → AreOpen (legacy_contents f limit) limit sum cs gss
    → LegacyKeysTable f limit (sum + sum_by legacy_share cs) gss w n → LegacyContentsTable f limit sum cs w n
unfolding LegacyContentsTable
contents_then f limit sum cs gss w n a t = inr (gss, a, t)

key_fault : (f : Forms) (limit sum : ℕ) (gss : List (List SafeBag)) (e : TransferError) (k : ℕ) → IsFirstFault (legacy_keys f limit) limit sum (all_shrouded gss) e k
    → LegacyKeysTable f limit sum gss (refused e) (sum + k)
key_fault f limit sum gss e k h = inl (e, k, h, refl, refl)

pub all_open : (f : Forms) (limit sum : ℕ) (gss : List (List SafeBag)) (ks : List (List ℕ)) → AreOpen (legacy_keys f limit) limit sum (all_shrouded gss) ks
    → LegacyKeysTable f limit sum gss (opened gss ks) (sum + sum_by legacy_key_share (all_shrouded gss))
all_open f limit sum gss ks a = inr (ks, a, (refl, refl))

module _ (f : Forms) (limit spent : ℕ) (v : List ℕ) (cs : List ContentInfo) (is : IsLegacySafe v cs) where
  -- A content has the first fault.
  pub contents_refused : (old new : ℕ) (e : TransferError) → RefusedAfter (IsFirstFault (legacy_contents f limit) limit spent cs) old new e
      → RefusedAfter (λ e n. LegacyTextTable f limit spent v (refused e) (spent + n)) old new e
  contents_refused old new e h =
      refused_after_as (IsFirstFault (legacy_contents f limit) limit spent cs) (λ e n. LegacyTextTable f limit spent v (refused e) (spent + n)) old new
      (λ e n g. has_contents f limit spent v cs (refused e) (spent + n) is (content_fault f limit spent cs e n g)) e h

  module _ (gss : List (List SafeBag)) (a : AreOpen (legacy_contents f limit) limit spent cs gss) where
    keys_decide : (now : ℕ) (w : Verdict) (n m : ℕ) → now ≡ spent + sum_by legacy_share cs → n ≡ m → LegacyKeysTable f limit now gss w n → LegacyTextTable f limit spent v w m
    keys_decide now w n m is_now same t =
        has_contents f limit spent v cs w m is
        (contents_then f limit spent cs gss w m a (subst (λ k. LegacyKeysTable f limit (spent + sum_by legacy_share cs) gss w k) same (subst (λ k. LegacyKeysTable f limit k gss w n) is_now t)))

    -- A key has the first fault.
    pub keys_refused : (now old mid new : ℕ) (e : TransferError) → now ≡ spent + sum_by legacy_share cs → mid ≡ old + sum_by legacy_share cs
        → RefusedAfter (IsFirstFault (legacy_keys f limit) limit now (all_shrouded gss)) mid new e → RefusedAfter (λ e n. LegacyTextTable f limit spent v (refused e) (spent + n)) old new e
    keys_refused now old mid new e is_now is_mid h =
        refused_later (IsFirstFault (legacy_keys f limit) limit now (all_shrouded gss)) (λ e n. LegacyTextTable f limit spent v (refused e) (spent + n)) old mid new (sum_by legacy_share cs) is_mid
        (λ e n g. keys_decide now (refused e) (now + n) (spent + (sum_by legacy_share cs + n)) is_now (omega (arith, is_now)) (key_fault f limit now gss e n g)) e h

    -- All are opened.
    pub keys_opened : (now : ℕ) (ks : List (List ℕ)) → now ≡ spent + sum_by legacy_share cs → AreOpen (legacy_keys f limit) limit now (all_shrouded gss) ks
        → LegacyTextTable f limit spent v (opened gss ks) (spent + (sum_by legacy_share cs + sum_by legacy_key_share (all_shrouded gss)))
    keys_opened now ks is_now b =
        keys_decide now (opened gss ks) (now + sum_by legacy_key_share (all_shrouded gss)) _ is_now (omega (arith, is_now)) (all_open f limit now gss ks b)

-- ---- A text of no store

pub malformed_so : (F : TransferError → ℕ → Type 0) (P : Type 0) (old new : ℕ) → (P → F Malformed 0) → new ≡ old → (e : TransferError) → RefusedBy (λ e. (e ≡ Malformed) × P) ⊥ e
    → RefusedAfter F old new e
malformed_so F P old new f is e h =
    refused_as (λ e. (e ≡ Malformed) × P) (λ e. (n : ℕ) × F e n × (new ≡ old + n)) ⊥ ⊥ (λ e h. (0, subst (λ x. F x 0) (sym h.0) (f h.1), omega (arith, is))) (λ h. h) e h

-- ---- The MAC

module _ (p : List ℕ) (limit : ℕ) (v : List ℕ) (m : MacData) where
  pub mac_unsupported : is_legacy_digest m.mac.digest_algorithm ≡ false → LegacyMacTable p limit v m (refused MacUnsupported) 0
  unfolding LegacyMacTable
  mac_unsupported h = inl (h, refl, refl)

  pub no_rounds : is_legacy_digest m.mac.digest_algorithm ≡ true → mac_count m ≡ 0 → LegacyMacTable p limit v m (refused ZeroIterations) 0
  unfolding LegacyMacTable
  no_rounds s h = inr (λ g. true_false _ s g, inl (h, refl, refl))

  pub too_much : is_legacy_digest m.mac.digest_algorithm ≡ true → 0 < mac_count m → limit < mac_cost m → LegacyMacTable p limit v m (refused WorkLimit) 0
  unfolding LegacyMacTable
  too_much s r h = inr (λ g. true_false _ s g, inr (λ z. omega (arith, z, r), inl (h, refl, refl)))

  pub agreed : (w : Verdict) (n : ℕ) → is_legacy_digest m.mac.digest_algorithm ≡ true → 0 < mac_count m → mac_cost m ≤ limit → legacy_agrees m (forms_of p) v ≡ true
      → LegacyTextTable (forms_of p) limit (mac_cost m) v w n → LegacyMacTable p limit v m w n
  unfolding LegacyMacTable
  agreed w n s r l h t = inr (λ g. true_false _ s g, inr (λ z. omega (arith, z, r), inr (λ z. omega (arith, z, l), inl (h, t))))

  pub disagreed : (w : Verdict) (n : ℕ) → is_legacy_digest m.mac.digest_algorithm ≡ true → 0 < mac_count m → mac_cost m ≤ limit → legacy_agrees m (forms_of p) v ≡ false
      → NullTable p limit v m w n → LegacyMacTable p limit v m w n
  unfolding LegacyMacTable
  disagreed w n s r l h t = inr (λ g. true_false _ s g, inr (λ z. omega (arith, z, r), inr (λ z. omega (arith, z, l), inr (λ g. true_false _ g h, t))))

  -- ---- The null password

  pub not_empty : p ≢ [] → NullTable p limit v m (refused MacMismatch) (mac_cost m + 0)
  unfolding NullTable
  not_empty h = inl (h, refl, omega arith)

  pub null_too_much : p ≡ [] → limit < mac_cost m + mac_cost m → NullTable p limit v m (refused WorkLimit) (mac_cost m + 0)
  unfolding NullTable
  null_too_much e h = inr (λ ne. ne e, inl (h, refl, omega arith))

  pub null_mismatch : p ≡ [] → mac_cost m + mac_cost m ≤ limit → legacy_agrees m null_forms v ≡ false → NullTable p limit v m (refused MacMismatch) (mac_cost m + mac_cost m)
  unfolding NullTable
  null_mismatch e l h = inr (λ ne. ne e, inr (λ z. omega (arith, z, l), inl (h, refl, refl)))

  pub null_agreed : (w : Verdict) (n : ℕ) → p ≡ [] → mac_cost m + mac_cost m ≤ limit → legacy_agrees m null_forms v ≡ true → LegacyTextTable null_forms limit (mac_cost m + mac_cost m) v w n
      → NullTable p limit v m w n
  unfolding NullTable
  null_agreed w n e l h t = inr (λ ne. ne e, inr (λ z. omega (arith, z, l), inr (λ g. true_false _ h g, t)))

-- ---- The store

module _ (rule : MacRule) where
  pub too_long : (b p : List ℕ) (limit : ℕ) → store_limit < length b → HasVerdictUnder rule b p limit (refused TooLong) 0
  unfolding HasVerdictUnder
  too_long b p limit h = inl (h, refl, refl)

  pub no_store : (b p : List ℕ) (limit : ℕ) → length b ≤ store_limit → NoLegacyStore b → HasVerdictUnder rule b p limit (refused Malformed) 0
  unfolding HasVerdictUnder
  no_store b p limit h k = inr (λ z. omega (arith, z, h), inl (k, refl, refl))

  pub has_store : (b p : List ℕ) (limit : ℕ) (s : PFX) (w : Verdict) (n : ℕ) → length b ≤ store_limit → IsLegacyStore b s → LegacyStoreTable rule p limit s w n
      → HasVerdictUnder rule b p limit w n
  unfolding HasVerdictUnder
  has_store b p limit s w n h k t = inr (λ z. omega (arith, z, h), inr (λ none. none s k, (s, k, t)))

  pub no_data : (p : List ℕ) (limit : ℕ) (s : PFX) → ((v : List ℕ) → s.auth_safe ≡ content.Data v → ⊥) → LegacyStoreTable rule p limit s (refused Unsupported) 0
  no_data p limit s h = inl (h, refl, refl)

  pub no_mac : (p : List ℕ) (limit : ℕ) (s : PFX) (v : List ℕ) (w : Verdict) (n : ℕ) → s.auth_safe ≡ content.Data v → s.mac_data ≡ None → BareTable rule p limit v w n
      → LegacyStoreTable rule p limit s w n
  no_mac p limit s v w n h k t = inr (λ none. none v h, (v, h, inl (k, t)))

  pub has_mac : (p : List ℕ) (limit : ℕ) (s : PFX) (v : List ℕ) (m : MacData) (w : Verdict) (n : ℕ) → s.auth_safe ≡ content.Data v → s.mac_data ≡ Some m → LegacyMacTable p limit v m w n
      → LegacyStoreTable rule p limit s w n
  has_mac p limit s v m w n h k t = inr (λ none. none v h, (v, h, inr (λ z. mac_none _ m k z, (m, k, t))))

-- The same table at equal places.
pub text_as : (f g : Forms) (l k s t : ℕ) (v : List ℕ) (w : Verdict) (n m : ℕ) → f ≡ g → l ≡ k → s ≡ t → n ≡ m → LegacyTextTable f l s v w n → LegacyTextTable g k t v w m
text_as f g l k s t v w n m ef el es en h =
    subst (λ x. LegacyTextTable g k t v w x) en (subst (λ x. LegacyTextTable g k x v w n) es (subst (λ x. LegacyTextTable g x s v w n) el (subst (λ x. LegacyTextTable x l s v w n) ef h)))
