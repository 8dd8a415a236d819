-- A store has one verdict.
use Rattle.std.proofs.Common.{ℕ, ◌≡◌, ◌+◌, ◌≤◌, inl, inr, List, refl, sym, ◌∙◌, arith, subst, true}
use Rattle.std.specs.Prelude.{Option, Some, None}
use Rattle.std.specs.List.{sum_by}
use Rattle.ber_core.specs.BerLaws.{one_value}
use Rattle.p12.specs.declared.algorithm_identifier.AlgorithmIdentifier.{AlgorithmIdentifier}
use Rattle.p12.specs.declared.content_info.ContentInfo.{ContentInfo}
use Rattle.p12.specs.declared.content_info.ContentInfo.TheVariants as content
use Rattle.p12.specs.declared.encrypted_private_key_info.EncryptedPrivateKeyInfo.{EncryptedPrivateKeyInfo}
use Rattle.p12.specs.declared.pfx.PFX.{PFX}
use Rattle.p12.specs.declared.mac_data.MacData.{MacData}
use Rattle.p12.specs.declared.safe_bag.SafeBag.{SafeBag}
use Rattle.p12.specs.Pfx.{IsStore}
use Rattle.p12.specs.SafeBag.{IsBags, NoBags}
use Rattle.p12.proofs.DefinitionLaws.{bags_sole, contents_sole, store_sole}
use Rattle.transfer.specs.declared.store.error.TransferError.{TransferError}
use Rattle.transfer.specs.declared.store.error.TransferError.TheVariants.{ContentMalformed, KeyMalformed}
use Rattle.transfer.specs.Opening.{NoKeyText, Verdict, all_shrouded, opened}
use Rattle.transfer.specs.Verdicts.{Sole}
use Rattle.transfer.proofs.Faults.{true_false}
use Rattle.transfer.proofs.Sole.{IsFair, last_sole, of_sole, parts_sole, row_sole, some_same}
use Rattle.legacy_store.specs.Algorithm.{legacy_cost, legacy_unlock}
use Rattle.legacy_store.specs.Forms.{Forms, forms_of, forms_without_mac, null_forms}
use Rattle.legacy_store.specs.declared.mac_rule.MacRule.{MacRule}
use Rattle.legacy_store.specs.declared.mac_rule.MacRule.TheVariants.{Required, Optional}
use Rattle.legacy_store.specs.Laws.{SameWithMac}
use Rattle.legacy_store.specs.Mac.{legacy_agrees, mac_cost}
use Rattle.legacy_store.specs.Opening.{BareTable, Either, HasVerdictUnder, LegacyContentCause, LegacyContentsTable, LegacyHolds, LegacyKeyOpens, LegacyKeysTable, LegacyLockFault, LegacyMacTable, LegacyStoreTable, LegacyTextTable, NullTable, legacy_contents, legacy_key_share, legacy_keys, legacy_plain, legacy_share}
use Rattle.legacy_store.specs.Texts.{IsLegacySafe, IsLegacyStore}
use Rattle.legacy_store.proofs.Normal.{same_of}
use Rattle.legacy_store.proofs.Opened.{legacy_opened}
use Rattle.legacy_store.proofs.Rows.{mac_none}

-- ---- Texts

pub legacy_store_sole : (b : List ℕ) (s t : PFX) → IsLegacyStore b s → IsLegacyStore b t → s ≡ t
unfolding IsLegacyStore
legacy_store_sole b s t (inl p) (inl q) = store_sole b s t p q
legacy_store_sole b s t (inl p) (inr (d, none, ber, q)) = absurd (none s p)
legacy_store_sole b s t (inr (d, none, ber, p)) (inl q) = absurd (none t q)
legacy_store_sole b s t (inr (d, none, ber, p)) (inr (e, nothing, also, q)) =
    store_sole d s t p (subst (λ x. IsStore x t) (one_value b e d also ber) q)

pub legacy_safe_sole : (v : List ℕ) (cs ds : List ContentInfo) → IsLegacySafe v cs → IsLegacySafe v ds → cs ≡ ds
unfolding IsLegacySafe
legacy_safe_sole v cs ds (inl p) (inl q) = contents_sole v cs ds p q
legacy_safe_sole v cs ds (inl p) (inr (d, none, ber, q)) = absurd (none cs p)
legacy_safe_sole v cs ds (inr (d, none, ber, p)) (inl q) = absurd (none ds q)
legacy_safe_sole v cs ds (inr (d, none, ber, p)) (inr (e, nothing, also, q)) = contents_sole d cs ds p (same_of v d e ds cs ber p also q)

-- ---- Locked texts

lock_sole : (f : Forms) (limit sum : ℕ) (a : AlgorithmIdentifier) (c : List ℕ) (rest : List ℕ → TransferError → ℕ → Type 0) → ((m : List ℕ) → Sole (rest m)) → Sole (LegacyLockFault f limit sum a c rest)
lock_sole f limit sum a c rest s =
    row_sole _ _ _ _ (row_sole _ _ _ _ (row_sole _ _ _ _ (row_sole _ _ _ _
    (of_sole (λ m. legacy_unlock f a c ≡ Some m) rest (λ x y h k. some_same (legacy_unlock f a c) x y h k) (λ m h. s m)))))

none_some : (o : Option (List ℕ)) (m : List ℕ) → o ≡ None → o ≡ Some m → ⊥
none_some o m h k = grind (arith, h, k)

lock_opens : (f : Forms) (limit sum : ℕ) (a : AlgorithmIdentifier) (c : List ℕ) (rest : List ℕ → TransferError → ℕ → Type 0) (m : List ℕ) (e : TransferError) (n : ℕ)
    → legacy_unlock f a c ≡ Some m → sum + legacy_cost a ≤ limit → LegacyLockFault f limit sum a c rest e n → rest m e n
lock_opens f limit sum a c rest m e n is le (inl x) = absurd (true_false _ (legacy_opened f a c m is).openable x.0)
lock_opens f limit sum a c rest m e n is le (inr (_, inl x)) = let o = legacy_opened f a c m is in absurd (omega (arith, x.0, o.some_rounds))
lock_opens f limit sum a c rest m e n is le (inr (_, inr (_, inl x))) = absurd (omega (arith, x.0, le))
lock_opens f limit sum a c rest m e n is le (inr (_, inr (_, inr (_, inl x)))) = absurd (none_some (legacy_unlock f a c) m x.0 is)
lock_opens f limit sum a c rest m e n is le (inr (_, inr (_, inr (_, inr (_, x))))) = subst (λ t. rest t e n) (some_same (legacy_unlock f a c) x.0 m x.1 is) x.2

-- ---- Contents

content_one : (f : Forms) (c : ContentInfo) (gs hs : List SafeBag) → LegacyHolds f c gs → LegacyHolds f c hs → gs ≡ hs
content_one f c gs hs h k = bags_sole h.0 gs hs h.2 (subst (λ m. IsBags m hs) (some_same (legacy_plain f c) k.0 h.0 k.1 h.1) k.2)

content_fault_sole : (f : Forms) (limit sum : ℕ) (c : ContentInfo) → Sole (LegacyContentCause f limit sum c)
content_fault_sole f limit sum (content.Data v) e g m n h k = last_sole (NoBags v) ContentMalformed 0 e g m n h k
content_fault_sole f limit sum (content.EncryptedData d) e g m n h k =
    let a = d.encrypted_content_info.content_encryption_algorithm in
    lock_sole f limit sum a d.encrypted_content_info.encrypted_content (λ m e n. NoBags m × (e ≡ ContentMalformed) × (n ≡ legacy_cost a)) (λ m. last_sole (NoBags m) ContentMalformed (legacy_cost a)) e g m n h k
content_fault_sole f limit sum (content.OtherContext o) v w m n h k = (h.0 ∙ sym k.0, h.1 ∙ sym k.1)

content_not_both : (f : Forms) (limit sum : ℕ) (c : ContentInfo) (gs : List SafeBag) (e : TransferError) (n : ℕ) → LegacyHolds f c gs → sum + legacy_share c ≤ limit → LegacyContentCause f limit sum c e n → ⊥
content_not_both f limit sum (content.Data v) gs e n h le x = x.0 gs (subst (λ m. IsBags m gs) (some_same (Some v) h.0 v h.1 refl) h.2)
content_not_both f limit sum (content.EncryptedData d) gs e n h le x =
    let a = d.encrypted_content_info.content_encryption_algorithm in
    (lock_opens f limit sum a d.encrypted_content_info.encrypted_content (λ m e n. NoBags m × (e ≡ ContentMalformed) × (n ≡ legacy_cost a)) h.0 e n h.1 le x).0 gs h.2
content_not_both f limit sum (content.OtherContext o) gs e n h le x = none_some None h.0 refl h.1

contents_fair : (f : Forms) (limit : ℕ) → IsFair (legacy_contents f limit) limit
contents_fair f limit = record { one = content_one f; fault = λ sum c. content_fault_sole f limit sum c; not_both = λ sum c gs e n h le x. content_not_both f limit sum c gs e n h le x }

-- ---- Keys

key_one : (f : Forms) (k : EncryptedPrivateKeyInfo) (y z : List ℕ) → LegacyKeyOpens f k y → LegacyKeyOpens f k z → y ≡ z
key_one f k y z h j = some_same (legacy_unlock f k.encryption_algorithm k.encrypted_data) y z h.0 j.0

keys_fair : (f : Forms) (limit : ℕ) → IsFair (legacy_keys f limit) limit
keys_fair f limit = record {
  one = key_one f;
  fault = λ sum k. lock_sole f limit sum k.encryption_algorithm k.encrypted_data (λ m e n. NoKeyText m × (e ≡ KeyMalformed) × (n ≡ legacy_cost k.encryption_algorithm))
      (λ m. last_sole (NoKeyText m) KeyMalformed (legacy_cost k.encryption_algorithm));
  not_both = λ sum k y e n h le x. (lock_opens f limit sum k.encryption_algorithm k.encrypted_data
      (λ m e n. NoKeyText m × (e ≡ KeyMalformed) × (n ≡ legacy_cost k.encryption_algorithm)) y e n h.0 le x).0 h.1.0 h.1.1;
}

-- ---- The tables

keys_table_sole : (f : Forms) (limit sum : ℕ) (gss : List (List SafeBag)) → Sole (LegacyKeysTable f limit sum gss)
keys_table_sole f limit sum gss =
    parts_sole (legacy_keys f limit) limit (keys_fair f limit) sum (all_shrouded gss) (λ ks w n. (w ≡ opened gss ks) × (n ≡ sum + sum_by legacy_key_share (all_shrouded gss)))
    (λ ks v w m n h k. (h.0 ∙ sym k.0, h.1 ∙ sym k.1))

contents_table_sole : (f : Forms) (limit sum : ℕ) (cs : List ContentInfo) → Sole (LegacyContentsTable f limit sum cs)
unfolding LegacyContentsTable
contents_table_sole f limit sum cs =
    parts_sole (legacy_contents f limit) limit (contents_fair f limit) sum cs (λ gss w n. LegacyKeysTable f limit (sum + sum_by legacy_share cs) gss w n)
    (λ gss. keys_table_sole f limit (sum + sum_by legacy_share cs) gss)

text_table_sole : (f : Forms) (limit sum : ℕ) (v : List ℕ) → Sole (LegacyTextTable f limit sum v)
unfolding LegacyTextTable
text_table_sole f limit sum v =
    row_sole _ _ _ _ (of_sole (λ cs. IsLegacySafe v cs) (λ cs. LegacyContentsTable f limit sum cs) (legacy_safe_sole v) (λ cs h. contents_table_sole f limit sum cs))

either_sole : (P : Type 0) (T U : Verdict → ℕ → Type 0) → Sole T → Sole U → Sole (Either P T U)
either_sole P T U s t v w m n (inl p) (inl q) = s v w m n p.1 q.1
either_sole P T U s t v w m n (inl p) (inr q) = absurd (q.0 p.0)
either_sole P T U s t v w m n (inr p) (inl q) = absurd (p.0 q.0)
either_sole P T U s t v w m n (inr p) (inr q) = t v w m n p.1 q.1

null_table_sole : (p : List ℕ) (limit : ℕ) (v : List ℕ) (m : MacData) → Sole (NullTable p limit v m)
unfolding NullTable
null_table_sole p limit v m = row_sole _ _ _ _ (row_sole _ _ _ _ (row_sole _ _ _ _ (text_table_sole null_forms limit (mac_cost m + mac_cost m) v)))

mac_table_sole : (p : List ℕ) (limit : ℕ) (v : List ℕ) (m : MacData) → Sole (LegacyMacTable p limit v m)
unfolding LegacyMacTable
mac_table_sole p limit v m =
    row_sole _ _ _ _ (row_sole _ _ _ _ (row_sole _ _ _ _
    (either_sole (legacy_agrees m (forms_of p) v ≡ true) (LegacyTextTable (forms_of p) limit (mac_cost m) v) (NullTable p limit v m) (text_table_sole (forms_of p) limit (mac_cost m) v) (null_table_sole p limit v m))))

data_same : (a : ContentInfo) (v w : List ℕ) → a ≡ content.Data v → a ≡ content.Data w → v ≡ w
data_same a v w h k = grind (arith, h, k)

bare_table_sole : (rule : MacRule) (p : List ℕ) (limit : ℕ) (v : List ℕ) → Sole (BareTable rule p limit v)
bare_table_sole Required p limit v = λ w x m n h k. (h.0 ∙ sym k.0, h.1 ∙ sym k.1)
bare_table_sole Optional p limit v = text_table_sole (forms_without_mac p) limit 0 v

store_table_sole : (rule : MacRule) (p : List ℕ) (limit : ℕ) (s : PFX) → Sole (LegacyStoreTable rule p limit s)
store_table_sole rule p limit s =
    row_sole _ _ _ _ (of_sole (λ v. s.auth_safe ≡ content.Data v) _ (λ v w h k. data_same s.auth_safe v w h k) (λ v h.
    either_sole (s.mac_data ≡ None) (BareTable rule p limit v) _ (bare_table_sole rule p limit v)
    (of_sole (λ m. s.mac_data ≡ Some m) (λ m. LegacyMacTable p limit v m) (λ x y h k. some_same s.mac_data x y h k) (λ m h. mac_table_sole p limit v m))))

pub verdict_sole : (rule : MacRule) (b p : List ℕ) (limit : ℕ) → Sole (HasVerdictUnder rule b p limit)
unfolding HasVerdictUnder
verdict_sole rule b p limit =
    row_sole _ _ _ _ (row_sole _ _ _ _ (of_sole (IsLegacyStore b) (λ s. LegacyStoreTable rule p limit s) (legacy_store_sole b) (λ s h. store_table_sole rule p limit s)))

-- ---- A store with a MAC, under each rule

store_with_mac : (one other : MacRule) (p : List ℕ) (limit : ℕ) (s : PFX) (m : MacData) (w : Verdict) (n : ℕ) → s.mac_data ≡ Some m → LegacyStoreTable one p limit s w n
    → LegacyStoreTable other p limit s w n
store_with_mac one other p limit s m w n has (inl h) = inl h
store_with_mac one other p limit s m w n has (inr (a, (v, is, inl h))) = absurd (mac_none s.mac_data m has h.0)
store_with_mac one other p limit s m w n has (inr (a, (v, is, inr h))) = inr (a, (v, is, inr h))

pub same_with_mac : SameWithMac
unfolding HasVerdictUnder
same_with_mac one other b p limit s m w n is has (inl h) = inl h
same_with_mac one other b p limit s m w n is has (inr (a, inl h)) = inr (a, inl h)
same_with_mac one other b p limit s m w n is has (inr (a, inr (c, (t, at, h)))) =
    let same = legacy_store_sole b s t is at in
    inr (a, inr (c, (t, at, store_with_mac one other p limit t m w n (subst (λ (x : PFX). x.mac_data ≡ Some m) same has) h)))
