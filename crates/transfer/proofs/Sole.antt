-- A table gives one answer.
use Rattle.std.proofs.Common.{ℕ, ◌≡◌, ◌+◌, ◌≤◌, inl, inr, List, [], ◌∷◌, ◌++◌, refl, sym, ap, ◌∙◌, arith, subst}
use Rattle.std.specs.Prelude.{Option, Some, None}
use Rattle.std.specs.List.{sum_by}
use Rattle.std.proofs.lemmas.List.Sums.{sum_by-append}
use Rattle.p12.specs.declared.algorithm_identifier.AlgorithmIdentifier.{AlgorithmIdentifier}
use Rattle.p12.specs.declared.content_info.ContentInfo.{ContentInfo}
use Rattle.p12.specs.declared.content_info.ContentInfo.TheVariants as content
use Rattle.p12.specs.declared.encrypted_private_key_info.EncryptedPrivateKeyInfo.{EncryptedPrivateKeyInfo}
use Rattle.p12.specs.declared.pfx.PFX.{PFX}
use Rattle.p12.specs.declared.mac_data.MacData.{MacData}
use Rattle.p12.specs.declared.safe_bag.SafeBag.{SafeBag}
use Rattle.p12.specs.AlgorithmIdentifier.{cost, unlock}
use Rattle.p12.specs.ContentInfo.{IsContents}
use Rattle.p12.specs.Pfx.{IsStore}
use Rattle.p12.specs.SafeBag.{IsBags, NoBags}
use Rattle.p12.proofs.DefinitionLaws.{bags_sole, contents_sole, store_sole, unlock_opened}
use Rattle.transfer.specs.declared.store.error.TransferError.{TransferError}
use Rattle.transfer.specs.declared.store.error.TransferError.TheVariants.{ContentMalformed, KeyMalformed}
use Rattle.asn1_core.specs.Sets.{Each}
use Rattle.transfer.specs.Parts.{AreOpen, IsFirstFault, Of, PartKind, Row}
use Rattle.p12.specs.Collected.{HoldsBags, plain_text}
use Rattle.transfer.specs.Opening.{HasVerdict, ContentCause, ContentsTable, KeyOpens, KeysTable, LockFault, MacTable, NoKeyText, PartsTable, StoreTable, Verdict, all_shrouded, content_share, key_share, of_contents, of_keys, opened, refused}
use Rattle.transfer.specs.Verdicts.{Sole}
use Rattle.transfer.proofs.Faults.{true_false}

pub row_sole : {V : Type 0} (P : Type 0) (a : V) (k : ℕ) (rest : V → ℕ → Type 0) → Sole rest → Sole (Row P a k rest)
row_sole P a k rest s v w m n (inl p) (inl q) = (p.1 ∙ sym q.1, p.2 ∙ sym q.2)
row_sole P a k rest s v w m n (inl p) (inr q) = absurd (q.0 p.0)
row_sole P a k rest s v w m n (inr p) (inl q) = absurd (p.0 q.0)
row_sole P a k rest s v w m n (inr p) (inr q) = s v w m n p.1 q.1

pub of_sole : {X V : Type 0} (R : X → Type 0) (rest : X → V → ℕ → Type 0) → ((x y : X) → R x → R y → x ≡ y) → ((x : X) → R x → Sole (rest x)) → Sole (Of R rest)
of_sole R rest one s v w m n p q = s p.0 p.1 v w m n p.2 (subst (λ x. rest x w n) (one q.0 p.0 q.1 p.1) q.2)

-- A row with one result after one number of steps.
pub last_sole : {V : Type 0} (P : Type 0) (a : V) (k : ℕ) → Sole (λ (v : V) (n : ℕ). P × (v ≡ a) × (n ≡ k))
last_sole P a k v w m n p q = (p.1 ∙ sym q.1, p.2 ∙ sym q.2)

pub some_same : {X : Type 0} (o : Option X) (x y : X) → o ≡ Some x → o ≡ Some y → x ≡ y
some_same o x y h k = grind (arith, h, k)

heads : {X : Type 0} (x y : X) (xs ys : List X) → x ∷ xs ≡ y ∷ ys → x ≡ y
heads x y xs ys h = grind (arith, h)

tails : {X : Type 0} (x y : X) (xs ys : List X) → x ∷ xs ≡ y ∷ ys → xs ≡ ys
tails x y xs ys h = grind (arith, h)

-- A kind whose parts open to one thing, have one fault, and none where they open.
pub record IsFair {A B : Type 0} (K : PartKind A B TransferError) (limit : ℕ) : Type 0 where
  pub one : (x : A) (y z : B) → K.OpensTo x y → K.OpensTo x z → y ≡ z
  pub fault : (sum : ℕ) (x : A) → Sole (K.Fault sum x)
  pub not_both : (sum : ℕ) (x : A) (y : B) (e : TransferError) (n : ℕ) → K.OpensTo x y → sum + K.share x ≤ limit → K.Fault sum x e n → ⊥

pub each_sole : {A B : Type 0} (P : A → B → Type 0) (xs : List A) (ys zs : List B) → ((x : A) (y z : B) → P x y → P x z → y ≡ z) → Each P xs ys → Each P xs zs → ys ≡ zs
each_sole P [] [] [] one h k = refl
each_sole P [] [] (z ∷ zs) one h k = absurd k
each_sole P [] (y ∷ ys) zs one h k = absurd h
each_sole P (x ∷ xs) [] zs one h k = absurd h
each_sole P (x ∷ xs) (y ∷ ys) [] one h k = absurd k
each_sole P (x ∷ xs) (y ∷ ys) (z ∷ zs) one h k = ap (λ t. t ∷ ys) (one x y z h.0 k.0) ∙ ap (λ t. z ∷ t) (each_sole P xs ys zs one h.1 k.1)

each_head : {A B : Type 0} (P : A → B → Type 0) (x : A) (xs : List A) (ys : List B) → Each P (x ∷ xs) ys → (y : B) × P x y
each_head P x xs [] h = absurd h
each_head P x xs (y ∷ ys) h = (y, h.0)

each_tail : {A B : Type 0} (P : A → B → Type 0) (x : A) (xs : List A) (ys : List B) → Each P (x ∷ xs) ys → (zs : List B) × Each P xs zs
each_tail P x xs [] h = absurd h
each_tail P x xs (y ∷ ys) h = (ys, h.1)

pub sum_cons : {A : Type 0} (f : A → ℕ) (x : A) (xs : List A) → sum_by f (x ∷ xs) ≡ f x + sum_by f xs
sum_cons f x xs =
    let e : sum_by f (x ∷ xs) ≡ sum_by f (x ∷ []) + sum_by f xs = sum_by-append f (x ∷ []) xs in
    let one : sum_by f (x ∷ []) ≡ 0 + f x = refl in
    omega (arith, e, one)

-- A part in the midst of parts that are open has no fault.
no_fault : {A B : Type 0} (K : PartKind A B TransferError) (limit : ℕ) → IsFair K limit → (sum : ℕ) (before : List A) (x : A) (behind : List A) (ys : List B)
    → Each K.OpensTo (before ++ x ∷ behind) ys → sum + sum_by K.share (before ++ x ∷ behind) ≤ limit → (e : TransferError) (n : ℕ) → K.Fault (sum + sum_by K.share before) x e n → ⊥
no_fault K limit fair sum [] x behind ys h le e n f =
    let y = each_head K.OpensTo x behind ys h in
    fair.not_both (sum + 0) x y.0 e n y.1 (omega (arith, le, sum_cons K.share x behind)) f
no_fault K limit fair sum (z ∷ before) x behind ys h le e n f =
    let t = each_tail K.OpensTo z (before ++ x ∷ behind) ys h in
    no_fault K limit fair (sum + K.share z) before x behind t.0 t.1 (omega (arith, le, sum_cons K.share z (before ++ x ∷ behind))) e n (subst (λ s. K.Fault s x e n) (omega (arith, sum_cons K.share z before)) f)

-- Two first faults of one list are one.
same_fault : {A B : Type 0} (K : PartKind A B TransferError) (limit : ℕ) → IsFair K limit → (sum : ℕ) (b c : List A) (x y : A) (u v : List A) (ys zs : List B)
    → b ++ x ∷ u ≡ c ++ y ∷ v → Each K.OpensTo b ys → sum + sum_by K.share b ≤ limit → Each K.OpensTo c zs → sum + sum_by K.share c ≤ limit → (e g : TransferError) (m n : ℕ)
    → K.Fault (sum + sum_by K.share b) x e m → K.Fault (sum + sum_by K.share c) y g n → (e ≡ g) × (sum_by K.share b + m ≡ sum_by K.share c + n)
same_fault K limit fair sum [] [] x y u v ys zs is p pl q ql e g m n f h =
    let one = fair.fault (sum + 0) x e g m n f (subst (λ t. K.Fault (sum + 0) t g n) (sym (heads x y u v is)) h) in
    (one.0, omega (arith, one.1))
same_fault K limit fair sum [] (w ∷ c) x y u v ys zs is p pl q ql e g m n f h =
    let o = each_head K.OpensTo w c zs q in
    absurd (fair.not_both (sum + 0) w o.0 e m o.1 (omega (arith, ql, sum_cons K.share w c)) (subst (λ t. K.Fault (sum + 0) t e m) (heads x w u (c ++ y ∷ v) is) f))
same_fault K limit fair sum (z ∷ b) [] x y u v ys zs is p pl q ql e g m n f h =
    let o = each_head K.OpensTo z b ys p in
    absurd (fair.not_both (sum + 0) z o.0 g n o.1 (omega (arith, pl, sum_cons K.share z b)) (subst (λ t. K.Fault (sum + 0) t g n) (sym (heads z y (b ++ x ∷ u) v is)) h))
same_fault K limit fair sum (z ∷ b) (w ∷ c) x y u v ys zs is p pl q ql e g m n f h =
    let same = heads z w (b ++ x ∷ u) (c ++ y ∷ v) is in
    let share : K.share z ≡ K.share w = ap K.share same in
    let sz = sum_cons K.share z b in
    let sw = sum_cons K.share w c in
    let i = each_tail K.OpensTo z b ys p in
    let j = each_tail K.OpensTo w c zs q in
    let r = same_fault K limit fair (sum + K.share z) b c x y u v i.0 j.0 (tails z w (b ++ x ∷ u) (c ++ y ∷ v) is) i.1 (omega (arith, pl, sz)) j.1 (omega (arith, ql, share, sw)) e g m n
    (subst (λ s. K.Fault s x e m) (omega (arith, sz)) f) (subst (λ s. K.Fault s y g n) (omega (arith, share, sw)) h) in
    (r.0, omega (arith, r.1, share, sz, sw))

pub first_sole : {A B : Type 0} (K : PartKind A B TransferError) (limit : ℕ) → IsFair K limit → (sum : ℕ) (xs : List A) → Sole (IsFirstFault K limit sum xs)
first_sole K limit fair sum xs e g m n p q =
    let r = same_fault K limit fair sum p.before q.before p.part q.part p.behind q.behind p.made q.made (sym p.split ∙ q.split) p.open_before.each p.open_before.within q.open_before.each q.open_before.within
    e g p.own q.own p.fault q.fault in
    (r.0, p.steps ∙ r.1 ∙ sym q.steps)

pub open_or_fault : {A B : Type 0} (K : PartKind A B TransferError) (limit : ℕ) → IsFair K limit → (sum : ℕ) (xs : List A) (ys : List B) (e : TransferError) (k : ℕ)
    → AreOpen K limit sum xs ys → IsFirstFault K limit sum xs e k → ⊥
open_or_fault K limit fair sum xs ys e k a f =
    no_fault K limit fair sum f.before f.part f.behind ys (subst (λ t. Each K.OpensTo t ys) f.split a.each) (subst (λ t. sum + sum_by K.share t ≤ limit) f.split a.within) e f.own f.fault

pub parts_sole : {A B : Type 0} (K : PartKind A B TransferError) (limit : ℕ) → IsFair K limit → (sum : ℕ) (xs : List A) (rest : List B → Verdict → ℕ → Type 0) → ((ys : List B) → Sole (rest ys))
    → Sole (PartsTable K limit sum xs rest)
parts_sole K limit fair sum xs rest s v w m n (inl p) (inl q) =
    let r = first_sole K limit fair sum xs p.0 q.0 p.1 q.1 p.2 q.2 in
    (p.3 ∙ ap refused r.0 ∙ sym q.3, omega (arith, p.4, q.4, r.1))
parts_sole K limit fair sum xs rest s v w m n (inl p) (inr q) = absurd (open_or_fault K limit fair sum xs q.0 p.0 p.1 q.1 p.2)
parts_sole K limit fair sum xs rest s v w m n (inr p) (inl q) = absurd (open_or_fault K limit fair sum xs p.0 q.0 q.1 p.1 q.2)
parts_sole K limit fair sum xs rest s v w m n (inr p) (inr q) =
    s p.0 v w m n p.2 (subst (λ t. rest t w n) (each_sole K.OpensTo xs q.0 p.0 fair.one q.1.each p.1.each) q.2)

-- ---- Locked texts

lock_sole : (p : List ℕ) (limit sum : ℕ) (a : AlgorithmIdentifier) (c : List ℕ) (rest : List ℕ → TransferError → ℕ → Type 0) → ((m : List ℕ) → Sole (rest m)) → Sole (LockFault p limit sum a c rest)
lock_sole p limit sum a c rest s =
    row_sole _ _ _ _ (row_sole _ _ _ _ (row_sole _ _ _ _ (row_sole _ _ _ _ (of_sole (λ m. unlock a p c ≡ Some m) rest (λ x y h k. some_same (unlock a p c) x y h k) (λ m h. s m)))))

none_some : (o : Option (List ℕ)) (m : List ℕ) → o ≡ None → o ≡ Some m → ⊥
none_some o m h k = grind (arith, h, k)

lock_opens : (p : List ℕ) (limit sum : ℕ) (a : AlgorithmIdentifier) (c : List ℕ) (rest : List ℕ → TransferError → ℕ → Type 0) (m : List ℕ) (e : TransferError) (n : ℕ)
    → unlock a p c ≡ Some m → sum + cost a ≤ limit → LockFault p limit sum a c rest e n → rest m e n
lock_opens p limit sum a c rest m e n is le (inl f) = absurd (true_false _ (unlock_opened a p c m is).openable f.0)
lock_opens p limit sum a c rest m e n is le (inr (_, inl f)) = let o = unlock_opened a p c m is in absurd (omega (arith, f.0, o.some_rounds))
lock_opens p limit sum a c rest m e n is le (inr (_, inr (_, inl f))) = absurd (omega (arith, f.0, le))
lock_opens p limit sum a c rest m e n is le (inr (_, inr (_, inr (_, inl f)))) = absurd (none_some (unlock a p c) m f.0 is)
lock_opens p limit sum a c rest m e n is le (inr (_, inr (_, inr (_, inr (_, f))))) = subst (λ t. rest t e n) (some_same (unlock a p c) f.0 m f.1 is) f.2

-- ---- Contents

content_one : (p : List ℕ) (c : ContentInfo) (gs hs : List SafeBag) → HoldsBags p c gs → HoldsBags p c hs → gs ≡ hs
content_one p c gs hs h k = bags_sole h.0 gs hs h.2 (subst (λ m. IsBags m hs) (some_same (plain_text p c) k.0 h.0 k.1 h.1) k.2)

content_fault_sole : (p : List ℕ) (limit sum : ℕ) (c : ContentInfo) → Sole (ContentCause p limit sum c)
content_fault_sole p limit sum (content.Data v) e g m n h k = last_sole (NoBags v) ContentMalformed 0 e g m n h k
content_fault_sole p limit sum (content.EncryptedData d) e g m n h k =
    let a = d.encrypted_content_info.content_encryption_algorithm in
    lock_sole p limit sum a d.encrypted_content_info.encrypted_content (λ m e n. NoBags m × (e ≡ ContentMalformed) × (n ≡ cost a)) (λ m. last_sole (NoBags m) ContentMalformed (cost a)) e g m n h k
content_fault_sole p limit sum (content.OtherContext o) v w m n h k = (h.0 ∙ sym k.0, h.1 ∙ sym k.1)

content_not_both : (p : List ℕ) (limit sum : ℕ) (c : ContentInfo) (gs : List SafeBag) (e : TransferError) (n : ℕ) → HoldsBags p c gs → sum + content_share c ≤ limit → ContentCause p limit sum c e n → ⊥
content_not_both p limit sum (content.Data v) gs e n h le f = f.0 gs (subst (λ m. IsBags m gs) (some_same (Some v) h.0 v h.1 refl) h.2)
content_not_both p limit sum (content.EncryptedData d) gs e n h le f =
    let a = d.encrypted_content_info.content_encryption_algorithm in
    (lock_opens p limit sum a d.encrypted_content_info.encrypted_content (λ m e n. NoBags m × (e ≡ ContentMalformed) × (n ≡ cost a)) h.0 e n h.1 le f).0 gs h.2
content_not_both p limit sum (content.OtherContext o) gs e n h le f = none_some None h.0 refl h.1

pub contents_fair : (p : List ℕ) (limit : ℕ) → IsFair (of_contents p limit) limit
contents_fair p limit = record { one = content_one p; fault = λ sum c. content_fault_sole p limit sum c; not_both = λ sum c gs e n h le f. content_not_both p limit sum c gs e n h le f }

-- ---- Keys

key_one : (p : List ℕ) (k : EncryptedPrivateKeyInfo) (y z : List ℕ) → KeyOpens p k y → KeyOpens p k z → y ≡ z
key_one p k y z h j = some_same (unlock k.encryption_algorithm p k.encrypted_data) y z h.0 j.0

pub keys_fair : (p : List ℕ) (limit : ℕ) → IsFair (of_keys p limit) limit
keys_fair p limit = record {
  one = key_one p;
  fault = λ sum k. lock_sole p limit sum k.encryption_algorithm k.encrypted_data (λ m e n. NoKeyText m × (e ≡ KeyMalformed) × (n ≡ cost k.encryption_algorithm))
      (λ m. last_sole (NoKeyText m) KeyMalformed (cost k.encryption_algorithm));
  not_both = λ sum k y e n h le f. (lock_opens p limit sum k.encryption_algorithm k.encrypted_data
      (λ m e n. NoKeyText m × (e ≡ KeyMalformed) × (n ≡ cost k.encryption_algorithm)) y e n h.0 le f).0 h.1.0 h.1.1;
}

-- ---- The tables

keys_table_sole : (p : List ℕ) (limit sum : ℕ) (gss : List (List SafeBag)) → Sole (KeysTable p limit sum gss)
keys_table_sole p limit sum gss =
    parts_sole (of_keys p limit) limit (keys_fair p limit) sum (all_shrouded gss) (λ ks w n. (w ≡ opened gss ks) × (n ≡ sum + sum_by key_share (all_shrouded gss)))
    (λ ks v w m n h k. (h.0 ∙ sym k.0, h.1 ∙ sym k.1))

pub contents_table_sole : (p : List ℕ) (limit sum : ℕ) (cs : List ContentInfo) → Sole (ContentsTable p limit sum cs)
unfolding ContentsTable
contents_table_sole p limit sum cs =
    parts_sole (of_contents p limit) limit (contents_fair p limit) sum cs (λ gss w n. KeysTable p limit (sum + sum_by content_share cs) gss w n) (λ gss. keys_table_sole p limit (sum + sum_by content_share cs) gss)

pub mac_table_sole : (p : List ℕ) (limit : ℕ) (v : List ℕ) (m : MacData) → Sole (MacTable p limit v m)
unfolding MacTable
mac_table_sole p limit v m =
    row_sole _ _ _ _ (row_sole _ _ _ _ (row_sole _ _ _ _ (row_sole _ _ _ _ (row_sole _ _ _ _
    (of_sole (λ cs. IsContents v cs) (λ cs. ContentsTable p limit m.iterations cs) (contents_sole v) (λ cs h. contents_table_sole p limit m.iterations cs))))))

data_same : (a : ContentInfo) (v w : List ℕ) → a ≡ content.Data v → a ≡ content.Data w → v ≡ w
data_same a v w h k = grind (arith, h, k)

store_table_sole : (p : List ℕ) (limit : ℕ) (s : PFX) → Sole (StoreTable p limit s)
store_table_sole p limit s =
    row_sole _ _ _ _ (of_sole (λ v. s.auth_safe ≡ content.Data v) _ (λ v w h k. data_same s.auth_safe v w h k) (λ v h.
    row_sole _ _ _ _ (of_sole (λ m. s.mac_data ≡ Some m) (λ m. MacTable p limit v m) (λ x y h k. some_same s.mac_data x y h k) (λ m h. mac_table_sole p limit v m))))

pub verdict_sole : (b p : List ℕ) (limit : ℕ) → Sole (HasVerdict b p limit)
unfolding HasVerdict
verdict_sole b p limit =
    row_sole _ _ _ _ (row_sole _ _ _ _ (of_sole (IsStore b) (λ s. StoreTable p limit s) (store_sole b) (λ s h. store_table_sole p limit s)))
