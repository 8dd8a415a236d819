-- Faults of parts in their order.
use Rattle.std.proofs.Common.{ℕ, ◌≡◌, ◌+◌, ◌≤◌, ◌<◌, List, [], ◌∷◌, ◌++◌, length, refl, sym, ap, ◌∙◌, arith, subst, Bool, true, false, inr, take, drop, get_or}
use Rattle.std.specs.Prelude.{Option, Some, None}
use Rattle.std.specs.List.{flat_map, sum_by}
use Rattle.std.proofs.lemmas.List.{take_more, append_assoc, append-nil, take-append-drop}
use Rattle.std.proofs.lemmas.Grind.{flat_map-append}
use Rattle.std.proofs.lemmas.List.Sums.{sum_by-append}
use Rattle.p12.specs.declared.algorithm_identifier.AlgorithmIdentifier.{AlgorithmIdentifier}
use Rattle.p12.specs.declared.content_info.ContentInfo.{ContentInfo}
use Rattle.p12.specs.declared.content_info.ContentInfo.TheVariants as content
use Rattle.p12.specs.declared.encrypted_data.EncryptedData.{EncryptedData}
use Rattle.p12.specs.declared.encrypted_private_key_info.EncryptedPrivateKeyInfo.{EncryptedPrivateKeyInfo}
use Rattle.p12.specs.AlgorithmIdentifier.{cost, unlock}
use Rattle.p12.specs.SafeBag.{NoBags}
use Rattle.p12.proofs.DefinitionLaws.{unlock_opened}
use Rattle.transfer.specs.declared.store.error.TransferError.{TransferError}
use Rattle.transfer.specs.declared.store.error.TransferError.TheVariants.{TooLong, Malformed, Unsupported, MacMissing, MacUnsupported, ZeroIterations, WorkLimit, MacMismatch, ContentMalformed, DecryptFailed, KeyMalformed, Rng, Memory}
use Rattle.transfer.specs.TransferError.{RefusedBy}
use Rattle.transfer.specs.Parts.{AreOpen, IsFirstFault, PartKind}
use Rattle.transfer.specs.Opening.{ContentCause, KeyFault, LockFault, NoKeyText, RefusedAfter}
use Rattle.transfer.proofs.Lists.{each_append}

-- ---- Causes

-- A refusal under other causes.
pub refused_as : (P Q : TransferError → Type 0) (R S : Type 0) → ((e : TransferError) → P e → Q e) → (R → S) → (e : TransferError) → RefusedBy P R e → RefusedBy Q S e
refused_as P Q R S f g TooLong h = f _ h
refused_as P Q R S f g Malformed h = f _ h
refused_as P Q R S f g Unsupported h = f _ h
refused_as P Q R S f g MacMissing h = f _ h
refused_as P Q R S f g MacUnsupported h = f _ h
refused_as P Q R S f g ZeroIterations h = f _ h
refused_as P Q R S f g WorkLimit h = f _ h
refused_as P Q R S f g MacMismatch h = f _ h
refused_as P Q R S f g ContentMalformed h = f _ h
refused_as P Q R S f g DecryptFailed h = f _ h
refused_as P Q R S f g KeyMalformed h = f _ h
refused_as P Q R S f g Rng h = g h
refused_as P Q R S f g Memory h = tt

-- A cause after k more steps.
pub refused_later : (F G : TransferError → ℕ → Type 0) (old mid new k : ℕ) → mid ≡ old + k → ((e : TransferError) (n : ℕ) → F e n → G e (k + n)) → (e : TransferError) → RefusedAfter F mid new e → RefusedAfter G old new e
refused_later F G old mid new k is f e h =
    refused_as (λ e. (n : ℕ) × F e n × (new ≡ mid + n)) (λ e. (n : ℕ) × G e n × (new ≡ old + n)) ⊥ ⊥ (λ e h. (k + h.0, f e h.0 h.1, omega (arith, is, h.2))) (λ h. h) e h

pub refused_after_as : (F G : TransferError → ℕ → Type 0) (old new : ℕ) → ((e : TransferError) (n : ℕ) → F e n → G e n) → (e : TransferError) → RefusedAfter F old new e → RefusedAfter G old new e
refused_after_as F G old new f e h =
    refused_as (λ e. (n : ℕ) × F e n × (new ≡ old + n)) (λ e. (n : ℕ) × G e n × (new ≡ old + n)) ⊥ ⊥ (λ e h. (h.0, f e h.0 h.1, h.2)) (λ h. h) e h

-- ---- Locked texts

pub some_none : {P : Type 0} (r : Option (List ℕ)) (m : List ℕ) → r ≡ Some m → r ≡ None → P
some_none r m h k = grind (arith, h, k)

pub true_false : {P : Type 0} (b : Bool) → b ≡ true → b ≡ false → P
true_false b h k = grind (arith, h, k)

-- What is wrong with the opened text is wrong with the locked one.
pub lock_holds : (p : List ℕ) (limit sum : ℕ) (a : AlgorithmIdentifier) (c : List ℕ) (rest : List ℕ → TransferError → ℕ → Type 0) (m : List ℕ) (e : TransferError) (n : ℕ)
    → unlock a p c ≡ Some m → sum + cost a ≤ limit → rest m e n → LockFault p limit sum a c rest e n
lock_holds p limit sum a c rest m e n is le bad =
    let o = unlock_opened a p c m is in
    inr (λ h. true_false _ o.openable h, inr (λ h. omega (arith, h, o.some_rounds), inr (λ h. omega (arith, h, le), inr (λ h. some_none _ m is h, (m, is, bad)))))

pub content_bad : (p : List ℕ) (limit sum : ℕ) (c : ContentInfo) (d : EncryptedData) (m : List ℕ) → c ≡ content.EncryptedData d
    → unlock d.encrypted_content_info.content_encryption_algorithm p d.encrypted_content_info.encrypted_content ≡ Some m
    → sum + cost d.encrypted_content_info.content_encryption_algorithm ≤ limit → NoBags m
    → ContentCause p limit sum c ContentMalformed (cost d.encrypted_content_info.content_encryption_algorithm)
content_bad p limit sum c d m is opens le bad =
    let P : ContentInfo → Type 0 = λ c. ContentCause p limit sum c ContentMalformed (cost d.encrypted_content_info.content_encryption_algorithm) in
    let a = d.encrypted_content_info.content_encryption_algorithm in
    subst P (sym is) (lock_holds p limit sum a d.encrypted_content_info.encrypted_content (λ m e n. NoBags m × (e ≡ ContentMalformed) × (n ≡ cost a)) m ContentMalformed (cost a) opens le (bad, refl, refl))

pub key_bad : (p : List ℕ) (limit sum : ℕ) (k : EncryptedPrivateKeyInfo) (m : List ℕ) → unlock k.encryption_algorithm p k.encrypted_data ≡ Some m
    → sum + cost k.encryption_algorithm ≤ limit → NoKeyText m → KeyFault p limit sum k KeyMalformed (cost k.encryption_algorithm)
key_bad p limit sum k m opens le bad =
    let a = k.encryption_algorithm in
    lock_holds p limit sum a k.encrypted_data (λ m e n. NoKeyText m × (e ≡ KeyMalformed) × (n ≡ cost a)) m KeyMalformed (cost a) opens le (bad, refl, refl)

-- ---- Parts in a row

pub take_one : {X : Type 0} (xs : List X) (i : ℕ) (x : X) → i < length xs → x ≡ get_or xs i x → take (i + 1) xs ≡ take i xs ++ x ∷ []
take_one xs i x lt at = take_more xs i x lt ∙ ap (λ y. take i xs ++ y ∷ []) (sym at)

-- The part at a place has the first fault.
fault_at : {A B : Type 0} (K : PartKind A B TransferError) (limit sum now : ℕ) (xs : List A) (i : ℕ) (x : A) (ys : List B) (e : TransferError) (n k : ℕ)
    → i < length xs → x ≡ get_or xs i x → AreOpen K limit sum (take i xs) ys → now ≡ sum + sum_by K.share (take i xs) → K.Fault now x e n
    → k ≡ sum_by K.share (take i xs) + n → IsFirstFault K limit sum xs e k
fault_at K limit sum now xs i x ys e n k lt at opened sums fault steps = record {
  before = take i xs;
  part = x;
  behind = drop (i + 1) xs;
  split = sym (take-append-drop (i + 1) xs) ∙ ap (λ t. t ++ drop (i + 1) xs) (take_one xs i x lt at) ∙ append_assoc (take i xs) (x ∷ []) (drop (i + 1) xs);
  made = ys;
  open_before = opened;
  own = n;
  fault = subst (λ s. K.Fault s x e n) sums fault;
  steps = steps;
}

pub part_refused : {A B : Type 0} (K : PartKind A B TransferError) (limit sum now : ℕ) (xs : List A) (i : ℕ) (x : A) (ys : List B) (old mid new : ℕ) (e : TransferError)
    → i < length xs → x ≡ get_or xs i x → AreOpen K limit sum (take i xs) ys → now ≡ sum + sum_by K.share (take i xs) → mid ≡ old + sum_by K.share (take i xs)
    → RefusedAfter (K.Fault now x) mid new e → RefusedAfter (IsFirstFault K limit sum xs) old new e
part_refused K limit sum now xs i x ys old mid new e lt at opened sums is h =
    refused_later (K.Fault now x) (IsFirstFault K limit sum xs) old mid new (sum_by K.share (take i xs)) is (λ e n f. fault_at K limit sum now xs i x ys e n _ lt at opened sums f refl) e h

-- What lies after parts that are open.
pub open_append : {A B : Type 0} (K : PartKind A B TransferError) (limit sum now : ℕ) (xs : List A) (ys : List B) (zs : List A) (ws : List B)
    → AreOpen K limit sum xs ys → now ≡ sum + sum_by K.share xs → AreOpen K limit now zs ws → AreOpen K limit sum (xs ++ zs) (ys ++ ws)
open_append K limit sum now xs ys zs ws a sums b =
    record { each = each_append K.OpensTo xs ys zs ws a.each b.each; within = omega (arith, sums, b.within, sum_by-append K.share xs zs) }

-- ---- Where each turn has parts of its own

pub flat_one : {X A : Type 0} (f : X → List A) (xs : List X) (i : ℕ) (x : X) → i < length xs → x ≡ get_or xs i x → flat_map f (take (i + 1) xs) ≡ flat_map f (take i xs) ++ f x
flat_one f xs i x lt at = ap (flat_map f) (take_one xs i x lt at) ∙ flat_map-append f (take i xs) (x ∷ []) ∙ ap (λ t. flat_map f (take i xs) ++ t) (append-nil (f x))

pub flat_share : {X A : Type 0} (s : A → ℕ) (f : X → List A) (xs : List X) (i : ℕ) (x : X) → i < length xs → x ≡ get_or xs i x
    → sum_by s (flat_map f (take (i + 1) xs)) ≡ sum_by s (flat_map f (take i xs)) + sum_by s (f x)
flat_share s f xs i x lt at = ap (sum_by s) (flat_one f xs i x lt at) ∙ sum_by-append s (flat_map f (take i xs)) (f x)

pub flat_more : {X A B : Type 0} (K : PartKind A B TransferError) (f : X → List A) (limit sum now : ℕ) (xs : List X) (i : ℕ) (x : X) (ys ws : List B)
    → i < length xs → x ≡ get_or xs i x → AreOpen K limit sum (flat_map f (take i xs)) ys → now ≡ sum + sum_by K.share (flat_map f (take i xs)) → AreOpen K limit now (f x) ws
    → AreOpen K limit sum (flat_map f (take (i + 1) xs)) (ys ++ ws)
flat_more K f limit sum now xs i x ys ws lt at opened sums more =
    subst (λ t. AreOpen K limit sum t (ys ++ ws)) (sym (flat_one f xs i x lt at)) (open_append K limit sum now (flat_map f (take i xs)) ys (f x) ws opened sums more)

pub flat_fault : {X A B : Type 0} (K : PartKind A B TransferError) (f : X → List A) (limit sum now : ℕ) (xs : List X) (i : ℕ) (x : X) (ys : List B) (e : TransferError) (n k : ℕ)
    → i < length xs → x ≡ get_or xs i x → AreOpen K limit sum (flat_map f (take i xs)) ys → now ≡ sum + sum_by K.share (flat_map f (take i xs))
    → IsFirstFault K limit now (f x) e n → k ≡ sum_by K.share (flat_map f (take i xs)) + n → IsFirstFault K limit sum (flat_map f xs) e k
flat_fault K f limit sum now xs i x ys e n k lt at opened sums fault steps =
    let front = flat_map f (take i xs) in
    let back = flat_map f (drop (i + 1) xs) in
    let whole : flat_map f xs ≡ (front ++ f x) ++ back =
    ap (flat_map f) (sym (take-append-drop (i + 1) xs)) ∙ flat_map-append f (take (i + 1) xs) (drop (i + 1) xs) ∙ ap (λ t. t ++ back) (flat_one f xs i x lt at) in
    record {
      before = front ++ fault.before;
      part = fault.part;
      behind = fault.behind ++ back;
      split = whole ∙ ap (λ t. (front ++ t) ++ back) fault.split ∙ grind (arith, append_assoc);
      made = ys ++ fault.made;
      open_before = open_append K limit sum now front ys fault.before fault.made opened sums fault.open_before;
      own = fault.own;
      fault = subst (λ s. K.Fault s fault.part e fault.own) (omega (arith, sums, sum_by-append K.share front fault.before)) fault.fault;
      steps = omega (arith, steps, fault.steps, sum_by-append K.share front fault.before);
    }

pub flat_refused : {X A B : Type 0} (K : PartKind A B TransferError) (f : X → List A) (limit sum now : ℕ) (xs : List X) (i : ℕ) (x : X) (ys : List B) (old mid new : ℕ) (e : TransferError)
    → i < length xs → x ≡ get_or xs i x → AreOpen K limit sum (flat_map f (take i xs)) ys → now ≡ sum + sum_by K.share (flat_map f (take i xs))
    → mid ≡ old + sum_by K.share (flat_map f (take i xs)) → RefusedAfter (IsFirstFault K limit now (f x)) mid new e → RefusedAfter (IsFirstFault K limit sum (flat_map f xs)) old new e
flat_refused K f limit sum now xs i x ys old mid new e lt at opened sums is h =
    refused_later (IsFirstFault K limit now (f x)) (IsFirstFault K limit sum (flat_map f xs)) old mid new (sum_by K.share (flat_map f (take i xs))) is
    (λ e n g. flat_fault K f limit sum now xs i x ys e n _ lt at opened sums g refl) e h
