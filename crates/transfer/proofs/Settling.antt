-- Each result comes where its cause holds.
use Rattle.std.proofs.Common.{ℕ, ◌≡◌, ◌+◌, ◌⊎◌, inl, inr, List, length, refl, ap, subst, arith}
use Rattle.std.specs.Prelude.{Option, Some, None, Result, Ok, Err, IfErr, IfSome, IsOk, ⊤}
use Rattle.p12.specs.declared.safe_bag.SafeBag.{SafeBag}
use Rattle.transfer.specs.declared.store.error.TransferError.{TransferError}
use Rattle.transfer.specs.declared.store.error.TransferError.TheVariants.{TooLong, Malformed, Unsupported, MacMissing, MacUnsupported, ZeroIterations, WorkLimit, MacMismatch, ContentMalformed, DecryptFailed, KeyMalformed, Rng, Memory}
use Rattle.transfer.specs.TransferError.{RefusedBy}
use Rattle.transfer.specs.Opening.{HasVerdict, FirstCause, RefusedAfter, opened, refused}
use Rattle.transfer.specs.Transferred.{DrawsFor, IsDecided, IsRefusal, IsSettled, Settles}
use Rattle.transfer.proofs.Faults.{refused_as}
use Rattle.transfer.proofs.Sole.{verdict_sole}
use Rattle.transfer.proofs.Valid.{not_refused, second_same}

refused_same : (e g : TransferError) → refused e ≡ refused g → e ≡ g
refused_same e g h = grind (arith, h)

-- A store has one first cause.
pub one_cause : (b p : List ℕ) (limit : ℕ) (a c : Option TransferError) → FirstCause b p limit a → FirstCause b p limit c → a ≡ c
one_cause b p limit None None h k = refl
one_cause b p limit None (Some e) h k = absurd (not_refused h.0 h.1 e (verdict_sole b p limit (opened h.0 h.1) (refused e) h.2 k.0 h.3 k.1).0)
one_cause b p limit (Some e) None h k = absurd (not_refused k.0 k.1 e (verdict_sole b p limit (opened k.0 k.1) (refused e) k.2 h.0 k.3 h.1).0)
one_cause b p limit (Some e) (Some g) h k = ap Some (refused_same e g (verdict_sole b p limit (refused e) (refused g) h.0 k.0 h.1 k.1).0)

-- Why a refusal came.
refusal : (P : TransferError → Type 0) (R : Type 0) (e : TransferError) → RefusedBy P R e → (e ≡ Memory) ⊎ (((e ≡ Rng) × R) ⊎ P e)
refusal P R TooLong h = inr (inr h)
refusal P R Malformed h = inr (inr h)
refusal P R Unsupported h = inr (inr h)
refusal P R MacMissing h = inr (inr h)
refusal P R MacUnsupported h = inr (inr h)
refusal P R ZeroIterations h = inr (inr h)
refusal P R WorkLimit h = inr (inr h)
refusal P R MacMismatch h = inr (inr h)
refusal P R ContentMalformed h = inr (inr h)
refusal P R DecryptFailed h = inr (inr h)
refusal P R KeyMalformed h = inr (inr h)
refusal P R Rng h = inr (inl (refl, h))
refusal P R Memory h = inl refl

-- The keys that a store opens to.
pub both_open : (b p : List ℕ) (limit : ℕ) (gss hss : List (List SafeBag)) (ks js : List (List ℕ)) (m n : ℕ) → HasVerdict b p limit (opened gss ks) m → HasVerdict b p limit (opened hss js) n → ks ≡ js
both_open b p limit gss hss ks js m n c d = second_same gss hss ks js (verdict_sole b p limit (opened gss ks) (opened hss js) m n c d).0

pub open_refused : {P : Type 0} (b p : List ℕ) (limit : ℕ) (gss : List (List SafeBag)) (ks : List (List ℕ)) (e : TransferError) (m n : ℕ) → HasVerdict b p limit (opened gss ks) m
    → HasVerdict b p limit (refused e) n → P
open_refused b p limit gss ks e m n c d = absurd (not_refused gss ks e (verdict_sole b p limit (opened gss ks) (refused e) m n c d).0)

pub if_some_map : (o : Option (List ℕ)) (P Q : List ℕ → Type 0) → ((d : List ℕ) → P d → Q d) → IfSome o P → IfSome o Q
if_some_map None P Q f h = tt
if_some_map (Some d) P Q f h = f d h

pub any : (o : Option (List ℕ)) → IfSome o (λ d. ⊤)
any None = tt
any (Some d) = tt

-- What a refusal before the draw says, without its steps.
pub refused_undrawn : (F : TransferError → ℕ → Type 0) (R : Type 0) (old new : ℕ) (e : TransferError) → RefusedAfter F old new e → RefusedBy (λ e. (n : ℕ) × F e n) R e
refused_undrawn F R old new e h = refused_as (λ e. (n : ℕ) × F e n × (new ≡ old + n)) (λ e. (n : ℕ) × F e n) ⊥ R (λ e h. (h.0, h.1)) (λ h. absurd h) e h

-- ---- Opening alone

pub decided_ok : (T : Type 0) (b p : List ℕ) (limit : ℕ) (t : T) (gss : List (List SafeBag)) (ks : List (List ℕ)) (n : ℕ) → HasVerdict b p limit (opened gss ks) n → IsDecided {T = T} b p limit (Ok t)
decided_ok T b p limit t gss ks n c = record {
  refuses = λ e h. open_refused b p limit gss ks e n h.0 c h.1;
  completes = λ h. inl refl;
}

pub decided_memory : (T : Type 0) (b p : List ℕ) (limit : ℕ) → IsDecided {T = T} b p limit (Err Memory)
decided_memory T b p limit = record {
  refuses = λ e h. inl refl;
  completes = λ h. inr refl;
}

decided_by : (T : Type 0) (b p : List ℕ) (limit : ℕ) (e : TransferError) → (e ≡ Memory) ⊎ (((e ≡ Rng) × ⊥) ⊎ ((n : ℕ) × HasVerdict b p limit (refused e) n)) → IsDecided {T = T} b p limit (Err e)
decided_by T b p limit e (inl is) = record { refuses = λ g h. inl (ap Err is); completes = λ h. inr (ap Err is) }
decided_by T b p limit e (inr (inl (is, none))) = absurd none
decided_by T b p limit e (inr (inr (n, c))) = record {
  refuses = λ g h. inr (ap Err (refused_same e g (verdict_sole b p limit (refused e) (refused g) n h.0 c h.1).0));
  completes = λ h. open_refused b p limit h.0 h.1 e h.2 n h.3 c;
}

pub decided_err : (T : Type 0) (b p : List ℕ) (limit : ℕ) (e : TransferError) → RefusedBy (λ e. (n : ℕ) × HasVerdict b p limit (refused e) n) ⊥ e → IsDecided {T = T} b p limit (Err e)
decided_err T b p limit e h = decided_by T b p limit e (refusal (λ e. (n : ℕ) × HasVerdict b p limit (refused e) n) ⊥ e h)

-- ---- Opening and then sealing

one_refusal : {S : Type 0} (e g : TransferError) → (let r : Result S TransferError = Err e in r) ≡ Err g → e ≡ g
one_refusal e g h = cc

refusal_as : {S T : Type 0} (e g : TransferError) → IsRefusal {T = S} (Err e) g → IsRefusal {T = T} (Err e) g
refusal_as {S} e g (inl h) = inl (ap Err (one_refusal {S = S} e Memory h))
refusal_as {S} e g (inr h) = inr (ap Err (one_refusal {S = S} e g h))

-- Where an opening that no cause refuses has failed there was no memory.
no_memory : {S : Type 0} (e : TransferError) → IsOk (let r : Result S TransferError = Err e in r) ⊎ ((let r : Result S TransferError = Err e in r) ≡ Err Memory) → e ≡ Memory
no_memory e (inl h) = absurd (let t = h in cc)
no_memory {S} e (inr h) = one_refusal {S = S} e Memory h

pub decided_as : (S T : Type 0) (b p : List ℕ) (limit : ℕ) (e : TransferError) → IsDecided {T = S} b p limit (Err e) → IsDecided {T = T} b p limit (Err e)
decided_as S T b p limit e d = record {
  refuses = λ g h. refusal_as {S = S} e g (d.refuses g h);
  completes = λ h. inr (ap Err (no_memory {S = S} e (d.completes h)));
}

settled_unopened : (S T : Type 0) (b p : List ℕ) (limit : ℕ) (left : Option (List ℕ)) (e : TransferError) → IsDecided {T = S} b p limit (Err e) → IsSettled {T = T} b p limit left (Err e)
settled_unopened S T b p limit left e d = record {
  refuses = λ g h. refusal_as {S = S} e g (d.refuses g h);
  completes = λ h. inr (inl (ap Err (no_memory {S = S} e (d.completes h))));
  draws = λ gss ks n h. let is = no_memory {S = S} e (d.completes (gss, ks, n, h)) in
      if_some_map left (λ d. ⊤) _ (λ x h. (λ lt. inl (ap Err is), λ le. inl (ap Err is))) (any left);
}

pub settles_unopened : (S T : Type 0) (b p : List ℕ) (limit : ℕ) (left : Option (List ℕ)) (e : TransferError) → IsDecided {T = S} b p limit (Err e) → Settles {T = T} b p limit left (Err e)
unfolding Settles
settles_unopened S T b p limit left e d = settled_unopened S T b p limit left e d

-- What sealing comes to is Rng or Memory, where it fails.
sealing_fails : {T : Type 0} (R : Type 0) (e : TransferError) → (e ≡ Memory) ⊎ (((e ≡ Rng) × R) ⊎ ⊥) → IsRefusal {T = T} (Err e) Rng
sealing_fails R e (inl is) = inl (ap Err is)
sealing_fails R e (inr (inl (is, h))) = inr (ap Err is)
sealing_fails R e (inr (inr h)) = absurd h

sealing_ends : {T : Type 0} (r : Result T TransferError) (R : Type 0) → IfErr r (RefusedBy (λ e. ⊥) R) → IsOk r ⊎ IsRefusal r Rng
sealing_ends (Ok t) R h = inl refl
sealing_ends (Err e) R h = inr (sealing_fails R e (refusal (λ e. ⊥) R e h))

settled_sealed : {T : Type 0} (b p : List ℕ) (limit : ℕ) (left : Option (List ℕ)) (r : Result T TransferError) (gss : List (List SafeBag)) (ks : List (List ℕ)) (n : ℕ) (R : Type 0)
    → HasVerdict b p limit (opened gss ks) n → DrawsFor left (length ks) r → IfErr r (RefusedBy (λ e. ⊥) R) → IsSettled {T = T} b p limit left r
settled_sealed b p limit left r gss ks n R v d h = record {
  refuses = λ e c. open_refused b p limit gss ks e n c.0 v c.1;
  completes = λ c. sealing_ends r R h;
  draws = λ hss js m w. subst (λ (js : List (List ℕ)). DrawsFor left (length js) r) (both_open b p limit gss hss ks js n m v w) d;
}

pub settles_sealed : {T : Type 0} (b p : List ℕ) (limit : ℕ) (left : Option (List ℕ)) (r : Result T TransferError) (gss : List (List SafeBag)) (ks : List (List ℕ)) (n : ℕ) (R : Type 0)
    → HasVerdict b p limit (opened gss ks) n → DrawsFor left (length ks) r → IfErr r (RefusedBy (λ e. ⊥) R) → Settles {T = T} b p limit left r
unfolding Settles
settles_sealed b p limit left r gss ks n R v d h = settled_sealed b p limit left r gss ks n R v d h
