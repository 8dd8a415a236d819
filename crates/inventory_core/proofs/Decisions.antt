-- Each result comes where its cause holds.
use Rattle.std.proofs.Common.{◌≡◌, ◌⊎◌, inl, inr, ℕ, List, refl, sym, ap, subst, ◌∙◌, true, false}
use Rattle.std.specs.Prelude.{Some, None, Result, Ok, Err}
use Rattle.frame.specs.Calls.{Effects}
use Rattle.frame.specs.Status.{Refused}
use Rattle.frame.specs.declared.status.Status.{Status}
use Rattle.frame.specs.declared.status.Status.TheVariants.{Done, InputMalformed, Memory}
use Rattle.transfer.specs.Opening.{FirstCause, HasVerdict, RefusedAfter, refused}
use Rattle.transfer.specs.Status.{status_of}
use Rattle.transfer.specs.Transferred.{IsDecided}
use Rattle.transfer.specs.declared.store.error.TransferError.{TransferError}
use Rattle.transfer.specs.declared.store.error.TransferError.TheVariants as refusals
use Rattle.inventory_core.specs.Answers.{ExactInventory, RefusesInventory}
use Rattle.inventory_core.specs.InputLine.{IsLine, IsNoLine}
use Rattle.inventory_core.specs.Words.{Command}
use Rattle.frame.proofs.Lines.{one_input}

-- ---- What was opened, and what is made of it

ok_err : {T P : Type 0} (t : T) (e : TransferError) → Ok t ≡ Err e → P
ok_err t e h = absurd cc

false_true : false ≡ true → ⊥
false_true h = cc

abbrev refusal_in : (T : Type 0) → TransferError → Result T TransferError
refusal_in T e = Err e

err_same : (T : Type 0) (e f : TransferError) → refusal_in T e ≡ Err f → e ≡ f
err_same T e f h = cc

-- Something is made of what was opened.
pub decided_ok : {T A : Type 0} (b p : List ℕ) (limit : ℕ) (t : T) (a : A) → IsDecided {T = T} b p limit (Ok t) → IsDecided {T = A} b p limit (Ok a)
decided_ok b p limit t a d = record {
  refuses = λ e h. elim (d.refuses e h) [ inl is ↦ ok_err t refusals.Memory is | inr is ↦ ok_err t e is ];
  completes = λ h. inl refl;
}

-- Want of memory is an answer to each store.
pub decided_memory : {A : Type 0} (b p : List ℕ) (limit : ℕ) → IsDecided {T = A} b p limit (Err refusals.Memory)
decided_memory b p limit = record { refuses = λ e h. inl refl; completes = λ h. inr refl }

-- A refusal stays one.
pub decided_err : {T A : Type 0} (b p : List ℕ) (limit : ℕ) (f : TransferError) → IsDecided {T = T} b p limit (Err f) → IsDecided {T = A} b p limit (Err f)
decided_err {T} {A} b p limit f d = record {
  refuses = λ e h. elim (d.refuses e h) [
    | inl is ↦ inl (ap (refusal_in A) (err_same T f refusals.Memory is))
    | inr is ↦ inr (ap (refusal_in A) (err_same T f e is))
  ];
  completes = λ h. elim (d.completes h) [
    | inl is ↦ absurd (false_true is)
    | inr is ↦ inr (ap (refusal_in A) (err_same T f refusals.Memory is))
  ];
}

-- ---- The status

is_memory : (e : TransferError) → (e ≡ refusals.Memory) ⊎ (e ≡ refusals.Memory → ⊥)
is_memory refusals.Memory = inl refl
is_memory _ = inr (λ h. cc)

pub exact_made : {T : Type 0} (c : Command) (x store : List ℕ) (t : T) → IsLine x store → IsDecided {T = T} store c.password c.limit (Ok t) → ExactInventory c x Done
exact_made c x store t i d = record {
  malformed = λ none. absurd (none store i);
  refuses = λ other e j h.
      let same : other ≡ store = (one_input x other store None None j i).0 in
      elim (d.refuses e (let P : List ℕ → Type 0 = λ s. FirstCause s c.password c.limit (Some e) in subst P same h)) [ inl is ↦ ok_err t refusals.Memory is | inr is ↦ ok_err t e is ];
  completes = λ other j h. refl;
}

settled : (T : Type 0) (c : Command) (x store : List ℕ) (f : TransferError) → (f ≡ refusals.Memory → ⊥) → IsLine x store
    → IsDecided {T = T} store c.password c.limit (Err f) → ExactInventory c x (status_of f)
settled T c x store f some i d = record {
  malformed = λ none. absurd (none store i);
  refuses = λ other e j h.
      let same : other ≡ store = (one_input x other store None None j i).0 in
      elim (d.refuses e (let P : List ℕ → Type 0 = λ s. FirstCause s c.password c.limit (Some e) in subst P same h)) [
        | inl is ↦ absurd (some (err_same T f refusals.Memory is))
        | inr is ↦ ap status_of (err_same T f e is)
      ];
  completes = λ other j h.
      let same : other ≡ store = (one_input x other store None None j i).0 in
      elim (d.completes (let P : List ℕ → Type 0 = λ s. FirstCause s c.password c.limit None in subst P same h)) [
        | inl is ↦ absurd (false_true is)
        | inr is ↦ absurd (some (err_same T f refusals.Memory is))
      ];
}

pub exact_refused : (T : Type 0) (c : Command) (x store : List ℕ) (f : TransferError) (s : Status) → s ≡ status_of f → IsLine x store
    → IsDecided {T = T} store c.password c.limit (Err f) → ExactInventory c x s ⊎ (s ≡ Memory)
exact_refused T c x store f s is i d = elim (is_memory f) [
  | inl m ↦ inr (is ∙ ap status_of m)
  | inr some ↦ inl (subst (λ t. ExactInventory c x t) (sym is) (settled T c x store f some i d))
]

-- An input that is no line.
pub exact_malformed : (c : Command) (x : List ℕ) → IsNoLine x → ExactInventory c x InputMalformed
exact_malformed c x none = record {
  malformed = λ h. refl;
  refuses = λ store e i h. absurd (none store i);
  completes = λ store i h. absurd (none store i);
}

-- ---- The cause of a refusal

refused_by : (c : Command) (e : Effects) (x store : List ℕ) (f : TransferError) → IsLine x store
    → RefusedAfter (λ e n. HasVerdict store c.password c.limit (refused e) n) e.steps e.steps_after f → Refused (RefusesInventory c e x) (status_of f)
refused_by c e x store refusals.TooLong i h = (store, i, (refusals.TooLong, refl, h))
refused_by c e x store refusals.Malformed i h = (store, i, (refusals.Malformed, refl, h))
refused_by c e x store refusals.Unsupported i h = (store, i, (refusals.Unsupported, refl, h))
refused_by c e x store refusals.MacMissing i h = (store, i, (refusals.MacMissing, refl, h))
refused_by c e x store refusals.MacUnsupported i h = (store, i, (refusals.MacUnsupported, refl, h))
refused_by c e x store refusals.ZeroIterations i h = (store, i, (refusals.ZeroIterations, refl, h))
refused_by c e x store refusals.WorkLimit i h = (store, i, (refusals.WorkLimit, refl, h))
refused_by c e x store refusals.MacMismatch i h = (store, i, (refusals.MacMismatch, refl, h))
refused_by c e x store refusals.ContentMalformed i h = (store, i, (refusals.ContentMalformed, refl, h))
refused_by c e x store refusals.DecryptFailed i h = (store, i, (refusals.DecryptFailed, refl, h))
refused_by c e x store refusals.KeyMalformed i h = (store, i, (refusals.KeyMalformed, refl, h))
refused_by c e x store refusals.Rng i h = absurd h
refused_by c e x store refusals.Memory i h = tt

pub refused_for : (c : Command) (e : Effects) (x store : List ℕ) (f : TransferError) (s : Status) → s ≡ status_of f → IsLine x store
    → RefusedAfter (λ e n. HasVerdict store c.password c.limit (refused e) n) e.steps e.steps_after f → Refused (RefusesInventory c e x) s
refused_for c e x store f s is i h = subst (λ t. Refused (RefusesInventory c e x) t) (sym is) (refused_by c e x store f i h)
