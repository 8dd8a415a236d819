-- What the transfer of a store says of the command's answer.
use Rattle.std.proofs.Common.{◌≡◌, ◌⊎◌, inl, inr, ℕ, List, refl, sym, ap, ◌∙◌, arith, true, false}
use Rattle.std.specs.Prelude.{Option, Some, None, Result, Ok, Err, IfSome, IfErr, decimal}
use Rattle.std.proofs.lemmas.Fmt.{decimal_injective}
use Rattle.frame.specs.InputText.{IsInput}
use Rattle.frame.specs.Lined.{HasLine}
use Rattle.frame.specs.Status.{status_in}
use Rattle.frame.specs.declared.status.Status.{Status}
use Rattle.frame.specs.declared.status.Status.TheVariants.{Done, Memory}
use Rattle.frame.proofs.Commands.{either, if_told}
use Rattle.transfer.specs.declared.store.error.TransferError.{TransferError}
use Rattle.transfer.specs.declared.store.error.TransferError.TheVariants as refusals
use Rattle.transfer.specs.Answers.{ExactStore}
use Rattle.transfer.specs.Status.{status_of}
use Rattle.transfer.specs.Transferred.{IsSettled, Settles}
use Rattle.transfer.specs.Words.{Command, IsCommand}
use Rattle.transfer.proofs.Settling.{if_some_map}

-- ---- One command

pub one_command : (words : List (List ℕ)) (c d : Command) → IsCommand words c → IsCommand words d → c ≡ d
one_command words c d p q =
    let s = sym p.spelled ∙ q.spelled in
    let password : c.password ≡ d.password = cc in
    let new_password : c.new_password ≡ d.new_password = cc in
    let r : decimal c.rounds ≡ decimal d.rounds = cc in
    let l : decimal c.limit ≡ decimal d.limit = cc in
    let rounds = decimal_injective c.rounds d.rounds (omega (arith, p.rounds)) (omega (arith, q.rounds)) r in
    let limit = decimal_injective c.limit d.limit p.limit q.limit l in
    let make : List ℕ → List ℕ → ℕ → ℕ → Command =
    λ a b n m. record { password = a; new_password = b; rounds = n; limit = m } in
    ap (λ a. make a c.new_password c.rounds c.limit) password ∙ ap (λ b. make d.password b c.rounds c.limit) new_password
    ∙ ap (λ n. make d.password d.new_password n c.limit) rounds ∙ ap (λ m. make d.password d.new_password d.rounds m) limit

-- ---- Each result comes where its cause holds

abbrev refusal_in : (T : Type 0) → TransferError → Result T TransferError
refusal_in T e = Err e

err_same : (T : Type 0) (e f : TransferError) → refusal_in T e ≡ Err f → e ≡ f
err_same T e f h = cc

ok_err : {T P : Type 0} (t : T) (e : TransferError) → Ok t ≡ Err e → P
ok_err t e h = absurd cc

false_true : false ≡ true → ⊥
false_true h = cc

is_memory : (e : TransferError) → (e ≡ refusals.Memory) ⊎ (e ≡ refusals.Memory → ⊥)
is_memory refusals.Memory = inl refl
is_memory _ = inr (λ h. cc)

settled_ok : {T : Type 0} (c : Command) (drawn : Option (List ℕ)) (store : List ℕ) (t : T) → IsSettled {T = T} store c.password c.limit drawn (Ok t) → ExactStore c drawn store Done
settled_ok {T} c drawn store t s = record {
  refuses = λ e h. elim (s.refuses e h) [ inl is ↦ ok_err t refusals.Memory is | inr is ↦ ok_err t e is ];
  completes = λ h. inl refl;
  draws = λ bags keys n h. if_some_map drawn _ _
      (λ d k. (λ lt. elim (k.0 lt) [ inl is ↦ ok_err t refusals.Memory is | inr is ↦ ok_err t refusals.Rng is ], λ le. refl))
      (s.draws bags keys n h);
}

settled_err : (T : Type 0) (c : Command) (drawn : Option (List ℕ)) (store : List ℕ) (f : TransferError) → (f ≡ refusals.Memory → ⊥)
    → IsSettled {T = T} store c.password c.limit drawn (Err f) → ExactStore c drawn store (status_of f)
settled_err T c drawn store f some s = record {
  refuses = λ e h. elim (s.refuses e h) [
    | inl is ↦ absurd (some (err_same T f refusals.Memory is))
    | inr is ↦ ap status_of (err_same T f e is)
  ];
  completes = λ h. elim (s.completes h) [
    | inl is ↦ absurd (false_true is)
    | inr any ↦ elim any [
      | inl is ↦ absurd (some (err_same T f refusals.Memory is))
      | inr is ↦ inr (ap status_of (err_same T f refusals.Rng is))
    ]
  ];
  draws = λ bags keys n h. if_some_map drawn _ _ (λ d k. (
    λ lt. elim (k.0 lt) [
      | inl is ↦ absurd (some (err_same T f refusals.Memory is))
      | inr is ↦ ap status_of (err_same T f refusals.Rng is)
    ],
    λ le. elim (k.1 le) [
      | inl is ↦ absurd (some (err_same T f refusals.Memory is))
      | inr is ↦ absurd (false_true is)
    ],
  )) (s.draws bags keys n h);
}

pub exact_made : {T A : Type 0} (c : Command) (drawn : Option (List ℕ)) (store : List ℕ) (t : T) (r : Result A Status) → Settles {T = T} store c.password c.limit drawn (Ok t)
    → IfErr r (λ s. s ≡ Memory) → ExactStore c drawn store (status_in r) ⊎ (status_in r ≡ Memory)
unfolding Settles
exact_made c drawn store t (Ok a) s is = inl (settled_ok c drawn store t s)
exact_made c drawn store t (Err e) s is = inr is

pub exact_refused : (T : Type 0) (c : Command) (drawn : Option (List ℕ)) (store : List ℕ) (f : TransferError) (s : Status) → s ≡ status_of f
    → Settles {T = T} store c.password c.limit drawn (Err f) → ExactStore c drawn store s ⊎ (s ≡ Memory)
unfolding Settles
exact_refused T c drawn store f s is h = elim (is_memory f) [
  | inl m ↦ inr (is ∙ ap status_of m)
  | inr some ↦ inl (rw is (settled_err T c drawn store f some h))
]

-- ---- Second lines

lines_apart : (told : Option (List ℕ)) (P : Type 0) → IfSome told (λ x. HasLine x → P) → IfSome told (λ x. (store line : List ℕ) → IsInput x store (Some line) → P)
lines_apart None P h = tt
lines_apart (Some x) P h = λ store line i. h (store, line, i)

-- Where there is one the draw is kept, with a job and with none.
pub line_kept : {J : Type 0} (asked : Option J) (told : Option (List ℕ)) (P : Type 0) → (asked ≡ None → P)
    → ((j : J) → asked ≡ Some j → IfSome told (λ x. HasLine x → P)) → IfSome told (λ x. (store line : List ℕ) → IsInput x store (Some line) → P)
line_kept asked told P none some =
    lines_apart told P (either asked (IfSome told (λ x. HasLine x → P)) (λ is. if_told told (λ x. HasLine x → P) (λ x h. none is)) some)
