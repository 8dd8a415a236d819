-- What a command does is an outcome for its name.
use Rattle.std.proofs.Common.{ℕ, ◌≡◌, List, [], refl, sym, subst}
use Rattle.std.specs.Prelude.{Bool, true, false, nat_lt, Option, Some, None, Result, Ok, Err, IfOk}
use Rattle.std.proofs.KnownBytes.{Consumes-nil}
use Rattle.passdb_core.specs.Calls.{Does}
use Rattle.passdb_core.specs.Commands.{Command, add, change, check, checked, does, does_to, draws, entries_after, name_of, remove}
use Rattle.passdb_core.specs.Entries.{Book, Entries, at}
use Rattle.passdb_core.specs.Entry.{Entry, right, test_steps}
use Rattle.passdb_core.specs.declared.error.DbError.{DbError}
use Rattle.passdb_core.specs.declared.reply.Reply.{Reply}
use Rattle.passdb_core.specs.declared.reply.Reply.TheVariants.{Unknown}
use Rattle.passdb_command.specs.declared.work.Work.{Work}
use Rattle.passdb_command.specs.declared.work.Work.TheVariants as work
use Rattle.passdb_command.specs.Work.{IsDone, Outcomes, resets}

pub as_outcome : (b : Book) (c : Command) (told told_after : Option (List ℕ)) (s t : ℕ) (y : Reply) (es : Entries)
    → Does b c told told_after s t y es → Outcomes b (name_of c) (does_to b.rounds b.entries c) told told_after y es
as_outcome b c told told_after s t y es d = record { reply = d.reply; drawn = d.drawn; count = d.count; took = d.took; entries = d.entries }

ok_as_outcome : (r : Result Reply DbError) (b : Book) (c : Command) (told told_after : Option (List ℕ)) (s t : ℕ) (es : Entries)
    → IfOk r (λ y. Does b c told told_after s t y es)
    → IfOk r (λ y. Outcomes b (name_of c) (does_to b.rounds b.entries c) told told_after y es)
ok_as_outcome (Ok y) b c told told_after s t es d = as_outcome b c told told_after s t y es d
ok_as_outcome (Err e) b c told told_after s t es d = tt

-- nothing is drawn to remove a name
undrawn : (r : ℕ) (o : Option Entry) (name : List ℕ) → draws (does r o (remove name)).change ≡ 0
undrawn r None name = refl
undrawn r (Some e) name = refl

remove_as_outcome : (b : Book) (name : List ℕ) (told : Option (List ℕ)) (y : Reply) (es : Entries)
    → y ≡ (does_to b.rounds b.entries (remove name)).reply → es ≡ entries_after b.rounds b.entries (remove name) []
    → Outcomes b name (does_to b.rounds b.entries (remove name)) told told y es
remove_as_outcome b name told y es reply entries =
    record { reply = reply; drawn = []; count = sym (undrawn b.rounds (at b.entries name) name); took = Consumes-nil told; entries = entries }

-- a name that is unknown is told at once
checked_known : (r n : ℕ) (is_right few : Bool) (w : List ℕ) → (checked r n is_right few w).reply ≡ Unknown → (checked r n is_right few w).steps ≡ 0
checked_known r n false few w h = absurd cc
checked_known r n true true w h = absurd cc
checked_known r n true false w h = absurd cc

at_once : (r : ℕ) (o : Option Entry) (name w : List ℕ) → (does r o (check name w)).reply ≡ Unknown → (does r o (check name w)).steps ≡ 0
at_once r None name w h = refl
at_once r (Some e) name w h = checked_known r (test_steps e) (right e w) (nat_lt e.settings.rounds r) w h

pub unknown_at_once : (b : Book) (name w : List ℕ) → (does_to b.rounds b.entries (check name w)).reply ≡ Unknown → (does_to b.rounds b.entries (check name w)).steps ≡ 0
unknown_at_once b name w h = at_once b.rounds (at b.entries name) name w h

-- ---- The work, by its variants

-- the result is Ok only of this work
abbrev Done : Book → List ℕ → Work → Option (List ℕ) → Option (List ℕ) → Entries → Result Reply DbError → Type 0
Done b name k told told_after es r = IfOk r (λ y. IsDone b name k told told_after y es)

pub added : (b : Book) (name v w : List ℕ) (k : Work) (told told_after : Option (List ℕ)) (s t : ℕ) (es : Entries) (r : Result Reply DbError)
    → k ≡ work.Add w → v ≡ w → IfOk r (λ y. Does b (add name v) told told_after s t y es) → IfOk r (λ y. IsDone b name k told told_after y es)
added b name v w k told told_after s t es r is same d =
    subst (λ (k : Work). Done b name k told told_after es r) (sym is)
    (subst (λ (v : List ℕ). Done b name (work.Add v) told told_after es r) same (ok_as_outcome r b (add name v) told told_after s t es d))

pub checked_as : (b : Book) (name v w : List ℕ) (k : Work) (told told_after : Option (List ℕ)) (s t : ℕ) (es : Entries) (r : Result Reply DbError)
    → k ≡ work.Check w → v ≡ w → IfOk r (λ y. Does b (check name v) told told_after s t y es) → IfOk r (λ y. IsDone b name k told told_after y es)
checked_as b name v w k told told_after s t es r is same d =
    subst (λ (k : Work). Done b name k told told_after es r) (sym is)
    (subst (λ (v : List ℕ). Done b name (work.Check v) told told_after es r) same (ok_as_outcome r b (check name v) told told_after s t es d))

pub changed_as : (b : Book) (name v w p q : List ℕ) (k : Work) (told told_after : Option (List ℕ)) (s t : ℕ) (es : Entries) (r : Result Reply DbError)
    → k ≡ work.Change w q → v ≡ w → p ≡ q → IfOk r (λ y. Does b (change name v p) told told_after s t y es)
    → IfOk r (λ y. IsDone b name k told told_after y es)
changed_as b name v w p q k told told_after s t es r is same also d =
    subst (λ (k : Work). Done b name k told told_after es r) (sym is)
    (subst (λ (v : List ℕ). Done b name (work.Change v q) told told_after es r) same
    (subst (λ (p : List ℕ). Done b name (work.Change v p) told told_after es r) also (ok_as_outcome r b (change name v p) told told_after s t es d)))

pub reset_as : (b : Book) (name v w : List ℕ) (k : Work) (told told_after : Option (List ℕ)) (es : Entries) (r : Result Reply DbError)
    → k ≡ work.Reset w → v ≡ w → IfOk r (λ y. Outcomes b name (resets b.rounds (at b.entries name) v) told told_after y es)
    → IfOk r (λ y. IsDone b name k told told_after y es)
reset_as b name v w k told told_after es r is same d =
    subst (λ (k : Work). Done b name k told told_after es r) (sym is)
    (subst (λ (v : List ℕ). Done b name (work.Reset v) told told_after es r) same d)

pub removed_as : (b : Book) (name : List ℕ) (k : Work) (told : Option (List ℕ)) (es : Entries) (y : Reply)
    → k ≡ work.Remove → y ≡ (does_to b.rounds b.entries (remove name)).reply → es ≡ entries_after b.rounds b.entries (remove name) []
    → IsDone b name k told told y es
removed_as b name k told es y is reply entries =
    subst (λ (k : Work). IsDone b name k told told y es) (sym is) (remove_as_outcome b name told y es reply entries)
