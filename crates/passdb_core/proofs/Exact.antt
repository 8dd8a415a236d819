-- Which status comes of an input.
use Rattle.std.proofs.Common.{◌≡◌, ◌⊎◌, ℕ, List, inl, inr, refl, sym, ap, ◌∙◌, subst}
use Rattle.std.specs.Prelude.{Option, Some, None, Result, Ok, Err, IfOk, IfErr}
use Rattle.octet_core.specs.DrawnBytes.{DrawnState}
use Rattle.frame.specs.Calls.{Effects}
use Rattle.frame.specs.InputText.{IsHex}
use Rattle.frame.specs.Status.{status_in}
use Rattle.frame.specs.Stream.{stream}
use Rattle.frame.specs.declared.status.Status.{Status}
use Rattle.frame.specs.declared.status.Status.TheVariants.{Done, Memory, Rng}
use Rattle.passdb_core.specs.declared.reply.Reply.{Reply}
use Rattle.passdb_core.specs.Calls.{Runs, RunsShort}
use Rattle.passdb_core.specs.Commands.{Command, run}
use Rattle.passdb_core.specs.Entries.{Book, Entries}
use Rattle.passdb_core.specs.Program.{Asked, ByDrawn, ExactInput, MakesLines, MayCome, StopsAs, book, status_of_run}
use Rattle.passdb_core.specs.Reading.{IsInput}
use Rattle.passdb_core.proofs.Runs.{run_told}
use Rattle.passdb_core.proofs.Scripts.{one_input}

-- On told octets the run ends.
run_ends : (b : Book) (cs : List Command) (d : List ℕ) (after : Option (List ℕ)) (n m : ℕ) (ys : List Reply) (es : Entries) → Runs b cs (Some d) after n m ys es
    → Done ≡ status_of_run (run b.rounds cs b.entries d)
run_ends b cs d None n m ys es h = absurd h.took
run_ends b cs d (Some rest) n m ys es h =
    ap status_of_run (sym (run_told b.rounds cs b.entries h.drawn rest h.ends h.ran)) ∙ ap (λ o. status_of_run (run b.rounds cs b.entries o)) (sym h.took)

may_done : (b : Book) (cs : List Command) (told after : Option (List ℕ)) (before now n m : ℕ) (ys : List Reply) (es : Entries) → Runs b cs told after n m ys es
    → MayCome b cs (record { draw = stream told after before now; steps = n; steps_after = m }) Done
may_done b cs None after before now n m ys es h = inl refl
may_done b cs (Some d) after before now n m ys es h = run_ends b cs d after n m ys es h

may_rng : (b : Book) (cs : List Command) (told after : Option (List ℕ)) (before now n m : ℕ) → RunsShort b cs told after before now
    → MayCome b cs (record { draw = stream told after before now; steps = n; steps_after = m }) Rng
may_rng b cs None after before now n m h = inr refl
may_rng b cs (Some d) after before now n m h = ap status_of_run (sym h.told_short)

may_of : {A : Type 0} (T : A → List ℕ) (b : Book) (cs : List Command) (told after : Option (List ℕ)) (before now n m : ℕ) (r : Result A Status)
    → IfOk r (λ a. MakesLines b cs told after n m (T a)) → IfErr r (StopsAs (RunsShort b cs told after before now))
    → MayCome b cs (record { draw = stream told after before now; steps = n; steps_after = m }) (status_in r) ⊎ (status_in r ≡ Memory)
may_of T b cs told after before now n m (Ok a) made refused = inl (may_done b cs told after before now n m made.replies made.entries made.runs)
may_of T b cs told after before now n m (Err s) made (inl short) =
    inl (subst (λ t. MayCome b cs (record { draw = stream told after before now; steps = n; steps_after = m }) t) (sym short.0) (may_rng b cs told after before now n m short.1))
may_of T b cs told after before now n m (Err s) made (inr memory) = inr memory

exact_at : (a : Asked) (e : Effects) (x : List ℕ) (s : Status) (es : Entries) (cs : List Command) → IsInput x es cs → ByDrawn a.digits e (λ f. MayCome (book a es) cs f s) → ExactInput a e x s
exact_at a e x s es cs i h = record {
  malformed = λ none. absurd (none es cs i);
  spelled = λ fs ds j.
      let o = one_input x es fs cs ds i j in
      subst (λ (gs : Entries). ByDrawn a.digits e (λ f. MayCome (book a gs) ds f s)) o.0 (subst (λ (bs : List Command). ByDrawn a.digits e (λ f. MayCome (book a es) bs f s)) o.1 h);
}

book_is : (b : Book) (a : Asked) → b.rounds ≡ a.rounds → b ≡ book a b.entries
book_is b a e = λ i. record { entries = b.entries; rounds = e i }

-- Where the octets are the draw's.
pub plain_exact : {A : Type 0} (T : A → List ℕ) (a : Asked) (x : List ℕ) (b : Book) (cs : List Command) (told after : Option (List ℕ)) (before now n m : ℕ) (r : Result A Status)
    → a.digits ≡ None → b.rounds ≡ a.rounds → IsInput x b.entries cs
    → IfOk r (λ t. MakesLines b cs told after n m (T t)) → IfErr r (StopsAs (RunsShort b cs told after before now))
    → ExactInput a (record { draw = stream told after before now; steps = n; steps_after = m }) x (status_in r) ⊎ (status_in r ≡ Memory)
plain_exact T a x b cs told after before now n m r none same i made refused =
    elim (may_of T b cs told after before now n m r made refused) [
      | inl h ↦ inl (exact_at a (record { draw = stream told after before now; steps = n; steps_after = m }) x (status_in r) b.entries cs i
          (subst (λ (d : Option (List ℕ)). ByDrawn d (record { draw = stream told after before now; steps = n; steps_after = m }) (λ f. MayCome (book a b.entries) cs f (status_in r))) (sym none)
          (subst (λ (k : Book). MayCome k cs (record { draw = stream told after before now; steps = n; steps_after = m }) (status_in r)) (book_is b a same) h)))
      | inr memory ↦ inr memory
    ]

-- Where they are those of the arguments.
pub drawn_exact : {A : Type 0} (T : A → List ℕ) (a : Asked) (x digits octets : List ℕ) (state : DrawnState) (b : Book) (cs : List Command) (after : Option (List ℕ)) (now : ℕ) (e : Effects) (r : Result A Status)
    → a.digits ≡ Some digits → IsHex digits octets → state ≡ record { left = octets; faults = 0 } → b.rounds ≡ a.rounds → IsInput x b.entries cs
    → IfOk r (λ t. MakesLines b cs (Some state.left) after e.steps e.steps_after (T t)) → IfErr r (StopsAs (RunsShort b cs (Some state.left) after state.faults now))
    → ExactInput a e x (status_in r) ⊎ (status_in r ≡ Memory)
drawn_exact T a x digits octets state b cs after now e r some hex is same i made refused =
    elim (may_of T b cs (Some state.left) after state.faults now e.steps e.steps_after r made refused) [
      | inl h ↦ inl (exact_at a e x (status_in r) b.entries cs i
          (subst (λ (d : Option (List ℕ)). ByDrawn d e (λ f. MayCome (book a b.entries) cs f (status_in r))) (sym some) (
            octets,
            hex,
            (
              after,
              0,
              now,
              subst (λ (k : Book). MayCome k cs (record e { draw = stream (Some octets) after 0 now }) (status_in r)) (book_is b a same)
                  (subst (λ (t : DrawnState). MayCome b cs (record e { draw = stream (Some t.left) after t.faults now }) (status_in r)) is h),
            ),
          )))
      | inr memory ↦ inr memory
    ]

pub input_as : (x y : List ℕ) (es : Entries) (cs ds : List Command) → x ≡ y → ds ≡ cs → IsInput x es cs → IsInput y es ds
input_as x y es cs ds p q i = subst (λ t. IsInput t es ds) p (subst (λ (t : List Command). IsInput x es t) (sym q) i)
