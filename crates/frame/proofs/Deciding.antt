-- What a decision says of the result.
use Rattle.std.proofs.Common.{◌≡◌, ◌⊎◌, inl, inr, ◌≤◌, List, ℕ, arith, refl, subst, sym}
use Rattle.std.specs.Io.KnownBytes.{Appends}
use Rattle.octet_core.specs.Faults.{Rose}
use Rattle.frame.specs.Calls.{Call, IsWritten, TakesNoStep, cut, whole}
use Rattle.frame.specs.DueText.{AppendsPart}
use Rattle.frame.specs.Deciding.{Decides}
use Rattle.frame.specs.Programs.{Answers, Due, DueRow, Program}
use Rattle.frame.specs.Status.{own, write_fault}
use Rattle.frame.specs.Stream.{Stream}
use Rattle.frame.specs.declared.status.Status.{Status}
use Rattle.frame.specs.declared.status.Status.TheVariants.{Done, Usage, ReadFault, WriteFault, InputTooLong}

due_at : {C : Type 0} (p : Program C) (call : Call) (s t : Status) (text : List ℕ) → Due p call s text → s ≡ t → Due p call t text
due_at p call s t text due is = subst (λ t. Due p call t text) is due

unworked_at : {C : Type 0} (p : Program C) (call : Call) (s : Status) (text : List ℕ) → Due p call s text → (s ≡ ReadFault) ⊎ (s ≡ InputTooLong) → TakesNoStep call.work
unworked_at p call s text due (inl is) = (due_at p call s ReadFault text due is).0.2.1
unworked_at p call s text due (inr is) = (due_at p call s InputTooLong text due is).0.2.1

-- The decision was written whole.
answered_whole : {C : Type 0} (p : Program C) (call : Call) (output : Stream) (s : Status) (text : List ℕ) → Decides p call s text → output.faults_after ≡ output.faults
    → Appends output.told output.told_after text → Answers p call output s
answered_whole p call output s text d kept all = record {
  usage = λ none. inl (d.usage none);
  usage_only = λ is. (due_at p call s Usage text d.due is).0;
  read_fault = λ is. (due_at p call s ReadFault text d.due is).0.2.0;
  write_fault = λ is. absurd (due_at p call s WriteFault text d.due is).0.2;
  failed_read = λ rose. inl (d.failed_read rose);
  failed_draw = λ rose. inl (d.failed_draw rose);
  failed_write = λ rose. absurd (omega (arith, kept, rose));
  counts = (d.counts.0, d.counts.1, omega (arith, kept));
  taken = d.taken;
  too_long = λ is. (due_at p call s InputTooLong text d.due is).0.2.0;
  unworked = unworked_at p call s text d.due;
  refused = λ is. (subst (DueRow p call s text) is d.due).0;
  done = λ is. (text, due_at p call s Done text d.due is, all);
  written = λ not. (text, d.due, all);
  part = λ is. absurd (due_at p call s WriteFault text d.due is).0.2;
  exact = λ c x g. inr (d.exact c x g);
  at_most = d.at_most;
}

-- A write failed.
answered_cut : {C : Type 0} (p : Program C) (call : Call) (output : Stream) (due : Status) (text : List ℕ) → Decides p call due text → output.faults ≤ output.faults_after
    → Rose output.faults output.faults_after → AppendsPart output.told output.told_after text → Answers p call output WriteFault
answered_cut p call output due text d count rose some = record {
  usage = λ none. inr refl;
  usage_only = λ is. absurd (let bad : WriteFault ≡ Usage = is in cc);
  read_fault = λ is. absurd (let bad : WriteFault ≡ ReadFault = is in cc);
  write_fault = λ is. rose;
  failed_read = λ h. inr refl;
  failed_draw = λ h. inr refl;
  failed_write = λ h. refl;
  counts = (d.counts.0, d.counts.1, count);
  taken = d.taken;
  too_long = λ is. absurd (let bad : WriteFault ≡ InputTooLong = is in cc);
  unworked = λ any. elim any [
    | inl is ↦ absurd (let bad : WriteFault ≡ ReadFault = is in cc)
    | inr is ↦ absurd (let bad : WriteFault ≡ InputTooLong = is in cc)
  ];
  refused = λ is. absurd (let bad : write_fault ≡ own = is in cc);
  done = λ is. absurd (let bad : WriteFault ≡ Done = is in cc);
  written = λ not. absurd (not refl);
  part = λ is. (due, text, d.due, some);
  exact = λ c x g. inl refl;
  at_most = d.at_most;
}

-- What was decided is returned, or that a write failed.
pub answered : {C : Type 0} (p : Program C) (call : Call) (output : Stream) (due : Status) (text : List ℕ) (s : Status) → Decides p call due text
    → output.faults ≤ output.faults_after → IsWritten output due text s → Answers p call output s
answered p call output due text s d count (whole is kept all) =
    answered_whole p call output s text (subst (λ t. Decides p call t text) (sym is) d) kept all
answered p call output due text s d count (cut is rose some) =
    subst (Answers p call output) (sym is) (answered_cut p call output due text d count rose some)
