-- What a run of the sample answers.
use Rattle.std.proofs.Common.{◌≡◌, ℕ, ◌+◌, ◌≤◌, List, refl, sym, ◌∙◌, arith, subst}
use Rattle.std.specs.Prelude.{Result, Ok, Err, IfOk, IfErr, decimal}
use Rattle.std.proofs.lemmas.Fmt.{decimal_injective}
use Rattle.frame.specs.Calls.{IsWritten, cut, whole}
use Rattle.frame.specs.DueText.{joined}
use Rattle.frame.specs.Status.{error_text, status_in, text_in}
use Rattle.frame.specs.Stream.{Stream}
use Rattle.frame.specs.declared.status.Status.{Status}
use Rattle.frame.specs.declared.status.Status.TheVariants.{WriteFault, Memory}
use Rattle.transfer.specs.Sample.{IsSample, SampleAnswers, SampleDue, SampleMakes, sample_work}

memory_due : (keys a b : ℕ) (s : Status) → s ≡ Memory → SampleDue keys a b s (error_text s)
memory_due keys a b s is = rw is refl

due : (keys a b : ℕ) (d : Result (List (List ℕ)) Status) → IfOk d (λ lines. SampleMakes keys a b (joined lines)) → IfErr d (λ s. s ≡ Memory) → SampleDue keys a b (status_in d) (text_in joined d)
due keys a b (Ok lines) made memory = made
due keys a b (Err s) made memory = memory_due keys a b s memory

due_as : (keys a b : ℕ) (s t : Status) (text : List ℕ) → s ≡ t → SampleDue keys a b t text → SampleDue keys a b s text
due_as keys a b s t text is h = rw is h

answered : (keys a b : ℕ) (output : Stream) (t : Status) (text : List ℕ) (s : Status) → output.faults ≤ output.faults_after → (a ≤ b) × (b ≤ a + sample_work keys) → SampleDue keys a b t text → IsWritten output t text s → SampleAnswers keys a b output s
answered keys a b output t text s count most is (whole same kept all) = record {
  written = λ other. (text, due_as keys a b s t text same is, all);
  part = λ fault. absurd (due_as keys a b WriteFault t text (sym fault ∙ same) is);
  write_fault = λ fault. absurd (due_as keys a b WriteFault t text (sym fault ∙ same) is);
  count = count;
  failed_write = λ rose. absurd (omega (arith, kept, rose));
  at_most = most;
}
answered keys a b output t text s count most is (cut fault rose some) = record {
  written = λ other. absurd (other fault);
  part = λ fault. (t, text, is, some);
  write_fault = λ fault. rose;
  count = count;
  failed_write = λ more. fault;
  at_most = most;
}

-- the words of a sample have one number
one_sample : (words : List (List ℕ)) (m n : ℕ) → IsSample words m → IsSample words n → m ≡ n
one_sample words m n p q =
    let s = sym p.spelled ∙ q.spelled in
    let e : decimal m ≡ decimal n = cc in
    decimal_injective m n (omega (arith, p.at_most)) (omega (arith, q.at_most)) e

pub sample_answers : (words : List (List ℕ)) (m n a b : ℕ) (output : Stream) (d : Result (List (List ℕ)) Status) (s : Status) → IsSample words m → IsSample words n
    → output.faults ≤ output.faults_after → IfOk d (λ lines. SampleMakes m a b (joined lines)) → IfErr d (λ s. s ≡ Memory) → (a ≤ b) × (b ≤ a + sample_work m)
    → IsWritten output (status_in d) (text_in joined d) s → SampleAnswers n a b output s
sample_answers words m n a b output d s p q count made memory most written =
    subst (λ k. SampleAnswers k a b output s) (one_sample words m n p q)
    (answered m a b output (status_in d) (text_in joined d) s count most (due m a b d made memory) written)
