-- What a program decides: with no command, on an input that was not read whole, and after the work.
use Rattle.std.proofs.Common.{◌≡◌, ◌⊎◌, inl, inr, ℕ, ◌+◌, ◌<◌, ◌≤◌, List, [], length, Option, Some, Result, Ok, Err, refl, sym, ap, subst, ◌∙◌, arith}
use Rattle.std.specs.Prelude.{IfSome, IfOk, IfErr}
use Rattle.std.specs.Result.{IsErrOf}
use Rattle.std.proofs.KnownBytes.{Consumes-nil}
use Rattle.octet_core.specs.Faults.{Rose}
use Rattle.frame.specs.Calls.{Call, Effects, call_of, effects, KeepsLimit}
use Rattle.frame.specs.Deciding.{Decides}
use Rattle.frame.specs.Input.{IsWhole, TakesAtMost, input_limit, status_unread, taken_limit}
use Rattle.frame.specs.Programs.{asks, DueRow, IsExact, Program}
use Rattle.frame.specs.Status.{Kind, done, usage, read_fault, write_fault, too_long, memory, own, Refused, RefusedRow, error_text, kind_of, status_in, text_in}
use Rattle.frame.specs.Stream.{stream}
use Rattle.frame.specs.declared.input.InputError.{InputError}
use Rattle.frame.specs.declared.input.InputError.TheVariants as unread
use Rattle.frame.specs.declared.status.Status.{Status}
use Rattle.frame.specs.declared.status.Status.TheVariants.{Usage, Memory, Rng}

-- With no command nothing is done.
pub decided_none : {J : Type 0} (asked : Option J) (makes : J → Effects → List ℕ → List ℕ → Type 0) (refuses exact : J → Effects → List ℕ → Status → Type 0) (limit : J → ℕ)
    (told drawn : Option (List ℕ)) (faults draws steps : ℕ) → ((j : J) → asked ≡ Some j → ⊥)
    → Decides (asks asked makes refuses exact limit) (call_of (stream told told faults faults) (stream drawn drawn draws draws) steps steps) Usage (error_text Usage)
decided_none asked makes refuses exact limit told drawn faults draws steps none = record {
  usage = λ _. refl;
  due = (none, refl);
  failed_read = λ rose. absurd (omega (arith, rose));
  failed_draw = λ rose. absurd (omega (arith, rose));
  counts = (omega arith, omega arith);
  taken = ([], Consumes-nil told, omega arith);
  exact = λ j x given. absurd (none j given.command);
  at_most = λ j is. absurd (none j is);
}

-- The rows of an input that was not read whole.
unread_due : {J : Type 0} (p : Program J) (call : Call) (j : J) → p.IsAsked j → call.work.steps_after ≡ call.work.steps → (error : InputError)
    → (error ≡ unread.ReadFault → Rose call.input.faults call.input.faults_after)
    → (error ≡ unread.InputTooLong → IfSome call.input.told (λ x. input_limit < length x))
    → DueRow p call (status_unread error) (error_text (status_unread error)) (kind_of (status_unread error))
unread_due p call j asked still unread.ReadFault fault long = ((j, asked, (fault refl, still)), refl)
unread_due p call j asked still unread.InputTooLong fault long = ((j, asked, (long refl, still)), refl)
unread_due p call j asked still unread.Memory fault long = ((j, asked, tt), refl)

unread_exact : (May : Status → Type 0) (told : Option (List ℕ)) (faults faults_after : ℕ) (x : List ℕ) → told ≡ Some x → (Rose faults faults_after → ⊥) → (error : InputError)
    → (error ≡ unread.ReadFault → Rose faults faults_after) → (error ≡ unread.InputTooLong → IfSome told (λ x. input_limit < length x))
    → IsExact May x (status_unread error)
unread_exact May told faults faults_after x is unfailed unread.ReadFault fault long = absurd (unfailed (fault refl))
unread_exact May told faults faults_after x is unfailed unread.InputTooLong fault long =
    let more : input_limit < length x = subst (λ o. IfSome o (λ x. input_limit < length x)) is (long refl) in
    record { too_long = λ _. inl refl; worked = λ few. absurd (omega (arith, more, few)) }
unread_exact May told faults faults_after x is unfailed unread.Memory fault long = record { too_long = λ _. inr refl; worked = λ _. inr refl }

-- a result is one error at most
one_error : {T : Type 0} (r : Result T InputError) (a b : InputError) → r ≡ Err a → r ≡ Err b → a ≡ b
one_error r a b first second = cc

-- On an input that was not read whole no work is done.
pub decided_unread : {J T : Type 0} (asked : Option J) (makes : J → Effects → List ℕ → List ℕ → Type 0) (refuses exact : J → Effects → List ℕ → Status → Type 0) (limit : J → ℕ)
    (told told_after drawn : Option (List ℕ)) (faults faults_after draws steps : ℕ) (j : J) (r : Result T InputError) (error : InputError) (s : Status)
    → asked ≡ Some j → r ≡ Err error → s ≡ status_unread error → faults ≤ faults_after → (faults < faults_after → r ≡ Err unread.ReadFault)
    → (IsErrOf r unread.ReadFault → Rose faults faults_after) → (IsErrOf r unread.InputTooLong → IfSome told (λ x. input_limit < length x))
    → TakesAtMost told told_after taken_limit
    → Decides (asks asked makes refuses exact limit) (call_of (stream told told_after faults faults_after) (stream drawn drawn draws draws) steps steps) s (error_text s)
decided_unread asked makes refuses exact limit told told_after drawn faults faults_after draws steps j r error s command is same count last fault long taken =
    let p = asks asked makes refuses exact limit in
    let call = call_of (stream told told_after faults faults_after) (stream drawn drawn draws draws) steps steps in
    let fault_at : error ≡ unread.ReadFault → Rose faults faults_after = λ e. fault (is ∙ ap Err e) in
    let long_at : error ≡ unread.InputTooLong → IfSome told (λ x. input_limit < length x) = λ e. long (is ∙ ap Err e) in
    subst (λ t. Decides p call t (error_text t)) (sym same) record {
      usage = λ none. absurd (none j command);
      due = unread_due p call j command refl error fault_at long_at;
      failed_read = λ rose. ap status_unread (one_error r error unread.ReadFault is (last rose));
      failed_draw = λ rose. absurd (omega (arith, rose));
      counts = (count, omega arith);
      taken = taken;
      exact = λ c x given. unread_exact (exact c call.work x) told faults faults_after x given.told given.unfailed error fault_at long_at;
      at_most = λ c asks. (omega arith, omega arith);
    }

-- The rows of what the work answered on a whole input.
refused_due : {J : Type 0} (p : Program J) (call : Call) (j : J) (octets : List ℕ) (s : Status) → p.IsAsked j → IsWhole call.input.told call.input.told_after octets
    → (k : Kind) → RefusedRow (p.Refuses j call.work octets) s k → DueRow p call s (error_text s) k
refused_due p call j octets s asked whole done h = absurd h
refused_due p call j octets s asked whole usage h = absurd h
refused_due p call j octets s asked whole read_fault h = absurd h
refused_due p call j octets s asked whole write_fault h = absurd h
refused_due p call j octets s asked whole too_long h = absurd h
refused_due p call j octets s asked whole memory h = ((j, asked, tt), refl)
refused_due p call j octets s asked whole own h = ((j, asked, (whole.end, (octets, whole.all, whole.fits, h))), refl)

worked_due : {J T : Type 0} (p : Program J) (call : Call) (j : J) (octets : List ℕ) (text : T → List ℕ) (r : Result T Status) → p.IsAsked j
    → IsWhole call.input.told call.input.told_after octets → IfOk r (λ m. p.Makes j call.work octets (text m)) → IfErr r (Refused (p.Refuses j call.work octets))
    → DueRow p call (status_in r) (text_in text r) (kind_of (status_in r))
worked_due p call j octets text (Ok m) asked whole made refused = (j, asked, (whole.end, (octets, whole.all, whole.fits, made)))
worked_due p call j octets text (Err s) asked whole made refused = refused_due p call j octets s asked whole (kind_of s) refused

-- After the work what it answered is decided.
pub decided_work : {J T M : Type 0} (asked : Option J) (makes : J → Effects → List ℕ → List ℕ → Type 0) (refuses exact : J → Effects → List ℕ → Status → Type 0) (limit : J → ℕ)
    (told told_after drawn drawn_after : Option (List ℕ)) (faults faults_after draws draws_after steps steps_after : ℕ) (j : J) (read : Result T InputError) (v : T) (octets : List ℕ)
    (text : M → List ℕ) (r : Result M Status) → let work = effects (stream drawn drawn_after draws draws_after) steps steps_after in
    asked ≡ Some j → read ≡ Ok v → faults ≤ faults_after → (faults < faults_after → read ≡ Err unread.ReadFault) → IsWhole told told_after octets
    → IfOk r (λ m. makes j work octets (text m)) → IfErr r (Refused (refuses j work octets)) → (exact j work octets (status_in r) ⊎ (status_in r ≡ Memory))
    → (steps ≤ steps_after) × (steps_after ≤ steps + limit j) → draws ≤ draws_after → (draws < draws_after → IsErrOf r Rng) → TakesAtMost told told_after taken_limit
    → Decides (asks asked makes refuses exact limit) (call_of (stream told told_after faults faults_after) (stream drawn drawn_after draws draws_after) steps steps_after) (status_in r) (text_in text r)
decided_work {J} asked makes refuses exact limit told told_after drawn drawn_after faults faults_after draws draws_after steps steps_after j read v octets text r
    command is count last whole made refused exact_at at_most rises failed taken =
    let p = asks asked makes refuses exact limit in
    let call = call_of (stream told told_after faults faults_after) (stream drawn drawn_after draws draws_after) steps steps_after in
    let same : (c : J) → asked ≡ Some c → j ≡ c = λ c e. (let f : Some j ≡ Some c = sym command ∙ e in let g : j ≡ c = cc in g) in
    record {
      usage = λ none. absurd (none j command);
      due = worked_due p call j octets text r command whole made refused;
      failed_draw = λ rose. ap status_in (failed rose);
      failed_read = λ rose. absurd (let e : Ok v ≡ Err unread.ReadFault = sym is ∙ last rose in cc);
      counts = (count, rises);
      taken = taken;
      exact = λ c x given.
          let e : octets ≡ x = subst (λ o. IfSome o (λ y. octets ≡ y)) given.told whole.all in
          record {
            too_long = λ more. absurd (omega (arith, more, ap length e, whole.fits));
            worked = λ few. subst (λ c. exact c call.work x (status_in r) ⊎ (status_in r ≡ Memory)) (same c given.command)
                (subst (λ x. exact j call.work x (status_in r) ⊎ (status_in r ≡ Memory)) e exact_at);
          };
      at_most = λ c e. subst (λ c. KeepsLimit call.work (limit c)) (same c e) at_most;
    }
