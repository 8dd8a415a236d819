-- What a program returns for the command of its words, from what `answer` says of the job that they ask for.
use Rattle.std.proofs.Common.{◌≡◌, ◌⊎◌, inl, inr, List, ℕ, arith, refl, subst}
use Rattle.std.specs.Prelude.{Option, Some, None, IfSome, MatchOption}
use Rattle.frame.specs.Calls.{Call, IsRead, KeepsLimit, call_of, effects}
use Rattle.frame.specs.Programs.{Answers, CommandRow, DueRow, ForCommand, IsExact, IsNoCommand, Program, asks}
use Rattle.frame.specs.Status.{Kind, done, usage, read_fault, write_fault, too_long, memory, own, kind_of}
use Rattle.frame.specs.Stream.{Stream}
use Rattle.frame.specs.declared.status.Status.{Status}
use Rattle.frame.specs.declared.status.Status.TheVariants.{WriteFault}

-- The program of the jobs that stand for commands.
abbrev pub jobs_of : {J C : Type 0} → Program C → (J → C) → Option J → Program J
jobs_of p of asked = asks asked (λ j. p.Makes (of j)) (λ j. p.Refuses (of j)) (λ j. p.Exact (of j)) (λ j. p.limit (of j))

-- A job is asked for exactly where the arguments are those of a command, which is the job's.
pub record AsksFor {J C : Type 0} (p : Program C) (of : J → C) (asked : Option J) : Type 0 where
  pub found : (j : J) → asked ≡ Some j → p.IsAsked (of j)
  pub none : ((j : J) → asked ≡ Some j → ⊥) → IsNoCommand p
  pub job : (c : C) → p.IsAsked c → (j : J) × (asked ≡ Some j) × (of j ≡ c)

pub asks_for : {J C : Type 0} (p : Program C) (of : J → C) (asked : Option J) → MatchOption asked (IsNoCommand p) (λ j. p.IsAsked (of j))
    → ((c d : C) → p.IsAsked c → p.IsAsked d → c ≡ d) → AsksFor p of asked
asks_for p of None h one = record {
  found = λ j e. absurd cc;
  none = λ n. h;
  job = λ c is. absurd (h c is);
}
asks_for {J} {C} p of (Some j) h one = record {
  found = λ k e. let same : j ≡ k = cc in let P : J → Type 0 = λ k. p.IsAsked (of k) in subst P same h;
  none = λ n. absurd (n j refl);
  job = λ c is. (j, refl, one (of j) c h is);
}

some : {J C : Type 0} (p : Program C) (of : J → C) (asked : Option J) → AsksFor p of asked → (P : C → Type 0) → ForCommand (jobs_of p of asked) (λ j. P (of j)) → ForCommand p P
some p of asked f P (j, e, h) = (of j, f.found j e, h)

unasked : {J C : Type 0} (p : Program C) (of : J → C) (asked : Option J) → AsksFor p of asked → IsNoCommand p → IsNoCommand (jobs_of p of asked)
unasked p of asked f none j e = none (of j) (f.found j e)

row_as : {J C : Type 0} (p : Program C) (of : J → C) (asked : Option J) (call : Call) (s : Status) (text : List ℕ) (k : Kind) → AsksFor p of asked
    → DueRow (jobs_of p of asked) call s text k → DueRow p call s text k
row_as p of asked call s text done f h = some p of asked f (λ c. IsRead call.input (λ x. p.Makes c call.work x text)) h
row_as p of asked call s text usage f h = (f.none h.0, h.1)
row_as p of asked call s text read_fault f h = (some p of asked f (CommandRow p call s read_fault) h.0, h.1)
row_as p of asked call s text write_fault f h = (some p of asked f (CommandRow p call s write_fault) h.0, h.1)
row_as p of asked call s text too_long f h = (some p of asked f (CommandRow p call s too_long) h.0, h.1)
row_as p of asked call s text memory f h = (some p of asked f (CommandRow p call s memory) h.0, h.1)
row_as p of asked call s text own f h = (some p of asked f (CommandRow p call s own) h.0, h.1)

pub answers_as : {J C : Type 0} (p : Program C) (of : J → C) (asked : Option J) (call : Call) (output : Stream) (s : Status) → AsksFor p of asked
    → Answers (jobs_of p of asked) call output s → Answers p call output s
answers_as {J} {C} p of asked call output s f h = record {
  usage = λ none. h.usage (unasked p of asked f none);
  usage_only = λ is. f.none (h.usage_only is);
  read_fault = h.read_fault;
  write_fault = h.write_fault;
  failed_read = h.failed_read;
  failed_draw = h.failed_draw;
  failed_write = h.failed_write;
  counts = h.counts;
  taken = h.taken;
  too_long = h.too_long;
  unworked = h.unworked;
  refused = λ is. some p of asked f (λ c. IsRead call.input (λ x. p.Refuses c call.work x s)) (h.refused is);
  done = λ is. let d = h.done is in (d.0, some p of asked f (λ c. IsRead call.input (λ x. p.Makes c call.work x d.0)) d.1, d.2);
  written = λ not. let w = h.written not in (w.0, row_as p of asked call s w.0 (kind_of s) f w.1, w.2);
  part = λ is. let w = h.part is in (w.0, w.1, row_as p of asked call w.0 w.1 (kind_of w.0) f w.2, w.3);
  exact = λ c x g.
      let k = f.job c g.command in
      let P : C → Type 0 = λ c. (s ≡ WriteFault) ⊎ IsExact (p.Exact c call.work x) x s in
      subst P k.2 (h.exact k.0 x (record { command = k.1; told = g.told; unfailed = g.unfailed }));
  at_most = λ c is.
      let k = f.job c is in
      let P : C → Type 0 = λ c. KeepsLimit call.work (p.limit c) in
      subst P k.2 (h.at_most k.0 k.1);
}

-- What comes where no command is spelled.
pub where_none : {J C : Type 0} (p : Program C) (of : J → C) (asked : Option J) (P : Type 0) → MatchOption asked (IsNoCommand p) (λ j. p.IsAsked (of j)) → (asked ≡ None → P)
    → IsNoCommand p → P
where_none p of None P h f n = f refl
where_none p of (Some j) P h f n = absurd (n (of j) h)

-- What comes with a job and with none.
pub either : {J : Type 0} (asked : Option J) (P : Type 0) → (asked ≡ None → P) → ((j : J) → asked ≡ Some j → P) → P
either None P none some = none refl
either (Some j) P none some = some j refl

pub if_told : (told : Option (List ℕ)) (P : List ℕ → Type 0) → ((x : List ℕ) → P x) → IfSome told P
if_told None P h = tt
if_told (Some x) P h = h x

-- ---- A program that says nothing of the draw

-- What it promises of a call, it promises of one that did this to the draw.
pub record SameUnder {C : Type 0} (p : Program C) (draw other : Stream) (n m : ℕ) : Type 0 where
  pub makes : (c : C) (x text : List ℕ) → p.Makes c (effects draw n m) x text → p.Makes c (effects other n m) x text
  pub refuses : (c : C) (x : List ℕ) (s : Status) → p.Refuses c (effects draw n m) x s → p.Refuses c (effects other n m) x s
  pub exact : (c : C) (x : List ℕ) (s : Status) → p.Exact c (effects draw n m) x s → p.Exact c (effects other n m) x s

made_under : {C : Type 0} (p : Program C) (input draw other : Stream) (n m : ℕ) (text : List ℕ) → SameUnder p draw other n m
    → ForCommand p (λ c. IsRead input (λ x. p.Makes c (effects draw n m) x text)) → ForCommand p (λ c. IsRead input (λ x. p.Makes c (effects other n m) x text))
made_under p input draw other n m text f (c, asked, (end, (x, told, few, r))) = (c, asked, (end, (x, told, few, f.makes c x text r)))

refused_under : {C : Type 0} (p : Program C) (input draw other : Stream) (n m : ℕ) (s : Status) → SameUnder p draw other n m
    → ForCommand p (λ c. IsRead input (λ x. p.Refuses c (effects draw n m) x s)) → ForCommand p (λ c. IsRead input (λ x. p.Refuses c (effects other n m) x s))
refused_under p input draw other n m s f (c, asked, (end, (x, told, few, r))) = (c, asked, (end, (x, told, few, f.refuses c x s r)))

row_under : {C : Type 0} (p : Program C) (input draw other : Stream) (n m : ℕ) (s : Status) (text : List ℕ) (k : Kind) → SameUnder p draw other n m
    → DueRow p (call_of input draw n m) s text k → DueRow p (call_of input other n m) s text k
row_under p input draw other n m s text done f h = made_under p input draw other n m text f h
row_under p input draw other n m s text usage f h = h
row_under p input draw other n m s text read_fault f h = h
row_under p input draw other n m s text write_fault f h = h
row_under p input draw other n m s text too_long f h = h
row_under p input draw other n m s text memory f h = h
row_under p input draw other n m s text own f h = (refused_under p input draw other n m s f h.0, h.1)

exact_under : {C : Type 0} (p : Program C) (draw other : Stream) (n m : ℕ) (c : C) (x : List ℕ) (s : Status) → SameUnder p draw other n m
    → (s ≡ WriteFault) ⊎ IsExact (p.Exact c (effects draw n m) x) x s → (s ≡ WriteFault) ⊎ IsExact (p.Exact c (effects other n m) x) x s
exact_under p draw other n m c x s f (inl is) = inl is
exact_under p draw other n m c x s f (inr e) = inr (record {
  too_long = e.too_long;
  worked = λ few. elim (e.worked few) [ inl may ↦ inl (f.exact c x s may) | inr lacks ↦ inr lacks ];
})

pub undrawn : {C : Type 0} (p : Program C) (input draw other : Stream) (n m : ℕ) (output : Stream) (s : Status) → SameUnder p draw other n m → other.faults ≡ other.faults_after
    → Answers p (call_of input draw n m) output s → Answers p (call_of input other n m) output s
undrawn p input draw other n m output s f still h = record {
  usage = h.usage;
  usage_only = h.usage_only;
  read_fault = h.read_fault;
  write_fault = h.write_fault;
  failed_read = h.failed_read;
  failed_draw = λ rose. absurd (omega (arith, still, rose));
  failed_write = h.failed_write;
  counts = (h.counts.0, omega (arith, still), h.counts.2);
  taken = h.taken;
  too_long = h.too_long;
  unworked = h.unworked;
  refused = λ is. refused_under p input draw other n m s f (h.refused is);
  done = λ is. let d = h.done is in (d.0, made_under p input draw other n m d.0 f d.1, d.2);
  written = λ not. let w = h.written not in (w.0, row_under p input draw other n m s w.0 (kind_of s) f w.1, w.2);
  part = λ is. let w = h.part is in (w.0, w.1, row_under p input draw other n m w.0 w.1 (kind_of w.0) f w.2, w.3);
  exact = λ c x g. exact_under p draw other n m c x s f (h.exact c x (record { command = g.command; told = g.told; unfailed = g.unfailed }));
  at_most = h.at_most;
}
