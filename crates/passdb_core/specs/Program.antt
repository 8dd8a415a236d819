-- What the program returns: the rows of its own in the table of `frame`.
use Rattle.std.specs.Prelude.{ℕ, ◌≡◌, ◌⊎◌, ◌*◌, ◌≤◌, List, [], ◌∷◌, ◌++◌, Option, Some, None, IsSome, MatchOption, codes, decimal}
use Rattle.std.specs.List.{flat_map}
use Rattle.std.specs.Option.{ForSome}
use Rattle.frame.specs.Calls.{Effects, TakesNoStep}
use Rattle.frame.specs.Input.{input_limit}
use Rattle.frame.specs.InputText.{IsHex}
use Rattle.frame.specs.Programs.{Program}
use Rattle.frame.specs.Stream.{stream}
use Rattle.frame.specs.declared.status.Status.{Status}
use Rattle.frame.specs.declared.status.Status.TheVariants.{Done, InputMalformed, Memory, Rng}
use Rattle.passdb_core.specs.declared.reply.Reply.{Reply}
use Rattle.passdb_core.specs.Drawn.{IsDrawn}
use Rattle.passdb_core.specs.Calls.{Runs, RunsShort}
use Rattle.passdb_core.specs.Commands.{Command, Run, reply_name, run}
use Rattle.passdb_core.specs.Entries.{AreEntries, Book, Entries, text_of}
use Rattle.passdb_core.specs.Entry.{rounds_limit}
use Rattle.passdb_core.specs.Reading.{IsInput, IsNoInput}

-- ---- The arguments

-- What the arguments ask for: the rounds of fresh entries, and the digits of the octets that are
-- drawn, where they are told.
pub record Asked : Type 0 where
  pub rounds : ℕ
  pub digits : Option (List ℕ)

-- the word for the octets to be drawn: `-` where they are the draw's
abbrev pub drawn_word : Option (List ℕ) → List ℕ
drawn_word None = codes "-"
drawn_word (Some digits) = digits

-- The arguments are those of this command.
pub record IsAsked (words : List (List ℕ)) (a : Asked) : Type 0 where
  pub spelled : words ≡ codes "passdb" ∷ decimal a.rounds ∷ drawn_word a.digits ∷ []
  pub some_rounds : 1000 ≤ a.rounds
  pub few_rounds : a.rounds ≤ rounds_limit
  pub drawn : ForSome a.digits IsDrawn

-- The arguments are those of no command.
abbrev pub IsNotAsked : List (List ℕ) → Type 0
IsNotAsked words = (a : Asked) → IsAsked words a → ⊥

-- ---- The output

-- a reply's line
abbrev pub reply_line : Reply → List ℕ
reply_line y = reply_name y ++ 10 ∷ []

-- the text that is due: a line for each reply, an empty line and the file
abbrev pub due : List Reply → Entries → List ℕ
due ys es = flat_map reply_line ys ++ 10 ∷ text_of es

-- Commands ran to their end, the text is the one that is due then, and the file in it is one: it
-- may be read again.
pub record MakesLines (b : Book) (cs : List Command) (told told_after : Option (List ℕ))
    (steps steps_after : ℕ) (text : List ℕ) : Type 0 where
  pub replies : List Reply
  pub entries : Entries
  pub runs : Runs b cs told told_after steps steps_after replies entries
  pub spelled : text ≡ due replies entries
  pub are : AreEntries entries

-- Rng comes only where P; out of memory may come at any point; no other status comes.
abbrev pub StopsAs : Type 0 → Status → Type 0
StopsAs P s = ((s ≡ Rng) × P) ⊎ (s ≡ Memory)

-- ---- The work

-- P of what was done to the draw and the steps. Where the arguments tell octets these were drawn in
-- place of the draw's.
abbrev pub ByDrawn : Option (List ℕ) → Effects → (Effects → Type 0) → Type 0
ByDrawn None e P = P e
ByDrawn (Some digits) e P = (octets : List ℕ) × IsHex digits octets
    × ((rest : Option (List ℕ)) × (before : ℕ) × (now : ℕ)
    × P (record e { draw = stream (Some octets) rest before now }))

-- the file that the input has, under the rounds of the arguments
abbrev pub book : Asked → Entries → Book
book a es = record { entries = es; rounds = a.rounds }

-- Done comes only where the input is of the form, and then its commands ran to their end on the
-- octets that were drawn.
pub record MakesInput (a : Asked) (e : Effects) (x text : List ℕ) : Type 0 where
  pub entries : Entries
  pub commands : List Command
  pub is : IsInput x entries commands
  pub makes : ByDrawn a.digits e
      (λ f. MakesLines (book a entries) commands f.draw.told f.draw.told_after f.steps f.steps_after
      text)

-- Rng comes only where the input is of the form, and its commands come to one that has to draw and
-- cannot.
pub record RunsOut (a : Asked) (e : Effects) (x : List ℕ) : Type 0 where
  pub entries : Entries
  pub commands : List Command
  pub is : IsInput x entries commands
  pub short : ByDrawn a.digits e
      (λ f. RunsShort (book a entries) commands f.draw.told f.draw.told_after f.draw.faults
      f.draw.faults_after)

-- InputMalformed comes only where the input is not of the form, and then no step is taken. No other
-- refusal comes.
abbrev pub RefusesInput : Asked → Effects → List ℕ → Status → Type 0
RefusesInput a e x InputMalformed = IsNoInput x × TakesNoStep e
RefusesInput a e x Rng = RunsOut a e x
RefusesInput a e x s = ⊥

-- what comes of a run on octets that are told
abbrev pub status_of_run : Option Run → Status
status_of_run None = Rng
status_of_run (Some r) = Done

-- Which status may come of a file and commands: on octets that are told the one of their run, and
-- else Done or Rng.
abbrev pub MayCome : Book → List Command → Effects → Status → Type 0
MayCome b cs f s = MatchOption f.draw.told ((s ≡ Done) ⊎ (s ≡ Rng))
    (λ d. s ≡ status_of_run (run b.rounds cs b.entries d))

-- Which status may come of an input.
pub record ExactInput (a : Asked) (e : Effects) (x : List ℕ) (s : Status) : Type 0 where
  pub malformed : IsNoInput x → s ≡ InputMalformed
  pub spelled : (es : Entries) (cs : List Command) → IsInput x es cs
      → ByDrawn a.digits e (λ f. MayCome (book a es) cs f s)

-- the most steps: for each octet that an input may have those of the dearest command, which tests a
-- password (two blocks of the most rounds) and makes an entry
abbrev pub steps_limit : ℕ
steps_limit = 3 * rounds_limit * input_limit

-- The draw is not touched: the arguments tell the octets that are drawn, or the input is not of the
-- form.
abbrev pub DrawsOwn : Asked → List ℕ → Type 0
DrawsOwn a x = IsSome a.digits ⊎ IsNoInput x

-- What the program promises.
abbrev pub on_inputs : List (List ℕ) → Program Asked
on_inputs words = record {
  IsAsked = IsAsked words;
  Makes = MakesInput;
  Refuses = RefusesInput;
  Exact = ExactInput;
  limit = λ a. steps_limit;
}
