-- What the calls of a password file promise.
use Rattle.std.specs.Prelude.{ℕ, ◌≡◌, ◌+◌, List, [], length, Option, Some, None, IfSome, ⊤}
use Rattle.std.specs.Io.KnownBytes.{Consumes, Keeps}
use Rattle.octet_core.specs.Draw.{Lacks}
use Rattle.octet_core.specs.Faults.{Rose}
use Rattle.passdb_core.specs.declared.error.DbError.{DbError}
use Rattle.passdb_core.specs.declared.error.DbError.TheVariants.{Malformed, Rng, Memory}
use Rattle.passdb_core.specs.declared.reply.Reply.{Reply}
use Rattle.passdb_core.specs.Entry.{fresh}
use Rattle.passdb_core.specs.Entries.{Book, Entries, put}
use Rattle.passdb_core.specs.Commands.{Command, Run, does_to, draws, entries_after, run}

-- Rng comes only where P; out of memory may come at any point; Malformed never comes.
abbrev pub RefusedBy : Type 0 → DbError → Type 0
RefusedBy P Rng = P
RefusedBy P Memory = ⊤
RefusedBy P Malformed = ⊥

-- Malformed comes only where P; out of memory may come at any point; Rng never comes.
abbrev pub MalformedOnly : Type 0 → DbError → Type 0
MalformedOnly P Malformed = P
MalformedOnly P Memory = ⊤
MalformedOnly P Rng = ⊥

-- 16 octets were drawn, and the name has the fresh entry of the password under them.
pub record Renews (b : Book) (name w : List ℕ) (told told_after : Option (List ℕ)) (es : Entries)
    : Type 0 where
  pub salt : List ℕ
  pub count : length salt ≡ 16
  pub took : Consumes told told_after salt
  pub entries : es ≡ put b.entries name (fresh b.rounds w salt)

-- A draw of 16 octets failed, and took none.
abbrev pub FailsToDraw : Option (List ℕ) → Option (List ℕ) → ℕ → ℕ → Type 0
FailsToDraw told told_after before now = Lacks before now told 16 × Keeps told told_after

-- A command has this reply: it drew as many octets as it draws, took its steps, and left these
-- entries.
pub record Does (b : Book) (c : Command) (told told_after : Option (List ℕ)) (steps steps_after : ℕ)
    (y : Reply) (es : Entries) : Type 0 where
  pub reply : y ≡ (does_to b.rounds b.entries c).reply
  pub drawn : List ℕ
  pub count : length drawn ≡ draws (does_to b.rounds b.entries c).change
  pub took : Consumes told told_after drawn
  pub entries : es ≡ entries_after b.rounds b.entries c drawn
  pub cost : steps_after ≡ steps + (does_to b.rounds b.entries c).steps

-- A command has to draw, and the draw failed.
abbrev pub CannotDraw : Book → Command → Option (List ℕ) → Option (List ℕ) → ℕ → ℕ → Type 0
CannotDraw b c told told_after before now =
    (draws (does_to b.rounds b.entries c).change ≡ 16) × FailsToDraw told told_after before now

-- Commands ran to their end on the octets that were drawn, and came to these replies and entries in
-- these steps.
pub record Runs (b : Book) (cs : List Command) (told told_after : Option (List ℕ))
    (steps steps_after : ℕ) (ys : List Reply) (es : Entries) : Type 0 where
  pub drawn : List ℕ
  pub took : Consumes told told_after drawn
  pub ends : Run
  pub ran : run b.rounds cs b.entries drawn ≡ Some ends
  pub all_drawn : ends.left ≡ []
  pub replies : ys ≡ ends.replies
  pub entries : es ≡ ends.entries
  pub cost : steps_after ≡ steps + ends.steps

-- On the octets that were drawn, and on all that were told, the commands come to one that has to
-- draw more; and a draw failed.
pub record RunsShort (b : Book) (cs : List Command) (told told_after : Option (List ℕ))
    (before now : ℕ) : Type 0 where
  pub rose : Rose before now
  pub drawn : List ℕ
  pub took : Consumes told told_after drawn
  pub short : run b.rounds cs b.entries drawn ≡ None
  pub told_short : IfSome told (λ d. run b.rounds cs b.entries d ≡ None)
