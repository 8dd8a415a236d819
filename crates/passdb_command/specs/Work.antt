-- What is done for a name, and what comes of it.
use Rattle.std.specs.Prelude.{ℕ, ◌≡◌, List, length, Bool, true, false, Option, Some, None}
use Rattle.std.specs.Bool.{MatchBool}
use Rattle.std.specs.Io.KnownBytes.{Consumes}
use Rattle.passdb_core.specs.Commands.{Command, Outcome, add, becomes, change, check, does, does_to, draws, made, outcome, remove, stays}
use Rattle.passdb_core.specs.Entries.{Book, Entries, at}
use Rattle.passdb_core.specs.Entry.{Entry}
use Rattle.passdb_core.specs.declared.reply.Reply.{Reply}
use Rattle.passdb_core.specs.declared.reply.Reply.TheVariants.{Added, Exists, Renewed, Wrong, Unknown, Changed, Removed}
use Rattle.passdb_command.specs.declared.ending.Ending.{Ending}
use Rattle.passdb_command.specs.declared.ending.Ending.TheVariants.{WrongPassword, NameUnknown, NameExists}
use Rattle.passdb_command.specs.declared.work.Finding.{Finding}
use Rattle.passdb_command.specs.declared.work.Work.{Work}
use Rattle.passdb_command.specs.declared.work.Work.TheVariants as work

-- what a command replies in a file
abbrev pub reply_of : Book → Command → Reply
reply_of b c = (does_to b.rounds b.entries c).reply

-- What a reset does where the name has this entry, or none, in a file of r rounds: the name has
-- another password, whatever the old one was.
abbrev pub resets : ℕ → Option Entry → List ℕ → Outcome
resets r None w = outcome Unknown stays 0
resets r (Some e) w = outcome Changed (made w) r

-- what the work does where the name has this entry, or none, in a file of r rounds
abbrev pub works : ℕ → Option Entry → List ℕ → Work → Outcome
works r o name (work.Add w) = does r o (add name w)
works r o name (work.Check w) = does r o (check name w)
works r o name (work.Change old new) = does r o (change name old new)
works r o name (work.Reset w) = resets r o w
works r o name work.Remove = does r o (remove name)

-- An outcome for a name has this reply; as many octets were drawn as it draws, and they left these
-- entries.
pub record Outcomes (b : Book) (name : List ℕ) (o : Outcome) (told told_after : Option (List ℕ))
    (y : Reply) (es : Entries) : Type 0 where
  pub reply : y ≡ o.reply
  pub drawn : List ℕ
  pub count : length drawn ≡ draws o.change
  pub took : Consumes told told_after drawn
  pub entries : es ≡ becomes b.rounds name o.change b.entries drawn

-- The work for a name is done: it has this reply, and left these entries.
abbrev pub IsDone : Book → List ℕ → Work → Option (List ℕ) → Option (List ℕ) → Reply → Entries
    → Type 0
IsDone b name w told told_after y es =
    Outcomes b name (works b.rounds (at b.entries name) name w) told told_after y es

-- A password was tested, and the file is now the second one. What is done is what `check` does, by
-- octets that were drawn for it; what is not done is a fresh entry, and the file is as it was.
abbrev pub IsTested : Book → List ℕ → List ℕ → Option (List ℕ) → Option (List ℕ) → Book → Finding
    → Type 0
IsTested b name w told told_after now f = MatchBool f.is_done
    (Outcomes b name (does_to b.rounds b.entries (check name w)) told told_after f.reply
    now.entries)
    ((f.reply ≡ Renewed) × (now ≡ b))

-- why a reply is a failure; none where what was asked is done
unfoldable pub refusal_of : Reply → Option Ending
refusal_of Exists = Some NameExists
refusal_of Wrong = Some WrongPassword
refusal_of Unknown = Some NameUnknown
refusal_of reply = None

-- whether the entries changed
unfoldable pub changes : Reply → Bool
changes Added = true
changes Renewed = true
changes Changed = true
changes Removed = true
changes reply = false
