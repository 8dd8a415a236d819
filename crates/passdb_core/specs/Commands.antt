-- What the commands of a password file do.
use Rattle.std.specs.Prelude.{ℕ, ◌+◌, ◌≤◌, List, [], ◌∷◌, ◌++◌, length, take, drop, Bool, true, false, if◌then◌else◌, nat_lt, Option, Some, None, codes, All}
use Rattle.std.specs.Option.{option_map}
use Rattle.std.specs.Int.{IsInRange}
use Rattle.phc_core.specs.Ident.{IsIdent}
use Rattle.passdb_core.specs.declared.reply.Reply.{Reply}
use Rattle.passdb_core.specs.declared.reply.Reply.TheVariants.{Added, Exists, Good, Renewed, Wrong, Unknown, Changed, Removed}
use Rattle.passdb_core.specs.Entries.{Entries, at, put, without}
use Rattle.passdb_core.specs.Entry.{Entry, fresh, right, test_steps}

-- A command, with its name and passwords.
pub data Command : Type 0 where
  add : List ℕ → List ℕ → Command
  check : List ℕ → List ℕ → Command
  change : List ℕ → List ℕ → List ℕ → Command
  remove : List ℕ → Command

abbrev pub name_of : Command → List ℕ
name_of (add name w) = name
name_of (check name w) = name
name_of (change name old new) = name
name_of (remove name) = name

-- What becomes of the entry of the command's name: it stays, or it goes, or there is a fresh one of
-- this password.
pub data Change : Type 0 where
  stays : Change
  goes : Change
  made : List ℕ → Change

-- A reply, what becomes of the entry, and the steps.
pub record Outcome : Type 0 where
  pub reply : Reply
  pub change : Change
  pub steps : ℕ

abbrev pub outcome : Reply → Change → ℕ → Outcome
outcome reply becomes steps = record { reply = reply; change = becomes; steps = steps }

-- the result of a password that was tested in n steps, where the entry's rounds are few or not
abbrev pub checked : ℕ → ℕ → Bool → Bool → List ℕ → Outcome
checked r n false few w = outcome Wrong stays n
checked r n true true w = outcome Renewed (made w) (n + r)
checked r n true false w = outcome Good stays n

abbrev pub changed : ℕ → ℕ → Bool → List ℕ → Outcome
changed r n false w = outcome Wrong stays n
changed r n true w = outcome Changed (made w) (n + r)

-- what a command does where its name has this entry, or none, in a file of r rounds
abbrev pub does : ℕ → Option Entry → Command → Outcome
does r None (add name w) = outcome Added (made w) r
does r (Some e) (add name w) = outcome Exists stays 0
does r None (remove name) = outcome Unknown stays 0
does r (Some e) (remove name) = outcome Removed goes 0
does r None c = outcome Unknown stays 0
does r (Some e) (check name w) = checked r (test_steps e) (right e w) (nat_lt e.settings.rounds r) w
does r (Some e) (change name old new) = changed r (test_steps e) (right e old) new

-- what a command does to these entries
abbrev pub does_to : ℕ → Entries → Command → Outcome
does_to r es c = does r (at es (name_of c)) c

-- how many octets are drawn: 16 where an entry is made
abbrev pub draws : Change → ℕ
draws stays = 0
draws goes = 0
draws (made w) = 16

-- the entries after a change, where these octets were drawn for it
abbrev pub becomes : ℕ → List ℕ → Change → Entries → List ℕ → Entries
becomes r name stays es z = es
becomes r name goes es z = without es name
becomes r name (made w) es z = put es name (fresh r w z)

-- the entries after a command, where these octets were drawn for it
abbrev pub entries_after : ℕ → Entries → Command → List ℕ → Entries
entries_after r es c z = becomes r (name_of c) (does_to r es c).change es z

-- What commands came to: their replies, the entries, the octets that are still to be drawn, and the
-- steps.
pub record Run : Type 0 where
  pub replies : List Reply
  pub entries : Entries
  pub left : List ℕ
  pub steps : ℕ

-- a run after a first reply and the steps of its command
abbrev pub after : Reply → ℕ → Run → Run
after reply steps more = record {
  replies = reply ∷ more.replies;
  entries = more.entries;
  left = more.left;
  steps = steps + more.steps;
}

-- What commands come to one after the other, in a file of r rounds, where these octets are to be
-- drawn; none where a command has to draw and fewer octets remain than it draws.
unfoldable pub run : ℕ → List Command → Entries → List ℕ → Option Run
run r [] es d = Some (record { replies = []; entries = es; left = d; steps = 0 })
run r (c ∷ cs) es d =
    let o = does_to r es c in
    let n = draws o.change in
    if nat_lt (length d) n
    then None
    else option_map (after o.reply o.steps) (run r cs (entries_after r es c (take n d)) (drop n d))

-- ---- Their text

-- a reply is written as its name in lower case
abbrev pub reply_name : Reply → List ℕ
reply_name Added = codes "added"
reply_name Exists = codes "exists"
reply_name Good = codes "good"
reply_name Renewed = codes "renewed"
reply_name Wrong = codes "wrong"
reply_name Unknown = codes "unknown"
reply_name Changed = codes "changed"
reply_name Removed = codes "removed"

-- a visible octet of ASCII: 33 to 126
abbrev pub IsVisible : ℕ → Type 0
IsVisible b = IsInRange 33 126 b

-- a password is 1 to 256 of these
abbrev pub IsPassword : List ℕ → Type 0
IsPassword w = (1 ≤ length w) × (length w ≤ 256) × All IsVisible w

-- The name is an identifier, and the passwords are passwords.
abbrev pub IsCommand : Command → Type 0
IsCommand (add name w) = IsIdent name × IsPassword w
IsCommand (check name w) = IsIdent name × IsPassword w
IsCommand (change name old new) = IsIdent name × IsPassword old × IsPassword new
IsCommand (remove name) = IsIdent name

-- a command is written as its words, one space (32) between them
abbrev pub command_text : Command → List ℕ
command_text (add name w) = codes "add" ++ 32 ∷ (name ++ 32 ∷ w)
command_text (check name w) = codes "check" ++ 32 ∷ (name ++ 32 ∷ w)
command_text (change name old new) = codes "change" ++ 32 ∷ (name ++ 32 ∷ (old ++ 32 ∷ new))
command_text (remove name) = codes "remove" ++ 32 ∷ name
