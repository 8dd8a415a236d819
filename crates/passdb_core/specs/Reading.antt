-- Reading a password file and commands.
use Rattle.std.specs.Prelude.{ℕ, ◌≡◌, ◌≢◌, List, [], ◌∷◌, ◌++◌, All}
use Rattle.std.specs.List.{flat_map}
use Rattle.phc_core.specs.Ident.{IsIdent}
use Rattle.passdb_core.specs.Commands.{Command, IsCommand, command_text}
use Rattle.passdb_core.specs.Entry.{Entry, IsEntry, entry_text}
use Rattle.passdb_core.specs.Entries.{Above, AreEntries, Entries, line, text_of}

-- The octet is between these parts for the first time.
pub record IsCut (octet : ℕ) (text front back : List ℕ) : Type 0 where
  pub parts : text ≡ front ++ octet ∷ back
  pub first : All (λ b. b ≢ octet) front

-- The text is the name, a colon and the entry's text.
pub record IsPair (text name : List ℕ) (e : Entry) : Type 0 where
  pub named : IsIdent name
  pub entry : IsEntry e
  pub spelled : text ≡ name ++ 58 ∷ entry_text e

-- No line is here: the text has ended, or a line feed (10) comes.
abbrev pub Stops : List ℕ → Type 0
Stops [] = Unit {0}
Stops (b ∷ t) = b ≡ 10

-- At the front of the text is the file of these entries, and no line after it.
pub record IsFront (text : List ℕ) (es : Entries) (rest : List ℕ) : Type 0 where
  pub entries : AreEntries es
  pub spelled : text ≡ text_of es ++ rest
  pub stops : Stops rest

-- At the front of the text is no file that ends there.
abbrev pub HasNoFront : List ℕ → Type 0
HasNoFront text = (es : Entries) (rest : List ℕ) → IsFront text es rest → ⊥

-- At the front of the text is the line of an entry whose name is above those of es.
pub record IsNext (text : List ℕ) (es : Entries) (name : List ℕ) (e : Entry) (rest : List ℕ)
    : Type 0 where
  pub named : IsIdent name
  pub entry : IsEntry e
  pub above : Above es name
  pub spelled : text ≡ line (name, e) ++ rest

-- a command's line
abbrev pub command_line : Command → List ℕ
command_line c = command_text c ++ 10 ∷ []

-- Each command is one.
abbrev pub AreCommands : List Command → Type 0
AreCommands [] = Unit {0}
AreCommands (c ∷ cs) = IsCommand c × AreCommands cs

-- The text is the lines of these commands.
pub record IsScript (text : List ℕ) (cs : List Command) : Type 0 where
  pub commands : AreCommands cs
  pub spelled : text ≡ flat_map command_line cs

-- The input is the file of these entries, an empty line, and the lines of these commands.
pub record IsInput (x : List ℕ) (es : Entries) (cs : List Command) : Type 0 where
  pub entries : AreEntries es
  pub commands : AreCommands cs
  pub spelled : x ≡ text_of es ++ 10 ∷ flat_map command_line cs

-- The input is of no such form.
abbrev pub IsNoInput : List ℕ → Type 0
IsNoInput x = (es : Entries) (cs : List Command) → IsInput x es cs → ⊥
