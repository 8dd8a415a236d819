-- A password file: a finite map from names to entries, as its entries in the order of the names.
use Rattle.std.specs.Prelude.{ℕ, ◌≡◌, ◌≤◌, List, [], ◌∷◌, ◌++◌, Option}
use Rattle.std.specs.List.{AllByRecursion, flat_map}
use Rattle.std.specs.Map.{lookup, remove_entry}
use Rattle.std.specs.BTreeMap.{insert_entry, is_at}
use Rattle.std.specs.Ordering.{nat_cmp}
use Rattle.std.specs.declared.cmp.Ordering.TheVariants.{Less}
use Rattle.std.specs.Cmp.Lexicographic.{slice_cmp}
use Rattle.phc_core.specs.Ident.{IsIdent}
use Rattle.passdb_core.specs.Entry.{Entry, IsEntry, entry_text, rounds_limit}

abbrev pub Entries : Type 0
Entries = List (List ℕ × Entry)

-- the entry of a name
abbrev pub at : Entries → List ℕ → Option Entry
at es name = lookup (is_at (slice_cmp nat_cmp name)) es

-- the entries, with this one for the name
abbrev pub put : Entries → List ℕ → Entry → Entries
put es name e = insert_entry (slice_cmp nat_cmp) es name e

-- the entries without the name
abbrev pub without : Entries → List ℕ → Entries
without es name = remove_entry (is_at (slice_cmp nat_cmp name)) es

-- a line: the name, a colon (58), the entry's text, a line feed (10)
abbrev pub line : List ℕ × Entry → List ℕ
line e = e.0 ++ 58 ∷ (entry_text e.1 ++ 10 ∷ [])

-- the file's text
abbrev pub text_of : Entries → List ℕ
text_of es = flat_map line es

-- The name is above those of the entries.
abbrev pub Above : Entries → List ℕ → Type 0
Above [] name = Unit {0}
Above (e ∷ es) name = (slice_cmp nat_cmp e.0 name ≡ Less) × Above es name

-- The name is below those of the entries.
abbrev pub IsBelow : List ℕ → Entries → Type 0
IsBelow name es = AllByRecursion (λ (e : List ℕ × Entry). slice_cmp nat_cmp name e.0 ≡ Less) es

-- Names are identifiers and ascend by octets, so they are distinct, and entries are entries.
abbrev pub AreEntries : Entries → Type 0
AreEntries [] = Unit {0}
AreEntries (e ∷ es) = IsIdent e.0 × IsEntry e.1 × IsBelow e.0 es × AreEntries es

-- A name with its entry.
abbrev pub IsNamed : List ℕ × Entry → Type 0
IsNamed e = IsIdent e.0 × IsEntry e.1

-- The text is the file of these entries.
pub record IsFile (text : List ℕ) (es : Entries) : Type 0 where
  pub entries : AreEntries es
  pub spelled : text ≡ text_of es

-- The text is no file.
abbrev pub IsNoFile : List ℕ → Type 0
IsNoFile text = (es : Entries) → IsFile text es → ⊥

-- One text is the file of one list of entries.
abbrev pub OneTextHasOneFile : Type 0
OneTextHasOneFile = (text : List ℕ) (es fs : Entries) → IsFile text es → IsFile text fs → es ≡ fs

-- The text of entries is their file, and that of no others: so reading it is not refused, and gives
-- these entries.
abbrev pub WrittenFilesAreRead : Type 0
WrittenFilesAreRead = (es : Entries) → AreEntries es
    → IsFile (text_of es) es × ((fs : Entries) → IsFile (text_of es) fs → fs ≡ es)
    × (IsNoFile (text_of es) → ⊥)

-- A password file: its entries, and the rounds of fresh ones.
pub record Book : Type 0 where
  pub entries : Entries
  pub rounds : ℕ

-- fresh entries have 1,000 rounds or more, and at most as many as an entry may have
pub record IsBook (b : Book) : Type 0 where
  pub some_rounds : 1000 ≤ b.rounds
  pub few_rounds : b.rounds ≤ rounds_limit
