-- Paths as words of commands for the shell.
use Rattle.std.specs.Prelude.{ℕ, ◌≡◌, ◌==◌, ◌&&◌, ◌∷◌, ◌++◌, [], List, Bool, true, Option, Some}
use Rattle.std.specs.Prelude.{None, IsUtf8, if◌then◌else◌, codes, length, nat_le, option_map}
use Rattle.std.specs.Prelude.{slice_index}
use Rattle.std.specs.Char.{encode_utf8}
use Rattle.std.specs.List.{flat_map, list_all}
use Rattle.std.specs.Str.{chars}
use Rattle.terminal_text.specs.Printable.{IsShown, is_printable}

-- a path can be a word of a command: it has at most 200 characters, all of them printable
abbrev pub fits_in_command : List ℕ → Bool
fits_in_command path = nat_le (length (chars path)) 200 && list_all is_printable (chars path)

-- what is put in front of a path: `./` where it begins with a dash (45), as an option does
abbrev pub path_front : List ℕ → List ℕ
path_front path = if slice_index path 0 == 45 then codes "./" else []

-- a character between single quotes: a single quote (39) as `'\''`, and any other as it is
abbrev pub shell_char : ℕ → List ℕ
shell_char c = if c == 39 then codes "'\\''" else encode_utf8 c

-- a path as it is printed: in single quotes, with what is put in front of it
abbrev pub shell_word : List ℕ → List ℕ
shell_word path =
    codes "'" ++ path_front path ++ flat_map shell_char (chars path) ++ codes "'"

-- where a shell is in a word: outside of quotes, there after a backslash, or between quotes
pub data Place : Type 0 where
  outside : Place
  escaped : Place
  between : Place

-- The word that a POSIX shell reads in octets (POSIX.1-2017, XCU 2.2.1 and 2.2.3), where each
-- is quoted: a backslash (92) outside of single quotes takes the next octet as it is, unless
-- that is a line feed (10), and a single quote (39) begins a part that is its octets up to the
-- next single quote. None where an octet is not quoted, or a part does not end.
abbrev pub word_read : Place → List ℕ → Option (List ℕ)
word_read outside [] = Some []
word_read outside (c ∷ cs) = if c == 39 then word_read between cs
    else (if c == 92 then word_read escaped cs else None)
word_read escaped [] = None
word_read escaped (c ∷ cs) = if c == 10 then None
    else option_map (λ word. c ∷ word) (word_read outside cs)
word_read between [] = None
word_read between (c ∷ cs) = if c == 39 then word_read outside cs
    else option_map (λ word. c ∷ word) (word_read between cs)

-- A shell reads what is printed of a path as one word: the path, after what is put in front of
-- it. Where the path fits in a command, a terminal shows what is printed, in one line.
abbrev pub ShellWordIsRead : Type 0
ShellWordIsRead = (path : List ℕ) → IsUtf8 path
    → (word_read outside (shell_word path) ≡ Some (path_front path ++ path))
    × (fits_in_command path ≡ true → IsShown (shell_word path))
