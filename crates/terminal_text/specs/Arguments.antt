-- Arguments of a command line that may be passwords.
use Rattle.std.specs.Prelude.{ℕ, ◌≡◌, ◌==◌, ◌&&◌, ◌||◌, ◌∷◌, [], List, Bool, true, codes}
use Rattle.std.specs.Prelude.{if◌then◌else◌, nat_eq, not, take_while}
use Rattle.std.specs.Char.{encode_utf8}
use Rattle.std.specs.List.{before_first, flat_map, list_all, list_any, starts_with}
use Rattle.std.specs.Str.{bytes_eq, chars, encode_utf8_all}
use Rattle.terminal_text.specs.Printable.{is_printable}

-- the options that would take a password
abbrev pub password_options : List (List ℕ)
password_options = codes "--password" ∷ codes "--new-password" ∷ codes "--passin"
    ∷ codes "--passout" ∷ codes "--pass" ∷ []

-- what is before the first `=` (61), or the whole argument, is one of these options
abbrev pub takes_password : List ℕ → Bool
takes_password argument =
    list_any (bytes_eq (before_first (λ b. b == 61) argument)) password_options

-- the argument is not `--`
abbrev pub is_before_end : List ℕ → Bool
is_before_end argument = not (bytes_eq argument (codes "--"))

-- one of the arguments before the first `--` is such an option, with a value or without
unfoldable pub is_password_given : List (List ℕ) → Bool
is_password_given arguments = list_any takes_password (take_while is_before_end arguments)

-- clap names an argument that it does not know and that is no option
abbrev pub names_argument : List ℕ → Bool
names_argument message = starts_with nat_eq message (codes "unexpected argument '")
    && not (starts_with nat_eq message (codes "unexpected argument '--"))

-- clap names a value of an option that takes none
abbrev pub names_value : List ℕ → Bool
names_value message = starts_with nat_eq message (codes "unexpected value '")

-- a line feed (10), or what a terminal shows
abbrev pub is_text : ℕ → Bool
is_text c = c == 10 || is_printable c

-- a character of a message as it is printed: what is neither is a question mark (63)
abbrev pub text_char : ℕ → ℕ
text_char c = if is_text c then c else 63

-- what is printed where clap names an argument that may be a password
abbrev pub too_many : List ℕ
too_many = codes
    "there is an argument too many (it is not shown here, since it may be a password)"

-- what is printed where clap names a value that may be one
abbrev pub no_value : List ℕ
no_value = codes
    "an option has a value and takes none (it is not shown here, since it may be a password)"

-- what is printed of a message of clap
unfoldable pub without_values : List ℕ → List ℕ
without_values message = if names_argument message then too_many
    else (if names_value message then no_value
    else flat_map (λ c. encode_utf8 (text_char c)) (chars message))

-- What is printed of a message, whatever it is, has only line feeds and characters that a
-- terminal shows.
abbrev pub WithoutValuesIsText : Type 0
WithoutValuesIsText = (message : List ℕ) → (cs : List ℕ)
    × (encode_utf8_all cs ≡ without_values message) × (list_all is_text cs ≡ true)
