-- Words that may be passwords, and those of one command.
use Rattle.std.proofs.Common.{◌≡◌, ℕ, ◌+◌, ◌<◌, ◌≤◌, List, length, map, take, get_or, true, false, refl, sym, ap, subst, ◌∙◌, arith}
use Rattle.std.specs.Prelude.{All, decimal}
use Rattle.std.specs.Bool.{Decides}
use Rattle.std.proofs.lemmas.Fmt.{decimal_injective}
use Rattle.std.proofs.lemmas.List.{get_or-map, length-map, take_all}
use Rattle.std.proofs.lemmas.List.Elements.{All-get_or, All-more}
use Rattle.transfer.specs.Limits.{password_limit}
use Rattle.rekey_core.specs.Words.{Command, IsCommand}

-- ---- passwords

abbrev pub IsPassword : List ℕ → Type 0
IsPassword word = length word ≤ password_limit

word_at : {X : Type 0} (f : X → List ℕ) (words : List X) (i : ℕ) (word : X) → i < length words → word ≡ get_or words i word → get_or (map f words) i (f word) ≡ f word
word_at f words i word lt at = get_or-map f words i word (f word) lt ∙ ap f (sym at)

pub none_so : {X : Type 0} (f : X → List ℕ) (words : List X) (i : ℕ) (word : X) → i < length words → word ≡ get_or words i word → password_limit < length (f word) → Decides false (All IsPassword (map f words))
none_so f words i word lt at long = (
  λ e. absurd cc,
  λ h. absurd (omega (arith, long, All-get_or IsPassword (map f words) i (f word) (omega (arith, lt, length-map words f)) h, ap length (word_at f words i word lt at))),
)

pub so_far : {X : Type 0} (f : X → List ℕ) (words : List X) (i : ℕ) (word : X) → i < length words → word ≡ get_or words i word → length (f word) ≤ password_limit → All IsPassword (take i (map f words))
    → All IsPassword (take (i + 1) (map f words))
so_far f words i word lt at short h = All-more IsPassword (map f words) i (f word) (omega (arith, lt, length-map words f)) h (omega (arith, short, ap length (word_at f words i word lt at)))

pub all_so : {X : Type 0} (f : X → List ℕ) (words : List X) (i : ℕ) → length words ≤ i → All IsPassword (take i (map f words)) → Decides true (All IsPassword (map f words))
all_so f words i le h = (λ e. subst (All IsPassword) (take_all i (map f words) (omega (arith, le, length-map words f))) h, λ k. refl)

-- ---- one command

pub one_command : (words : List (List ℕ)) (c d : Command) → IsCommand words c → IsCommand words d → c ≡ d
one_command words c d p q =
    let s = sym p.spelled ∙ q.spelled in
    let passwords : c.passwords ≡ d.passwords = cc in
    let l : decimal c.limit ≡ decimal d.limit = cc in
    let limit = decimal_injective c.limit d.limit p.limit q.limit l in
    let make : List (List ℕ) → ℕ → Command = λ a m. record { limit = m; passwords = a } in
    ap (λ a. make a c.limit) passwords ∙ ap (λ m. make d.passwords m) limit
