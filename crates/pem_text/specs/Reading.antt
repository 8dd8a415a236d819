-- Reading the textual encoding of RFC 7468 as laxly as its section 3 allows, and text around it
use Rattle.std.specs.Prelude.{◌≡◌, ◌==◌, ◌++◌, ◌∷◌, ◌+◌, ◌-◌, ◌||◌, [], Bool, List, Option, None, Some, Result, Ok, Err, ℕ, length, take, drop, codes, cond, false, filter, true, reverse, nat_eq}
use Rattle.std.specs.List.{position_or_len}
use Rattle.std.specs.Cmp.Lexicographic.{pointwise}
use Rattle.base64.specs.Engines.{standard}
use Rattle.base64.specs.GeneralPurpose.{decode_of}
use Rattle.pem_text.specs.declared.block.Block.{Block}
use Rattle.pem_text.specs.declared.block.PemError.{PemError}
use Rattle.pem_text.specs.declared.block.PemError.TheVariants.{Base64, NoEnd, OtherEnd, Memory}
use Rattle.pem_text.specs.declared.reading.Part.{Part}

-- ---- lines

-- a character before the first of some lines
abbrev pub onto_first : ℕ → List (List ℕ) → List (List ℕ)
onto_first c [] = (c ∷ []) ∷ []
onto_first c (line ∷ rest) = (c ∷ line) ∷ rest

-- the lines of a text, without their line feeds, of which the last may lack its own
unfoldable pub lines : List ℕ → List (List ℕ)
lines [] = []
lines (c ∷ cs) = cond (c == 10) ([] ∷ lines cs) (onto_first c (lines cs))

-- the first line of a text, and what comes after it
abbrev pub first_of : List ℕ → List ℕ
first_of text = take (position_or_len (λ c. c == 10) text) text

abbrev pub rest_of : List ℕ → List ℕ
rest_of text = drop (position_or_len (λ c. c == 10) text + 1) text

-- white space within a line: a space, a tab, a carriage return, a vertical tab or a form feed
abbrev pub is_blank : ℕ → Bool
is_blank c = (c == 32) || (c == 9) || (c == 13) || (c == 11) || (c == 12)

-- a character is no white space
abbrev pub is_character : ℕ → Bool
is_character c = cond (is_blank c) false true

-- what comes after the white space that a list begins with
unfoldable pub skip_blanks : List ℕ → List ℕ
skip_blanks [] = []
skip_blanks (c ∷ cs) = cond (is_blank c) (skip_blanks cs) (c ∷ cs)

-- a line without the white space at its end
abbrev pub without_end_blanks : List ℕ → List ℕ
without_end_blanks line = reverse (skip_blanks (reverse line))

-- ---- boundaries

-- the label before the five hyphens at the end
abbrev pub label_before_hyphens : List ℕ → Option (List ℕ)
label_before_hyphens s =
    cond (pointwise nat_eq (drop (length s - 5) s) (codes "-----")) (Some (take (length s - 5) s)) None

-- the label of a line that is a boundary which begins so; white space may be at its end
abbrev pub label_in : List ℕ → List ℕ → Option (List ℕ)
label_in before line =
    cond (pointwise nat_eq (take (length before) line) before)
    (label_before_hyphens (without_end_blanks (drop (length before) line))) None

-- ---- blocks

-- the block of a label and the characters between its boundaries
abbrev pub decoded : Part → Result Block PemError
decoded p = elim (decode_of standard p.body) [
  | Ok octets ↦ Ok (record { label = p.label; octets = octets })
  | Err _ ↦ Err (Base64 p.label)
]

-- The blocks that have ended after a line, and the block that is open.
pub record Step : Type 0 where
  pub blocks : List Block
  pub part : Option Part

-- the block that a line begins: any other line outside a block is passed over
abbrev pub begun : List ℕ → Option Part
begun line = elim (label_in (codes "-----BEGIN ") line) [
  | Some label ↦ Some (record { label = label; body = [] })
  | None ↦ None
]

-- one block more
abbrev pub with_block : List Block → Result Block PemError → Result Step PemError
with_block blocks (Ok b) = Ok (record { blocks = blocks ++ b ∷ []; part = None })
with_block blocks (Err e) = Err e

-- a block ends under this label, which has to be its own
abbrev pub ended : List Block → Part → List ℕ → Result Step PemError
ended blocks p label =
    cond (pointwise nat_eq label p.label) (with_block blocks (decoded p)) (Err (OtherEnd p.label))

-- a line between the boundaries, which is not to begin another block
abbrev pub continued : List Block → Part → List ℕ → Result Step PemError
continued blocks p line = elim (label_in (codes "-----BEGIN ") line) [
  | Some _ ↦ Err (NoEnd p.label)
  | None ↦ Ok (record {
    blocks = blocks;
    part = Some (record { label = p.label; body = p.body ++ filter is_character line });
  })
]

-- a line inside a block
abbrev pub inside : List Block → Part → List ℕ → Result Step PemError
inside blocks p line = elim (label_in (codes "-----END ") line) [
  | Some label ↦ ended blocks p label
  | None ↦ continued blocks p line
]

-- a line
abbrev pub step : List Block → Option Part → List ℕ → Result Step PemError
step blocks None line = Ok (record { blocks = blocks; part = begun line })
step blocks (Some p) line = inside blocks p line

-- the blocks that lines give after those that have ended
unfoldable pub outcome : List (List ℕ) → List Block → Option Part → Result (List Block) PemError
outcome [] blocks None = Ok blocks
outcome [] blocks (Some p) = Err (NoEnd p.label)
outcome (line ∷ rest) blocks part = elim (step blocks part line) [
  | Ok s ↦ outcome rest s.blocks s.part
  | Err e ↦ Err e
]

-- the blocks of a text, or the first cause for which it is not read
abbrev pub blocks : List ℕ → Result (List Block) PemError
blocks text = outcome (lines text) [] None

-- running out of memory, which may come at any point, or the cause that this is
abbrev pub IsCause : {T : Type 0} → Result T PemError → PemError → Type 0
IsCause r Memory = Unit {0}
IsCause r (Base64 l) = r ≡ Err (Base64 l)
IsCause r (NoEnd l) = r ≡ Err (NoEnd l)
IsCause r (OtherEnd l) = r ≡ Err (OtherEnd l)

-- a character is no line feed
abbrev pub IsInLine : ℕ → Type 0
IsInLine c = (c == 10) ≡ false
