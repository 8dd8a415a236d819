-- The text that is due for certificates and documents.
use Rattle.std.specs.Prelude.{ℕ, List, ◌++◌, codes}
use Rattle.std.specs.List.{flat_map}
use Rattle.frame.specs.DueText.{digits_line}

-- A line for each certificate, then one for each document.
abbrev pub out : List (List ℕ) → List (List ℕ) → List ℕ
out certificates documents = flat_map (digits_line (codes "cert ")) certificates
    ++ flat_map (digits_line (codes "key ")) documents
