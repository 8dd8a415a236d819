-- The numbers of an identifier are printable, and so are the names of types.
use Rattle.std.proofs.Common.{◌≡◌, ℕ, zero, suc, ◌/◌, ◌%◌, ◌<◌, Bool, true, false, List, [], ◌∷◌, cond, decimal, refl, subst, arith}
use Rattle.std.specs.Prelude.{◌==◌, ◌&&◌, if◌then◌else◌, nat_lt, Some}
use Rattle.std.specs.Str.{bytes_eq}
use Rattle.std.specs.Fmt.{digit_glyph, digits, digits_onto}
use Rattle.std.proofs.lemmas.Bool.{lt-ltb, ltb-true}
use Rattle.std.proofs.lemmas.List.Elements.{All-nil, All-cons, All-append}
use Rattle.asn1_core.specs.Arcs.{arcs_text}
use Rattle.x509_names.specs.Names.{name_in, type_names}
use Rattle.x509_names.specs.Printable.{ArePrintable, IsPrintable, is_printable}

glyph_printable : (d : ℕ) → d < 10 → IsPrintable (digit_glyph false d)
glyph_printable d h = rw (lt-ltb d 10 h) (omega arith, omega arith)

either_printable : (t : Bool) (a b : List ℕ) → ArePrintable a → ArePrintable b → ArePrintable (if t then a else b)
either_printable true a b h g = h
either_printable false a b h g = g

onto_printable : (k n : ℕ) (acc : List ℕ) → ArePrintable acc → ArePrintable (digits_onto k 10 false n acc)
onto_printable zero n acc h = h
onto_printable (suc k) n acc h =
    let some = All-cons IsPrintable (digit_glyph false (n % 10)) acc (glyph_printable (n % 10) (omega arith)) h in
    either_printable (n / 10 == 0) _ _ some (onto_printable k (n / 10) (digit_glyph false (n % 10) ∷ acc) some)

decimal_printable : (n : ℕ) → ArePrintable (decimal n)
unfolding digits
decimal_printable n = onto_printable 64 n [] (All-nil IsPrintable)

pub arcs_printable : (list : List ℕ) → ArePrintable (arcs_text list)
arcs_printable [] = All-nil IsPrintable
arcs_printable (n ∷ []) = decimal_printable n
arcs_printable (n ∷ m ∷ ns) =
    All-append IsPrintable (decimal n) (46 ∷ arcs_text (m ∷ ns)) (decimal_printable n)
    (All-cons IsPrintable 46 (arcs_text (m ∷ ns)) (omega arith, omega arith) (arcs_printable (m ∷ ns)))

-- ---- names of types

all_printable : List ℕ → Bool
all_printable [] = true
all_printable (b ∷ bs) = is_printable b && all_printable bs

rows_printable : List (List ℕ × List ℕ) → Bool
rows_printable [] = true
rows_printable (row ∷ rows) = all_printable row.1 && rows_printable rows

both : (a b : Bool) → (a && b) ≡ true → (a ≡ true) × (b ≡ true)
both true true h = (refl, refl)
both true false h = absurd cc
both false b h = absurd cc

printable_one : (b : ℕ) → is_printable b ≡ true → IsPrintable b
printable_one b h =
    let t = both (nat_lt 31 b) (nat_lt b 127) h in
    let low : 31 < b = ltb-true 31 b t.0 in
    let high : b < 127 = ltb-true b 127 t.1 in
    (omega arith, omega arith)

printable_all : (t : List ℕ) → all_printable t ≡ true → ArePrintable t
unfolding all_printable
printable_all [] h = All-nil IsPrintable
printable_all (b ∷ bs) h = let t = both (is_printable b) (all_printable bs) h in All-cons IsPrintable b bs (printable_one b t.0) (printable_all bs t.1)

named : (rows : List (List ℕ × List ℕ)) (kind name : List ℕ) → rows_printable rows ≡ true → name_in rows kind ≡ Some name → ArePrintable name
unfolding rows_printable
named [] kind name h is = absurd cc
named (row ∷ rows) kind name h is =
    let t = both (all_printable row.1) (rows_printable rows) h in
    by_test (bytes_eq kind row.0) is (printable_all row.1 t.0) (λ later. named rows kind name t.1 later)
  where
    by_test : (x : Bool) → cond x (Some row.1) (name_in rows kind) ≡ Some name → ArePrintable row.1 → (name_in rows kind ≡ Some name → ArePrintable name) → ArePrintable name
    by_test true e here later = let same : row.1 ≡ name = cc in subst ArePrintable same here
    by_test false e here later = later e

pub name_printable : (kind name : List ℕ) → name_in type_names kind ≡ Some name → ArePrintable name
unfolding all_printable rows_printable
name_printable kind name is = named type_names kind name refl is
