-- Writing texts of characters.
use Rattle.std.proofs.Common.{◌≡◌, ℕ, ◌+◌, ◌<◌, ◌/◌, ◌%◌, List, [], ◌∷◌, ◌++◌, length, get_or, refl, sym, ap, ◌∙◌, arith}
use Rattle.std.proofs.Common.{map, take, drop}
use Rattle.std.specs.List.{flat_map}
use Rattle.std.proofs.lemmas.List.{map-id, drop_more, take-append-drop}
use Rattle.std.proofs.lemmas.Grind.{flat_map-append}
use Rattle.std.proofs.lemmas.Str.{scalars-chars, encodes-chars}
use Rattle.std.specs.Str.{chars, IsUtf8}
use Rattle.std.specs.Char.Escape.{encode_utf16}
use Rattle.asn1_core.specs.Der.{el}
use Rattle.asn1_core.specs.Unicode.{unit_octets, char_units, text_units, Bmp}

pub one_unit : (us : List ℕ) → length us ≡ 1 → unit_octets us ≡ get_or us 0 0 / 256 ∷ get_or us 0 0 % 256 ∷ []
unfolding unit_octets
one_unit [] e = absurd (omega (arith, e))
one_unit (u ∷ []) e = refl
one_unit (u ∷ v ∷ us) e = absurd (omega (arith, e))

pub two_units : (us : List ℕ) → length us ≡ 2 → unit_octets us ≡ get_or us 0 0 / 256 ∷ get_or us 0 0 % 256 ∷ get_or us 1 0 / 256 ∷ get_or us 1 0 % 256 ∷ []
unfolding unit_octets
two_units [] e = absurd (omega (arith, e))
two_units (u ∷ []) e = absurd (omega (arith, e))
two_units (u ∷ v ∷ []) e = refl
two_units (u ∷ v ∷ w ∷ us) e = absurd (omega (arith, e))

-- what a walk through a list has made so far, what it makes of the next element, and what is left
pub parts : (f : ℕ → List ℕ) (all xs : List ℕ) (x : ℕ) → map (λ c. c) xs ≡ take (length xs) all → (length xs < length all) × (x ≡ get_or all (length xs) x)
    → flat_map f all ≡ flat_map f xs ++ (f x ++ flat_map f (drop (length xs + 1) all))
parts f all xs x so turn =
    let same : xs ≡ take (length xs) all = sym (map-id xs) ∙ so in
    let rest : drop (length xs) all ≡ x ∷ drop (length xs + 1) all = drop_more all (length xs) x turn.0 ∙ ap (λ (c : ℕ). c ∷ drop (length xs + 1) all) (sym turn.1) in
    let whole : all ≡ xs ++ x ∷ drop (length xs + 1) all = sym (take-append-drop (length xs) all) ∙ ap (λ (l : List ℕ). l ++ drop (length xs) all) (sym same) ∙ ap (λ (l : List ℕ). xs ++ l) rest in
    ap (flat_map f) whole ∙ flat_map-append f xs (x ∷ drop (length xs + 1) all)

octets_joined : (us vs : List ℕ) → unit_octets (us ++ vs) ≡ unit_octets us ++ unit_octets vs
unfolding unit_octets
octets_joined [] vs = refl
octets_joined (u ∷ us) vs = ap (λ (l : List ℕ). u / 256 ∷ u % 256 ∷ l) (octets_joined us vs)

units_joined : (cs : List ℕ) → flat_map char_units cs ≡ unit_octets (flat_map encode_utf16 cs)
unfolding unit_octets
units_joined [] = refl
units_joined (c ∷ cs) = ap (λ (l : List ℕ). char_units c ++ l) (units_joined cs) ∙ sym (octets_joined (encode_utf16 c) (flat_map encode_utf16 cs))

-- what is written of a text is a text of it
pub bmp_written : (t : List ℕ) → IsUtf8 t → Bmp (el 0x1e (text_units t)) t
bmp_written t u = (text_units t, (chars t, scalars-chars t u, encodes-chars t u, units_joined (chars t)), refl)
