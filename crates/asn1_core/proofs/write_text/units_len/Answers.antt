use Rattle.std.proofs.Common.{arith, ap, sym, refl, ◌∙◌, ◌≡◌, ℕ, List, [], ◌∷◌, ◌++◌, ◌+◌, drop, length, length-append, append-nil}
use Rattle.std.specs.List.{flat_map}
use Rattle.std.specs.Str.{chars}
use Rattle.std.proofs.lemmas.Iterator.{YieldsList-from_chars}
use Rattle.std.proofs.lemmas.Iterator.Consumers.{YieldsList-end, YieldsList-so_far, YieldsList-turn}
use Rattle.std.proofs.lemmas.List.{map-id}
use Rattle.std.proofs.lemmas.Grind.{flat_map-append}
use Rattle.asn1_core.specs.Unicode.{char_units}
use Rattle.asn1_core.proofs.TextLaws.{parts}
use Rattle.asn1_core.proofs.write_text.units_len.Goals as goal

-- the units of one more character
more : (xs : List ℕ) (x t n : ℕ) → t ≡ length (flat_map char_units xs) → n ≡ length (char_units x) → t + n ≡ length (flat_map char_units (xs ++ x ∷ []))
more xs x t n is count = grind (arith, flat_map-append, length-append, append-nil)

pub returns-then-total-gt4294967295 : goal.returns-then-total-gt4294967295
returns-then-total-gt4294967295 c =
    let all = chars c.args.text.now in
    let xs = c.loop-character.yielded in
    let x = c.in-Some.character in
    let road = YieldsList-from_chars c.args.text.now c.utf8.text cc in
    let p = parts char_units all xs x (YieldsList-so_far road xs _ c.loop-character.yielded_by) (YieldsList-turn road xs _ c.loop-character.yielded_by _ _ _ c.in-Some.is c.next.ensures.steps) in
    let f = flat_map char_units in
    let rest = f (drop (length xs + 1) all) in
    let size = ap length p ∙ length-append (f xs) (char_units x ++ rest) in
    (refl, omega (arith, size, length-append (char_units x) rest, c.loop-character.invariant.0, c.units_of_char-n.ensures.count, c.if-total-gt4294967295.true))

pub returns : goal.returns
returns c =
    let all = (YieldsList-end (YieldsList-from_chars c.args.text.now c.utf8.text cc) c.loop-character.yielded _ c.loop-character.yielded_by _ _ c.in-None.is c.next.ensures.steps).0 in
    c.loop-character.invariant.0 ∙ ap (λ l. length (flat_map char_units l)) (sym (map-id c.loop-character.yielded) ∙ all)

pub loop-character-preserved : goal.loop-character-preserved
loop-character-preserved c = (more c.loop-character.yielded _ _ _ c.loop-character.invariant.0 c.units_of_char-n.ensures.count, c.if-total-gt4294967295.false)

pub overflow_add-total : goal.overflow_add-total
overflow_add-total c = omega arith
