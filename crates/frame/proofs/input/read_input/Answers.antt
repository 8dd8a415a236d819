use Rattle.std.proofs.Common.{◌≡◌, ℕ, ◌≤◌, List, ◌++◌, length, take, length-append, arith, rules}
use Rattle.std.specs.Prelude.{Option}
use Rattle.std.specs.Io.KnownBytes.{Consumes}
use Rattle.std.proofs.KnownBytes.{Consumes-trans}
use Rattle.std.proofs.lemmas.List.{length-take}
use Rattle.frame.specs.Input.{TakesAtMost, input_limit, taken_limit}
use Rattle.frame.proofs.input.read_input.Goals as goal

-- what was read, and one piece more
one_piece : (a b c : Option (List ℕ)) (xs buf : List ℕ) (n : ℕ) → Consumes a b xs → Consumes b c (take n buf) → length xs ≤ input_limit → length buf ≡ 65536 → TakesAtMost a c taken_limit
one_piece a b c xs buf n p q fits size = (xs ++ take n buf, Consumes-trans a b c xs (take n buf) p q, omega (arith, fits, size, length-append xs (take n buf), length-take n buf))

pub returns-then-count-len-clause-taken : goal.returns-then-count-len-clause-taken
returns-then-count-len-clause-taken g c =
    let size : length c.read.new.buf ≡ 65536 = search rules in
    let few : length c.loop-count.octets.items ≤ input_limit = search rules in
    one_piece _ _ _ _ c.read.new.buf c.in-Ok.count c.loop-count.invariant.taken c.in-Ok.ensures.octets.0 few size

pub returns-in_err-extend_from_slice-clause-taken : goal.returns-in_err-extend_from_slice-clause-taken
returns-in_err-extend_from_slice-clause-taken g c =
    let size : length c.read.new.buf ≡ 65536 = search rules in
    let few : length c.loop-count.octets.items ≤ input_limit = search rules in
    one_piece _ _ _ _ c.read.new.buf c.in-Ok.count c.loop-count.invariant.taken c.in-Ok.ensures.octets.0 few size
