use Rattle.std.proofs.Common.{arith, refl}
use Rattle.std.proofs.Output.{has_written_append, has_written_of_eq}
use Rattle.terminal_text.specs.JsonString.{unit_escape}
use Rattle.terminal_text.proofs.Text.{taken_all, taken_more}
use Rattle.terminal_text.proofs.json_string.write_units.Goals as goal

pub loop-unit-preserved : goal.loop-unit-preserved
loop-unit-preserved g c = λ plain.
    let so_far = c.loop-unit.invariant plain in
    has_written_of_eq _ _ _ _ _ (taken_more unit_escape c.args.units.now c.loop-unit.unit-index (omega arith))
    (has_written_append _ _ _ _ _ _ so_far (c.in_ok-write_unit.ensures so_far.plain refl))

pub returns : goal.returns
returns g c = λ plain ok.
    has_written_of_eq _ _ _ _ _ (taken_all unit_escape c.args.units.now c.loop-unit.unit-index (omega arith)) (c.loop-unit.invariant plain)
