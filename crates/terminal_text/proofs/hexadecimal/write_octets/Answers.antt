use Rattle.std.proofs.Common.{arith, refl}
use Rattle.std.proofs.Output.{has_written_append, has_written_of_eq}
use Rattle.terminal_text.specs.Hexadecimal.{hexadecimal_octet}
use Rattle.terminal_text.proofs.Text.{taken_all, taken_more}
use Rattle.terminal_text.proofs.hexadecimal.write_octets.Goals as goal

pub loop-octet-preserved : goal.loop-octet-preserved
loop-octet-preserved g c = λ plain.
    let so_far = c.loop-octet.invariant plain in
    has_written_of_eq _ _ _ _ _ (taken_more hexadecimal_octet c.args.octets.now c.loop-octet.octet-index (omega arith))
    (has_written_append _ _ _ _ _ _ so_far (c.in_ok-write_octet.ensures so_far.plain refl))

pub returns : goal.returns
returns g c = λ plain ok.
    has_written_of_eq _ _ _ _ _ (taken_all hexadecimal_octet c.args.octets.now c.loop-octet.octet-index (omega arith)) (c.loop-octet.invariant plain)
