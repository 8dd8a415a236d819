use Rattle.std.proofs.Common.{refl, rules}
use Rattle.std.proofs.Output.{has_written_of_eq, writes_in_calls_nil}
use Rattle.terminal_text.proofs.Text.{octets_told, octets_untold}
use Rattle.terminal_text.proofs.hexadecimal.write_count.Goals as goal

pub returns-in_ok-write : goal.returns-in_ok-write
returns-in_ok-write g c = λ plain ok.
    has_written_of_eq _ _ _ _ _ (octets_told c.args.octets.now _ refl (search rules)) (c.in_ok-write.ensures.writes plain refl)

pub returns-else-count-gt-MOST_OCTETS : goal.returns-else-count-gt-MOST_OCTETS
returns-else-count-gt-MOST_OCTETS g c = λ plain ok.
    has_written_of_eq _ _ _ _ _ (octets_untold c.args.octets.now _ refl (search rules)) (record { wrote = writes_in_calls_nil _ _; plain = plain })
