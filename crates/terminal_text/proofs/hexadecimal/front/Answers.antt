use Rattle.std.proofs.Common.{arith, length-take-le, sym}
use Rattle.std.proofs.lemmas.List.{take_all}
use Rattle.terminal_text.proofs.hexadecimal.front.Goals as goal

pub slice_bounds-result-end : goal.slice_bounds-result-end
slice_bounds-result-end c = sym (length-take-le 100 c.args.octets.now (omega arith))

pub returns-else-octets-gt-MOST_OCTETS : goal.returns-else-octets-gt-MOST_OCTETS
returns-else-octets-gt-MOST_OCTETS c = sym (take_all 100 c.args.octets.now (omega arith))
