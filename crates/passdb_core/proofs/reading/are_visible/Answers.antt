use Rattle.std.proofs.Common.{arith, refl}
use Rattle.std.proofs.lemmas.List.Elements.{All-more}
use Rattle.passdb_core.specs.Commands.{IsVisible}
use Rattle.passdb_core.proofs.Words.{all_taken}
use Rattle.passdb_core.proofs.reading.are_visible.Goals as goal

pub loop-octet-preserved : goal.loop-octet-preserved
loop-octet-preserved c = All-more IsVisible c.args.octets.now c.loop-octet.octet-index 0 (omega arith) c.loop-octet.invariant (c.is_visible.ensures.0 c.if-not-is_visible.false)

pub returns : goal.returns
returns c = (λ e. all_taken IsVisible c.args.octets.now c.loop-octet.octet-index (omega arith) c.loop-octet.invariant, λ all. refl)
