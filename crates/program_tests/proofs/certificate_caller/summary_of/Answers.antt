use Rattle.std.proofs.Common.{refl}
use Rattle.inventory_core.specs.View.{seen_certificate}
use Rattle.program_tests.proofs.certificate_caller.summary_of.Goals as goal

pub returns : goal.returns
returns c = (seen_certificate c.in_ok-view.view, c.in_ok-view.ensures, refl, refl, refl)
