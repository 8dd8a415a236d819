use Rattle.inventory_core.specs.View.{seen_certificate}
use Rattle.inventory_core.proofs.Gatherings.{read_none, read_some}
use Rattle.inventory_core.proofs.gathered.certificate_of.Goals as goal

pub returns-in-Ok : goal.returns-in-Ok
returns-in-Ok c = read_some c.args.bytes.now (seen_certificate c.in-Ok.certificate) c.in-Ok.ensures

pub returns-in-Err : goal.returns-in-Err
returns-in-Err c = read_none c.args.bytes.now c.in-Err.ensures.1
