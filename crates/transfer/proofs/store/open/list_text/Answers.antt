use Rattle.std.proofs.Common.{arith}
use Rattle.p12.specs.MacView.{seen_mac}
use Rattle.transfer.proofs.Rows.{listed_so, no_contents}
use Rattle.transfer.proofs.store.open.list_text.Goals as goal

pub returns-in-Ok-clause-listed : goal.returns-in-Ok-clause-listed
returns-in-Ok-clause-listed g c =
    let p = c.in_ok-budget.ensures.passed in
    (listed_so c.args.password.now c.args.limit c.args.text (seen_mac c.args.mac.now) c.in-Ok.contents c.in_ok-budget.budget p.0 (omega (arith, p.1, p.2, c.in_ok-budget.budget.within)) c.requires.text c.in-Ok.ensures.ok.0 c.in-Ok.ensures.ok.1 p.2, p.1, omega (arith, p.2, p.3))

pub returns-in-Err-clause-refused : goal.returns-in-Err-clause-refused
returns-in-Err-clause-refused g c =
    let p = c.in_ok-budget.ensures.passed in
    (c.args.mac.now.iterations, no_contents c.args.password.now c.args.limit c.args.text.now (seen_mac c.args.mac.now) p.0 (omega (arith, p.1, p.2, c.in_ok-budget.budget.within)) c.in-Err.ensures.err.1, p.3)
