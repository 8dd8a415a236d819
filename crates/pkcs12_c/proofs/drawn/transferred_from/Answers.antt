use Rattle.std.proofs.Common.{◌≡◌, refl, rules}
use Rattle.std.specs.Prelude.{Some}
use Rattle.frame.specs.Calls.{effects}
use Rattle.frame.specs.Stream.{stream}
use Rattle.transfer.specs.Transferred.{Transfers}
use Rattle.transfer.specs.Words.{command}
use Rattle.pkcs12_c.specs.Drawn.{TransfersDrawn}
use Rattle.pkcs12_c.proofs.Restated.{drawn_made, if_ok, settled_memory}
use Rattle.pkcs12_c.proofs.drawn.transferred_from.Goals as goal

pub returns-in_err-octets-clause-exact : goal.returns-in_err-octets-clause-exact
returns-in_err-octets-clause-exact g c = settled_memory c.args.store.now c.args.password.now.text.now c.args.limit (Some c.args.random.now) c.from_residual.result (search rules)

pub returns-clause-opened : goal.returns-clause-opened
returns-clause-opened g c =
    let e = effects (stream (Some c.new-draw.result.left) (Some c.transfer.new.draw.left) c.new-draw.result.faults c.transfer.new.draw.faults) c.open-steps.result c.transfer.new.steps in
    let told : Some c.new-draw.result.left ≡ Some c.args.random.now = search rules in
    let zero : c.open-steps.result ≡ 0 = search rules in
    if_ok c.transfer.result (λ t. Transfers (command c.args.password.now.text.now c.args.new_password.now c.args.rounds c.args.limit) e c.args.store.now t.certificates t.documents)
    (λ t. TransfersDrawn c.args.store.now c.args.password.now.text.now c.args.limit c.args.rounds c.args.new_password.now c.args.random.now t.certificates t.documents)
    (λ t h. drawn_made c.args.store.now c.args.password.now.text.now c.args.new_password.now c.args.random.now c.transfer.new.draw.left c.args.rounds c.args.limit e t.certificates t.documents told refl zero
    c.transfer.ensures.at_most.1 h) c.transfer.ensures.opened
