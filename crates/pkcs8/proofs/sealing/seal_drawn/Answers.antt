use Rattle.pkcs8.proofs.Drawn.{refused_drawn, sealed_drawn}
use Rattle.pkcs8.proofs.sealing.seal_drawn.Goals as goal

pub returns-in-Ok-clause-ok : goal.returns-in-Ok-clause-ok
returns-in-Ok-clause-ok g c =
    sealed_drawn (λ d. d.document.octets) _ _ c.in-Ok.parameters c.args.password.now c.args.text.now c.in-Ok.ensures.ok c.seal.result c.seal.ensures.ok

pub returns-in-Ok-clause-err : goal.returns-in-Ok-clause-err
returns-in-Ok-clause-err g c =
    refused_drawn (λ d. d.document.octets) _ _ c.in-Ok.parameters c.args.password.now c.args.text.now c.in-Ok.ensures.ok _ c.seal.result c.seal.ensures.err
