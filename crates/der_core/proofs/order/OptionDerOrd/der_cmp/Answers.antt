use Rattle.std.proofs.Common.{sym}
use Rattle.der_core.specs.OrderLaws.{nothing_first, nothing_last}
use Rattle.der_core.proofs.order.OptionDerOrd.der_cmp.Goals as goal

pub returns-in-Some-None-clause-ok : goal.returns-in-Some-None-clause-ok
returns-in-Some-None-clause-ok g c =
    rw (c.in-Some-None.is-0, c.in-Some-None.is-1) (sym (nothing_last _ (g.met.T.ElementText.element c.in-Some-None.field-0-0)))

pub returns-in-None-Some-clause-ok : goal.returns-in-None-Some-clause-ok
returns-in-None-Some-clause-ok g c =
    rw (c.in-None-Some.is-0, c.in-None-Some.is-1) (sym (nothing_first _ (g.met.T.ElementText.element c.in-None-Some.field-0-1)))
