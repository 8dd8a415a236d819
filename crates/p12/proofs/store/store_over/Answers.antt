use Rattle.std.proofs.Common.{ap, length, arith}
use Rattle.p12.proofs.MadeRefusals.{made_salt}
use Rattle.p12.proofs.store.store_over.Goals as goal

pub returns-clause-fits : goal.returns-clause-fits
returns-clause-fits c =
    let salt = made_salt _ _ _ _ _ c.in_ok-mac.mac c.in_ok-mac.ensures.value in
    ((omega (arith, c.requires.text), omega arith), omega (arith, ap length salt, c.requires.salt))

pub returns-clause-opening : goal.returns-clause-opening
returns-clause-opening c =
    let salt = made_salt _ _ _ _ _ c.in_ok-mac.mac c.in_ok-mac.ensures.value in
    ((omega arith, omega arith), ((omega arith, omega arith), omega (arith, ap length salt, c.requires.salt), omega (arith, c.requires.text)))
