use Rattle.std.proofs.Common.{◌≡◌, Ok, rules}
use Rattle.asn1_core.specs.Unicode.{bmp_at}
use Rattle.p12.proofs.Characters.{bmp_alone}
use Rattle.p12.proofs.attribute.bmp_element.Goals as goal

pub returns-clause-exact : goal.returns-clause-exact
unfolding bmp_at
returns-clause-exact c =
    let read : bmp_at c.args.r.now.rest.now ≡ Ok (c.in_ok-check_units.ensures.0, c.read_inner.new.r.rest.now) = search rules in
    (bmp_alone _ _ _ read).0

pub returns-clause-alone : goal.returns-clause-alone
unfolding bmp_at
returns-clause-alone c =
    let read : bmp_at c.args.r.now.rest.now ≡ Ok (c.in_ok-check_units.ensures.0, c.read_inner.new.r.rest.now) = search rules in
    (bmp_alone _ _ _ read).1
