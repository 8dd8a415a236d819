use Rattle.std.proofs.Common.{◌≡◌, arith, ap, length}
use Rattle.octet_core.specs.PaddedLaws.{length-take_padded}
use Rattle.octet_core.proofs.Extended.{still_padded}
use Rattle.octet_core.proofs.short_octets.ShortOctets.extend.Goals as goal

pub invariant_of-self : goal.invariant_of-self
invariant_of-self g c =
    let held = c.self.inside in
    let view = c.self.view_is in
    let taken = length-take_padded g.row.MAX held.size held.octets c.self.invariant in
    let size : length c.args.self.now ≡ held.size = omega (arith, ap length view, taken) in
    still_padded g.row.MAX held.size (length c.args.octets.now) _ held.octets c.copy_from_slice.new.self
    (omega arith) (ap length c.copy_from_slice.ensures.after) (omega (arith, size, c.requires)) c.self.invariant
