use Rattle.std.proofs.Common.{◌≤◌, ◌+◌, length}
use Rattle.std.specs.List.{sum_by}
use Rattle.rekey_core.specs.Anew.{content_draws}
use Rattle.rekey_core.specs.Sealing.{bags_draw}
use Rattle.rekey_core.proofs.Deriving.{PartsOn}
use Rattle.rekey_core.proofs.key_derivation.parts_of.Given as goal

abbrev pub invariant-loop-content : goal.invariant-loop-content
invariant-loop-content l =
    (sum_by (content_draws l.to) l.rest + sum_by (bags_draw l.to) l.rest_bags ≤ length l.left)
    × PartsOn l.to l.contents l.rest l.bags l.rest_bags l.drawn l.left l.parts

abbrev pub decreases-loop-content : goal.decreases-loop-content
decreases-loop-content l = length l.rest
