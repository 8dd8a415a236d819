use Rattle.std.proofs.Common.{◌≡◌, ◌+◌, length}
use Rattle.std.specs.List.{sum_by}
use Rattle.rekey_core.specs.Anew.{content_draws}
use Rattle.rekey_core.specs.Kinds.{mac_salt}
use Rattle.rekey_core.specs.Sealing.{bags_draw}
use Rattle.rekey_core.proofs.drawing.room_for.Given as goal

abbrev pub invariant-loop-content : goal.invariant-loop-content
invariant-loop-content l = length l.room + sum_by (content_draws l.to) l.rest ≡ mac_salt l.to + sum_by (content_draws l.to) l.contents

abbrev pub decreases-loop-content : goal.decreases-loop-content
decreases-loop-content l = length l.rest

abbrev pub invariant-loop-held : goal.invariant-loop-held
invariant-loop-held l = length l.room + sum_by (bags_draw l.to) l.rest_bags ≡ mac_salt l.to + sum_by (content_draws l.to) l.contents + sum_by (bags_draw l.to) l.bags

abbrev pub decreases-loop-held : goal.decreases-loop-held
decreases-loop-held l = length l.rest_bags
