use Rattle.std.proofs.Common.{arith}
use Rattle.p12.proofs.Ends.{inside_parts, rest_within}
use Rattle.p12.proofs.content_info.content_view.Goals as goal

pub view_of-requires : goal.view_of-requires
view_of-requires c = omega (arith, c.requires, inside_parts 0x30 _ _ _ c.in_ok-body.ensures.stands, rest_within _ _ _ _ c.in_ok-content_type.ensures.stands)
