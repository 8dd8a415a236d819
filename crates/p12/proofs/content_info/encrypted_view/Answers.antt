use Rattle.std.proofs.Common.{arith}
use Rattle.p12.proofs.Ends.{inside_within, encrypted_within}
use Rattle.p12.proofs.content_info.encrypted_view.Goals as goal

pub ending_at-at-requires : goal.ending_at-at-requires
ending_at-at-requires c = omega (arith, c.requires, inside_within 0xa0 _ _ _ c.in_ok-explicit.ensures.stands, encrypted_within _ _ _ c.in-Ok.ensures.exact)
