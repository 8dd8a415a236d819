use Rattle.std.proofs.Common.{arith}
use Rattle.p12.proofs.ContentWalks.{ends_within, store_place}
use Rattle.p12.proofs.Ends.{inside_parts, rest_within}
use Rattle.p12.proofs.pfx.store_view.Goals as goal

pub content_view-requires : goal.content_view-requires
content_view-requires c = omega (arith, inside_parts 0x30 _ _ _ c.in_ok-body.ensures.stands, rest_within _ _ _ _ c.in_ok-version.ensures.stands)

pub returns-clause-stands : goal.returns-clause-stands
returns-clause-stands c = store_place _ _ _ _ _ _ _ c.in_ok-body.ensures.stands c.in_ok-version.ensures.stands c.in-Ok.ensures.exact c.in-Ok.ensures.ends

pub returns-clause-within : goal.returns-clause-within
returns-clause-within c = ends_within _ _ _ c.in-Ok.ensures.ends (omega arith)
