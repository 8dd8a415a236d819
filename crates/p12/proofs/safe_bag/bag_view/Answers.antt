use Rattle.std.proofs.Common.{arith}
use Rattle.p12.proofs.BagWalks.{bag_lies}
use Rattle.p12.proofs.Ends.{inside_parts, rest_within}
use Rattle.p12.proofs.safe_bag.bag_view.Goals as goal

pub overflow_sub-end-2 : goal.overflow_sub-end-2
overflow_sub-end-2 c = omega (arith, c.requires, inside_parts 0x30 _ _ _ c.in_ok-body.ensures.stands, rest_within _ _ _ _ c.in_ok-bag_id.ensures.stands, inside_parts 0xa0 _ _ _ c.in_ok-value.ensures.stands)

pub kind_view-requires : goal.kind_view-requires
kind_view-requires c = omega (arith, c.requires, inside_parts 0x30 _ _ _ c.in_ok-body.ensures.stands, rest_within _ _ _ _ c.in_ok-bag_id.ensures.stands, inside_parts 0xa0 _ _ _ c.in_ok-value.ensures.stands)

pub returns-clause-lies : goal.returns-clause-lies
returns-clause-lies c = bag_lies c.args.total _ _ _ _ _ _ _ c.in-Ok.bag c.requires c.in_ok-body.ensures.stands c.in_ok-bag_id.ensures.stands c.in_ok-value.ensures.stands c.in-Ok.ensures.exact c.in-Ok.ensures.ends
