use Rattle.std.proofs.Common.{refl, take, ◌∷◌}
use Rattle.asn1_core.specs.Identifier.{subs}
use Rattle.asn1_core.proofs.Made.{put_long}
use Rattle.asn1_core.proofs.encoding.octets_of.Goals as goal

pub returns-in-None-put-clause-none : goal.returns-in-None-put-clause-none
returns-in-None-put-clause-none c = put_long (subs (c.args.first ∷ c.args.rest.now)) (take c.loop-n.used c.loop-n.kept) c.args.rest.now _ c.loop-n.n-index c.loop-n-test.true refl c.loop-n.invariant.1 c.in-None-put.ensures.none
