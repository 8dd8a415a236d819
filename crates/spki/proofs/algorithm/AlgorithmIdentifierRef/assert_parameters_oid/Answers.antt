use Rattle.spki.specs.OidLaws.{asserted}
use Rattle.spki.proofs.algorithm.AlgorithmIdentifierRef.assert_parameters_oid.Goals as goal

pub returns : goal.returns
returns c = asserted c.args.expected_oid c.in_ok-actual.actual _ c.in_ok-actual.ensures c.expect_oid.result c.expect_oid.ensures
