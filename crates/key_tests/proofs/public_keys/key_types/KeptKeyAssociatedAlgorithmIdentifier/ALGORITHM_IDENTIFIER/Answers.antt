use Rattle.std.proofs.Common.{refl}
use Rattle.spki.specs.ConstantLaws.{same_algorithm, same_parameters}
use Rattle.key_tests.proofs.public_keys.key_types.KeptKeyAssociatedAlgorithmIdentifier.ALGORITHM_IDENTIFIER.Goals as goal

pub returns : goal.returns
returns c = same_algorithm _ _ _ _ refl (same_parameters _ _ refl)
