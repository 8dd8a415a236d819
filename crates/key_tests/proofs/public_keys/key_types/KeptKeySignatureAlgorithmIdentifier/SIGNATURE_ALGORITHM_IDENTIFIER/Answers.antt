use Rattle.std.proofs.Common.{refl}
use Rattle.spki.specs.ConstantLaws.{same_algorithm}
use Rattle.key_tests.proofs.public_keys.key_types.KeptKeySignatureAlgorithmIdentifier.SIGNATURE_ALGORITHM_IDENTIFIER.Goals as goal

pub returns : goal.returns
returns c = same_algorithm _ _ _ _ refl refl
