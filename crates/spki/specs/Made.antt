-- A value that is made of an algorithm with any parameters.
use Rattle.std.specs.Prelude.{Result}
use Rattle.asn1_core.specs.Gives.{Gives}
use Rattle.asn1_core.specs.Reading.{Fault, All, ◌>>=◌, any_tag, on, ended, oid_at, option_at}
use Rattle.asn1_core.specs.declared.error.Error.{Error}
use Rattle.der_core.specs.Any.{any_at}
use Rattle.der_core.specs.declared.any_ref.AnyRef.{AnyRef}
use Rattle.spki.specs.declared.algorithm.AlgorithmIdentifier.{AlgorithmIdentifier}
use Rattle.spki.specs.Algorithm.{algorithm}
use Rattle.spki.specs.Seen.{AnyAlgorithm, borrowed_algorithm}

-- the value octets: the identifier and the parameters are read, the value is made of them, and
-- octets after them come last
abbrev pub made_of : {V : Type 0} → (AnyAlgorithm → Result V Fault) → All V
made_of make = on oid_at (λ o.
    on (option_at any_tag any_at) (λ p rest. make (algorithm o p) >>= λ v. ended v rest))

-- a conversion from algorithms, of which `gives` tells what it may return, returns what `make`
-- gives
abbrev pub IsMaking : {V : Type 0} → (AlgorithmIdentifier AnyRef → Result V Error → Type 0)
    → (AnyAlgorithm → Result V Fault) → Type 0
IsMaking gives make = (a : AlgorithmIdentifier AnyRef) (r : Result _ Error) → gives a r
    → Gives (λ v. v) r (make (borrowed_algorithm a))
