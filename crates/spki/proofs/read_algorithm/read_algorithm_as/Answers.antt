use Rattle.std.proofs.Common.{rules}
use Rattle.spki.specs.Made.{made_of}
use Rattle.asn1_core.specs.Gives.{Fails}
use Rattle.spki.proofs.read_algorithm.read_algorithm_as.Goals as goal

pub returns-in_err-made-clause-read : goal.returns-in_err-made-clause-read
returns-in_err-made-clause-read g c = λ make is.
    let refused : Fails ⊥ c.in_err-made.field-0.0 (made_of make c.in_ok-value.value.now) = c.in_err-made.ensures make is in
    search rules
