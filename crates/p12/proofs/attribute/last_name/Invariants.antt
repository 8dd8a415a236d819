use Rattle.std.proofs.Common.{◌≡◌, length, List, ℕ, ◌++◌, ◌∷◌, [], Ok}
use Rattle.asn1_core.specs.PartLoop.{SoFar}
use Rattle.asn1_core.specs.Unicode.{bmp_at}
use Rattle.p12.specs.AttributeView.{bmp_text}
use Rattle.p12.proofs.attribute.last_name.Given as goal

abbrev pub invariant-loop-found : goal.invariant-loop-found
invariant-loop-found l =
    ((before : List (List ℕ)) × SoFar bmp_at l.fn.body.rest.now (before ++ bmp_text l.found ∷ []) l.body.rest.now) × (bmp_at l.found ≡ Ok (bmp_text l.found, []))

abbrev pub decreases-loop-found : goal.decreases-loop-found
decreases-loop-found l = length l.body.rest.now
