use Rattle.std.proofs.Common.{subst}
use Rattle.std.specs.Prelude.{Option, IfSome, ℕ, List}
use Rattle.std.proofs.lemmas.Result.{IfOk-weaker}
use Rattle.legacy_store.specs.InDer.{IsStoreInDer}
use Rattle.store_renewal.specs.Parts.{HasDerParts, HasParts}
use Rattle.store_renewal.specs.declared.parts.Parts.{Parts}
use Rattle.store_renewal.proofs.PartTexts.{parts_as_they_are, parts_in_der}
use Rattle.store_renewal.proofs.parts.parts_of.Goals as goal

pub returns-in-Some-clause-parts : goal.returns-in-Some-clause-parts
returns-in-Some-clause-parts c =
    let b = c.args.store.now in
    let whole : IsStoreInDer b c.in-Some.der = subst (λ (m : Option (List ℕ)). IfSome m (IsStoreInDer b)) c.in-Some.is c.in_ok-found.ensures.some in
    IfOk-weaker c.parts_in.result (λ (r : Parts). HasDerParts c.as_slice.result.now r.version r.contents) (λ (r : Parts). HasParts b r.version r.contents)
    (λ r h. parts_in_der b c.as_slice.result.now r.version r.contents (rw (c.as_slice.ensures) whole) h) c.parts_in.ensures.parts

pub returns-in-None-clause-parts : goal.returns-in-None-clause-parts
returns-in-None-clause-parts c =
    let b = c.args.store.now in
    IfOk-weaker c.parts_in-in-None.result (λ (r : Parts). HasDerParts b r.version r.contents) (λ (r : Parts). HasParts b r.version r.contents) (λ r h. parts_as_they_are b r.version r.contents h) c.parts_in-in-None.ensures.parts
