use Rattle.std.proofs.Common.{◌∙◌, subst, sym}
use Rattle.transfer.specs.OpenedSafe.{IsOpenedText}
use Rattle.transfer.proofs.store.safe.OpenedSafe.try_clone.Goals as goal

-- src/store/safe.rt
pub invariant_of-result : goal.invariant_of-result
invariant_of-result c =
    let s = c.self.inside in
    let places = c.in_ok-copied_places.field-0 in
    let keys = c.in_ok-copied.field-0 in
    subst (λ t. IsOpenedText t places keys) (sym c.in_ok-try_clone.ensures)
    (subst (λ ps. IsOpenedText s.text ps keys)
    (sym (c.in_ok-copied_places.ensures.ok ∙ c.as_slice.ensures))
    (subst (λ ks. IsOpenedText s.text s.places ks)
    (sym (c.in_ok-copied.ensures.ok ∙ c.as_slice-2.ensures)) c.self.invariant))
