use Rattle.std.proofs.Common.{◌∙◌, ◌^◌, ap, sym, List, ℕ, [], Ok}
use Rattle.std.proofs.lemmas.Bool.{lt-ltb}
use Rattle.std.proofs.Common.{length}
use Rattle.asn1_core.specs.Der.{el}
use Rattle.asn1_core.specs.ExactLaws.{where_true}
use Rattle.legacy_store.proofs.joined.element.Goals as goal

pub returns-in-Ok : goal.returns-in-Ok
returns-in-Ok c =
    let e = el c.args.tag.first c.args.value.now in
    where_true _ e (lt-ltb (length e) (2 ^ 32) c.in-Ok.ensures.short) ∙ ap (λ (l : List ℕ). Ok l) (sym (c.into_octets.ensures ∙ c.in-Ok.ensures.writes.adds [] c.new-w.ensures))
