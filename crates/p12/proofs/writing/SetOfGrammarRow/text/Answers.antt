use Rattle.std.proofs.Common.{◌∙◌, [], List, ℕ, ap, subst}
use Rattle.std.proofs.lemmas.Result.{err_from_is_err_and}
use Rattle.asn1_core.specs.Der.{IsShort}
use Rattle.p12.specs.Canonical.{set_of}
use Rattle.p12.proofs.TextRefusals.{set_refused}
use Rattle.p12.proofs.writing.SetOfGrammarRow.text.Goals as goal

pub returns-in_err-texts : goal.returns-in_err-texts
returns-in_err-texts g c =
    let p = err_from_is_err_and c.from_residual.result c.from_residual.ensures.1 in
    rw (p.1, p.2) (set_refused _ _ _ c.in_err-texts.ensures)

pub returns : goal.returns
returns g c =
    let is = c.in_ok-texts.ensures.0 in
    let w = c.in_ok-write_set_of.ensures in
    (c.into_octets.ensures ∙ w.writes.adds [] c.new-w.ensures ∙ ap set_of is, subst (λ (ts : List (List ℕ)). IsShort (set_of ts)) is w.short, c.in_ok-texts.ensures.1)
