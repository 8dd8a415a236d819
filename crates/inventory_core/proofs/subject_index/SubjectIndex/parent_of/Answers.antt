use Rattle.std.proofs.Common.{get_or, ap, sym, ◌∙◌}
use Rattle.std.specs.Prelude.{None}
use Rattle.inventory_core.specs.View.{seen_all, seen_certificate}
use Rattle.inventory_core.proofs.Issued.{parent_itself, parent_of_one, parent_unknown}
use Rattle.inventory_core.proofs.subject_index.SubjectIndex.parent_of.Goals as goal

pub returns-then-eq : goal.returns-then-eq
returns-then-eq c = parent_itself (seen_all c.args.self.now.certificates.now) c.args.j (seen_certificate c.in-Some.certificate) c.in-Some.ensures (sym c.eq.ensures ∙ c.if-eq.true)

pub returns-in-Some-number_at : goal.returns-in-Some-number_at
returns-in-Some-number_at c =
    parent_of_one (seen_all c.args.self.now.certificates.now) c.args.j (seen_certificate c.in-Some.certificate) c.in-Some-number_at.k c.in-Some.ensures (sym c.eq.ensures ∙ c.if-eq.false)
    (sym (c.args.self.now.issuers_are c.args.j) ∙ ap (λ s. get_or s c.args.j None) (sym c.as_slice.ensures.value) ∙ sym c.in-Some-number_at.ensures)

pub returns-in-None : goal.returns-in-None
returns-in-None c =
    parent_unknown (seen_all c.args.self.now.certificates.now) c.args.j (seen_certificate c.in-Some.certificate) c.in-Some.ensures (sym c.eq.ensures ∙ c.if-eq.false)
    (sym (c.args.self.now.issuers_are c.args.j) ∙ ap (λ s. get_or s c.args.j None) (sym c.as_slice.ensures.value) ∙ sym c.in-None.ensures)
