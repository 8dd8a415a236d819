use Rattle.std.proofs.Common.{ap, subst, sym, ◌∙◌, length, ◌-◌, ◌≡◌}
use Rattle.passdb_core.specs.Entries.{Above, Book}
use Rattle.passdb_core.proofs.LastEntry.{above_at, all_above}
use Rattle.passdb_core.proofs.database.Db.is_above.Goals as goal

pub returns-in-Less : goal.returns-in-Less
returns-in-Less c =
    let e : c.self.inside.entries.entries ≡ c.args.self.now.entries = ap (λ (b : Book). b.entries) c.self.view_is in
    subst (λ es. Above es c.args.name.now) e (all_above c.in-Some.last.now c.args.name.now c.self.inside.entries.entries c.in-Some.ensures.all_up_to (sym c.cmp.ensures ∙ c.in-Less.is))

pub returns-in_default : goal.returns-in_default
returns-in_default c = λ a.
    let e : c.self.inside.entries.entries ≡ c.args.self.now.entries = ap (λ (b : Book). b.entries) c.self.view_is in
    c.in_default.not-Less (c.cmp.ensures ∙ above_at c.self.inside.entries.entries (length c.self.inside.entries.entries - 1) (c.in-Some.last.now, c.in-Some.field-0-1.now) c.args.name.now c.in-Some.ensures.last
    (subst (λ es. Above es c.args.name.now) (sym e) a))
