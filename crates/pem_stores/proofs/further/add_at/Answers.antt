use Rattle.std.proofs.Common.{◌≡◌, ◌∙◌, ◌++◌, None, ap, sym, slice_get}
use Rattle.std.proofs.lemmas.List.{append-nil}
use Rattle.std.proofs.lemmas.Option.{slice_get_past}
use Rattle.pem_stores.specs.Entries.{unnamed}
use Rattle.pem_stores.proofs.further.add_at.Goals as goal

pub returns-in_default : goal.returns-in_default
returns-in_default c =
    let none : slice_get c.args.all.now c.args.place ≡ None = slice_get_past c.args.all.now c.args.place c.in_default.ensures.lookup.3 in
    sym (ap (λ o. c.args.entries.now.items ++ unnamed o) none ∙ append-nil c.args.entries.now.items)
