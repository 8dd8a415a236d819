use Rattle.std.proofs.Common.{◌≢◌, sym, lit<}
use Rattle.std.proofs.lemmas.List.{append-nil}
use Rattle.std.proofs.lemmas.Str.Pattern.{split_parts}
use Rattle.std.proofs.lemmas.List.Elements.{All-from_get_or}
use Rattle.phc_core.proofs.reading.cut.Goals as goal

pub returns-in-Some : goal.returns-in-Some
returns-in-Some c =
    let parts = split_parts 36 c.args.text.now c.split_once.result c.split_once.ensures.cases (lit< tt) in
    let p = rw c.in-Some.is at parts in
    (p.0, All-from_get_or (λ b. b ≢ 36) c.in-Some.field.now 0 p.1)

pub returns-in-None : goal.returns-in-None
returns-in-None c =
    let parts = split_parts 36 c.args.text.now c.split_once.result c.split_once.ensures.cases (lit< tt) in
    let p = rw c.in-None.is at parts in
    (sym (append-nil c.args.text.now), All-from_get_or (λ b. b ≢ 36) c.args.text.now 0 p)
