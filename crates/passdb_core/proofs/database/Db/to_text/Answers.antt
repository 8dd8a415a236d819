use Rattle.std.proofs.Common.{◌≡◌, ap, subst, ◌∙◌, All}
use Rattle.std.specs.Map.Iter.{deref_pair}
use Rattle.std.proofs.lemmas.Map.Iter.{iter_end}
use Rattle.passdb_core.specs.Entries.{Book, IsFile, IsNamed, text_of}
use Rattle.passdb_core.proofs.Files.{file_from, lines_more, named_more}
use Rattle.passdb_core.proofs.database.Db.to_text.Goals as goal

pub loop-name-preserved : goal.loop-name-preserved
loop-name-preserved c = record {
  spelled = c.in_ok-push_line.ensures.ok ∙ lines_more deref_pair c.loop-name.yielded (c.in-Some.name, c.in-Some.entry) _ c.loop-name.invariant.spelled;
  named = named_more deref_pair c.loop-name.yielded (c.in-Some.name, c.in-Some.entry) c.loop-name.invariant.named c.in_ok-push_line.ensures.is;
}

pub returns-clause-ok : goal.returns-clause-ok
returns-clause-ok c =
    let e : c.self.inside.entries.entries ≡ c.args.self.now.entries = ap (λ (b : Book). b.entries) c.self.view_is in
    let all = (iter_end deref_pair _ c.loop-name.yielded _ _ _ _ c.into_iter-name-iterator.ensures.into_iter_gives.0 c.loop-name.yielded_by c.in-None.is c.next.ensures.steps).0 in
    subst (IsFile c.from_string.result) e (file_from c.self.inside.entries.entries c.from_string.result c.into_iter-name-iterator.ensures.into_iter_gives.5
    (subst (All IsNamed) all c.loop-name.invariant.named) (c.from_string.ensures ∙ c.loop-name.invariant.spelled ∙ ap text_of all))
