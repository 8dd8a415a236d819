use Rattle.std.proofs.Common.{◌≡◌, ◌++◌, ap, subst, ◌∙◌, All}
use Rattle.std.specs.Map.Iter.{deref_pair}
use Rattle.std.proofs.lemmas.Map.Iter.{iter_end}
use Rattle.passdb_core.specs.Entries.{AreEntries, Book, IsNamed, line}
use Rattle.passdb_core.proofs.Files.{entries_from, lines_added, named_more}
use Rattle.passdb_core.proofs.database.Db.add_lines.Goals as goal

pub loop-name-preserved : goal.loop-name-preserved
loop-name-preserved c = record {
  spelled = lines_added deref_pair c.loop-name.yielded (c.in-Some.name, c.in-Some.entry) c.args.lines.now c.loop-name.lines c.push.new.self c.from_vec.result c.loop-name.invariant.spelled c.in_ok-push.ensures.ok
      (rw (c.from_vec.ensures, c.into_bytes.ensures.value) (c.in_ok-push_line.ensures.ok ∙ ap (λ t. t ++ line (c.in-Some.name.now, c.in-Some.entry.now)) c.new-line.ensures.bytes));
  named = named_more deref_pair c.loop-name.yielded (c.in-Some.name, c.in-Some.entry) c.loop-name.invariant.named c.in_ok-push_line.ensures.is;
}

pub returns-clause-are : goal.returns-clause-are
returns-clause-are c =
    let e : c.self.inside.entries.entries ≡ c.args.self.now.entries = ap (λ (b : Book). b.entries) c.self.view_is in
    let all = (iter_end deref_pair _ c.loop-name.yielded _ _ _ _ c.into_iter-name-iterator.ensures.into_iter_gives.0 c.loop-name.yielded_by c.in-None.is c.next.ensures.steps).0 in
    subst AreEntries e (entries_from c.self.inside.entries.entries c.into_iter-name-iterator.ensures.into_iter_gives.5 (subst (All IsNamed) all c.loop-name.invariant.named))
