use Rattle.std.proofs.Common.{ap, subst, sym, ◌∙◌}
use Rattle.p12.specs.BagView.{ListsBags, bags_of}
use Rattle.transfer.proofs.Overwriting.{between_place}
use Rattle.transfer.proofs.store.bags.bags_at.Goals as goal

pub of_listed-requires : goal.of_listed-requires
of_listed-requires c = subst ListsBags (sym (between_place c.args.place c.args.text.now)) c.requires.1

pub returns-clause-are : goal.returns-clause-are
returns-clause-are c = c.of_listed.ensures.are ∙ ap bags_of (between_place c.args.place c.args.text.now)

pub returns-clause-bytes : goal.returns-clause-bytes
returns-clause-bytes c = c.of_listed.ensures.bytes ∙ between_place c.args.place c.args.text.now
