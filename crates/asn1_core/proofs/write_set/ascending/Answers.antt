use Rattle.std.proofs.Common.{ap, ◌∙◌}
use Rattle.asn1_core.specs.Sets.{in_order}
use Rattle.asn1_core.proofs.SetLaws.{sorted_views}
use Rattle.asn1_core.proofs.write_set.ascending.Goals as goal

pub returns-clause-ok : goal.returns-clause-ok
returns-clause-ok c =
    sorted_views (λ t. t.now) c.in_ok-texts.texts.items c.sort_unstable.new.self.items c.sort_unstable.ensures.permutation c.sort_unstable.ensures.sorted
    ∙ ap in_order c.in_ok-texts.ensures.ok
