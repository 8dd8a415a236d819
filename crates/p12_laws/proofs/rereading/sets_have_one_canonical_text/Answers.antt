use Rattle.p12.proofs.Again.{attribute_once, bag_once, bags_once}
use Rattle.p12_laws.proofs.rereading.sets_have_one_canonical_text.Goals as goal

pub returns-clause-attribute : goal.returns-clause-attribute
returns-clause-attribute c = attribute_once

pub returns-clause-bag : goal.returns-clause-bag
returns-clause-bag c = bag_once

pub returns-clause-bags : goal.returns-clause-bags
returns-clause-bags c = bags_once
