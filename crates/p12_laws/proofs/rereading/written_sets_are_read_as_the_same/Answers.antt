use Rattle.p12.proofs.Again.{attribute_again, bag_again, bags_again}
use Rattle.p12_laws.proofs.rereading.written_sets_are_read_as_the_same.Goals as goal

pub returns-clause-attribute : goal.returns-clause-attribute
returns-clause-attribute c = attribute_again

pub returns-clause-bag : goal.returns-clause-bag
returns-clause-bag c = bag_again

pub returns-clause-bags : goal.returns-clause-bags
returns-clause-bags c = bags_again
