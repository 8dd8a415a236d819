use Rattle.std.proofs.Common.{List, ◌-◌, sym, subst}
use Rattle.p12.specs.declared.safe_bag.SafeBag.{SafeBag}
use Rattle.transfer.specs.Sample.{key_at, salt_at, starts}
use Rattle.transfer.proofs.Generated.{Completes, behind_left, keys_all, keys_more, seals_as}
use Rattle.transfer.proofs.sample.store.key_bags.Goals as goal

pub loop-left-preserved : goal.loop-left-preserved
loop-left-preserved c =
    let y = c.loop-left.generator.state in
    let z = c.next_material-material.new.generator.state in
    let all = starts c.args.generator.now.state c.args.keys in
    let g = c.in_ok-key_bag.field-0 in
    let is = seals_as _ (salt_at y) _ (key_at y) g c.next_material-material.ensures.is.2 c.next_material-material.ensures.is.1 c.in_ok-key_bag.ensures in
    let more = keys_more c.loop-left.bags g y c.loop-left.left z all c.loop-left-test.true is c.next_material-material.ensures.state c.loop-left.invariant.made in
    record {
      made = subst (λ (gs : List SafeBag). Completes gs (starts z (c.loop-left.left - 1)) all) (sym c.in_ok-push.ensures.ok) more;
      state = behind_left y c.loop-left.left z _ c.loop-left-test.true c.next_material-material.ensures.state c.loop-left.invariant.state;
    }

pub returns-clause-bags : goal.returns-clause-bags
returns-clause-bags c =
    keys_all c.loop-left.bags c.loop-left.generator.state c.loop-left.left (starts c.args.generator.now.state c.args.keys) c.loop-left-test.false c.loop-left.invariant.made
