use Rattle.std.proofs.Common.{◌≡◌, ◌∙◌, ◌++◌, ◌-◌, List, ap, sym, subst}
use Rattle.p12.specs.declared.safe_bag.SafeBag.{SafeBag}
use Rattle.transfer.specs.Sample.{certificate_bag, certificate_bags, starts}
use Rattle.transfer.proofs.Generated.{certificates_more}
use Rattle.transfer.proofs.sample.store.certificate_bags.Goals as goal

pub loop-left-preserved : goal.loop-left-preserved
loop-left-preserved c =
    let z = c.next_material-material.new.generator.state in
    let more = certificates_more c.loop-left.bags (certificate_bags (starts c.args.seed c.args.keys)) c.in_ok-certificate_bag.field-0 c.loop-left.generator.state c.loop-left.left z c.loop-left-test.true
    (c.in_ok-certificate_bag.ensures ∙ ap certificate_bag c.next_material-material.ensures.is.0) c.next_material-material.ensures.state c.loop-left.invariant.made in
    record {
      made = subst (λ (gs : List SafeBag). gs ++ certificate_bags (starts z (c.loop-left.left - 1)) ≡ certificate_bags (starts c.args.seed c.args.keys)) (sym c.in_ok-push.ensures.ok) more;
    }
