use Rattle.std.proofs.Common.{length, refl}
use Rattle.legacy_store.proofs.ContentTexts.{bags_more}
use Rattle.legacy_store.proofs.bag_texts.BagTexts.push.Goals as goal

pub returns-clause-ok : goal.returns-clause-ok
returns-clause-ok c =
    let i = c.self.inside in
    rw (← c.self.view_is) (bags_more i.text c.args.text.now (record { start = c.len-start.result; len = length c.args.text.now }) c.len-start.ensures refl c.extend.new.self i.places c.push.new.self
    c.in_ok-extend.ensures.ok c.in_ok-push.ensures.ok c.self.invariant.1)
