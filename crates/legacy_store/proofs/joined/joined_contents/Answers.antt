use Rattle.legacy_store.specs.JoinedReading.{joined_at}
use Rattle.legacy_store.proofs.Joins.{joins_more}
use Rattle.legacy_store.proofs.joined.joined_contents.Goals as goal

pub loop-body-preserved : goal.loop-body-preserved
loop-body-preserved c =
    rw (c.in_ok-extend.ensures.ok, c.as_slice.ensures)
    (joins_more joined_at c.args.body.rest.now c.loop-body.body.rest.now c.read_joined.new.r.rest.now c.loop-body.texts c.in_ok-text.text c.in_ok-text.ensures.shorter c.in_ok-text.ensures.exact c.loop-body.invariant)
