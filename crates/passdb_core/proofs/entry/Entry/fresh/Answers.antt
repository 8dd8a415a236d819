use Rattle.passdb_core.proofs.EntryTexts.{fresh_made}
use Rattle.passdb_core.proofs.entry.Entry.fresh.Goals as goal

pub invariant_of-result : goal.invariant_of-result
invariant_of-result g c =
    fresh_made c.args.rounds c.args.password.now c.args.salt.now _ _ _ _ c.derive.new.out c.requires.some c.requires.few c.in-Ok.ensures.ok.0 c.in-Ok-try_from.ensures c.in-Ok-new.ensures.ok.0
    c.in-Ok-new-2.ensures.ok.0 c.derive.ensures.value c.in-Ok-new.ensures.ok.1 c.in-Ok-new-2.ensures.ok.1 c.derive.auto.out

pub returns-clause-is : goal.returns-clause-is
returns-clause-is g c =
    fresh_made c.args.rounds c.args.password.now c.args.salt.now _ _ _ _ c.derive.new.out c.requires.some c.requires.few c.in-Ok.ensures.ok.0 c.in-Ok-try_from.ensures c.in-Ok-new.ensures.ok.0
    c.in-Ok-new-2.ensures.ok.0 c.derive.ensures.value c.in-Ok-new.ensures.ok.1 c.in-Ok-new-2.ensures.ok.1 c.derive.auto.out
