use Rattle.std.proofs.Common.{refl, take}
use Rattle.asn1_core.proofs.Words.{reads_ok, reads_err, reads_none}
use Rattle.asn1_core.proofs.identifier.ObjectIdentifier.new.Goals as goal

pub returns-in-Some-clause-ok : goal.returns-in-Some-clause-ok
returns-in-Some-clause-ok c = reads_ok c.from_arcs.result c.args.text.now (take c.in-Some.n c.read_arcs.new.arcs) c.in-Some.ensures.some.2 c.from_arcs.ensures.ok

pub returns-in-Some-clause-err : goal.returns-in-Some-clause-err
returns-in-Some-clause-err c =
    reads_err c.from_arcs.result c.args.text.now (take c.in-Some.n c.read_arcs.new.arcs) c.in-Some.ensures.some.2 c.in-Some.ensures.some.1 c.from_arcs.ensures.err

pub returns-in-None-clause-err : goal.returns-in-None-clause-err
returns-in-None-clause-err c = (refl, reads_none c.args.text.now c.in-None.ensures.none)
