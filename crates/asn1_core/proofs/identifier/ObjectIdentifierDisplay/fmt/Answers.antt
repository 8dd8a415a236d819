use Rattle.std.proofs.Common.{refl, sym, arith}
use Rattle.std.proofs.Output.{has_written_append, has_written_of_eq}
use Rattle.std.proofs.lemmas.Option.{slice_get_within}
use Rattle.asn1_core.specs.Arcs.{arcs}
use Rattle.asn1_core.specs.Oid.{oid_octets}
use Rattle.asn1_core.proofs.Words.{text_more, text_end, arcs_within}
use Rattle.asn1_core.proofs.identifier.ObjectIdentifierDisplay.fmt.Goals as goal

pub overflow_add-i : goal.overflow_add-i
overflow_add-i g c =
    let o = c.args.self.now in
    let below = slice_get_within (arcs (oid_octets o)) c.loop-arc.i c.in-Some.arc (sym c.in-Some.ensures) in
    let few = (arcs_within (oid_octets o) o.holds.1).1 in
    omega (arith, below, few)

pub loop-arc-smaller : goal.loop-arc-smaller
loop-arc-smaller g c =
    let below = slice_get_within (arcs (oid_octets c.args.self.now)) c.loop-arc.i c.in-Some.arc (sym c.in-Some.ensures) in
    omega (arith, below)

pub loop-arc-preserved : goal.loop-arc-preserved
loop-arc-preserved g c = λ plain.
    let so_far = c.loop-arc.invariant plain in
    has_written_of_eq _ _ _ _ _ (text_more c.loop-arc.i (arcs (oid_octets c.args.self.now)) c.in-Some.arc (sym c.in-Some.ensures))
    (has_written_append _ _ _ _ _ _ so_far (c.in_ok-write_arc.ensures so_far.plain refl))

pub returns-clause-writes : goal.returns-clause-writes
returns-clause-writes g c = λ plain ok.
    has_written_of_eq _ _ _ _ _ (text_end c.loop-arc.i (arcs (oid_octets c.args.self.now)) (sym c.in_default.ensures)) (c.loop-arc.invariant plain)
