use Rattle.std.proofs.Common.{arith, refl, get_or, ◌<◌, ◌≤◌, ◌+◌, ◌*◌, ◌∷◌, take, length-take, ap, ◌∙◌, List, ℕ}
use Rattle.asn1_core.specs.Identifier.{subs}
use Rattle.asn1_core.specs.Arcs.{HasArcs}
use Rattle.asn1_core.proofs.Made.{has_arcs, made_ok, made_err}
use Rattle.asn1_core.proofs.identifier.ObjectIdentifier.from_arcs.Goals as goal
use Rattle.asn1_core.proofs.identifier.ObjectIdentifier.from_arcs.Goals.{After-from_bytes, else-first-lt2-via-then-first-lt2+else-second-gt39, else-first-lt2-via-else-first-lt2}

made : (c : After-from_bytes) → HasArcs (take c.in-Some.used c.octets_of.new.kept) c.args.arcs.now
made c =
    let s = c.in-Some.ensures.some in
    let first = 40 * get_or c.args.arcs.now 0 0 + get_or c.args.arcs.now 1 0 in
    let small : get_or c.args.arcs.now 0 0 < 2 → get_or c.args.arcs.now 1 0 ≤ 39 = λ lt. elim c.else-first-lt2.branch [
      | else-first-lt2-via-then-first-lt2+else-second-gt39 w ↦ omega (arith, w.if-second-gt39.false)
      | else-first-lt2-via-else-first-lt2 w ↦ omega (arith, lt, w.if-first-lt2.false)
    ] in
    has_arcs c.args.arcs.now (take c.in-Some.used c.octets_of.new.kept) first (omega (arith, c.if-arcs-lt2.false)) (omega (arith, c.if-first-gt2.false)) small refl (omega (arith, c.if-second-first.false, c.if-first-gt2.false)) (λ i. omega (arith, c.type_inv.arcs i))
    (s.1 ∙ ap (λ (l : List ℕ). subs (first ∷ l)) c.split_at.ensures.back) (omega (arith, s.0, length-take c.in-Some.used c.octets_of.new.kept))

pub returns-in-Some-clause-ok : goal.returns-in-Some-clause-ok
returns-in-Some-clause-ok c = made_ok c.from_bytes.result _ c.args.arcs.now c.from_bytes.ensures.ok (made c)

pub returns-in-Some-clause-err : goal.returns-in-Some-clause-err
returns-in-Some-clause-err c = made_err c.from_bytes.result _ c.args.arcs.now c.from_bytes.ensures.exact (made c)
