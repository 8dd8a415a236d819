use Rattle.std.proofs.Common.{◌∙◌, ap, length, subst, sym}
use Rattle.std.specs.Io.KnownBytes.{Consumes}
use Rattle.std.specs.Prelude.{All}
use Rattle.transfer.proofs.Drawn.{sealed_if}
use Rattle.sealing_core.specs.Drawn.{AreOf16, octets_of}
use Rattle.transfer.specs.Sealing.{document_keys}
use Rattle.transfer.proofs.store.seal.seal_group.Goals as goal

pub seal_each-requires-clause-derived : goal.seal_each-requires-clause-derived
seal_each-requires-clause-derived g c =
    let r = c.args.rounds in
    let q = c.args.new_password.now in (
      q,
      c.as_slice-3.ensures ∙ c.in_ok-derived.ensures
          ∙ ap (document_keys r q) (c.as_slice.ensures ∙ sym c.as_slice-2.ensures),
    )

pub returns-clause-sealed : goal.returns-clause-sealed
returns-clause-sealed g c =
    let r = c.args.rounds in
    let q = c.args.new_password.now in
    let drawn = sym c.as_slice-2.ensures in
    let lengths = c.in_ok-drawn.ensures.lengths in
    sealed_if c.seal_each.result r q _ _ c.args.keys.now c.as_slice-2.result.now c.as_slice-3.result.now
    (subst (All AreOf16) drawn lengths.0) (ap length (sym drawn) ∙ lengths.1)
    (subst (λ ds. Consumes (g.D.Draw.left c.args.draw.now) (g.D.Draw.left c.draw_all.new.draw) (octets_of ds)) drawn c.in_ok-drawn.ensures.drawn)
    (c.as_slice-3.ensures ∙ c.in_ok-derived.ensures ∙ ap (document_keys r q) (c.as_slice.ensures ∙ drawn))
    c.seal_each.ensures.ok
