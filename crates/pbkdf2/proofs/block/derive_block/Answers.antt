use Rattle.std.proofs.Common.{ℕ, ◌++◌, List, [], take, ap, ◌∙◌, arith, add-one}
use Rattle.std.proofs.lemmas.List.{take_at}
use Rattle.pbkdf2.specs.Pbkdf2.{chained, xor_through}
use Rattle.block_core.specs.Bits.{xor_each}
use Rattle.pbkdf2.proofs.Xors.{take-xor}
use Rattle.pbkdf2.proofs.block.derive_block.Goals as goal

pub loop-turn-init : goal.loop-turn-init
unfolding chained xor_through
loop-turn-init g c =
    let u = g.P.Prf.OUTPUT in
    let first = λ (k : List ℕ) (h : g.P.Prf.holds c.args.keyed.now k []).
    ap (take u) (c.finalize_into.ensures k _ (c.update-2.ensures k _ (c.update.ensures k _ (c.copy-first.ensures k h)))) ∙ (take_at _ _ u (g.met.P.Prf.prf_length k _)
    ∙ ap (λ t. g.P.Prf.prf k (c.args.salt.now ++ t)) c.to_be_bytes.ensures) in
    record {
      last = first;
      sum = first;
      steps = c.tick.ensures;
    }

pub loop-turn-preserved : goal.loop-turn-preserved
unfolding chained xor_through
loop-turn-preserved g c =
    let u = g.P.Prf.OUTPUT in
    let last = λ (k : List ℕ) (h : g.P.Prf.holds c.args.keyed.now k []).
    ap (take u) (c.answer_at.ensures k h) ∙ (take_at _ _ u (g.met.P.Prf.prf_length k _)
    ∙ ap (g.P.Prf.prf k) (ap (λ n. take n c.loop-turn.last) c.OUTPUT.ensures ∙ c.loop-turn.invariant.last k h)) in
    record {
      last = rw add-one last;
      sum = rw add-one (λ k h. ap (take u) c.xor_into.ensures ∙ (take-xor u c.loop-turn.sum c.answer_at.new.out
          ∙ (ap (λ t. xor_each t (take u c.answer_at.new.out)) (c.loop-turn.invariant.sum k h) ∙ ap (xor_each _) (last k h))));
      steps = omega (arith, c.tick-in-loop-turn.ensures, c.loop-turn.invariant.steps);
    }
