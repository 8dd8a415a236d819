use Rattle.std.proofs.Common.{◌≡◌, ◌++◌, take, replicate, ap, ◌∙◌, sym, arith, add-one}
use Rattle.std.proofs.lemmas.List.{take_at}
use Rattle.pkcs12_kdf.proofs.Texts.{octets_numbers}
use Rattle.pkcs12_kdf.specs.Derivation.{hashed}
use Rattle.pkcs12_kdf.proofs.derivation.hash_rounds.Goals as goal

pub loop-done-init : goal.loop-done-init
unfolding hashed
loop-done-init g c = record {
  value = ap (take g.H.HashFn.OUTPUT) (c.finish.ensures _ (c.update.ensures _ c.start_with-first.ensures)) ∙ take_at _ _ g.H.HashFn.OUTPUT (g.met.H.HashFn.digest_length _);
  steps = c.tick.ensures;
}

pub loop-done-preserved : goal.loop-done-preserved
unfolding hashed
loop-done-preserved g c =
    let piece = ap (λ n. take n c.loop-done.answer) c.OUTPUT.ensures ∙ c.loop-done.invariant.value in
    record {
      value = rw add-one (ap (take g.H.HashFn.OUTPUT) (c.finish-in-loop-done.ensures _ (c.update-in-loop-done.ensures _ c.start-hasher.ensures)) ∙ (take_at _ _ g.H.HashFn.OUTPUT (g.met.H.HashFn.digest_length _) ∙ ap g.H.HashFn.digest piece));
      steps = omega (arith, c.tick-in-loop-done.ensures, c.loop-done.invariant.steps);
    }

pub returns-clause-value : goal.returns-clause-value
returns-clause-value g c =
    let t = c.args.input.now in
    let v = g.H.HashFn.BLOCK in
    let last : c.loop-done.done ≡ c.args.rounds = omega arith in
    c.loop-done.invariant.value
    ∙ (ap (λ n. hashed g.H.HashFn.digest n (replicate v c.args.id ++ t)) last
    ∙ ap (λ s. hashed g.H.HashFn.digest c.args.rounds (replicate v c.args.id ++ s)) (sym (octets_numbers v t (λ k. omega (arith, c.type_inv.input k)) c.requires.whole)))
