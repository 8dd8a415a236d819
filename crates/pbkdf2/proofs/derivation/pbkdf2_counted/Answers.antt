use Rattle.std.proofs.Common.{subst, ◌≡◌, ℕ, ◌+◌, ◌-◌, ◌*◌, ◌/◌, ◌++◌, ◌<◌, ◌≤◌, List, take, length, ap, ◌∙◌, sym, arith}
use Rattle.std.specs.Prelude.{max, min}
use Rattle.std.proofs.lemmas.List.{drop_all, append-nil}
use Rattle.pbkdf2.specs.Pbkdf2.{block, blocks, block_count, pbkdf2}
use Rattle.pbkdf2.proofs.Xors.{blocks_more, length-block, length-blocks}
use Rattle.pbkdf2.proofs.Pieces.{filled_none, filled_more, place_below, enough, number_fits, place_fits, start_below, same_length}
use Rattle.pbkdf2.proofs.derivation.pbkdf2_counted.Goals as goal

pub loop-done-init : goal.loop-done-init
unfolding blocks
loop-done-init g c = record {
  value = filled_none c.args.res.now g.P.Prf.OUTPUT;
  steps = omega arith;
}

pub overflow_cast-done : goal.overflow_cast-done
overflow_cast-done g c =
    place_fits (length c.args.res.now) g.P.Prf.OUTPUT c.OUTPUT.result c.OUTPUT-2.result c.loop-done.done
    c.OUTPUT.ensures c.OUTPUT-2.ensures c.loop-done-test.true c.requires

pub overflow_add-done : goal.overflow_add-done
overflow_add-done g c =
    number_fits (length c.args.res.now) g.P.Prf.OUTPUT c.OUTPUT.result c.OUTPUT-2.result c.loop-done.done
    c.OUTPUT.ensures c.OUTPUT-2.ensures c.loop-done-test.true c.requires

pub overflow_mul-start : goal.overflow_mul-start
overflow_mul-start g c =
    let below = start_below (length c.args.res.now) g.P.Prf.OUTPUT c.OUTPUT.result c.OUTPUT-2.result c.OUTPUT-in-loop-done.result c.loop-done.done
    g.met.P.Prf.sizes.some c.OUTPUT.ensures c.OUTPUT-2.ensures c.OUTPUT-in-loop-done.ensures c.loop-done-test.true in
    omega (arith, below)

pub overflow_sub-size : goal.overflow_sub-size
overflow_sub-size g c =
    let below = start_below (length c.args.res.now) g.P.Prf.OUTPUT c.OUTPUT.result c.OUTPUT-2.result c.OUTPUT-in-loop-done.result c.loop-done.done
    g.met.P.Prf.sizes.some c.OUTPUT.ensures c.OUTPUT-2.ensures c.OUTPUT-in-loop-done.ensures c.loop-done-test.true in
    omega (arith, below)

pub overflow_add-start : goal.overflow_add-start
overflow_add-start g c =
    let below = start_below (length c.args.res.now) g.P.Prf.OUTPUT c.OUTPUT.result c.OUTPUT-2.result c.OUTPUT-in-loop-done.result c.loop-done.done
    g.met.P.Prf.sizes.some c.OUTPUT.ensures c.OUTPUT-2.ensures c.OUTPUT-in-loop-done.ensures c.loop-done-test.true in
    omega (arith, below, c.min-len.ensures)

pub slice_bounds-copy_from_slice-end : goal.slice_bounds-copy_from_slice-end
slice_bounds-copy_from_slice-end g c =
    let below = start_below (length c.args.res.now) g.P.Prf.OUTPUT c.OUTPUT.result c.OUTPUT-2.result c.OUTPUT-in-loop-done.result c.loop-done.done
    g.met.P.Prf.sizes.some c.OUTPUT.ensures c.OUTPUT-2.ensures c.OUTPUT-in-loop-done.ensures c.loop-done-test.true in
    omega (arith, below, c.min-len.ensures, c.loop-done.auto.res)

pub slice_bounds-block-end : goal.slice_bounds-block-end
slice_bounds-block-end g c = omega (arith, c.min-len.ensures, c.OUTPUT-in-loop-done-2.ensures, g.met.P.Prf.sizes.answer_fits)

pub copy_from_slice-requires : goal.copy_from_slice-requires
copy_from_slice-requires g c =
    let below = start_below (length c.args.res.now) g.P.Prf.OUTPUT c.OUTPUT.result c.OUTPUT-2.result c.OUTPUT-in-loop-done.result c.loop-done.done
    g.met.P.Prf.sizes.some c.OUTPUT.ensures c.OUTPUT-2.ensures c.OUTPUT-in-loop-done.ensures c.loop-done-test.true in
    same_length (c.loop-done.done * c.OUTPUT-in-loop-done.result) c.min-len.result c.loop-done.res c.derive_block-block.result
    (omega (arith, below, c.min-len.ensures, c.loop-done.auto.res))
    (omega (arith, c.min-len.ensures, c.OUTPUT-in-loop-done-2.ensures, g.met.P.Prf.sizes.answer_fits))

pub loop-done-preserved : goal.loop-done-preserved
unfolding blocks
loop-done-preserved g c =
    let f : List ℕ → List ℕ = g.P.Prf.prf c.args.password.now in
    let u : ℕ = g.P.Prf.OUTPUT in
    let o : List ℕ = c.args.res.now in
    let j : ℕ = c.loop-done.done in
    let len : (m : List ℕ) → length (f m) ≡ u = g.met.P.Prf.prf_length c.args.password.now in
    let v : ℕ = c.OUTPUT-in-loop-done.result in
    let end : j < (length o + (c.OUTPUT.result - 1)) / c.OUTPUT-2.result = omega arith in
    let below : j < (length o + (u - 1)) / u = subst (λ (n : ℕ). j < (length o + (n - 1)) / u) c.OUTPUT.ensures (subst (λ (n : ℕ). j < (length o + (c.OUTPUT.result - 1)) / n) c.OUTPUT-2.ensures end) in
    let room = place_below (length o) u j g.met.P.Prf.sizes.some below in
    let number = j + 1 in
    record {
      value = rw (blocks_more f c.args.salt.now c.args.rounds j) (filled_more o (blocks f c.args.salt.now c.args.rounds j) (block f c.args.salt.now c.args.rounds number) c.loop-done.res c.copy_from_slice.new.self c.derive_block-block.result
          u v c.min-len.result (j * v + c.min-len.result - j * v) j
          c.OUTPUT-in-loop-done.ensures (length-blocks f u c.args.salt.now c.args.rounds j len) (length-block f u c.args.salt.now c.args.rounds number len) (omega (arith, room)) (c.min-len.ensures ∙ ap (λ n. min n (length o - j * v)) (c.OUTPUT-in-loop-done-2.ensures ∙ sym c.OUTPUT-in-loop-done.ensures))
          c.loop-done.invariant.value (c.derive_block-block.ensures.value c.args.password.now c.in_ok-keyed.ensures.1) c.copy_from_slice.ensures.after (omega arith));
      steps = omega (arith, c.derive_block-block.ensures.steps, c.loop-done.invariant.steps);
    }

pub returns-clause-value : goal.returns-clause-value
unfolding pbkdf2
returns-clause-value g c =
    let u : ℕ = g.P.Prf.OUTPUT in
    let o : List ℕ = c.args.res.now in
    let end : c.loop-done.done ≡ (length o + (c.OUTPUT.result - 1)) / c.OUTPUT-2.result = omega arith in
    let last : c.loop-done.done ≡ block_count (length o) u =
    end ∙ (ap (λ n. (length o + (n - 1)) / c.OUTPUT-2.result) c.OUTPUT.ensures ∙ ap (λ n. (length o + (u - 1)) / n) c.OUTPUT-2.ensures) in
    let past : length o ≤ c.loop-done.done * u = omega (arith, ap (λ n. n * u) last, enough (length o) u g.met.P.Prf.sizes.some) in
    c.loop-done.invariant.value
    ∙ (ap (λ t. take (length o) (blocks (g.P.Prf.prf c.args.password.now) c.args.salt.now c.args.rounds c.loop-done.done) ++ t) (drop_all (c.loop-done.done * u) o past)
    ∙ (append-nil _ ∙ ap (λ n. take (length o) (blocks (g.P.Prf.prf c.args.password.now) c.args.salt.now c.args.rounds n)) last))

pub returns-clause-steps : goal.returns-clause-steps
returns-clause-steps g c =
    let end : c.loop-done.done ≡ (length c.args.res.now + (c.OUTPUT.result - 1)) / c.OUTPUT-2.result = omega arith in
    let last : c.loop-done.done ≡ block_count (length c.args.res.now) g.P.Prf.OUTPUT =
    end ∙ (ap (λ n. (length c.args.res.now + (n - 1)) / c.OUTPUT-2.result) c.OUTPUT.ensures ∙ ap (λ n. (length c.args.res.now + (g.P.Prf.OUTPUT - 1)) / n) c.OUTPUT-2.ensures) in
    c.loop-done.invariant.steps ∙ ap (λ n. c.args.steps.now + max c.args.rounds 1 * n) last

pub returns-clause-at_most : goal.returns-clause-at_most
returns-clause-at_most g c = let taken = returns-clause-steps g c in omega (arith, taken)
