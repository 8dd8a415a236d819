use Rattle.std.proofs.Common.{◌≡◌, ℕ, ◌+◌, ◌-◌, ◌*◌, ◌/◌, ◌%◌, ◌<◌, ◌≤◌, List, length, take, drop, ◌++◌, sym, ap, ◌∙◌, subst, arith, add-one}
use Rattle.std.proofs.lemmas.List.{take_at}
use Rattle.std.proofs.Math.Nat.{mul-le-mul_left, mul-mod_right}
use Rattle.std.proofs.lemmas.Result.{IfOk-from_err}
use Rattle.std.proofs.lemmas.Slice.{pushed}
use Rattle.pkcs12_kdf.specs.Numbers.{numbers}
use Rattle.pkcs12_kdf.specs.Derivation.{answer, answers, inputs_at, derive12_in, fill, turns}
use Rattle.pkcs12_kdf.proofs.Texts.{length-fills, next_is}
use Rattle.pkcs12_kdf.proofs.derivation.Derivation.key_by_block_counted.Goals as goal

-- no turn takes no step
none : (o r : ℕ) → o ≡ o + r * 0
none o r = omega arith

-- the steps of one more turn
one_more : (s t o r n : ℕ) → s ≡ t + r → t ≡ o + r * n → s ≡ o + r * (n + 1)
one_more s t o r n now before = omega (arith, now, before)

-- the steps of one more turn are within those of all turns
within_all : (s t o r n e : ℕ) → s ≡ t + r → t ≡ o + r * n → n < e → (o ≤ s) × (s ≤ o + r * e)
within_all s t o r n e now before lt =
    let all : r * (n + 1) ≤ r * e = mul-le-mul_left r (omega (arith, lt)) in
    let here : s ≡ o + r * (n + 1) = one_more s t o r n now before in
    (omega (arith, here), omega (arith, here, all))

whole_blocks : (v n k : ℕ) → n ≡ v * k → n % v ≡ 0
whole_blocks v n k e = ap (λ m. m % v) e ∙ mul-mod_right v k

turns_is : (size a b u : ℕ) → a ≡ u → b ≡ u → (size + (a - 1)) / b ≡ turns size u
turns_is size a b u first second = ap (λ n. (size + (n - 1)) / b) first ∙ ap (λ n. (size + (u - 1)) / n) second

in_answer : (n u k : ℕ) → n ≡ u → u ≤ 64 → k ≡ 64 → n ≤ k
in_answer n u k same fits long = omega (arith, same, fits, long)

pub hash_rounds-answer-requires-clause-whole : goal.hash_rounds-answer-requires-clause-whole
hash_rounds-answer-requires-clause-whole g c = ap (λ xs. length xs % g.H.HashFn.BLOCK) c.deref.ensures.value ∙ c.loop-turn.invariant.whole

pub returns-in_err-extend_from_slice-clause-at_most : goal.returns-in_err-extend_from_slice-clause-at_most
returns-in_err-extend_from_slice-clause-at_most g c =
    let all = within_all _ _ _ _ _ _ c.hash_rounds-answer.ensures.steps c.loop-turn.invariant.steps c.loop-turn-test.true in
    let last = turns_is c.args.size _ _ _ c.OUTPUT.ensures c.OUTPUT-2.ensures in
    (all.0, subst (λ (n : ℕ). c.hash_rounds-answer.new.steps ≤ c.args.steps.now + c.args.self.now.rounds * n) last all.1)

pub returns-in_err-extend_from_slice-clause-value : goal.returns-in_err-extend_from_slice-clause-value
returns-in_err-extend_from_slice-clause-value g c = IfOk-from_err _ _ c.from_residual-in_err-extend_from_slice.ensures.0

pub returns-in_err-extend_from_slice-clause-steps : goal.returns-in_err-extend_from_slice-clause-steps
returns-in_err-extend_from_slice-clause-steps g c = IfOk-from_err _ _ c.from_residual-in_err-extend_from_slice.ensures.0

pub overflow_sub-turn-end : goal.overflow_sub-turn-end
overflow_sub-turn-end g c = subst (λ (n : ℕ). 1 ≤ n) (sym c.OUTPUT.ensures) g.met.H.HashFn.sizes.some

pub nonzero_div-turn-end : goal.nonzero_div-turn-end
nonzero_div-turn-end g c = subst (λ (n : ℕ). 0 < n) (sym c.OUTPUT-2.ensures) g.met.H.HashFn.sizes.some

pub slice_bounds-answer-end : goal.slice_bounds-answer-end
slice_bounds-answer-end g c = in_answer _ _ _ c.OUTPUT-in-loop-turn.ensures g.met.H.HashFn.sizes.answer_fits (omega arith)

pub slice_bounds-answer-end-in-loop-turn : goal.slice_bounds-answer-end-in-loop-turn
slice_bounds-answer-end-in-loop-turn g c = in_answer _ _ _ c.OUTPUT-in-loop-turn-2.ensures g.met.H.HashFn.sizes.answer_fits (omega arith)

pub loop-turn-init : goal.loop-turn-init
unfolding answers inputs_at
loop-turn-init g c =
    let v = g.H.HashFn.BLOCK in
    let q = c.args.self.now.password.now in
    let s = c.args.self.now.salt.now in
    let items : c.in_ok-inputs.inputs.items ≡ fill v s ++ fill v q = c.in_ok-inputs.ensures ∙ ap (λ n. fill n s ++ fill n q) c.BLOCK.ensures in
    record {
      key = c.new-key.ensures.items;
      inputs = ap (numbers v) items;
      whole = ap (λ xs. length xs % v) items ∙ whole_blocks v _ _ (length-fills v q s);
      steps = none _ _;
    }

pub loop-turn-preserved : goal.loop-turn-preserved
unfolding answers inputs_at
loop-turn-preserved g c =
    let h = g.H.HashFn.digest in
    let u = g.H.HashFn.OUTPUT in
    let v = g.H.HashFn.BLOCK in
    let text = c.add_answer.new.inputs in
    let items = c.loop-turn.inputs.items in
    let run : List ℕ → List ℕ = answer v h c.args.self.now.rounds c.args.id in
    let first : List ℕ = numbers v (fill v c.args.self.now.salt.now ++ fill v c.args.self.now.password.now) in
    let now : List ℕ = inputs_at v run first c.loop-turn.turn in
    let long : length text ≡ length items = c.add_answer.auto.inputs ∙ ap length c.deref_mut.ensures.value in
    let same : take c.loop-turn.inputs.len (text ++ drop (length text) items) ≡ text = take_at text _ c.loop-turn.inputs.len (long ∙ sym c.loop-turn.inputs.ok.0) in
    let here : take u c.hash_rounds-answer.result ≡ run now = c.hash_rounds-answer.ensures.value ∙ ap run (ap (numbers v) c.deref.ensures.value ∙ c.loop-turn.invariant.inputs) in
    let piece : take c.OUTPUT-in-loop-turn.result c.hash_rounds-answer.result ≡ run now = ap (λ n. take n c.hash_rounds-answer.result) c.OUTPUT-in-loop-turn.ensures ∙ here in
    let block : take c.OUTPUT-in-loop-turn-2.result c.hash_rounds-answer.result ≡ run now = ap (λ n. take n c.hash_rounds-answer.result) c.OUTPUT-in-loop-turn-2.ensures ∙ here in
    record {
      key = rw add-one (pushed _ c.loop-turn.invariant.key c.in_ok-extend_from_slice.was c.extend_from_slice.ensures.items ∙ ap (λ s. answers v run first c.loop-turn.turn ++ s) piece);
      inputs = rw add-one (ap (numbers v) same ∙ next_is v text c.deref_mut.result.now _ (run now) now c.add_answer.ensures block (ap (numbers v) c.deref_mut.ensures.value ∙ c.loop-turn.invariant.inputs));
      whole = ap (λ xs. length xs % v) same ∙ (ap (λ n. n % v) long ∙ c.loop-turn.invariant.whole);
      steps = one_more _ _ _ _ _ c.hash_rounds-answer.ensures.steps c.loop-turn.invariant.steps;
    }

pub returns-clause-value : goal.returns-clause-value
unfolding derive12_in
returns-clause-value g c =
    let v = g.H.HashFn.BLOCK in
    let end : c.loop-turn.turn ≡ (c.args.size + (c.OUTPUT.result - 1)) / c.OUTPUT-2.result = omega arith in
    let last : c.loop-turn.turn ≡ turns c.args.size g.H.HashFn.OUTPUT = end ∙ turns_is c.args.size _ _ _ c.OUTPUT.ensures c.OUTPUT-2.ensures in
    c.from_vec.ensures ∙ c.truncate.ensures.items ∙ ap (take c.args.size) (c.loop-turn.invariant.key ∙ ap (answers v (answer v g.H.HashFn.digest c.args.self.now.rounds c.args.id) (numbers v (fill v c.args.self.now.salt.now ++ fill v c.args.self.now.password.now))) last)

pub returns-clause-steps : goal.returns-clause-steps
returns-clause-steps g c =
    let end : c.loop-turn.turn ≡ (c.args.size + (c.OUTPUT.result - 1)) / c.OUTPUT-2.result = omega arith in
    let last : c.loop-turn.turn ≡ turns c.args.size g.H.HashFn.OUTPUT = end ∙ turns_is c.args.size _ _ _ c.OUTPUT.ensures c.OUTPUT-2.ensures in
    c.loop-turn.invariant.steps ∙ ap (λ n. c.args.steps.now + c.args.self.now.rounds * n) last

pub returns-clause-at_most : goal.returns-clause-at_most
returns-clause-at_most g c = let taken = returns-clause-steps g c in (omega (arith, taken), omega (arith, taken))
