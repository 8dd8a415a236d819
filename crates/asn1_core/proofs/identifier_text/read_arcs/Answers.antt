use Rattle.std.proofs.Common.{[], ◌≡◌, ◌++◌, ℕ, take, map, decimal, subst, arith, rules, length, length-set, ◌∙◌, ◌<◌}
use Rattle.asn1_core.specs.Arcs.{words}
use Rattle.asn1_core.proofs.Words.{under_more, word_more, word_last, word_refused, words_many}
use Rattle.asn1_core.proofs.identifier_text.read_arcs.Goals as goal

pub returns-in_default-decimal_of-clause-none : goal.returns-in_default-decimal_of-clause-none
returns-in_default-decimal_of-clause-none c = λ list few small is.
    word_refused c.args.text.now (take c.loop-word.n c.loop-word.arcs) list c.loop-word.rest.now c.in-Some.word.now (words c.in-Some.more.now) c.in_default-decimal_of.ensures.none c.loop-word.invariant.3 c.in-Some.ensures.0 small is

pub returns-then-n-eq39-clause-none : goal.returns-then-n-eq39-clause-none
returns-then-n-eq39-clause-none c = λ list few small is.
    words_many c.args.text.now c.loop-word.arcs list c.loop-word.rest.now c.in-Some.more.now c.in-Some.word.now c.loop-word.invariant.2
    (subst (λ (n : ℕ). words c.args.text.now ≡ map decimal (take n c.loop-word.arcs) ++ words c.loop-word.rest.now) c.if-n-eq39.true c.loop-word.invariant.3) c.in-Some.ensures.0 few is

pub returns-in_default-decimal_of-2-clause-none : goal.returns-in_default-decimal_of-2-clause-none
returns-in_default-decimal_of-2-clause-none c = λ list few small is.
    word_refused c.args.text.now (take c.loop-word.n c.loop-word.arcs) list c.loop-word.rest.now c.loop-word.rest.now [] c.in_default-decimal_of-2.ensures.none c.loop-word.invariant.3 c.in_default.ensures small is

pub loop-word-preserved : goal.loop-word-preserved
loop-word-preserved c =
    let i = c.loop-word.invariant in
    let n = c.loop-word.n in
    let a = c.in-Some-decimal_of.arc in
    let room : n < length c.loop-word.arcs = omega (arith, i.1, i.2) in (
      search rules,
      omega (arith, i.1, c.if-n-eq39.false),
      length-set c.loop-word.arcs n a ∙ i.2,
      word_more c.args.text.now c.loop-word.arcs c.loop-word.rest.now c.in-Some.more.now c.in-Some.word.now n a room c.in-Some-decimal_of.ensures.found.1 i.3 c.in-Some.ensures.0,
      under_more c.loop-word.arcs n a room c.in-Some-decimal_of.ensures.found.0 i.4,
    )

pub returns-clause-some : goal.returns-clause-some
returns-clause-some c =
    let i = c.loop-word.invariant in
    let n = c.loop-word.n in
    let a = c.in-Some-decimal_of-2.arc in
    let room : n < length c.loop-word.arcs = omega (arith, i.1, i.2) in (
      omega (arith, i.1),
      under_more c.loop-word.arcs n a room c.in-Some-decimal_of-2.ensures.found.0 i.4,
      word_last c.args.text.now c.loop-word.arcs c.loop-word.rest.now n a room c.in-Some-decimal_of-2.ensures.found.1 i.3 c.in_default.ensures,
    )
