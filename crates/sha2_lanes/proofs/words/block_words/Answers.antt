use Rattle.std.proofs.Common.{rules, ◌≡◌, [], slice_index, ap, sym, ◌∙◌, arith, inl, inr}
use Rattle.std.proofs.lemmas.Bool.{cases_lt}
use Rattle.std.proofs.lemmas.List.{get_or-set_other, get_or-set_same}
use Rattle.sha2_lanes.proofs.LaneLemmas.{slice_index-lane}
use Rattle.sha2_lanes.proofs.words.block_words.Goals as goal

pub words-preserved : goal.words-preserved
words-preserved c = (
  search rules,
  λ j lt k below.
      let words = c.words.words in
      let i = c.words.i in
      slice_index-lane _ j k ∙ elim (cases_lt k i) [
        | inl a ↦
            ap (λ v. slice_index v j) (get_or-set_other words i k _ [] (omega arith)) ∙ sym (slice_index-lane words j k) ∙ c.words.invariant.1 j lt k a
        | inr b ↦
            let e : i ≡ k = omega arith in
            rw (← e) (ap (λ v. slice_index v j) (get_or-set_same words i _ [] (omega arith)) ∙ c.words_at.ensures j lt)
      ],
)
