use Rattle.std.proofs.Common.{◌∙◌, ◌-◌, ◌/◌, ◌%◌, [], ◌∷◌, bit_xor}
use Rattle.block_core.specs.Field.{power_of_x}
use Rattle.block_core.proofs.Schedule.{scheduled_turned, scheduled_substituted, scheduled_before}
use Rattle.std.proofs.Common.{◌==◌}
use Rattle.std.proofs.lemmas.Bool.{and_left, and_right, ne_eqb}
use Rattle.block_core.proofs.aes_key.scheduled.Goals as goal
use Rattle.block_core.proofs.aes_key.scheduled.Goals.{else-words-eq8-via-then-words-eq8+else-i-words-eq4, else-words-eq8-via-else-words-eq8}

pub returns-then-i-words-eq0 : goal.returns-then-i-words-eq0
returns-then-i-words-eq0 c =
    (λ j. bit_xor (c.sub_byte.ensures j) (c.round_constant-c.ensures j) ∷ c.sub_byte-then-i-words-eq0.ensures j ∷ c.sub_byte-then-i-words-eq0-2.ensures j ∷ c.sub_byte-then-i-words-eq0-3.ensures j ∷ [])
    ∙ scheduled_turned c.args.words (power_of_x (c.args.i / c.args.words - 1)) c.args.w.now c.args.i c.if-i-words-eq0.true

pub returns-then-i-words-eq4 : goal.returns-then-i-words-eq4
returns-then-i-words-eq4 c =
    (λ j. c.sub_byte-then-i-words-eq4.ensures j ∷ c.sub_byte-then-i-words-eq4-2.ensures j ∷ c.sub_byte-then-i-words-eq4-3.ensures j ∷ c.sub_byte-then-i-words-eq4-4.ensures j ∷ [])
    ∙ scheduled_substituted c.args.words (power_of_x (c.args.i / c.args.words - 1)) c.args.w.now c.args.i c.if-i-words-eq0.false c.if-words-eq8.true c.if-i-words-eq4.true

pub returns-else-words-eq8 : goal.returns-else-words-eq8
returns-else-words-eq8 c =
    scheduled_before c.args.words (power_of_x (c.args.i / c.args.words - 1)) c.args.w.now c.args.i c.if-i-words-eq0.false
    (elim c.else-words-eq8.branch [
      | else-words-eq8-via-then-words-eq8+else-i-words-eq4 w ↦ and_right (c.args.words == 8) (c.args.i % c.args.words == 4) (ne_eqb _ _ w.if-i-words-eq4.false)
      | else-words-eq8-via-else-words-eq8 w ↦ and_left (c.args.words == 8) (c.args.i % c.args.words == 4) (ne_eqb _ _ w.if-words-eq8.false)
    ])
