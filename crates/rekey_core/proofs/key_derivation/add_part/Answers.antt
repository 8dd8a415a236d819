use Rattle.std.proofs.Common.{ℕ, List, take, drop, ◌∙◌, ap, sym}
use Rattle.std.proofs.lemmas.List.{take_rest}
use Rattle.rekey_core.specs.Kinds.{kind_for}
use Rattle.rekey_core.proofs.Deriving.{part_added, part_passed}
use Rattle.rekey_core.proofs.key_derivation.add_part.Goals as goal
use Rattle.rekey_core.proofs.key_derivation.add_part.Goals.{in-Some+in-Ok+in_ok-push, in_default}

pub returns-clause-part : goal.returns-clause-part
returns-clause-part c = elim c.match-rounds_for.branch [
  | in-Some+in-Ok+in_ok-push w ↦
      let own = c.split_at.ensures.front ∙ ap (λ (n : ℕ). take n c.args.drawn.now) c.drawn_for.ensures.value in
      let salt = w.in-Ok.ensures.ok.0 ∙ take_rest c.split_at.result.0.now 16 ∙ ap (λ (l : List ℕ). drop 16 l) own in
      part_added (kind_for c.args.to c.args.algorithm.now) _ w.in-Ok.salt w.in-Some.rounds c.args.parts.now c.match-rounds_for.parts (sym w.in-Some.is ∙ c.rounds_for.ensures) salt (w.parts-is ∙ w.in_ok-push.ensures.ok)
  | in_default w ↦ part_passed (kind_for c.args.to c.args.algorithm.now) _ c.args.parts.now c.match-rounds_for.parts c.rounds_for.result c.rounds_for.ensures w.in_default.not-Some w.parts-is
]
