use Rattle.std.proofs.Common.{◌≡◌, ◌≤◌, ◌+◌, ◌++◌, ℕ, List, Bor, ◌∷◌, drop, rules, arith, ap, length, ◌∙◌}
use Rattle.octet_core.specs.declared.items.Items.{Items}
use Rattle.rekey_core.specs.Anew.{content_draws, drawn_for}
use Rattle.rekey_core.specs.Kinds.{kind_for}
use Rattle.rekey_core.specs.Deriving.{key_algorithms, rounds_and_salts, seen_parts}
use Rattle.rekey_core.specs.Sealing.{bags_draw}
use Rattle.rekey_core.specs.declared.key_derivation.RoundsAndSalt.{RoundsAndSalt}
use Rattle.rekey_core.proofs.Deriving.{not_locked, parts_locked, parts_plain, room_after}
use Rattle.rekey_core.proofs.key_derivation.parts_of.Goals as goal
use Rattle.rekey_core.proofs.key_derivation.parts_of.Goals.{in-EncryptedData+in_ok-left, in_default-content}

pub loop-content-preserved : goal.loop-content-preserved
loop-content-preserved c =
    let gs = c.as_slice.result.now in
    let rest : c.loop-content.rest.now ≡ c.in-Some.content.now ∷ c.in-Some.back.now = search rules in
    let held : c.loop-content.rest_bags.now ≡ c.as_slice.result.now ∷ c.in-Some-split_first.held_after.now = search rules in
    let keys = c.in_ok-left-2.ensures in
    elim c.match-content.branch [
      | in-EncryptedData+in_ok-left w ↦
          let left = ap (λ (l : Bor (List ℕ)). l.now) w.left-is in
          let few : drawn_for (kind_for c.args.to w.in-EncryptedData.data.encrypted_content_info.content_encryption_algorithm) ≤ content_draws c.args.to c.in-Some.content.now = omega (arith, ap (content_draws c.args.to) w.in-EncryptedData.is) in
          let size : length c.loop-content.left.now ≡ drawn_for (kind_for c.args.to w.in-EncryptedData.data.encrypted_content_info.content_encryption_algorithm) + length c.match-content.left.now = omega (arith, w.in_ok-left.ensures.left, ap length left) in (
            room_after c.args.to c.loop-content.rest.now c.in-Some.back.now c.in-Some.content.now c.loop-content.rest_bags.now c.in-Some-split_first.held_after.now gs _ c.loop-content.left.now c.match-content.left.now c.in_ok-left-2.left.now rest held
                c.loop-content.invariant.0 few size keys.left,
            parts_locked c.args.to c.args.contents.now c.loop-content.rest.now c.in-Some.back.now c.in-Some.content.now w.in-EncryptedData.data c.args.bags.now c.loop-content.rest_bags.now c.in-Some-split_first.held_after.now gs c.args.drawn.now
                c.loop-content.left.now c.match-content.left.now c.in_ok-left-2.left.now c.loop-content.parts c.match-content.parts c.add_keys.new.parts c.loop-content.invariant.1 rest held w.in-EncryptedData.is (left ∙ w.in_ok-left.ensures.after)
                (ap seen_parts w.parts-is ∙ w.in_ok-left.ensures.part) keys.after keys.parts,
          )
      | in_default-content w ↦
          let left = ap (λ (l : Bor (List ℕ)). l.now) w.left-is in
          let added = keys.parts ∙ ap (λ (p : Items RoundsAndSalt). seen_parts p ++ rounds_and_salts (key_algorithms c.args.to gs) c.match-content.left.now) w.parts-is
          ∙ ap (λ (l : List ℕ). seen_parts c.loop-content.parts ++ rounds_and_salts (key_algorithms c.args.to gs) l) left in (
            room_after c.args.to c.loop-content.rest.now c.in-Some.back.now c.in-Some.content.now c.loop-content.rest_bags.now c.in-Some-split_first.held_after.now gs 0 c.loop-content.left.now c.match-content.left.now c.in_ok-left-2.left.now rest held
                c.loop-content.invariant.0 (omega arith) (omega (arith, ap length left)) keys.left,
            parts_plain c.args.to c.args.contents.now c.loop-content.rest.now c.in-Some.back.now c.in-Some.content.now c.args.bags.now c.loop-content.rest_bags.now c.in-Some-split_first.held_after.now gs c.args.drawn.now
                c.loop-content.left.now c.in_ok-left-2.left.now c.loop-content.parts c.add_keys.new.parts c.loop-content.invariant.1 rest held (not_locked c.args.to c.in-Some.content.now w.in_default-content.not-EncryptedData)
                (keys.after ∙ ap (λ (l : List ℕ). drop (bags_draw c.args.to gs) l) left) added,
          )
    ]
