use Rattle.std.proofs.Common.{◌≡◌, ◌-◌, [], get_or, sym, ap, ◌∙◌, arith}
use Rattle.std.specs.Prelude.{max}
use Rattle.pbkdf2.proofs.LaneKeys.{four_of, lane_key}
use Rattle.pbkdf2.proofs.lanes.pbkdf2_hmac_sha256_four.Goals as goal
use Rattle.pbkdf2.specs.Lanes.{keys_of}
use Rattle.pbkdf2.specs.declared.lanes.PasswordAndSalt.{PasswordAndSalt}

pub returns : goal.returns
returns c =
    let inputs = c.args.inputs.now in
    let r = c.args.rounds in
    let d : PasswordAndSalt = record { password = record { ref_ptr = (0, 0); now = [] }; salt = record { ref_ptr = (0, 0); now = [] } } in
    let turns : c.max.result - 1 ≡ max r 1 - 1 = omega (arith, c.max.ensures) in
    let a = lane_key (get_or inputs 0 d) r _ _ _ _ _ _ _ _ (c.after_block-inner.ensures 0 (omega arith)) (c.after_block-outer.ensures 0 (omega arith))
    c.key_blocks.ensures.inner c.key_blocks.ensures.outer turns (c.from_octets-first.ensures 0 (omega arith)) c.first_key.ensures (c.xor_outputs.ensures 0 (omega arith)) in
    let b = lane_key (get_or inputs 1 d) r _ _ _ _ _ _ _ _ (c.after_block-inner.ensures 1 (omega arith)) (c.after_block-outer.ensures 1 (omega arith))
    c.key_blocks-2.ensures.inner c.key_blocks-2.ensures.outer turns (c.from_octets-first.ensures 1 (omega arith)) c.first_key-2.ensures (c.xor_outputs.ensures 1 (omega arith)) in
    let e = lane_key (get_or inputs 2 d) r _ _ _ _ _ _ _ _ (c.after_block-inner.ensures 2 (omega arith)) (c.after_block-outer.ensures 2 (omega arith))
    c.key_blocks-3.ensures.inner c.key_blocks-3.ensures.outer turns (c.from_octets-first.ensures 2 (omega arith)) c.first_key-3.ensures (c.xor_outputs.ensures 2 (omega arith)) in
    let f = lane_key (get_or inputs 3 d) r _ _ _ _ _ _ _ _ (c.after_block-inner.ensures 3 (omega arith)) (c.after_block-outer.ensures 3 (omega arith))
    c.key_blocks-4.ensures.inner c.key_blocks-4.ensures.outer turns (c.from_octets-first.ensures 3 (omega arith)) c.first_key-4.ensures (c.xor_outputs.ensures 3 (omega arith)) in
    c.to_octets.ensures ∙ rw (a, b, e, f) (sym (ap (keys_of r) (four_of d inputs (omega arith))))
