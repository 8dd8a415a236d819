use Rattle.std.proofs.Common.{◌≡◌, ◌≤◌, ◌∙◌, refl, sym, length, arith, ◌-◌, ◌+◌, ◌/◌, ◌%◌, true}
use borrow.Rule.Slice.PartMut.{same_len_mid}
use Rattle.hex.specs.Hex.{is_hex_digit}
use Rattle.frame.proofs.Pieces.{nothing_yet, piece_digits, piece_hex, piece_more, piece_rest, piece_size}
use Rattle.frame.proofs.digits.decode_front.Goals as goal

pub loop-done-init : goal.loop-done-init
loop-done-init c = record { within = omega arith; even = refl; front = nothing_yet; rest = refl; size = refl }

pub returns-then-not-are_digits-clause-refused : goal.returns-then-not-are_digits-clause-refused
returns-then-not-are_digits-clause-refused c = λ is all. c.are_digits.ensures.some c.if-not-are_digits.true
    (piece_digits (λ x. is_hex_digit x ≡ true) c.args.text.now c.loop-done.text c.loop-done.done _ c.args.count (omega (arith, c.loop-done-test.true)) c.loop-done.invariant.rest all)

pub loop-done-preserved : goal.loop-done-preserved
loop-done-preserved c =
    let before = c.loop-done.invariant in
    let done = c.loop-done.done in
    let more = c.min-more.result in
    let k : done / 2 + more / 2 - done / 2 ≡ more / 2 = omega arith in
    let n : done + more - done ≡ more = omega arith in
    let pair : more % 2 ≡ 0 = omega (arith, c.requires.even, before.even) in
    let within : done + more ≤ length c.args.text.now = omega (arith, c.requires.within) in
    let piece = piece_hex c.args.text.now c.loop-done.text c.copy_from_slice.new.self _ done _ more n before.rest c.copy_from_slice.ensures.after c.decode_into.ensures in
    record {
      within = omega arith;
      even = omega (arith, pair, before.even);
      front = piece_more c.args.text.now c.loop-done.text c.copy_from_slice.new.self done more _ before.even pair within before.size k before.front piece;
      rest = piece_rest c.args.text.now c.loop-done.text c.copy_from_slice.new.self done more _ within before.size before.rest (piece_size c.args.text.now c.copy_from_slice.new.self done more within piece ∙ sym k) k;
      size = same_len_mid _ _ _ _ c.copy_from_slice.ensures.len ∙ before.size;
    }
