use Rattle.std.proofs.Common.{arith}
use Rattle.hex.proofs.HexLemmas.{decode_of-ok}
use Rattle.frame.proofs.input_text.octets_of.Goals as goal
use Rattle.frame.proofs.input_text.octets_of.Goals.{then-digits-ne0-via-then-digits-ne0, then-digits-ne0-via-else-digits-ne0+then-not-are_digits}

pub returns-then-digits-ne0-clause-cause : goal.returns-then-digits-ne0-clause-cause
returns-then-digits-ne0-clause-cause c =
    elim c.then-digits-ne0.branch [
      | then-digits-ne0-via-then-digits-ne0 w ↦ λ octets hex. absurd (omega (arith, w.if-digits-ne0, (decode_of-ok c.args.digits.now octets hex).0))
      | then-digits-ne0-via-else-digits-ne0+then-not-are_digits w ↦
          λ octets hex. w.are_digits.ensures.some w.if-not-are_digits.true (decode_of-ok c.args.digits.now octets hex).1
    ]
