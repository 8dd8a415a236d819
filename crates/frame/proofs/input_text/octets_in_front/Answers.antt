use Rattle.std.proofs.Common.{List, ℕ, arith, subst, sym, take}
use Rattle.std.specs.List.{AllPass}
use Rattle.std.proofs.lemmas.List.{length-take}
use Rattle.hex.specs.Hex.{is_hex_digit}
use Rattle.hex.proofs.HexLemmas.{decode_of-ok}
use Rattle.frame.proofs.input_text.octets_in_front.Goals as goal
use Rattle.frame.proofs.input_text.octets_in_front.Goals.{then-count-ne0-via-then-count-ne0, then-count-ne0-via-else-count-ne0+then-not-decode_front}

pub returns-then-count-ne0-clause-cause : goal.returns-then-count-ne0-clause-cause
returns-then-count-ne0-clause-cause c =
    elim c.then-count-ne0.branch [
      | then-count-ne0-via-then-count-ne0 w ↦
          λ octets hex. absurd (omega (arith, c.requires, w.if-count-ne0, length-take c.args.count c.args.text.items, (decode_of-ok _ octets hex).0))
      | then-count-ne0-via-else-count-ne0+then-not-decode_front w ↦
          λ octets hex. w.decode_front.ensures.refused w.if-not-decode_front.true
          (subst (λ (t : List ℕ). AllPass is_hex_digit (take c.args.count t)) (sym w.as_mut_slice.ensures.value) (decode_of-ok _ octets hex).1)
    ]
