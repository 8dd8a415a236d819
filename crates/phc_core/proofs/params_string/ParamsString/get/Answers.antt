use Rattle.std.proofs.Common.{◌≡◌, ◌<◌, get_or, [], arith, length, subst}
use Rattle.std.proofs.lemmas.Bool.Decides.{nat_tests}
use Rattle.phc_core.specs.ParamsString.{pieces}
use Rattle.phc_core.proofs.Append.{got}
use Rattle.phc_core.proofs.params_string.ParamsString.get.Goals as goal

pub returns : goal.returns
returns c =
    let same = c.as_text-text.ensures.value in
    let some : 0 < length c.as_text-text.result.now = grind (arith, nat_tests, c.if-is_empty.ensures, c.if-is_empty.false, c.is_empty.ensures) in
    let piece = c.in-Some.ensures in
    got c.args.self.now c.in-Some.piece.now c.args.i c.pair_of.result c.as_text-text.ensures.grammar
    (subst (λ t. 0 < length t) same some)
    (subst (λ t. c.args.i < length (pieces t)) same piece.0)
    (subst (λ t. c.in-Some.piece.now ≡ get_or (pieces t) c.args.i []) same piece.1)
    c.pair_of.ensures
