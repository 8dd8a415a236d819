use Rattle.std.proofs.Common.{◌≡◌, ◌∷◌, ◌++◌, [], ℕ, List, subst, arith, rules}
use Rattle.std.proofs.lemmas.Grind.{common_steps}
use Rattle.pem_stores.specs.Choice.{IsMatchOfTexts}
use Rattle.pem_stores.proofs.Choices.{matches_step}
use Rattle.pem_stores.proofs.own_certificate.matches_of.Goals as goal

pub loop-certificate-preserved : goal.loop-certificate-preserved
loop-certificate-preserved c =
    let pushed : c.push.new.self.items ≡ c.loop-certificate.matches.items ++ c.match_of_texts.result ∷ [] = first_of (cc, search rules, grind (arith, common_steps)) in
    matches_step c.args.key.now c.args.certificates.now c.loop-certificate.certificate-index c.certificate-item.result c.loop-certificate.matches.items c.push.new.self.items c.match_of_texts.result (omega arith) c.certificate-item.is
    c.loop-certificate.invariant
    (subst (λ (b : List ℕ). IsMatchOfTexts c.args.key.now b c.match_of_texts.result) c.as_slice.ensures c.match_of_texts.ensures) pushed
