use Rattle.pkcs12_c.proofs.exports.upgrade.Goals as goal

pub returns : goal.returns
returns c = record {
  rounds_first = λ not. absurd (not c.in-Some.ensures.some.1);
  then_passwords = λ are. (c.in-Some.rounds, c.in-Some.ensures.some.0, c.upgrade_to.ensures);
}
