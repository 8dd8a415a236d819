use Rattle.std.proofs.Common.{List, ℕ, arith, subst}
use Rattle.std.specs.Prelude.{Ok}
use Rattle.std.specs.Option.{option_copied}
use Rattle.pkcs12_c.specs.Answers.{AreRounds, Fills}
use Rattle.pkcs12_c.specs.Created.{Asked, CreatesDrawn}
use Rattle.pkcs12_c.specs.Given.{given}
use Rattle.pkcs12_c.proofs.Made.{same_asked}
use Rattle.pkcs12_c.proofs.create_pem.create_pem.Goals as goal

pub returns-in-Ok : goal.returns-in-Ok
returns-in-Ok c =
    let rounds : AreRounds c.args.rounds = (omega arith, omega arith) in
    let is = c.in-Some.ensures.some in
    let key = c.in-Some-given_of.ensures.some in
    let name = c.in-Some-given_of-2.ensures.some in
    let same = same_asked c.args.key.now c.args.certificates.now c.args.limit c.args.rounds (option_copied c.in-Some-given_of.key_password.text) (given c.args.key_password.now)
    (option_copied c.in-Some-given_of-2.name.text) (given c.args.name.now) c.in-Some.password.text.now c.args.password.now key.0 name.0 is.0 in
    let made = subst (λ (a : Asked). CreatesDrawn a c.args.random.now c.in-Ok.text) same c.in-Ok.ensures.created in
    let fills = subst (λ (b : List ℕ). Fills b c.args.output.now c.filled.new.output c.filled.new.needed c.filled.result) c.as_slice.ensures c.filled.ensures in
    record {
      rounds_first = λ not. absurd (not rounds);
      then_password = λ are not. absurd (not is.1);
      then_key_password = λ are word not. absurd (not key.1);
      then_name = λ are word given not. absurd (not name.1);
      then_store = λ are word given named. record { created = Ok c.in-Ok.text; creates = made; refused = tt; follows = fills };
    }
