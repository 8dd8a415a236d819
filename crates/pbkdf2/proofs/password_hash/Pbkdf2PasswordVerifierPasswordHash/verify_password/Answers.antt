use Rattle.std.proofs.Common.{◌≡◌, ◌≢◌, inr, refl, rules, sym, ap, ◌∙◌}
use Rattle.pbkdf2.specs.Algorithm.{identifier_of, derived}
use Rattle.pbkdf2.proofs.OneReading.{no_agreement}
use Rattle.pbkdf2.proofs.password_hash.Pbkdf2PasswordVerifierPasswordHash.verify_password.Goals as goal

pub returns-then-ne : goal.returns-then-ne
returns-then-ne c =
    let hash = c.args.hash.now in
    let names : hash.algorithm ≡ identifier_of c.in_ok-algorithm.algorithm = sym c.as_str.ensures.value ∙ c.in_ok-algorithm.ensures.ok in
    let is = c.output_of.ensures ∙ ap (λ t. derived c.in_ok-algorithm.algorithm c.args.password.now t c.in_ok-params.params.rounds c.in_ok-params.params.output_len) c.as_ref.ensures.value in
    let differ : c.output_of.result ≢ c.in-Some-hash.expected = search (rules, c.ne.ensures) in
    inr (inr (inr (
      (λ e. (let k = sym c.in-Some.is ∙ e in cc k)),
      (λ e. (let k = sym c.in-Some-hash.is ∙ e in cc k)),
      (c.in_ok-params.params, c.in_ok-params.ensures),
      (c.in_ok-algorithm.algorithm, names),
      no_agreement c.args.password.now c.in-Some.salt c.in-Some-hash.expected c.output_of.result hash c.in_ok-params.params c.in_ok-algorithm.algorithm
          c.in-Some.is c.in-Some-hash.is c.in_ok-params.ensures names is differ,
      refl,
    )))
