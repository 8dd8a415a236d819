use Rattle.std.proofs.Common.{◌≡◌, List, ℕ, rules}
use Rattle.pkcs5.specs.Opening.{sha256_key}
use Rattle.rekey_core.proofs.Derived.{key_at_place, same_key}
use Rattle.rekey_core.proofs.derived_keys.DerivedKey.key_from.Goals as goal

pub returns-then-eq-2 : goal.returns-then-eq-2
returns-then-eq-2 c =
    let among = c.args.self.now.among.now in
    let key = key_at_place (λ (salt : List ℕ). sha256_key among.rounds among.password.now salt) among.salts among.keys c.args.self.now.place c.in-Some.own.now c.in-Some-get.key.now
    among.are_derived c.in-Some.ensures.some c.in-Some-get.ensures.some in
    let rounds : among.rounds ≡ c.args.rounds = search rules in
    let password : among.password.now ≡ c.args.password.now = search rules in
    let salt : c.in-Some.own.now ≡ c.args.salt.now = search rules in
    same_key among.rounds c.args.rounds among.password.now c.args.password.now c.in-Some.own.now c.args.salt.now c.in-Some-get.key.now key rounds password salt
