use Rattle.std.proofs.Common.{◌≡◌, List, ℕ, ◌+◌, ◌*◌, take, ap, ◌∙◌, arith}
use Rattle.std.proofs.lemmas.Result.{IfOk-weaker}
use Rattle.mac_modes.specs.Hmac.{hmac}
use Rattle.pkcs12_kdf.specs.Derivation.{derive12_in, turns}
use Rattle.pkcs12_kdf.specs.Mac.{mac_under_in}
use Rattle.pkcs12_kdf.proofs.Turns.{one_turn}
use Rattle.pkcs12_kdf.proofs.derivation.Derivation.mac_by_block_counted.Goals as goal

pub returns-clause-value : goal.returns-clause-value
unfolding mac_under_in
returns-clause-value g c =
    let h = g.H.HashFn.digest in
    let u = g.H.HashFn.OUTPUT in
    let v = g.H.HashFn.BLOCK in
    let s = c.args.self.now in
    let mac : List ℕ = hmac h v (derive12_in v h u s.password.now s.salt.now s.rounds 3 u) c.args.content.now in
    let made : take c.OUTPUT-2.result c.hmac_of-mac.result ≡ mac =
    ap (λ (n : ℕ). take n c.hmac_of-mac.result) c.OUTPUT-2.ensures ∙ c.hmac_of-mac.ensures
    ∙ ap (λ k. hmac h v k c.args.content.now) (c.as_slice.ensures ∙ c.in_ok-key.ensures.value ∙ ap (λ n. derive12_in v h u s.password.now s.salt.now s.rounds 3 n) c.OUTPUT.ensures) in
    IfOk-weaker c.from_slice.result (λ (o : List ℕ). o ≡ take c.OUTPUT-2.result c.hmac_of-mac.result) (λ (o : List ℕ). o ≡ mac) (λ o is. is ∙ made) c.from_slice.ensures

pub returns-clause-steps : goal.returns-clause-steps
returns-clause-steps g c =
    let turn = one_turn g.H.HashFn.OUTPUT g.met.H.HashFn.sizes.some c.args.self.now.rounds in
    IfOk-weaker c.from_slice.result (λ (o : List ℕ). o ≡ take c.OUTPUT-2.result c.hmac_of-mac.result) (λ o. c.key_by_block_counted.new.steps ≡ c.args.steps.now + c.args.self.now.rounds)
    (λ o is. c.in_ok-key.ensures.steps ∙ ap (λ (n : ℕ). c.args.steps.now + n) (ap (λ (n : ℕ). c.args.self.now.rounds * turns n g.H.HashFn.OUTPUT) c.OUTPUT.ensures ∙ turn))
    c.from_slice.ensures

pub returns-clause-at_most : goal.returns-clause-at_most
returns-clause-at_most g c =
    let turn = ap (λ (n : ℕ). c.args.self.now.rounds * turns n g.H.HashFn.OUTPUT) c.OUTPUT.ensures
    ∙ one_turn g.H.HashFn.OUTPUT g.met.H.HashFn.sizes.some c.args.self.now.rounds in
    (c.key_by_block_counted.ensures.at_most.0, omega (arith, c.key_by_block_counted.ensures.at_most.1, turn))
