use Rattle.std.proofs.Common.{◌≡◌, ◌∙◌, ap, ap₂, ℕ, List, ◌*◌, ◌^◌, ◌≤◌, length, take, drop, arith}
use Rattle.std.proofs.lemmas.List.{take_at}
use Rattle.scrypt_core.specs.BlockMix.{joined}
use Rattle.scrypt_core.specs.Scrypt.{once, rom_mix, scrypt}
use Rattle.scrypt_core.proofs.Bounds.{few_turns}
use Rattle.scrypt_core.proofs.derivation.scrypt.Goals as goal

pub memory_len-requires-clause-turns : goal.memory_len-requires-clause-turns
memory_len-requires-clause-turns c =
    let few : c.args.params.now.log_n ≤ 55 = few_turns _ _ _ c.args.params.now.lawful in
    omega (arith, few, c.log_n.ensures)

pub returns-clause-key : goal.returns-clause-key
unfolding scrypt
returns-clause-key c =
    let q : List ℕ = c.args.password.now in
    let er = c.r-r.ensures in
    let ep = c.p-p.ensures in
    let en = c.log_n-2.ensures in
    let first : c.as_mut_slice-2.result.now ≡ once q c.args.salt.now (128 * c.args.params.now.r * c.args.params.now.p) =
    c.as_mut_slice-2.ensures.value ∙ take_at _ _ _ (c.pbkdf2_hmac.auto.res ∙ c.as_mut_slice.ensures.len) ∙ c.pbkdf2_hmac.ensures
    ∙ ap (once q c.args.salt.now) (c.as_mut_slice.ensures.len ∙ c.in_ok-pieces.ensures.len ∙ ap₂ (λ (a b : ℕ). 128 * a * b) er ep) in
    let mixed = c.as_slice.ensures.value ∙ take_at _ _ _ (c.mix_pieces.auto.b ∙ c.as_mut_slice-2.ensures.len) ∙ c.mix_pieces.ensures
    ∙ (λ i. joined (λ k. rom_mix (er i) (2 ^ en i) (take (128 * er i) (drop (128 * er i * k) (first i)))) (ep i)) in
    c.pbkdf2_hmac-2.ensures ∙ ap (λ (t : List ℕ). once q t (length c.args.out.now)) mixed
