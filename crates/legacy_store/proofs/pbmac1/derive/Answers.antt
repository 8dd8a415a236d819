use Rattle.std.proofs.Common.{◌≡◌, ◌∙◌, ℕ, ◌+◌, ◌*◌, max, sym, ap}
use Rattle.pbkdf2.specs.Pbkdf2.{block_count}
use Rattle.pkcs5.specs.Opening.{key_steps, prf_output}
use Rattle.pkcs5.specs.declared.pbes2.kdf.Kdf.TheVariants.{Pbkdf2}
use Rattle.pkcs5.specs.declared.pbes2.pbkdf2_params.Pbkdf2Params.{Pbkdf2Params}
use Rattle.pkcs5.specs.declared.pbes2.pbkdf2_prf.Pbkdf2Prf.{Pbkdf2Prf}
use Rattle.legacy_store.proofs.pbmac1.derive.Goals as goal

-- the steps are those of the function that the parameters name
counted : (p : Pbkdf2Params) (f : Pbkdf2Prf) (before after n : ℕ) → p.prf ≡ f → after ≡ before + max p.iteration_count 1 * block_count n (prf_output f) → after ≡ before + key_steps (Pbkdf2 p) n
counted p f before after n is steps = steps ∙ ap (λ (g : Pbkdf2Prf). before + max p.iteration_count 1 * block_count n (prf_output g)) (sym is)

pub returns-in-HmacWithSha1-clause-steps : goal.returns-in-HmacWithSha1-clause-steps
returns-in-HmacWithSha1-clause-steps g c = counted c.args.params.now _ _ _ _ c.in-HmacWithSha1.is c.pbkdf2_hmac_counted.ensures.steps

pub returns-in-HmacWithSha224-clause-steps : goal.returns-in-HmacWithSha224-clause-steps
returns-in-HmacWithSha224-clause-steps g c = counted c.args.params.now _ _ _ _ c.in-HmacWithSha224.is c.pbkdf2_hmac_counted-in-HmacWithSha224.ensures.steps

pub returns-in-HmacWithSha256-clause-steps : goal.returns-in-HmacWithSha256-clause-steps
returns-in-HmacWithSha256-clause-steps g c = counted c.args.params.now _ _ _ _ c.in-HmacWithSha256.is c.pbkdf2_hmac_counted-in-HmacWithSha256.ensures.steps

pub returns-in-HmacWithSha384-clause-steps : goal.returns-in-HmacWithSha384-clause-steps
returns-in-HmacWithSha384-clause-steps g c = counted c.args.params.now _ _ _ _ c.in-HmacWithSha384.is c.pbkdf2_hmac_counted-in-HmacWithSha384.ensures.steps

pub returns-in-HmacWithSha512-clause-steps : goal.returns-in-HmacWithSha512-clause-steps
returns-in-HmacWithSha512-clause-steps g c = counted c.args.params.now _ _ _ _ c.in-HmacWithSha512.is c.pbkdf2_hmac_counted-in-HmacWithSha512.ensures.steps
