use Rattle.std.proofs.Common.{List, ℕ, [], map, refl, ap, ◌∙◌}
use Rattle.pkcs5.specs.Opening.{derived, key_under, prf_of, sha256_key}
use Rattle.pkcs5.specs.declared.pbes2.encryption_scheme.EncryptionScheme.TheVariants.{Aes256Cbc}
use Rattle.rekey_core.proofs.key_derivation.keys_of.Goals as goal

pub returns-in-Ok-clause-ok : goal.returns-in-Ok-clause-ok
unfolding derived key_under prf_of
returns-in-Ok-clause-ok c =
    c.in-Ok.ensures.ok (Aes256Cbc []) refl
    ∙ ap (λ (password : List ℕ). map (λ salt. sha256_key c.args.rounds password salt) c.args.salts.now) c.as_bytes.ensures.value
