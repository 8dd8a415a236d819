use Rattle.std.proofs.Common.{[], List, ℕ, map, refl, ap, ◌∙◌}
use Rattle.std.proofs.lemmas.Simd.{map-map}
use Rattle.pkcs5.specs.Opening.{derived, key_under, prf_of, sha256_key}
use Rattle.pkcs5.specs.declared.pbes2.encryption_scheme.EncryptionScheme.TheVariants.{Aes256Cbc}
use Rattle.sealing_core.specs.declared.drawn.IvAndSalt.{IvAndSalt}
use Rattle.sealing_core.proofs.keys.derive_keys.Goals as goal

pub returns-in-Ok : goal.returns-in-Ok
unfolding derived key_under prf_of
returns-in-Ok c =
    let key = λ (salt : List ℕ). sha256_key c.args.rounds c.args.password.now salt in
    c.in-Ok.ensures.ok (Aes256Cbc []) refl
    ∙ ap (map key) (c.as_slice-salts.ensures ∙ c.in_ok-salts.ensures)
    ∙ map-map key (λ (d : IvAndSalt). d.salt) c.args.drawn.now
