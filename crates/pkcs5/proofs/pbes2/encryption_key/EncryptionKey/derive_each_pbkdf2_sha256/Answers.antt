use Rattle.std.proofs.Common.{ℕ, ◌≡◌, List, length, map, sym, ap, ◌∙◌, arith}
use Rattle.std.proofs.lemmas.List.{take_all}
use Rattle.std.proofs.lemmas.List.Elements.{All-map, All-same}
use Rattle.mac_modes.specs.Hmac.{hmac}
use Rattle.mac_modes.specs.HmacLaws.{length-hmac}
use Rattle.pbkdf2.proofs.Xors.{has_its_length}
use Rattle.pbkdf2.specs.Pbkdf2.{pbkdf2}
use Rattle.pkcs5.specs.Opening.{derived, key_under, prf_of, sha256_key}
use Rattle.sha2.proofs.Facts256.{length-sha256}
use Rattle.sha2.specs.Sha256.{sha256}
use Rattle.pkcs5.proofs.pbes2.encryption_key.EncryptionKey.derive_each_pbkdf2_sha256.Goals as goal

pub returns-clause-ok : goal.returns-clause-ok
unfolding derived key_under prf_of
returns-clause-ok c = λ scheme size.
    let salts = c.args.salts.now in
    let q = c.args.password.now in
    let r = c.args.rounds in
    c.loop-index.invariant
    ∙ ap (map (sha256_key r q)) (take_all c.loop-index.index salts (omega arith))
    ∙ ap (λ n. map (λ salt. pbkdf2 (hmac sha256 64 q) 32 salt r n) salts) (sym size)

length-sha256_key : (rounds : ℕ) (q salt : List ℕ) → length (sha256_key rounds q salt) ≡ 32
length-sha256_key rounds q salt = has_its_length (hmac sha256 64 q) 32 salt rounds 32 (omega arith) (length-hmac sha256 64 32 length-sha256 q)

pub returns-clause-length : goal.returns-clause-length
returns-clause-length c =
    let q = c.args.password.now in
    let r = c.args.rounds in
    All-same (λ (key : List ℕ). length key ≡ 32) _ _ c.loop-index.invariant
    (All-map (λ (key : List ℕ). length key ≡ 32) (sha256_key r q) _ (λ k d lt. length-sha256_key r q _))
