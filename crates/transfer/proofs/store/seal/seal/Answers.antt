use Rattle.std.proofs.Common.{◌≡◌, ◌∙◌, ◌<◌, ℕ, List, ap, arith, length, subst, sym}
use Rattle.std.specs.Prelude.{All}
use Rattle.pkcs5.specs.Generation.{pbkdf2_sha256}
use Rattle.pkcs5.specs.Kinds.{IsDes, key_size}
use Rattle.pkcs5.specs.Opening.{FitsKey, derived, key_under, prf_of}
use Rattle.pkcs5.specs.Parameters.{AreParameters}
use Rattle.pkcs5.specs.declared.pbes2.encryption_scheme.EncryptionScheme.TheVariants.{Aes256Cbc}
use Rattle.pkcs5.specs.declared.pbes2.parameters.Parameters.{Parameters}
use Rattle.pkcs8.specs.Seen.{seen_private_key}
use Rattle.transfer.proofs.Documents.{gives_key, lawful, sealed_document}
use Rattle.transfer.proofs.Drawn.{length-document_key, sealed_as}
use Rattle.transfer.specs.Document.{document_key}
use Rattle.transfer.proofs.store.seal.seal.Goals as goal

-- the key that was derived is that of the parameters
key_of : (key : List ℕ) (par : Parameters) (rounds : ℕ) (iv salt q : List ℕ) → par ≡ pbkdf2_sha256 rounds salt (Aes256Cbc iv)
    → key ≡ document_key rounds salt q → key ≡ key_under par q
unfolding derived key_under prf_of
key_of key par rounds iv salt q is e = e ∙ ap (λ (p : Parameters). key_under p q) (sym is)

length-key : (key : List ℕ) (par : Parameters) (rounds : ℕ) (iv salt q : List ℕ) → par ≡ pbkdf2_sha256 rounds salt (Aes256Cbc iv)
    → key ≡ document_key rounds salt q → length key ≡ key_size par.encryption
length-key key par rounds iv salt q is e =
    ap length e ∙ length-document_key rounds salt q ∙ ap (λ (p : Parameters). key_size p.encryption) (sym is)

-- the parameters with the salt as it was drawn
parameters_are : (par : Parameters) (rounds : ℕ) (iv octets salt : List ℕ) → par ≡ pbkdf2_sha256 rounds octets (Aes256Cbc iv) → octets ≡ salt
    → par ≡ pbkdf2_sha256 rounds salt (Aes256Cbc iv)
parameters_are par rounds iv octets salt is same = is ∙ ap (λ s. pbkdf2_sha256 rounds s (Aes256Cbc iv)) same

pub encrypt_with_key-requires : goal.encrypt_with_key-requires
encrypt_with_key-requires c =
    let d = c.args.drawn.now in
    let is = parameters_are _ c.args.rounds d.iv _ d.salt c.in-Ok.ensures.ok.0 c.as_bytes-salt.ensures.value in
    length-key _ c.in-Ok.parameters c.args.rounds d.iv d.salt c.requires.derived.0 is c.requires.derived.1

pub refusal_of-requires : goal.refusal_of-requires
refusal_of-requires c =
    let d = c.args.drawn.now in
    let is = parameters_are _ c.args.rounds d.iv _ d.salt c.in-Ok.ensures.ok.0 c.as_bytes-salt.ensures.value in
    let same = sym is in
    let k = gives_key c.args.rounds d.iv d.salt in
    let short = c.written_keys_are_shortest.ensures c.args.opened.now.text.now
    (seen_private_key (λ a. (a.tag.first, a.value.now)) (λ s. s.octets.now) (λ s. (s.unused_bits, s.octets.now)) c.args.opened.now.key) c.requires.key.0 in
    let fits = subst FitsKey same k.0 in
    c.short_keys_are_encrypted.ensures c.in-Ok.parameters c.requires.derived.0 c.in-Err.error
    (subst AreParameters same (lawful c.args.rounds d.iv d.salt c.requires.rounds.1 c.requires.drawn.0 c.requires.drawn.1))
    fits (subst (λ (p : Parameters). IsDes p.encryption → ⊥) same k.1)
    (omega (arith, ap length c.private_keys_are_written.ensures, short, c.requires.key.1))
    (c.in-Err.ensures.err c.requires.derived.0 fits (key_of _ c.in-Ok.parameters c.args.rounds d.iv d.salt c.requires.derived.0 is c.requires.derived.1))

pub returns-clause-ok : goal.returns-clause-ok
returns-clause-ok c = λ q e.
    let d = c.args.drawn.now in
    let is = parameters_are _ c.args.rounds d.iv _ d.salt c.in-Ok.ensures.ok.0 c.as_bytes-salt.ensures.value in
    sealed_document _ c.args.rounds d.iv d.salt q c.args.opened.now.text.now
    (seen_private_key (λ a. (a.tag.first, a.value.now)) (λ s. s.octets.now) (λ s. (s.unused_bits, s.octets.now)) c.args.opened.now.key) (subst (All (λ octet. octet < 256)) (c.as_bytes.ensures.value ∙ sym (c.in_ok-from_slice.ensures ∙ c.as_bytes-2.ensures.value)) c.are_octets.ensures) c.requires.key.0
    (sealed_as _ _ _ _ _ _ _ is c.private_keys_are_written.ensures (c.in_ok-from_slice.ensures ∙ c.as_bytes-2.ensures.value)
    (c.in-Ok-encrypt_with_key.ensures.ok q (key_of _ c.in-Ok.parameters c.args.rounds d.iv d.salt q is e)))
