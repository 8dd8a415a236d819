use Rattle.pkcs5.specs.Generation.{pbkdf2_sha256}
use Rattle.pkcs5.specs.declared.pbes2.encryption_scheme.EncryptionScheme.TheVariants.{Aes256Cbc}
use Rattle.transfer.proofs.Documents.{same_document}
use Rattle.transfer.proofs.laws.one_document.Goals as goal

pub returns : goal.returns
returns c = λ d e rounds iv salt q text long x y.
    same_document d e rounds iv salt q text x y (c.texts_have_one_private_key.ensures text x.key y.key x.is_key y.is_key)
    (λ f g m octets_f octets_g h k. c.one_ciphertext_opens_to_a_text.ensures (pbkdf2_sha256 rounds salt (Aes256Cbc iv)) q f g m octets_f octets_g long h k)
