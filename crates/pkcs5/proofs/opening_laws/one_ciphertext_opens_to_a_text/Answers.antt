use Rattle.pkcs5.specs.Kinds.{key_size}
use Rattle.pkcs5.specs.Opening.{derived, key_under}
use Rattle.pkcs5.proofs.Octets.{bytes_derived}
use Rattle.pkcs5.proofs.Uniqueness.{is_unique}
use Rattle.pkcs5.proofs.opening_laws.one_ciphertext_opens_to_a_text.Goals as goal

pub returns : goal.returns
unfolding key_under
returns c = λ par q x y m octets_x octets_y long h k.
    is_unique par.encryption (derived par.kdf q (key_size par.encryption)) x y m (bytes_derived par.kdf q (key_size par.encryption)) long octets_x octets_y h k
