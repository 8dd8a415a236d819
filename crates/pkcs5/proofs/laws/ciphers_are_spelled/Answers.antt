use Rattle.std.proofs.Common.{◌≡◌}
use Rattle.asn1_core.specs.Der.{el}
use Rattle.spki.specs.SpellingLaws.{read_where}
use Rattle.pkcs5.specs.Cipher.{CipherText, IsCipher, cipher_content}
use Rattle.pkcs5.specs.CipherLaws.{cipher-exact, cipher_spelled}
use Rattle.pkcs5.proofs.laws.ciphers_are_spelled.Goals as goal
use Rattle.pkcs5.specs.Reading.{cipher_at}

pub returns : goal.returns
returns c = λ b v. read_where CipherText cipher_at cipher-exact b v (IsCipher v) (b ≡ el 0x30 (cipher_content v)) (cipher_spelled b v)
