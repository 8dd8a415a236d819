use Rattle.mac_modes.proofs.Uniqueness.{one_ciphertext}
use Rattle.mac_modes.proofs.laws.ciphertext_is_unique.Goals as goal

pub returns : goal.returns
returns g c = λ s iv x y long octets_x whole_x octets_y whole_y same.
    one_ciphertext _ g.C.BlockCipher.BLOCK g.C.BlockCipher.encryption g.C.BlockCipher.decryption g.C.BlockCipher.laws s iv long x y octets_x whole_x octets_y whole_y same
