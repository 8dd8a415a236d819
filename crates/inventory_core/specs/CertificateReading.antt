-- Reading certificates from left to right. Nothing to believe here: it is proved to read exactly
-- the relation.
use Rattle.std.specs.Prelude.{ℕ, ◌==◌, List, Option}
use Rattle.asn1_core.specs.Reading.{All, Front, any_tag, ended, inside_at, on, option_at, raw_at, within}
use Rattle.asn1_core.specs.Fields.{passing}
use Rattle.der_core.specs.Any.{any_at}
use Rattle.der_core.specs.BitString.{bits_of}
use Rattle.spki.specs.Algorithm.{algorithm_at}
use Rattle.spki.specs.Seen.{AnyAlgorithm, AnyPublicKey}
use Rattle.spki.specs.SubjectPublicKeyInfo.{public_key_at}
use Rattle.inventory_core.specs.Certificate.{Certificate, begins, certificate, has_octets}

abbrev pub tagged_at : ℕ → Front (List ℕ)
tagged_at tag = passing (begins tag) raw_at

-- one such element, or none where another tag comes next
unfoldable pub maybe_at : ℕ → Front (Option (List ℕ))
maybe_at tag = option_at (λ t. t == tag) (tagged_at tag)

abbrev pub serial_at : Front (List ℕ)
serial_at = passing has_octets (inside_at 0x02)

unfoldable pub any_algorithm_at : Front AnyAlgorithm
any_algorithm_at = algorithm_at any_tag any_at

unfoldable pub bits_at : Front (ℕ × List ℕ)
bits_at = within 0x03 bits_of

unfoldable pub key_at : Front AnyPublicKey
key_at = public_key_at any_tag any_at (within 0x03 bits_of)

-- what may come after the key
unfoldable pub after_key : Certificate → All Certificate
after_key c = on (maybe_at 0x81) (λ p. on (maybe_at 0x82) (λ q. on (maybe_at 0xa3) (λ e. ended c)))

unfoldable pub signed_all : All Certificate
signed_all = on (maybe_at 0xa0) (λ v. on serial_at (λ n. on any_algorithm_at (λ a.
    on (tagged_at 0x30) (λ i. on (tagged_at 0x30) (λ w. on (tagged_at 0x30) (λ s.
    on key_at (λ k. after_key (certificate i s k))))))))

unfoldable pub signed_at : Front Certificate
signed_at = within 0x30 signed_all

-- what comes after the part that is signed
unfoldable pub after_signed : Certificate → All Certificate
after_signed c = on any_algorithm_at (λ a. on bits_at (λ s. ended c))

unfoldable pub certificate_at : Front Certificate
certificate_at = within 0x30 (on signed_at after_signed)
