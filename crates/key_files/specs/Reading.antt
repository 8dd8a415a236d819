-- Reading keys from left to right. Nothing to believe here: it is proved to read exactly the
-- relations.
use Rattle.std.specs.Prelude.{ℕ, ◌==◌, List, Option}
use Rattle.asn1_core.specs.Reading.{All, Front, ended, inside_at, on, option_at, whole, within}
use Rattle.der_core.specs.Any.{any_at}
use Rattle.der_core.specs.BitString.{bits_of}
use Rattle.key_files.specs.Ec.{Ec, ec}
use Rattle.key_files.specs.Rsa.{Rsa, rsa}

abbrev pub integer_at : Front (List ℕ)
integer_at = inside_at 0x02

unfoldable pub others_at : Front (Option (List ℕ))
others_at = option_at (λ t. t == 0x30) (inside_at 0x30)

unfoldable pub after_primes : Rsa → All Rsa
after_primes k = on integer_at (λ dp. on integer_at (λ dq. on integer_at (λ c.
    on others_at (λ others. ended k))))

unfoldable pub after_exponent : Rsa → All Rsa
after_exponent k = on integer_at (λ d. on integer_at (λ p. on integer_at (λ q. after_primes k)))

unfoldable pub rsa_all : All Rsa
rsa_all = on integer_at (λ v. on integer_at (λ n. on integer_at (λ e. after_exponent (rsa n e))))

unfoldable pub rsa_at : Front Rsa
rsa_at = within 0x30 rsa_all

unfoldable pub rsa_public_all : All Rsa
rsa_public_all = on integer_at (λ n. on integer_at (λ e. ended (rsa n e)))

unfoldable pub rsa_public_at : Front Rsa
rsa_public_at = within 0x30 rsa_public_all

abbrev pub key_octets_at : Front (List ℕ)
key_octets_at = inside_at 0x04

unfoldable pub curve_at : Front (ℕ × List ℕ)
curve_at = within 0xa0 (whole any_at)

unfoldable pub point_at : Front (ℕ × List ℕ)
point_at = within 0xa1 (whole (within 0x03 bits_of))

unfoldable pub curve_option_at : Front (Option (ℕ × List ℕ))
curve_option_at = option_at (λ t. t == 0xa0) curve_at

unfoldable pub point_option_at : Front (Option (ℕ × List ℕ))
point_option_at = option_at (λ t. t == 0xa1) point_at

unfoldable pub ec_all : All Ec
ec_all = on integer_at (λ v. on key_octets_at (λ key. on curve_option_at (λ ps.
    on point_option_at (λ q. ended (ec ps q)))))

unfoldable pub ec_at : Front Ec
ec_at = within 0x30 ec_all
