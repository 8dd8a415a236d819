-- What is seen of a private key whose parts are any elements: its algorithm by the identifier and
-- the parameters' tag octet and value, the key by its octets, the public key by its number of
-- unused bits and its octets.
use Rattle.std.specs.Prelude.{ℕ, List}
use Rattle.asn1_core.specs.Der.{IsShort}
use Rattle.asn1_core.specs.Texts.{seen_option, Within, Left}
use Rattle.der_core.specs.Any.{AnyText}
use Rattle.der_core.specs.BitString.{BitsOf}
use Rattle.spki.specs.Algorithm.{algorithm}
use Rattle.pkcs8.specs.declared.private_key_info.PrivateKeyInfo.{PrivateKeyInfo}
use Rattle.pkcs8.specs.PrivateKeyInfo.{private_key, PrivateKeyText}

abbrev pub AnyPrivateKey : Type 0
AnyPrivateKey = PrivateKeyInfo (ℕ × List ℕ) (List ℕ) (ℕ × List ℕ)

-- by what is seen of the parameters, of the key and of the public key
abbrev pub seen_private_key : {P K Q : Type 0} → (P → ℕ × List ℕ) → (K → List ℕ) → (Q → ℕ × List ℕ)
    → PrivateKeyInfo P K Q → AnyPrivateKey
seen_private_key p k q v =
    private_key (algorithm v.algorithm.oid (seen_option p v.algorithm.parameters)) (k v.private_key)
    (seen_option q v.public_key)

-- b is a text of the private key, of at most 2 ^ 32 - 1 octets
abbrev pub IsPrivateKey : List ℕ → AnyPrivateKey → Type 0
IsPrivateKey b v = PrivateKeyText AnyText (Within 0x04 Left) BitsOf b v × IsShort b
