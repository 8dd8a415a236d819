-- The texts of a private key whose parts are any elements (RFC 5958 section 2): the one that is
-- written, and the others.
use Rattle.std.specs.Prelude.{ℕ, List, [], ◌∷◌, ◌++◌, Option, Some, None, IsTrue}
use Rattle.asn1_core.specs.Der.{seq, uint, octets, pctx}
use Rattle.der_core.specs.BitString.{is_bits}
use Rattle.spki.specs.Seen.{AnyAlgorithm}
use Rattle.spki.specs.Spelling.{algorithm_text}
use Rattle.pkcs8.specs.Seen.{AnyPrivateKey}

-- version, algorithm and key, then x, the public key, and y; version 0 without a public key,
-- version 1 with one
abbrev pub key_parts : AnyAlgorithm → List ℕ → Option (ℕ × List ℕ) → List ℕ → List ℕ → List ℕ
key_parts a k None x y = seq (uint 0 ++ algorithm_text a ++ octets k ++ x ++ y)
key_parts a k (Some q) x y =
    seq (uint 1 ++ algorithm_text a ++ octets k ++ x ++ pctx 1 (q.0 ∷ q.1) ++ y)

-- the spelling with the attributes x and the further fields y
abbrev pub private_key_spelling : AnyPrivateKey → List ℕ → List ℕ → List ℕ
private_key_spelling k x y = key_parts k.algorithm k.private_key k.public_key x y

-- the text that is written: nothing in the places of attributes and further fields
abbrev pub private_key_text : AnyPrivateKey → List ℕ
private_key_text k = private_key_spelling k [] []

-- a public key, if there is one, is a string of bits
abbrev pub AreBits : Option (ℕ × List ℕ) → Type 0
AreBits None = Unit {0}
AreBits (Some q) = IsTrue (is_bits q.0 q.1)
