-- Keys of RSA (RFC 8017 appendix A.1), as far as they are read.
use Rattle.std.specs.Prelude.{ℕ, List}
use Rattle.asn1_core.specs.Der.{IsShort}
use Rattle.asn1_core.specs.Texts.{Ended, Inside, On, Perhaps}
use Rattle.asn1_core.specs.Fields.{Sequence}
use Rattle.key_files.specs.declared.rsa_private_key.RsaNumbers.{RsaNumbers}

-- the modulus and the public exponent, as the value octets of INTEGERs
pub record Rsa : Type 0 where
  pub modulus : List ℕ
  pub exponent : List ℕ

abbrev pub rsa : List ℕ → List ℕ → Rsa
rsa n e = record { modulus = n; exponent = e }

abbrev pub seen_rsa : RsaNumbers → Rsa
seen_rsa k = rsa k.modulus.now k.exponent.now

-- an INTEGER, by its value octets
abbrev pub IntegerText : List ℕ → List ℕ → Type 0
IntegerText = Inside 0x02

-- privateExponent, prime1, prime2, exponent1, exponent2, coefficient INTEGER, otherPrimeInfos
-- SEQUENCE OPTIONAL
abbrev pub AfterExponent : Rsa → List ℕ → Rsa → Type 0
AfterExponent k = On IntegerText (λ d. On IntegerText (λ p. On IntegerText (λ q.
    On IntegerText (λ dp. On IntegerText (λ dq. On IntegerText (λ c.
    On (Perhaps (Inside 0x30)) (λ others. Ended k)))))))

-- RSAPrivateKey ::= SEQUENCE { version, modulus, publicExponent INTEGER, .. } (appendix A.1.2)
abbrev pub RsaPrivateKeyText : List ℕ → Rsa → Type 0
RsaPrivateKeyText = Sequence (On IntegerText (λ version. On IntegerText (λ n.
    On IntegerText (λ e. AfterExponent (rsa n e)))))

-- RSAPublicKey ::= SEQUENCE { modulus, publicExponent INTEGER } (appendix A.1.1)
abbrev pub RsaPublicKeyText : List ℕ → Rsa → Type 0
RsaPublicKeyText = Sequence (On IntegerText (λ n. On IntegerText (λ e. Ended (rsa n e))))

-- b is the text of a private key, or of a public key, of at most 2 ^ 32 - 1 octets
abbrev pub IsRsaPrivateKey : List ℕ → Rsa → Type 0
IsRsaPrivateKey b k = RsaPrivateKeyText b k × IsShort b

abbrev pub IsRsaPublicKey : List ℕ → Rsa → Type 0
IsRsaPublicKey b k = RsaPublicKeyText b k × IsShort b
