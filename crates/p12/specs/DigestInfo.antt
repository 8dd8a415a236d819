-- A digest and its algorithm (RFC 7292 section 4; RFC 2315 section 9.4).
use Rattle.std.specs.Prelude.{ℕ, List}
use Rattle.asn1_core.specs.Texts.{Inside}
use Rattle.asn1_core.specs.Fields.{Field, End, Sequence}
use Rattle.p12.specs.AlgorithmIdentifier.{AlgorithmText}
use Rattle.p12.specs.declared.digest_info.DigestInfo.{DigestInfo}

-- DigestInfo ::= SEQUENCE { digestAlgorithm AlgorithmIdentifier, digest OCTET STRING }
abbrev pub DigestText : List ℕ → DigestInfo → Type 0
DigestText = Sequence (Field AlgorithmText (λ d. d.digest_algorithm)
    (Field (Inside 0x04) (λ d. d.digest) End))
