-- A scheme of encryption under a password (RFC 8018 section 6): an algorithm, one of PBES1
-- (appendix A.3) or PBES2 (appendix A.4).
use Rattle.std.specs.Prelude.{◌≡◌, ⊤, ℕ, List, ◌++◌}
use Rattle.asn1_core.specs.Der.{oid, seq, el}
use Rattle.asn1_core.specs.Texts.{Within}
use Rattle.pkcs5.specs.Identifiers.{pbes2_oid}
use Rattle.pkcs5.specs.Parameters.{ParametersText, parameters_content, AreParameters, SpellsParameters}
use Rattle.pkcs5.specs.Pbes1.{pbe_oid, PbeOf, pbe_content, ArePbeParams}
use Rattle.pkcs5.specs.declared.encryption_scheme.EncryptionScheme.{EncryptionScheme}
use Rattle.pkcs5.specs.declared.encryption_scheme.EncryptionScheme.TheVariants.{Pbes1, Pbes2}

-- the identifier of a scheme
abbrev pub scheme_oid : EncryptionScheme → List ℕ
scheme_oid (Pbes1 a) = pbe_oid a.encryption
scheme_oid (Pbes2 v) = pbes2_oid

-- it is one of PBES1, and of PBES2
abbrev pub IsPbes1 : EncryptionScheme → Type 0
IsPbes1 (Pbes1 a) = ⊤
IsPbes1 (Pbes2 v) = ⊥

abbrev pub IsPbes2 : EncryptionScheme → Type 0
IsPbes2 (Pbes1 a) = ⊥
IsPbes2 (Pbes2 v) = ⊤

-- the value octets: the scheme's identifier, and its parameters
abbrev pub SchemeOf : List ℕ → EncryptionScheme → Type 0
SchemeOf b (Pbes1 a) = PbeOf b a
SchemeOf b (Pbes2 v) = (p : List ℕ) × ParametersText p v × (b ≡ oid pbes2_oid ++ p)

abbrev pub SchemeText : List ℕ → EncryptionScheme → Type 0
SchemeText = Within 0x30 SchemeOf

-- ---- writing

-- the value octets that are written
abbrev pub scheme_content : EncryptionScheme → List ℕ
scheme_content (Pbes1 a) = pbe_content a
scheme_content (Pbes2 v) = oid pbes2_oid ++ el 0x30 (parameters_content v)

-- the text that is written
abbrev pub scheme_text : EncryptionScheme → List ℕ
scheme_text s = seq (scheme_content s)

abbrev pub IsScheme : EncryptionScheme → Type 0
IsScheme (Pbes1 a) = ArePbeParams a.parameters
IsScheme (Pbes2 v) = AreParameters v

-- which texts spell a scheme: its identifier, and a spelling of its parameters; one of PBES1 has
-- one
abbrev pub SpellsScheme : List ℕ → EncryptionScheme → Type 0
SpellsScheme b (Pbes1 a) = b ≡ seq (pbe_content a)
SpellsScheme b (Pbes2 v) = (p : List ℕ) × SpellsParameters p v × (b ≡ seq (oid pbes2_oid ++ p))
