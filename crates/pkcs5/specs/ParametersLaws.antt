-- lemmas only: nothing to believe here
-- The parameters of PBES2 are read exactly, and what is written of them is read again.
use Rattle.std.specs.Prelude.{◌↔◌}
use Rattle.std.proofs.Common.{ℕ, List, ◌++◌, refl, sym, ap, subst, ◌∙◌}
use Rattle.asn1_core.specs.Der.{el, seq}
use Rattle.asn1_core.specs.Reading.{any_tag}
use Rattle.asn1_core.specs.Texts.{Exact, ExactAll}
use Rattle.asn1_core.specs.ExactLaws.{same-exact, IsShort-inside}
use Rattle.asn1_core.specs.ElementLaws.{within-exact}
use Rattle.der_core.specs.Any.{AnyText, any_at}
use Rattle.spki.specs.Algorithm.{AlgorithmOf, AlgorithmText, algorithm_at}
use Rattle.spki.specs.AlgorithmLaws.{algorithm-exact}
use Rattle.spki.specs.AnyLaws.{any-exact, any-whole}
use Rattle.pkcs5.specs.Kdf.{KdfOf, KdfText, kdf_content}
use Rattle.pkcs5.specs.KdfLaws.{kdf-judges, kdf_canonical, kdf_spelled}
use Rattle.pkcs5.specs.Cipher.{CipherOf, CipherText, cipher_content}
use Rattle.pkcs5.specs.CipherLaws.{cipher-judges, cipher_canonical, cipher_spelled}
use Rattle.pkcs5.specs.Parameters.{parameters, ParametersOf, ParametersText, parameters_content, AreParameters, SpellsParameters}
use Rattle.pkcs5.specs.JudgedLaws.{inside_judges, Together, together-exact}
use Rattle.pkcs5.specs.declared.pbes2.parameters.Parameters.{Parameters}
use Rattle.pkcs5.specs.Reading.{kdf_in, cipher_in, parameters_of, parameters_at}

abbrev Both : List ℕ → Parameters → Type 0
Both = Together (AlgorithmText AnyText) (AlgorithmText AnyText) (algorithm_at any_tag any_at) (algorithm_at any_tag any_at) kdf_in cipher_in KdfText CipherText parameters

to : (b : List ℕ) (v : Parameters) → Both b v → ParametersOf b v
to b v r = subst (ParametersOf b) (sym r.7) (r.0, r.1, r.4, r.5, r.6)

from : (b : List ℕ) (v : Parameters) → ParametersOf b v → Both b v
from b v r = (r.0, r.1, v.kdf, v.encryption, r.2, r.3, r.4, refl)

any_algorithm-exact : Exact (AlgorithmText AnyText) (algorithm_at any_tag any_at)
any_algorithm-exact = algorithm-exact any_tag AnyText any_at any-exact any-whole

pub parameters_of-exact : ExactAll ParametersOf parameters_of
parameters_of-exact = same-exact Both ParametersOf parameters_of to from
    (together-exact (AlgorithmText AnyText) (AlgorithmText AnyText) (algorithm_at any_tag any_at) (algorithm_at any_tag any_at) kdf_in cipher_in KdfText CipherText parameters
    any_algorithm-exact any_algorithm-exact
    (inside_judges 0x30 (AlgorithmOf AnyText) kdf_in KdfOf (IsShort-inside 0x30) kdf-judges)
    (inside_judges 0x30 (AlgorithmOf AnyText) cipher_in CipherOf (IsShort-inside 0x30) cipher-judges))

pub parameters-exact : Exact ParametersText parameters_at
parameters-exact = within-exact 0x30 ParametersOf parameters_of refl parameters_of-exact

-- ---- what is written

pub parameters_canonical : (v : Parameters) → AreParameters v → ParametersText (el 0x30 (parameters_content v)) v
parameters_canonical v h = (parameters_content v, (el 0x30 (kdf_content v.kdf), el 0x30 (cipher_content v.encryption), kdf_canonical v.kdf h.0, cipher_canonical v.encryption h.1, refl), refl)

spelled_to : (b : List ℕ) (v : Parameters) → ParametersText b v → AreParameters v × SpellsParameters b v
spelled_to b v (w, (k, c, r, s, is), e) =
    let one = (kdf_spelled k v.kdf).0 r in
    let two = (cipher_spelled c v.encryption).0 s in
    ((one.0, two.0), (k, one.1, e ∙ ap (λ (l : List ℕ). seq l) (is ∙ ap (λ (l : List ℕ). k ++ l) two.1)))

spelled_from : (b : List ℕ) (v : Parameters) → AreParameters v × SpellsParameters b v → ParametersText b v
spelled_from b v (h, (k, s, e)) =
    (k ++ seq (cipher_content v.encryption), (k, seq (cipher_content v.encryption), (kdf_spelled k v.kdf).1 (h.0, s), cipher_canonical v.encryption h.1, refl), e)

pub parameters_spelled : (b : List ℕ) (v : Parameters) → ParametersText b v ↔ (AreParameters v × SpellsParameters b v)
parameters_spelled b v = (spelled_to b v, spelled_from b v)
