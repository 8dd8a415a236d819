-- What is seen of an algorithm that lends its parameters: the same algorithm in memory of its own.
-- And what opening in place leaves.
use Rattle.std.specs.Prelude.{◌≡◌, ℕ, ◌&&◌, MatchBool, nat_lt, if◌then◌else◌, List}
use Rattle.asn1_core.specs.Texts.{seen_option}
use Rattle.pkcs5.specs.Kinds.{key_size, rounds_of}
use Rattle.pkcs5.specs.Opening.{LeftBy, key_under, states_length}
use Rattle.pkcs5.specs.declared.pbes2.parameters.Parameters.{Parameters}
use Rattle.p12.specs.AlgorithmIdentifier.{is_blocks, triple_des_text}
use Rattle.pkcs12_kdf.specs.Password.{bmp_password}
use Rattle.p12.specs.declared.pkcs12_pbe_params.Pkcs12PbeParams.{Pkcs12PbeParams}
use Rattle.p12.specs.declared.algorithm_identifier.AlgorithmIdentifier.{AlgorithmIdentifier}
use Rattle.p12.specs.declared.algorithm_identifier.AlgorithmIdentifier.TheVariants.{Sha1, Sha256, PbewithSHAAnd40BitRC2CBC, PbeWithSHAAnd3KeyTripleDESCBC, Pbes2, OtherAlg}
use Rattle.p12.specs.declared.pkcs12_pbe_params.ParamsView.{ParamsView}
use Rattle.p12.specs.declared.algorithm_identifier.AlgorithmView.{AlgorithmView}
use Rattle.p12.specs.declared.algorithm_identifier.AlgorithmView.TheVariants as view

abbrev pub seen_params : ParamsView → Pkcs12PbeParams
seen_params p = record { salt = p.salt.now; iterations = p.iterations }

abbrev pub seen_algorithm : AlgorithmView → AlgorithmIdentifier
seen_algorithm view.Sha1 = Sha1
seen_algorithm view.Sha256 = Sha256
seen_algorithm (view.Rc2 salt n) =
    PbewithSHAAnd40BitRC2CBC (record { salt = salt.now; iterations = n })
seen_algorithm (view.TripleDes salt n) =
    PbeWithSHAAnd3KeyTripleDESCBC (record { salt = salt.now; iterations = n })
seen_algorithm (view.Pbes2 par) = Pbes2 par
seen_algorithm (view.Other k params) =
    OtherAlg (record { algorithm_type = k; params = seen_option (λ x. x.now) params })

-- what a buffer holds that held the text c and was opened in place, or found not to open, under a
-- password in UTF-16: the decrypted blocks, or what it held
unfoldable pub left_pbe : AlgorithmIdentifier → List ℕ → List ℕ → List ℕ
left_pbe (PbeWithSHAAnd3KeyTripleDESCBC p) q c = if nat_lt 0 p.iterations && is_blocks c
    then triple_des_text q p.salt p.iterations c else c
left_pbe _ q c = c

-- what a buffer holds that held a text which PBES2 opens to none, under a password in UTF-8: what
-- the cipher leaves of it, and where there is no key what it held
unfoldable pub LeftPbes2 : Parameters → List ℕ → List ℕ → List ℕ → Type 0
LeftPbes2 par p before now =
    MatchBool (states_length par.kdf (key_size par.encryption) && nat_lt 0 (rounds_of par.kdf))
    (LeftBy par.encryption (key_under par p) before now) (now ≡ before)

-- the same of any algorithm
unfoldable pub LeftUnopened : AlgorithmIdentifier → List ℕ → List ℕ → List ℕ → Type 0
LeftUnopened (PbeWithSHAAnd3KeyTripleDESCBC params) p before now =
    now ≡ left_pbe (PbeWithSHAAnd3KeyTripleDESCBC params) (bmp_password p) before
LeftUnopened (Pbes2 par) p before now = LeftPbes2 par p before now
LeftUnopened _ p before now = now ≡ before
