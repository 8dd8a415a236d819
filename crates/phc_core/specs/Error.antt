-- How the refusals are printed.
use Rattle.std.specs.Prelude.{ℕ, List, codes}
use Rattle.phc_core.specs.declared.error.Error.{Error}
use Rattle.phc_core.specs.declared.error.Error.TheVariants.{Algorithm, EncodingInvalid, OutputSize, ParamInvalid, ParamsInvalid, PasswordInvalid, SaltInvalid, Version, Rng, Memory}

-- a refusal is printed as its name, and running out of memory in words
abbrev pub error_text : Error → List ℕ
error_text Algorithm = codes "Algorithm"
error_text EncodingInvalid = codes "EncodingInvalid"
error_text OutputSize = codes "OutputSize"
error_text (ParamInvalid name) = codes "ParamInvalid"
error_text ParamsInvalid = codes "ParamsInvalid"
error_text PasswordInvalid = codes "PasswordInvalid"
error_text SaltInvalid = codes "SaltInvalid"
error_text Version = codes "Version"
error_text Rng = codes "Rng"
error_text Memory = codes "out of memory"
