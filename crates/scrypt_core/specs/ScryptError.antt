-- How the refusals of scrypt are printed.
use Rattle.std.specs.Prelude.{ℕ, List, codes}
use Rattle.scrypt_core.specs.declared.scrypt_error.ScryptError.{ScryptError}
use Rattle.scrypt_core.specs.declared.scrypt_error.ScryptError.TheVariants.{InvalidOutputLen, Memory}

-- a refusal is printed as its name, and running out of memory in words
abbrev pub scrypt_error_text : ScryptError → List ℕ
scrypt_error_text InvalidOutputLen = codes "InvalidOutputLen"
scrypt_error_text Memory = codes "out of memory"
