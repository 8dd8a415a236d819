-- Version ::= INTEGER { v1(0), v2(1) } (RFC 5958 section 2).
use Rattle.std.specs.Prelude.{◌≡◌, ◌<◌, ℕ, Result, Ok, Err}
use Rattle.asn1_core.specs.declared.error.Error.TheVariants.{Malformed}
use Rattle.pkcs8.specs.declared.error.Error.{Error}
use Rattle.pkcs8.specs.declared.error.Error.TheVariants.{Asn1}
use Rattle.pkcs8.specs.declared.version.Version.{Version}
use Rattle.pkcs8.specs.declared.version.Version.TheVariants.{V1, V2}

abbrev pub version_number : Version → ℕ
version_number V1 = 0
version_number V2 = 1

-- the version of a number, or a refusal exactly where there is none
abbrev pub IsVersionOf : ℕ → Result Version Error → Type 0
IsVersionOf n (Ok v) = version_number v ≡ n
IsVersionOf n (Err e) = (e ≡ Asn1 Malformed) × (1 < n)
