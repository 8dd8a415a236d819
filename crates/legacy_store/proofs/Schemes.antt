-- The parameters that are read, as the definitions have them.
use Rattle.std.proofs.Common.{◌≡◌, ap, sym}
use Rattle.std.specs.Prelude.{Option, Some, None, Result, Ok, option_map}
use Rattle.asn1_core.specs.Gives.{Fails}
use Rattle.asn1_core.specs.Reading.{Fault}
use Rattle.asn1_core.specs.declared.error.Error.{Error}
use Rattle.asn1_core.specs.declared.error.Error.TheVariants as errors
use Rattle.p12.specs.declared.pkcs12_pbe_params.Pkcs12PbeParams.{Pkcs12PbeParams}
use Rattle.asn1_core.specs.Texts.{seen_option}
use Rattle.legacy_store.specs.declared.scheme.OldCipher.{OldCipher}
use Rattle.legacy_store.specs.declared.scheme.Params.{Params}
use Rattle.legacy_store.specs.Scheme.{found_params, seen_params, with_cipher}

pub params_found : (p : Pkcs12PbeParams) (r : Result Pkcs12PbeParams Fault) → r ≡ Ok p → Some p ≡ found_params r
params_found p r h = sym (ap found_params h)

pub none_found : (e : Error) (r : Result Pkcs12PbeParams Fault) → Fails ⊥ e r → None ≡ found_params r
none_found errors.Malformed r h = sym (ap found_params h)
none_found (errors.OidUnknown o) r h = sym (ap found_params h)
none_found errors.Overlength r h = absurd h
none_found errors.NoRoom r h = absurd h
none_found errors.File r h = absurd h
none_found errors.Memory r h = absurd h

pub with_params : (k : OldCipher) (o : Option Params) (p : Params) → o ≡ Some p → Some (with_cipher k (seen_params p)) ≡ option_map (with_cipher k) (seen_option seen_params o)
with_params k o p is = sym (ap (λ (x : Option Params). option_map (with_cipher k) (seen_option seen_params x)) is)

pub without_params : (k : OldCipher) (o : Option Params) → o ≡ None → None ≡ option_map (with_cipher k) (seen_option seen_params o)
without_params k o is = sym (ap (λ (x : Option Params). option_map (with_cipher k) (seen_option seen_params x)) is)
