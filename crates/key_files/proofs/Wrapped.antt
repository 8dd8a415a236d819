-- Keys of older forms that are wrapped.
use Rattle.std.proofs.Common.{◌≡◌, ℕ, List, Some, Ok, Err, Result}
use Rattle.std.specs.Prelude.{IfOk, IfErr}
use Rattle.key_files.specs.Algorithms.{ec_public_key}
use Rattle.key_files.specs.Ec.{Ec, IsEcPrivateKey}
use Rattle.key_files.specs.Keys.{RefusesEc, RefusesToWrap}
use Rattle.key_files.specs.declared.key_refusal.KeyRefusal.{KeyRefusal}
use Rattle.key_files.specs.declared.key_refusal.KeyRefusal.TheVariants.{NoKey, ManyKeys, UnknownForm, Malformed, NoCurve, TooLong, UnknownScheme, TooManyRounds, PasswordMissing, NotOpened, Memory}

pub if_ok : {X E : Type 0} (r : Result X E) (P Q : X → Type 0) → ((x : X) → P x → Q x) → IfOk r P → IfOk r Q
if_ok (Ok x) P Q f h = f x h
if_ok (Err e) P Q f h = h

pub if_err : {X E : Type 0} (r : Result X E) (P Q : E → Type 0) → ((e : E) → P e → Q e) → IfErr r P → IfErr r Q
if_err (Ok x) P Q f h = h
if_err (Err e) P Q f h = f e h

pub ec_refused : (octets : List ℕ) (k : Ec) (p : ℕ × List ℕ) → IsEcPrivateKey octets k → k.parameters ≡ Some p → (e : KeyRefusal) → RefusesToWrap ec_public_key p octets e → RefusesEc octets e
ec_refused octets k p is has TooLong h = (k, p, is, has, h)
ec_refused octets k p is has Memory h = (k, p, is, has, h)
ec_refused octets k p is has NoKey h = absurd h
ec_refused octets k p is has ManyKeys h = absurd h
ec_refused octets k p is has UnknownForm h = absurd h
ec_refused octets k p is has Malformed h = absurd h
ec_refused octets k p is has NoCurve h = absurd h
ec_refused octets k p is has UnknownScheme h = absurd h
ec_refused octets k p is has TooManyRounds h = absurd h
ec_refused octets k p is has PasswordMissing h = absurd h
ec_refused octets k p is has NotOpened h = absurd h
