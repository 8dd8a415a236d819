use Rattle.std.proofs.Common.{◌≡◌, rules, Result, Err}
use Rattle.std.specs.Result.{IsErrAnd}
use Rattle.std.proofs.lemmas.Result.{err_from_is_err_and}
use Rattle.asn1_core.specs.Gives.{Gives}
use Rattle.asn1_core.specs.Reading.{Fault, Bad}
use Rattle.asn1_core.specs.declared.error.Error.{Error}
use Rattle.asn1_core.specs.declared.error.Error.TheVariants.{Malformed}
use Rattle.pkcs5.specs.declared.pbes2.encryption_scheme.EncryptionScheme.{EncryptionScheme}
use Rattle.pkcs5.proofs.pbes2.encryption_scheme.cipher_with.Goals as goal

-- octets of a wrong length are refused as those of no cipher
malformed : (r : Result EncryptionScheme Error) (e : Error) (read : Result EncryptionScheme Fault) → IsErrAnd r (λ x. x ≡ e) → e ≡ Malformed → read ≡ Err Bad → Gives (λ c. c) r read
malformed r e read gives is bad = let p = err_from_is_err_and r gives in rw (p.1, p.2, is) bad

pub returns-in_err-iv : goal.returns-in_err-iv
returns-in_err-iv c = malformed _ _ _ c.from_residual.ensures.1 c.in_err-iv.ensures.0 (search rules)

pub returns-in_err-iv-2 : goal.returns-in_err-iv-2
returns-in_err-iv-2 c = malformed _ _ _ c.from_residual-in_err-iv-2.ensures.1 c.in_err-iv-2.ensures.0 (search rules)

pub returns-in_err-iv-3 : goal.returns-in_err-iv-3
returns-in_err-iv-3 c = malformed _ _ _ c.from_residual-in_err-iv-3.ensures.1 c.in_err-iv-3.ensures.0 (search rules)

pub returns-in_err-iv-4 : goal.returns-in_err-iv-4
returns-in_err-iv-4 c = malformed _ _ _ c.from_residual-in_err-iv-4.ensures.1 c.in_err-iv-4.ensures.0 (search rules)

pub returns-in_err-iv-5 : goal.returns-in_err-iv-5
returns-in_err-iv-5 c = malformed _ _ _ c.from_residual-in_err-iv-5.ensures.1 c.in_err-iv-5.ensures.0 (search rules)

pub returns-in_err-nonce : goal.returns-in_err-nonce
returns-in_err-nonce c = malformed _ _ _ c.from_residual-in_err-nonce.ensures.1 c.in_err-nonce.ensures.0 (search rules)

pub returns-in_err-nonce-2 : goal.returns-in_err-nonce-2
returns-in_err-nonce-2 c = malformed _ _ _ c.from_residual-in_err-nonce-2.ensures.1 c.in_err-nonce-2.ensures.0 (search rules)
