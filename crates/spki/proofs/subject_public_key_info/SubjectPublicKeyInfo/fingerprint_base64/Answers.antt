use Rattle.std.proofs.lemmas.Result.{IfOk-from_err}
use Rattle.spki.proofs.subject_public_key_info.SubjectPublicKeyInfo.fingerprint_base64.Goals as goal

pub returns-in_err-digest-clause-ok : goal.returns-in_err-digest-clause-ok
returns-in_err-digest-clause-ok g c = IfOk-from_err _ _ c.from_residual.ensures.0

pub returns-in_err-digest-clause-lawful : goal.returns-in_err-digest-clause-lawful
returns-in_err-digest-clause-lawful g c = IfOk-from_err _ _ c.from_residual.ensures.0
