use Rattle.std.proofs.lemmas.Result.{IfOk-from_err}
use Rattle.spki.proofs.Orders.{unordered_more, of_keys, overlong_keys}
use Rattle.spki.proofs.subject_public_key_info.SubjectPublicKeyInfoValueOrd.value_cmp.Goals as goal

pub returns-in-Equal-clause-err : goal.returns-in-Equal-clause-err
returns-in-Equal-clause-err g c = unordered_more _ _ _ _ (of_keys _ _ _ _) (overlong_keys _ _ _ _ _ _) c.value_cmp.result c.value_cmp.ensures.err

pub returns-in_err-unequal-clause-ok : goal.returns-in_err-unequal-clause-ok
returns-in_err-unequal-clause-ok g c = IfOk-from_err _ _ c.from_residual.ensures.0
