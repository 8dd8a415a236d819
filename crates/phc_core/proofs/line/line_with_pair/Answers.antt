use Rattle.std.proofs.Common.{◌≡◌, ℕ, ◌+◌, ◌<◌, ◌≤◌, List, [], ◌∷◌, ◌++◌, length, refl, sym, ap, ◌∙◌, arith, append_assoc, length-append}
use Rattle.std.specs.Result.{IfErr, IsErrAnd}
use Rattle.std.specs.declared.result.Result.{Result}
use Rattle.std.proofs.lemmas.Result.{IfOk-from_err, err_from_is_err_and}
use Rattle.phc_core.specs.declared.error.Error.{Error}
use Rattle.phc_core.specs.declared.error.Error.TheVariants.{ParamsInvalid}
use Rattle.phc_core.specs.ParamsString.{with_pair}
use Rattle.phc_core.proofs.line.line_with_pair.Goals as goal

-- A pair comes after all that comes before it: first its name, then `=`, then its value.
from_pair : (t p : List ℕ) → with_pair t p ≡ with_pair t [] ++ p
from_pair [] p = refl
from_pair (c ∷ cs) p = sym (append_assoc (c ∷ cs) (44 ∷ []) p)

from_name : (t n p l : List ℕ) → l ≡ with_pair t [] → with_pair t (n ++ p) ≡ (l ++ n) ++ p
from_name t n p l is = from_pair t (n ++ p) ∙ ap (λ x. x ++ (n ++ p)) (sym is) ∙ sym (append_assoc l n p)

from_equals : (t n v l m : List ℕ) → l ≡ with_pair t [] → m ≡ l ++ n → with_pair t (n ++ 61 ∷ v) ≡ (m ++ 61 ∷ []) ++ v
from_equals t n v l m is named = from_name t n (61 ∷ v) l is ∙ ap (λ x. x ++ 61 ∷ v) (sym named) ∙ sym (append_assoc m (61 ∷ []) v)

whole : (t n v l m k : List ℕ) → l ≡ with_pair t [] → m ≡ l ++ n → k ≡ m ++ 61 ∷ [] → with_pair t (n ++ 61 ∷ v) ≡ k ++ v
whole t n v l m k is named equals = from_equals t n v l m is named ∙ ap (λ x. x ++ v) (sym equals)

-- what does not fit does not fit with more after it
refused : {A : Type 0} (r : Result A Error) (n : ℕ) (x : Error) (w : List ℕ) → IsErrAnd r (λ e. e ≡ x) → (x ≡ ParamsInvalid) × (127 < n) → n ≤ length w → IfErr r (λ e. (e ≡ ParamsInvalid) × (127 < length w))
refused r n x w gives cause more = let p = err_from_is_err_and r gives in rw p.1 (p.2 ∙ cause.0, omega (arith, cause.1))

both : (w a b : List ℕ) → w ≡ a ++ b → length w ≡ length a + length b
both w a b is = ap length is ∙ length-append a b

part : (w a b r : List ℕ) → w ≡ (a ++ b) ++ r → length a + length b ≤ length w
part w a b r is = omega (arith, both w (a ++ b) r is, length-append a b)

pub returns-in_err-line-clause-ok : goal.returns-in_err-line-clause-ok
returns-in_err-line-clause-ok c = IfOk-from_err _ _ c.from_residual.ensures.0

pub returns-in_err-line-clause-fits : goal.returns-in_err-line-clause-fits
returns-in_err-line-clause-fits c = IfOk-from_err _ _ c.from_residual.ensures.0

pub returns-in_err-line-clause-err : goal.returns-in_err-line-clause-err
returns-in_err-line-clause-err c =
    let p = c.args.name.now ++ 61 ∷ c.args.value.now in
    let w = both _ _ p (from_pair c.args.text.now p) in
    refused _ _ _ _ c.from_residual.ensures.1 c.in_err-line.ensures.err (omega (arith, w))

pub returns-in_err-push-clause-ok : goal.returns-in_err-push-clause-ok
returns-in_err-push-clause-ok c = IfOk-from_err _ _ c.from_residual-in_err-push.ensures.0

pub returns-in_err-push-clause-fits : goal.returns-in_err-push-clause-fits
returns-in_err-push-clause-fits c = IfOk-from_err _ _ c.from_residual-in_err-push.ensures.0

pub returns-in_err-push-clause-err : goal.returns-in_err-push-clause-err
returns-in_err-push-clause-err c =
    refused _ _ _ _ c.from_residual-in_err-push.ensures.1 c.in_err-push.ensures.err
    (part _ _ _ _ (from_name _ _ _ _ c.in_ok-line.ensures.ok))

pub returns-in_err-push-2-clause-ok : goal.returns-in_err-push-2-clause-ok
returns-in_err-push-2-clause-ok c = IfOk-from_err _ _ c.from_residual-in_err-push-2.ensures.0

pub returns-in_err-push-2-clause-fits : goal.returns-in_err-push-2-clause-fits
returns-in_err-push-2-clause-fits c = IfOk-from_err _ _ c.from_residual-in_err-push-2.ensures.0

pub returns-in_err-push-2-clause-err : goal.returns-in_err-push-2-clause-err
returns-in_err-push-2-clause-err c =
    refused _ _ _ _ c.from_residual-in_err-push-2.ensures.1 c.in_err-push-2.ensures.err
    (part _ _ (61 ∷ []) _ (from_equals _ _ _ _ _ c.in_ok-line.ensures.ok c.in_ok-push.ensures.ok))

pub returns-in_err-push-3-clause-ok : goal.returns-in_err-push-3-clause-ok
returns-in_err-push-3-clause-ok c = IfOk-from_err _ _ c.from_residual-in_err-push-3.ensures.0

pub returns-in_err-push-3-clause-fits : goal.returns-in_err-push-3-clause-fits
returns-in_err-push-3-clause-fits c = IfOk-from_err _ _ c.from_residual-in_err-push-3.ensures.0

pub returns-in_err-push-3-clause-err : goal.returns-in_err-push-3-clause-err
returns-in_err-push-3-clause-err c =
    let w = both _ _ c.args.value.now (whole _ _ c.args.value.now _ _ _ c.in_ok-line.ensures.ok c.in_ok-push.ensures.ok c.in_ok-push-2.ensures.ok) in
    refused _ _ _ _ c.from_residual-in_err-push-3.ensures.1 c.in_err-push-3.ensures.err (omega (arith, w))

pub returns-clause-ok : goal.returns-clause-ok
returns-clause-ok c = c.in_ok-push-3.ensures.ok ∙ sym (whole _ _ _ _ _ _ c.in_ok-line.ensures.ok c.in_ok-push.ensures.ok c.in_ok-push-2.ensures.ok)

pub returns-clause-fits : goal.returns-clause-fits
returns-clause-fits c =
    let w = both _ _ c.args.value.now (whole _ _ c.args.value.now _ _ _ c.in_ok-line.ensures.ok c.in_ok-push.ensures.ok c.in_ok-push-2.ensures.ok) in
    omega (arith, w, c.in_ok-push-3.ensures.fits)
