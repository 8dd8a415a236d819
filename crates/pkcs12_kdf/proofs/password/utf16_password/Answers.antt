use Rattle.std.proofs.Common.{◌≡◌, [], ◌∷◌, ◌++◌, ap, ◌∙◌, sym, length, arith}
use Rattle.std.specs.List.{flat_map}
use Rattle.std.specs.Str.{chars}
use Rattle.std.proofs.lemmas.Iterator.{YieldsList-from_chars}
use Rattle.std.proofs.lemmas.Iterator.Consumers.{YieldsList-end}
use Rattle.std.proofs.lemmas.List.{flat_map_more, map-id}
use Rattle.std.proofs.lemmas.Result.{IfOk-from_err}
use Rattle.std.proofs.lemmas.Slice.{pushed}
use Rattle.pkcs12_kdf.specs.Password.{units_of_char, bmp_password}
use Rattle.pkcs12_kdf.proofs.PasswordSizes.{password_fits}
use Rattle.pkcs12_kdf.proofs.password.utf16_password.Goals as goal

pub loop-character-preserved : goal.loop-character-preserved
loop-character-preserved c =
    let x = c.in-Some.character in
    c.in_ok-push_char.ensures ∙ ap (λ s. s ++ units_of_char x) c.loop-character.invariant ∙ flat_map_more units_of_char [] c.loop-character.yielded x

pub returns-in_err-push_char-clause-ok : goal.returns-in_err-push_char-clause-ok
returns-in_err-push_char-clause-ok c = IfOk-from_err _ _ c.from_residual.ensures.0

pub returns-in_err-push_char-clause-size : goal.returns-in_err-push_char-clause-size
returns-in_err-push_char-clause-size c = IfOk-from_err _ _ c.from_residual.ensures.0

pub returns-in_err-extend_from_slice-clause-ok : goal.returns-in_err-extend_from_slice-clause-ok
returns-in_err-extend_from_slice-clause-ok c = IfOk-from_err _ _ c.from_residual-in_err-extend_from_slice.ensures.0

pub returns-in_err-extend_from_slice-clause-size : goal.returns-in_err-extend_from_slice-clause-size
returns-in_err-extend_from_slice-clause-size c = IfOk-from_err _ _ c.from_residual-in_err-extend_from_slice.ensures.0

pub returns-clause-ok : goal.returns-clause-ok
unfolding bmp_password
returns-clause-ok c =
    let all = (YieldsList-end (YieldsList-from_chars c.args.text.now c.utf8.text cc) c.loop-character.yielded _ c.loop-character.yielded_by _ _ c.in-None.is c.next.ensures.steps).0 in
    let same : c.loop-character.yielded ≡ chars c.args.text.now = sym (map-id c.loop-character.yielded) ∙ all in
    c.from_vec.ensures ∙ pushed (0 ∷ 0 ∷ []) (c.loop-character.invariant ∙ ap (flat_map units_of_char) same) c.in_ok-extend_from_slice.was c.extend_from_slice.ensures.items

pub returns-clause-size : goal.returns-clause-size
returns-clause-size c = omega (arith, ap length (returns-clause-ok c), password_fits c.args.text.now)
