use Rattle.std.proofs.Common.{◌≡◌, List, length, subst, rules}
use Rattle.std.specs.Prelude.{All}
use Rattle.p12.specs.Building.{seen_entry, seen_salts, two_contents}
use Rattle.p12.specs.Canonical.{WritableContent, contents_canon}
use Rattle.p12.specs.Writing.{EncodesText}
use Rattle.p12.specs.declared.content_info.ContentInfo.{ContentInfo}
use Rattle.p12.proofs.MadeRefusals.{outer_fitting, outer_refused}
use Rattle.p12.proofs.store.outer_text.Goals as goal

pub returns-clause-fitting : goal.returns-clause-fitting
returns-clause-fitting c =
    let e = seen_entry c.args.entry in
    let o = c.in_ok-key.ensures.ok in
    let sealed = c.in_ok-sealed.sealed in
    let is : c.as_slice.result.now ≡ two_contents e (seen_salts c.args.salts.now) sealed.encrypted_content o.0 = search rules in
    let key_long : length c.args.salts.now.key ≡ 8 = search rules in
    let certificates_long : length c.args.salts.now.certificates ≡ 8 = search rules in
    outer_fitting e (seen_salts c.args.salts.now) sealed.encrypted_content o.0 key_long certificates_long c.in_ok-sealed.ensures.ok.ciphertext.size o.1.size c.in_ok-key.ensures.fitting c.in_ok-sealed.ensures.fitting c.all_to_der.result
    (subst (λ (x : List ContentInfo). EncodesText (All WritableContent x) (contents_canon x) c.all_to_der.result) is c.all_to_der.ensures)

pub returns-clause-err : goal.returns-clause-err
returns-clause-err c =
    let e = seen_entry c.args.entry in
    let o = c.in_ok-key.ensures.ok in
    let sealed = c.in_ok-sealed.sealed in
    let is : c.as_slice.result.now ≡ two_contents e (seen_salts c.args.salts.now) sealed.encrypted_content o.0 = search rules in
    let key_long : length c.args.salts.now.key ≡ 8 = search rules in
    let certificates_long : length c.args.salts.now.certificates ≡ 8 = search rules in
    outer_refused e (seen_salts c.args.salts.now) sealed.encrypted_content o.0 key_long certificates_long c.in_ok-sealed.ensures.ok.ciphertext.size o.1.size c.all_to_der.result
    (subst (λ (x : List ContentInfo). EncodesText (All WritableContent x) (contents_canon x) c.all_to_der.result) is c.all_to_der.ensures)
