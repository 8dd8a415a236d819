use Rattle.std.proofs.Common.{◌≡◌, ◌≤◌, ◌*◌, ◌^◌, List, ℕ, Some, None, ap, subst, sym, ◌∙◌, length, take, arith}
use Rattle.std.specs.Prelude.{IfOk, IfSome, IfNone}
use Rattle.sha1.specs.Sha1.{sha1}
use Rattle.mac_modes.specs.Sha1Laws.{length-sha1}
use Rattle.pkcs5.specs.Opening.{unpadded}
use Rattle.pkcs12_kdf.specs.Derivation.{derive12}
use Rattle.pkcs12_kdf.proofs.Texts.{length-derive12}
use Rattle.legacy_store.specs.Scheme.{seen_old}
use Rattle.legacy_store.proofs.Opened.{key_most, key_steps, ok_steps, short_key, text_of_keys}
use Rattle.legacy_store.proofs.old_text.open_blocks.Goals as goal

pub key_counted-requires-clause-size : goal.key_counted-requires-clause-size
key_counted-requires-clause-size g c = subst (λ n. n ≤ 2 ^ 32) (sym c.key_octets-size.ensures) (short_key c.args.scheme.now.cipher)

pub decrypt_in_place-requires-clause-key : goal.decrypt_in_place-requires-clause-key
decrypt_in_place-requires-clause-key g c =
    ap length (c.as_slice.ensures ∙ c.in_ok-key.ensures.value) ∙ length-derive12 sha1 _ _ _ 1 _ c.requires.rounds length-sha1 ∙ c.key_octets-size.ensures

pub decrypt_in_place-requires-clause-iv : goal.decrypt_in_place-requires-clause-iv
decrypt_in_place-requires-clause-iv g c = ap length (c.as_slice-2.ensures ∙ c.in_ok-iv.ensures.value) ∙ length-derive12 sha1 _ _ _ 2 8 c.requires.rounds length-sha1

pub returns-clause-some : goal.returns-clause-some
returns-clause-some g c =
    let s = seen_old c.args.scheme.now in
    let key = c.as_slice.ensures ∙ c.in_ok-key.ensures.value ∙ ap (λ n. derive12 sha1 20 c.args.password.now s.salt s.iterations 1 n) c.key_octets-size.ensures in
    let is = text_of_keys s c.args.password.now c.args.buffer.now c.as_slice.result.now c.as_slice-2.result.now key (c.as_slice-2.ensures ∙ c.in_ok-iv.ensures.value) in
    subst (λ (t : List ℕ). IfOk c.decrypt_in_place.result (λ m. IfSome m (λ n. (n ≤ length c.decrypt_in_place.new.buffer) × (unpadded 8 t ≡ Some (take n c.decrypt_in_place.new.buffer))))) is
    c.decrypt_in_place.ensures.some

pub returns-clause-none : goal.returns-clause-none
returns-clause-none g c =
    let s = seen_old c.args.scheme.now in
    let key = c.as_slice.ensures ∙ c.in_ok-key.ensures.value ∙ ap (λ n. derive12 sha1 20 c.args.password.now s.salt s.iterations 1 n) c.key_octets-size.ensures in
    let is = text_of_keys s c.args.password.now c.args.buffer.now c.as_slice.result.now c.as_slice-2.result.now key (c.as_slice-2.ensures ∙ c.in_ok-iv.ensures.value) in
    subst (λ (t : List ℕ). IfOk c.decrypt_in_place.result (λ m. IfNone m (unpadded 8 t ≡ None))) is c.decrypt_in_place.ensures.none

pub returns-clause-steps : goal.returns-clause-steps
returns-clause-steps g c =
    let s = c.args.scheme.now in
    let one = key_steps s.cipher c.key_octets-size.result s.iterations c.args.steps.now c.key_counted.new.steps c.key_octets-size.ensures c.in_ok-key.ensures.steps in
    ok_steps c.decrypt_in_place.result c.args.steps.now c.key_counted-2.new.steps (2 * s.iterations) (omega (arith, one, c.in_ok-iv.ensures.steps))

pub returns-clause-at_most : goal.returns-clause-at_most
returns-clause-at_most g c =
    let s = c.args.scheme.now in
    let one = key_steps s.cipher c.key_octets-size.result s.iterations c.args.steps.now c.key_counted.new.steps c.key_octets-size.ensures c.in_ok-key.ensures.steps in
    (omega (arith, one, c.in_ok-iv.ensures.steps), omega (arith, one, c.in_ok-iv.ensures.steps))

pub returns-in_err-key-clause-at_most : goal.returns-in_err-key-clause-at_most
returns-in_err-key-clause-at_most g c =
    let s = c.args.scheme.now in
    let most = key_most s.cipher c.key_octets-size.result s.iterations c.args.steps.now c.key_counted.new.steps c.key_octets-size.ensures c.key_counted.ensures.at_most.1 in
    (c.key_counted.ensures.at_most.0, omega (arith, most))

pub returns-in_err-iv-clause-at_most : goal.returns-in_err-iv-clause-at_most
returns-in_err-iv-clause-at_most g c =
    let s = c.args.scheme.now in
    let one = key_steps s.cipher c.key_octets-size.result s.iterations c.args.steps.now c.key_counted.new.steps c.key_octets-size.ensures c.in_ok-key.ensures.steps in
    let most = c.key_counted-2.ensures.at_most in
    (omega (arith, one, most.0), omega (arith, one, most.1))
