use Rattle.std.proofs.Common.{◌≡◌, ◌≤◌, List, ℕ, Some, None, ap, subst, ◌∙◌, length, take}
use Rattle.std.specs.Prelude.{IfSome, IfNone}
use Rattle.sha1.specs.Sha1.{sha1}
use Rattle.mac_modes.specs.Sha1Laws.{length-sha1}
use Rattle.pkcs5.specs.Opening.{unpadded}
use Rattle.pkcs12_kdf.proofs.Texts.{length-derive12}
use Rattle.p12.proofs.Opened.{text_of_keys}
use Rattle.p12.proofs.opening.open_blocks.Goals as goal

pub decrypt_in_place-requires-clause-key : goal.decrypt_in_place-requires-clause-key
decrypt_in_place-requires-clause-key g c = ap length (c.as_slice.ensures ∙ c.in_ok-key.ensures.value) ∙ length-derive12 sha1 _ _ _ 1 24 c.requires.rounds length-sha1

pub decrypt_in_place-requires-clause-iv : goal.decrypt_in_place-requires-clause-iv
decrypt_in_place-requires-clause-iv g c = ap length (c.as_slice-2.ensures ∙ c.in_ok-iv.ensures.value) ∙ length-derive12 sha1 _ _ _ 2 8 c.requires.rounds length-sha1

pub returns-clause-some : goal.returns-clause-some
returns-clause-some g c =
    let is = text_of_keys c.args.password.now c.args.params.now.salt.now c.args.params.now.iterations c.args.buffer.now c.as_slice.result.now c.as_slice-2.result.now (c.as_slice.ensures ∙ c.in_ok-key.ensures.value) (c.as_slice-2.ensures ∙ c.in_ok-iv.ensures.value) in
    subst (λ (t : List ℕ). IfSome c.decrypt_in_place.result (λ n. (n ≤ length c.decrypt_in_place.new.buffer) × (unpadded 8 t ≡ Some (take n c.decrypt_in_place.new.buffer)))) is c.decrypt_in_place.ensures.some

pub returns-clause-none : goal.returns-clause-none
returns-clause-none g c =
    let is = text_of_keys c.args.password.now c.args.params.now.salt.now c.args.params.now.iterations c.args.buffer.now c.as_slice.result.now c.as_slice-2.result.now (c.as_slice.ensures ∙ c.in_ok-key.ensures.value) (c.as_slice-2.ensures ∙ c.in_ok-iv.ensures.value) in
    subst (λ (t : List ℕ). IfNone c.decrypt_in_place.result (unpadded 8 t ≡ None)) is c.decrypt_in_place.ensures.none

pub returns-clause-left : goal.returns-clause-left
returns-clause-left g c =
    c.decrypt_in_place.ensures.left ∙ text_of_keys c.args.password.now c.args.params.now.salt.now c.args.params.now.iterations c.args.buffer.now c.as_slice.result.now c.as_slice-2.result.now (c.as_slice.ensures ∙ c.in_ok-key.ensures.value) (c.as_slice-2.ensures ∙ c.in_ok-iv.ensures.value)
