use Rattle.std.proofs.Common.{◌≡◌, ap, ◌∙◌, length, take, rules}
use Rattle.std.proofs.lemmas.Slice.{overwrites, pushed}
use Rattle.std.proofs.Math.Seq.{take-append_seam}
use Rattle.sha1.specs.Sha1.{sha1}
use Rattle.mac_modes.specs.Sha1Laws.{length-sha1}
use Rattle.pkcs12_kdf.specs.Derivation.{derive12}
use Rattle.p12.proofs.Opened.{sealed_opens}
use Rattle.pkcs12_kdf.proofs.Texts.{length-derive12}
use Rattle.p12.proofs.sealing.seal_blocks.Goals as goal

pub encrypt_in_place-requires-clause-key : goal.encrypt_in_place-requires-clause-key
encrypt_in_place-requires-clause-key c = ap length (c.as_slice-2.ensures ∙ c.in_ok-key.ensures) ∙ length-derive12 sha1 _ _ _ 1 24 c.requires.rounds length-sha1

pub encrypt_in_place-requires-clause-iv : goal.encrypt_in_place-requires-clause-iv
encrypt_in_place-requires-clause-iv c = ap length (c.as_slice-3.ensures ∙ c.in_ok-iv.ensures) ∙ length-derive12 sha1 _ _ _ 2 8 c.requires.rounds length-sha1

pub returns-clause-opens : goal.returns-clause-opens
returns-clause-opens c =
    let q = c.args.password.now in
    let r = c.args.params.now.iterations in
    let same : c.from_vec.result ≡ c.encrypt_in_place.new.buffer = search (rules, overwrites) in
    let front : take (length c.args.plaintext.now) c.deref_mut.result.now ≡ c.args.plaintext.now =
    ap (take (length c.args.plaintext.now)) (c.deref_mut.ensures.value ∙ pushed _ c.in_ok-text.ensures.items c.in_ok-extend_from_slice.was c.extend_from_slice.ensures.items) ∙ take-append_seam c.args.plaintext.now _ in
    sealed_opens q c.args.params.now.salt r c.as_slice-2.result.now c.as_slice-3.result.now c.encrypt_in_place.new.buffer c.from_vec.result _ c.args.plaintext.now
    (c.as_slice-2.ensures ∙ c.in_ok-key.ensures ∙ ap (λ s. derive12 sha1 20 q s r 1 24) c.as_slice.ensures) (c.as_slice-3.ensures ∙ c.in_ok-iv.ensures ∙ ap (λ s. derive12 sha1 20 q s r 2 8) c.as_slice.ensures) same front c.encrypt_in_place.ensures
