use Rattle.std.proofs.Common.{arith, ◌≡◌, ◌∙◌, ap, ap₂, ℕ, ◌+◌, ◌-◌, ◌≤◌, ◌++◌, List, length, drop}
use Rattle.std.proofs.lemmas.List.{length-take, length-take-le, length-drop, length-append, take_at}
use Rattle.mac_modes.specs.Gcm.{gcm, tag}
use Rattle.mac_modes.proofs.Sealed.{sealed, behind}
use Rattle.mac_modes.proofs.gcm.gcm_encrypt.Goals as goal

pub returns-clause-sealed : goal.returns-clause-sealed
unfolding gcm
returns-clause-sealed g c =
    let E = g.C.BlockCipher.encryption c.args.cipher.now in
    let nonce = c.args.nonce.now in
    let b = c.args.buffer.now in
    let pos = c.args.pos in
    let t = c.xor_stream.new.text in
    let k = pos + 16 - pos in
    let room : pos + 16 ≤ length b = omega arith in
    let lt : length t ≡ pos = c.xor_stream.auto.text ∙ length-take-le pos b (omega arith) in
    let whole = t ++ drop pos b in
    let l : length c.copy_from_slice.new.self ≡ 16 =
    c.copy_from_slice.ensures.len ∙ length-take k (drop pos whole) ∙ omega (arith, length-drop pos whole, length-append t (drop pos b), length-drop pos b, lt) in
    sealed b t c.copy_from_slice.new.self pos k lt (omega arith) room l
    ∙ ap₂ (λ (x y : List ℕ). x ++ y) c.xor_stream.ensures
    (c.copy_from_slice.ensures.after ∙ c.tag_of-tag.ensures ∙ ap (tag E nonce) (take_at t (drop pos b) pos lt ∙ c.xor_stream.ensures))

pub returns-clause-behind : goal.returns-clause-behind
returns-clause-behind g c =
    let b = c.args.buffer.now in
    let pos = c.args.pos in
    let t = c.xor_stream.new.text in
    let k = pos + 16 - pos in
    let room : pos + 16 ≤ length b = omega arith in
    let lt : length t ≡ pos = c.xor_stream.auto.text ∙ length-take-le pos b (omega arith) in
    let whole = t ++ drop pos b in
    let l : length c.copy_from_slice.new.self ≡ 16 =
    c.copy_from_slice.ensures.len ∙ length-take k (drop pos whole) ∙ omega (arith, length-drop pos whole, length-append t (drop pos b), length-drop pos b, lt) in
    behind b t c.copy_from_slice.new.self pos k lt (omega arith) room l
