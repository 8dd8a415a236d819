use Rattle.std.proofs.Common.{◌≡◌, ◌≤◌, ◌∙◌, ℕ, List, Some, None, ap, length, subst, take}
use Rattle.std.specs.Prelude.{IfSome, IfNone}
use Rattle.block_core.specs.Tdes.{inv_tdes}
use Rattle.mac_modes.specs.Cbc.{uncbc}
use Rattle.pkcs5.specs.Opening.{unpadded}
use Rattle.legacy_store.proofs.Opened.{two_keys}
use Rattle.legacy_store.proofs.old_text.decrypt_two_key.Goals as goal

pub decrypt_under-requires-clause-key : goal.decrypt_under-requires-clause-key
decrypt_under-requires-clause-key c = ap length (c.as_slice.ensures ∙ c.in_ok-keys.ensures) ∙ two_keys c.args.key.now c.requires.key

pub returns-clause-some : goal.returns-clause-some
returns-clause-some c =
    subst (λ (x : List ℕ). IfSome c.decrypt_under.result (λ len. (len ≤ length c.decrypt_under.new.buffer) × (unpadded 8 (uncbc (inv_tdes x) 8 c.args.iv.now c.args.buffer.now) ≡ Some (take len c.decrypt_under.new.buffer))))
    (c.as_slice.ensures ∙ c.in_ok-keys.ensures) c.decrypt_under.ensures.some

pub returns-clause-none : goal.returns-clause-none
returns-clause-none c =
    subst (λ (x : List ℕ). IfNone c.decrypt_under.result (unpadded 8 (uncbc (inv_tdes x) 8 c.args.iv.now c.args.buffer.now) ≡ None)) (c.as_slice.ensures ∙ c.in_ok-keys.ensures) c.decrypt_under.ensures.none
