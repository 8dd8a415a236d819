use Rattle.std.proofs.Common.{◌∙◌, ℕ, ap}
use Rattle.std.specs.Prelude.{nat_le}
use Rattle.legacy_store.specs.Scrypt.{scrypt_memory_limit}
use Rattle.legacy_store.proofs.ScryptCosts.{fits_by, not_taken}
use Rattle.legacy_store.proofs.scrypt_text.fits.Goals as goal

pub returns-in-Ok : goal.returns-in-Ok
returns-in-Ok c =
    let costs = c.in-Ok._costs in
    let h = c.in-Ok.ensures in
    ap (λ (m : ℕ). nat_le m scrypt_memory_limit) c.memory.ensures ∙ fits_by c.args.params.now costs.log_n costs.r costs.p h.0 h.1 h.2 costs.lawful

pub returns-in-Err : goal.returns-in-Err
returns-in-Err c = not_taken c.args.params.now c.in-Err.ensures.1
