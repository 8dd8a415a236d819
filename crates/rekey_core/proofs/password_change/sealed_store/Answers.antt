use Rattle.std.proofs.Common.{sym}
use Rattle.rekey_core.proofs.password_change.sealed_store.Goals as goal

pub sealed_parts-requires-clause-lists : goal.sealed_parts-requires-clause-lists
sealed_parts-requires-clause-lists g c = rw (c.as_slice-contents.ensures) c.requires.lists

pub sealed_parts-requires-clause-open : goal.sealed_parts-requires-clause-open
sealed_parts-requires-clause-open g c = rw (c.as_slice-contents.ensures) c.requires.open

pub returns-in-Ok-clause-sealed : goal.returns-in-Ok-clause-sealed
returns-in-Ok-clause-sealed g c = rw (sym c.as_slice-contents.ensures, sym c.mac_for-mac.ensures) c.in-Ok.ensures.sealed

pub returns-in-Err-clause-err : goal.returns-in-Err-clause-err
returns-in-Err-clause-err g c = rw (sym c.as_slice-contents.ensures, sym c.mac_for-mac.ensures) c.in-Err.ensures.err
