use Rattle.std.proofs.Common.{◌≡◌, ◌≤◌, ◌<◌, true, false, sym, inr, arith, rules}
use Rattle.std.specs.Bool.{Decides}
use Rattle.octet_core.specs.Draw.{Lacks}
use Rattle.rekey_core.specs.Anew.{change_draws}
use Rattle.rekey_core.specs.Kinds.{renewed_mac}
use Rattle.rekey_core.specs.Opened.{DrawsTooLong}
use Rattle.rekey_core.specs.declared.kinds.Kinds.TheVariants.{Renewed}
use Rattle.rekey_core.specs.Upgraded.{seal_rounds}
use Rattle.rekey_core.proofs.Held.{can_renew}
use Rattle.rekey_core.proofs.Settling.{undrawn_of}
use Rattle.rekey_core.proofs.Upgrading.{is_over, refused_opening}
use Rattle.rekey_core.proofs.old_stores.renewed_store.Goals as goal

pub returns-then-not-is_within-clause-refused : goal.returns-then-not-is_within-clause-refused
returns-then-not-is_within-clause-refused g c =
    let d : Decides c.is_within.result (seal_rounds c.args.renewal.rounds c.args.contents.now c.args.opened.now.contents ≤ c.args.renewal.seal_limit) = rw (sym c.as_slice.ensures) c.is_within.ensures in
    let no : c.is_within.result ≡ false = first_of (cc, search rules) in
    inr (is_over c.is_within.result _ _ d no)

pub sealed_parts-requires-clause-open : goal.sealed_parts-requires-clause-open
sealed_parts-requires-clause-open g c = (c.requires.open.0, can_renew c.args.renewal.rounds c.requires.open.0, c.requires.open.1)

pub returns-in-Ok-clause-within : goal.returns-in-Ok-clause-within
returns-in-Ok-clause-within g c =
    let d : Decides c.is_within.result (seal_rounds c.args.renewal.rounds c.args.contents.now c.args.opened.now.contents ≤ c.args.renewal.seal_limit) = rw (sym c.as_slice.ensures) c.is_within.ensures in
    let yes : c.is_within.result ≡ true = first_of (cc, search rules) in
    d.0 yes

pub returns-in-Ok-clause-over : goal.returns-in-Ok-clause-over
returns-in-Ok-clause-over g c =
    let d : Decides c.is_within.result (seal_rounds c.args.renewal.rounds c.args.contents.now c.args.opened.now.contents ≤ c.args.renewal.seal_limit) = rw (sym c.as_slice.ensures) c.is_within.ensures in
    let yes : c.is_within.result ≡ true = first_of (cc, search rules) in
    λ over. absurd (omega (arith, d.0 yes, over))

pub returns-in-Err-clause-over : goal.returns-in-Err-clause-over
returns-in-Err-clause-over g c =
    let d : Decides c.is_within.result (seal_rounds c.args.renewal.rounds c.args.contents.now c.args.opened.now.contents ≤ c.args.renewal.seal_limit) = rw (sym c.as_slice.ensures) c.is_within.ensures in
    let yes : c.is_within.result ≡ true = first_of (cc, search rules) in
    λ over. absurd (omega (arith, d.0 yes, over))

pub returns-in-Err-clause-refused : goal.returns-in-Err-clause-refused
returns-in-Err-clause-refused g c =
    let to = Renewed c.args.renewal.rounds in
    let left = g.D.Draw.left c.args.draw.now in
    refused_opening (λ e. ⊥) (c.args.renewal.seal_limit < seal_rounds c.args.renewal.rounds c.args.contents.now c.args.opened.now.contents)
    (Lacks (g.D.Draw.faults c.args.draw.now) (g.D.Draw.faults c.sealed_parts.new.draw) left (change_draws to c.args.contents.now c.args.opened.now.contents))
    (DrawsTooLong to c.args.version (renewed_mac c.args.renewal.rounds) c.args.contents.now c.args.opened.now.contents c.args.opened.now.keys left (g.D.Draw.left c.sealed_parts.new.draw)) c.in-Err.e c.in-Err.ensures.err

pub returns-in-Err-clause-undrawn : goal.returns-in-Err-clause-undrawn
returns-in-Err-clause-undrawn g c = λ n. undrawn_of _ _ _ c.in-Err.e c.in-Err.ensures.err n
