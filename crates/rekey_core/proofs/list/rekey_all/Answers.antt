use Rattle.std.proofs.Common.{◌<◌, ◌^◌, length, arith, sym, ◌∙◌}
use Rattle.rekey_core.specs.Changes.{RefusesOne}
use Rattle.std.specs.Prelude.{Err}
use Rattle.rekey_core.specs.Rekeyed.{IsSettled, Rekeys}
use Rattle.rekey_core.proofs.AllSettled.{settled_made, settled_refusal, undrawn_at}
use Rattle.rekey_core.proofs.Listing.{done_more, first_refusal, new_short, old_short}
use Rattle.rekey_core.proofs.list.rekey_all.Goals as goal

pub rekey-requires-clause-old : goal.rekey-requires-clause-old
rekey-requires-clause-old g c = rw (c.as_str.ensures) (old_short (λ p. length p < 2 ^ 57) _ c.args.passwords.now c.in-Some.others.now c.loop-password.password-index _ _ _ _ _ _ _ c.loop-password.old.now _ c.loop-password.invariant.0 c.requires.short)

pub rekey-requires-clause-new : goal.rekey-requires-clause-new
rekey-requires-clause-new g c = rw (c.as_str-in-loop-password.ensures) (new_short (λ p. length p < 2 ^ 57) _ c.args.passwords.now c.in-Some.others.now c.loop-password.password-index _ _ _ _ _ _ _ _ _ c.password-item.result c.loop-password.invariant.0 c.requires.short (omega arith) c.password-item.is)

pub loop-password-preserved : goal.loop-password-preserved
loop-password-preserved g c =
    let one : Rekeys c.loop-password.changed c.loop-password.old.now c.password-item.result c.args.limit (g.D.Draw.left c.loop-password.draw) (g.D.Draw.left c.rekey.new.draw) c.loop-password.steps c.rekey.new.steps c.in-Ok-rekey.other =
    rw (sym c.as_slice-in-loop-password.ensures, sym c.as_str.ensures, sym c.as_str-in-loop-password.ensures) c.in-Ok-rekey.ensures.changed in (
      done_more _ c.args.passwords.now c.in-Some.others.now c.loop-password.password-index c.args.limit _ _ _ _ _ _ _ _ _ c.loop-password.old.now c.loop-password.changed c.password-item.result c.in-Ok-rekey.other c.loop-password.invariant.0 (omega arith)
          c.password-item.is c.rekey.ensures.count c.rekey.ensures.at_most one,
      λ z. absurd (omega (arith, z)),
      c.in-Ok-rekey.ensures.no_fault ∙ c.loop-password.invariant.2,
    )

pub returns-in-Err-clause-refused : goal.returns-in-Err-clause-refused
returns-in-Err-clause-refused g c =
    let why : RefusesOne c.loop-password.changed c.loop-password.old.now c.args.limit (g.D.Draw.left c.loop-password.draw) (g.D.Draw.left c.rekey.new.draw) (g.D.Draw.faults c.loop-password.draw) (g.D.Draw.faults c.rekey.new.draw) c.loop-password.steps c.rekey.new.steps c.in-Err.e =
    rw (sym c.as_slice-in-loop-password.ensures, sym c.as_str.ensures) c.in-Err.ensures.refused in
    first_refusal c.args.store.now c.args.passwords.now c.in-Some.others.now c.loop-password.password-index c.args.limit _ _ _ _ _ _ _ _ _ c.loop-password.old.now c.loop-password.changed c.password-item.result c.in-Err.e c.loop-password.invariant.0 (omega arith)
    c.password-item.is why

pub returns-in-Err-clause-exact : goal.returns-in-Err-clause-exact
returns-in-Err-clause-exact g c =
    let why : IsSettled c.loop-password.changed c.loop-password.old.now c.args.limit (g.D.Draw.left c.loop-password.draw) (Err c.in-Err.e) =
    rw (sym c.as_slice-in-loop-password.ensures, sym c.as_str.ensures) c.in-Err.ensures.exact in
    settled_refusal c.args.store.now c.args.passwords.now c.in-Some.others.now c.loop-password.password-index c.args.limit _ _ _ _ _ _ c.loop-password.old.now c.loop-password.changed c.in-Err.e
    c.loop-password.invariant.0 (omega arith) why

pub returns-clause-exact : goal.returns-clause-exact
returns-clause-exact g c =
    settled_made c.args.store.now c.args.passwords.now c.in-Some.others.now c.loop-password.password-index c.args.limit _ _ _ _ _ _ c.loop-password.old.now c.loop-password.changed
    c.loop-password.invariant.0 c.loop-password-test.false c.requires.two

pub returns-in-Err-clause-undrawn : goal.returns-in-Err-clause-undrawn
returns-in-Err-clause-undrawn g c =
    let why : IsSettled c.loop-password.changed c.loop-password.old.now c.args.limit (g.D.Draw.left c.loop-password.draw) (Err c.in-Err.e) =
    rw (sym c.as_slice-in-loop-password.ensures, sym c.as_str.ensures) c.in-Err.ensures.exact in
    λ u. undrawn_at c.args.store.now c.args.passwords.now c.in-Some.others.now c.loop-password.password-index c.args.limit _ _ _ _ _ _ c.loop-password.old.now c.loop-password.changed c.in-Err.e _
    c.loop-password.invariant.0 (omega arith) why (λ z. c.in-Err.ensures.undrawn u ∙ c.loop-password.invariant.1 z) u
