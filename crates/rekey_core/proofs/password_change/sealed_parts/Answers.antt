use Rattle.std.proofs.Common.{sym}
use Rattle.rekey_core.proofs.Settling.{refused_draw, refused_text}
use Rattle.rekey_core.proofs.password_change.sealed_parts.Goals as goal

pub returns-in-Err-clause-err : goal.returns-in-Err-clause-err
returns-in-Err-clause-err g c = refused_draw _ _ c.in-Err.e (rw (sym c.as_slice-bags.ensures) c.in-Err.ensures.err)

pub returns-in-Ok-sealed_text-clause-sealed : goal.returns-in-Ok-sealed_text-clause-sealed
returns-in-Ok-sealed_text-clause-sealed g c = record {
  drawn = c.in-Ok.drawn;
  exactly = rw (sym c.as_slice-bags.ensures) c.in-Ok.ensures.ok.0;
  took = c.in-Ok.ensures.ok.1;
  sealed = rw (sym c.as_slice.ensures) c.in-Ok-sealed_text.ensures.sealed;
}

pub returns-clause-err : goal.returns-clause-err
returns-clause-err g c = refused_text _ _ _ c.in-Err-sealed_text.e
    (λ f. record {
      drawn = c.in-Ok.drawn;
      exactly = rw (sym c.as_slice-bags.ensures) c.in-Ok.ensures.ok.0;
      took = c.in-Ok.ensures.ok.1;
      long = f;
    }) c.in-Err-sealed_text.ensures.err
