-- Writing a text that is said in another way.
use Rattle.std.proofs.Common.{◌≡◌, ℕ, List, length, Option, Result, Ok, Err, subst}
use Rattle.asn1_core.specs.Writing.{Sink, Writes, Cause, IsOverlong}
use Rattle.asn1_core.specs.declared.error.Error.{Error}
use Rattle.asn1_core.specs.declared.error.Error.TheVariants.{Malformed, OidUnknown, Overlength, NoRoom, File, Memory}

cause_same : (bad bad2 over memory : Type 0) (room : Option ℕ) (n before now : ℕ) → (bad → bad2) → (e : Error) → Cause bad over memory room n before now e → Cause bad2 over memory room n before now e
cause_same bad bad2 over memory room n before now f Malformed c = f c
cause_same bad bad2 over memory room n before now f (OidUnknown o) c = c
cause_same bad bad2 over memory room n before now f Overlength c = c
cause_same bad bad2 over memory room n before now f NoRoom c = c
cause_same bad bad2 over memory room n before now f File c = c
cause_same bad bad2 over memory room n before now f Memory c = c

weaker : {W : Type 0} (S : Sink W) (bad bad2 over : Type 0) (t : List ℕ) (x y : W) (r : Result (Unit {0}) Error) → (bad → bad2) → Writes S bad over t x r y → Writes S bad2 over t x r y
weaker S bad bad2 over t x y (Ok u) f h = h
weaker S bad bad2 over t x y (Err e) f h = record { front = h.front; rest = h.rest; is = h.is; adds = h.adds; falls = h.falls; cause = cause_same bad bad2 over S.memory (S.room x) (length t) (S.faults x) (S.faults y) f e h.cause; rises = h.rises; stays = h.stays }

pub writes_same : {W : Type 0} (S : Sink W) (bad bad2 : Type 0) (t u : List ℕ) (x y : W) (r : Result (Unit {0}) Error) → t ≡ u → (bad → bad2)
    → Writes S bad (IsOverlong (length t)) t x r y → Writes S bad2 (IsOverlong (length u)) u x r y
writes_same S bad bad2 t u x y r e f h =
    subst (λ (l : List ℕ). Writes S bad2 (IsOverlong (length l)) l x r y) e (weaker S bad bad2 (IsOverlong (length t)) t x y r f h)
