-- A draw is tried only for a right password.
use Rattle.std.proofs.Common.{ℕ, ◌≡◌, List, Bool, true, false, Option, Some, None, refl, arith}
use Rattle.std.specs.Prelude.{nat_lt}
use Rattle.passdb_core.specs.Commands.{check, checked, does, does_to, draws}
use Rattle.passdb_core.specs.Entries.{Book, at}
use Rattle.passdb_core.specs.Entry.{Entry, right, test_steps}
use Rattle.passdb_core.specs.declared.reply.Reply.TheVariants.{Renewed}
use Rattle.passdb_command.specs.Work.{reply_of}

checked_renewed : (r n : ℕ) (is_right few : Bool) (w : List ℕ) → draws (checked r n is_right few w).change ≡ 16 → (checked r n is_right few w).reply ≡ Renewed
checked_renewed r n false few w h = grind (arith, h)
checked_renewed r n true true w h = refl
checked_renewed r n true false w h = grind (arith, h)

found_renewed : (r : ℕ) (found : Option Entry) (name w : List ℕ) → draws (does r found (check name w)).change ≡ 16 → (does r found (check name w)).reply ≡ Renewed
found_renewed r None name w h = grind (arith, h)
found_renewed r (Some e) name w h = checked_renewed r (test_steps e) (right e w) (nat_lt e.settings.rounds r) w h

pub drawn_is_renewed : (b : Book) (name w : List ℕ) → draws (does_to b.rounds b.entries (check name w)).change ≡ 16 → reply_of b (check name w) ≡ Renewed
drawn_is_renewed b name w h = found_renewed b.rounds (at b.entries name) name w h
