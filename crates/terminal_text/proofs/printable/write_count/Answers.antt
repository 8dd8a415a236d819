use Rattle.std.proofs.Common.{◌≡◌, length, rules, refl}
use Rattle.std.proofs.Output.{has_written_of_eq, writes_in_calls_nil}
use Rattle.std.proofs.lemmas.Str.{chars_from_encodes}
use Rattle.std.specs.Str.{chars}
use Rattle.terminal_text.proofs.Text.{count_told, count_untold}
use Rattle.terminal_text.proofs.printable.write_count.Goals as goal

pub returns-in_ok-write : goal.returns-in_ok-write
returns-in_ok-write g c = λ plain ok.
    let n : c.count-count.result ≡ length (chars c.args.text.now) = search (rules, chars_from_encodes) in
    has_written_of_eq _ _ _ _ _ (count_told c.args.text.now c.count-count.result n (search rules)) (c.in_ok-write.ensures.writes plain refl)

pub returns-else-count-gt-MOST : goal.returns-else-count-gt-MOST
returns-else-count-gt-MOST g c = λ plain ok.
    let n : c.count-count.result ≡ length (chars c.args.text.now) = search (rules, chars_from_encodes) in
    has_written_of_eq _ _ _ _ _ (count_untold c.args.text.now c.count-count.result n (search rules)) (record { wrote = writes_in_calls_nil _ _; plain = plain })
