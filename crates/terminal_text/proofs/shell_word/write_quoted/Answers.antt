use Rattle.std.proofs.Common.{[], ap, refl, sym, ◌∙◌}
use Rattle.std.proofs.Output.{has_written_append, has_written_of_eq}
use Rattle.std.proofs.lemmas.Iterator.{YieldsList-from_chars}
use Rattle.std.proofs.lemmas.Iterator.Consumers.{YieldsList-end}
use Rattle.std.proofs.lemmas.List.{flat_map_more, map-id}
use Rattle.std.specs.List.{flat_map}
use Rattle.terminal_text.specs.ShellWord.{shell_char}
use Rattle.terminal_text.proofs.shell_word.write_quoted.Goals as goal

pub loop-c-preserved : goal.loop-c-preserved
loop-c-preserved g c = λ plain.
    let so_far = c.loop-c.invariant plain in
    has_written_of_eq _ _ _ _ _ (flat_map_more shell_char [] c.loop-c.yielded c.in-Some.c)
    (has_written_append _ _ _ _ _ _ so_far (c.in_ok-write_quoted_char.ensures so_far.plain refl))

pub returns : goal.returns
returns g c = λ plain ok.
    let all = (YieldsList-end (YieldsList-from_chars c.args.text.now c.utf8.text cc) c.loop-c.yielded _ c.loop-c.yielded_by _ _ c.in-None.is c.next.ensures.steps).0 in
    has_written_of_eq _ _ _ _ _ (ap (flat_map shell_char) (sym (map-id c.loop-c.yielded) ∙ all)) (c.loop-c.invariant plain)
