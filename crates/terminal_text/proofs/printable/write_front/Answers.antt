use Rattle.std.proofs.Common.{[], ◌≡◌, ◌∙◌, ap, arith, refl, sym}
use Rattle.std.proofs.Output.{has_written_append, has_written_of_eq}
use Rattle.std.proofs.lemmas.List.{nil_from_length}
use Rattle.std.proofs.lemmas.Str.{IsUtf8-past_char, chars-nil, chars_past_char}
use Rattle.std.specs.Str.{chars}
use Rattle.std.specs.Str.Iter.{chars_rest}
use Rattle.terminal_text.proofs.Text.{front_long, front_more, front_short, rest_more}
use Rattle.terminal_text.proofs.printable.write_front.Goals as goal

pub loop-place-preserved : goal.loop-place-preserved
loop-place-preserved g c =
    let i = c.loop-place.invariant in
    let step = c.in-Some.ensures.steps.0 in
    let front = sym i.rest ∙ chars_past_char (chars_rest c.loop-place.rest) _ c.in-Some.c i.utf8 step in
    record {
      utf8 = IsUtf8-past_char (chars_rest c.loop-place.rest) _ c.in-Some.c i.utf8 step;
      rest = rest_more (chars c.args.text.now) c.loop-place._place c.in-Some.c _ front;
      wrote = λ plain. has_written_of_eq _ _ _ _ _ (front_more c.args.in_quotes (chars c.args.text.now) c.loop-place._place c.in-Some.c _ front)
          (has_written_append _ _ _ _ _ _ (i.wrote plain) (c.in_ok-write_shown-in-Some.ensures (i.wrote plain).plain refl));
    }

pub returns-in-None : goal.returns-in-None
returns-in-None g c = λ plain ok.
    let i = c.loop-place.invariant in
    let none : chars (chars_rest c.loop-place.rest) ≡ chars [] = ap chars (nil_from_length _ c.in-None.ensures.steps.0.0) in
    has_written_of_eq _ _ _ _ _ (front_short c.args.in_quotes c.args.text.now c.loop-place._place (omega arith) (sym i.rest ∙ none ∙ chars-nil)) (i.wrote plain)

pub returns : goal.returns
returns g c = λ plain ok.
    let i = c.loop-place.invariant in
    let all : c.loop-place._place ≡ 200 = grind arith in
    has_written_of_eq _ _ _ _ _ (front_long c.args.in_quotes c.args.text.now c.loop-place._place all) (i.wrote plain)
