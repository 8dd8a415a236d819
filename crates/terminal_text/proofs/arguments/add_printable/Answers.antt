use Rattle.std.proofs.Common.{◌++◌, ap, sym, ◌∙◌, string_bytes}
use Rattle.std.proofs.lemmas.Iterator.{YieldsList-from_chars}
use Rattle.std.proofs.lemmas.Iterator.Consumers.{YieldsList-end}
use Rattle.std.proofs.lemmas.List.{flat_map_more, map-id}
use Rattle.std.specs.Char.{encode_utf8}
use Rattle.std.specs.List.{flat_map}
use Rattle.terminal_text.specs.Arguments.{text_char}
use Rattle.terminal_text.proofs.arguments.add_printable.Goals as goal

pub loop-c-preserved : goal.loop-c-preserved
loop-c-preserved c =
    let before = string_bytes c.loop-c.text in
    let here = c.in-Some.c in
    c.in_ok-push.ensures.bytes ∙ ap (λ d. before ++ encode_utf8 d) c.text_char.ensures ∙ ap (λ xs. xs ++ encode_utf8 (text_char here)) c.loop-c.invariant
    ∙ flat_map_more (λ d. encode_utf8 (text_char d)) (string_bytes c.args.text.now) c.loop-c.yielded here

pub returns : goal.returns
returns c =
    let all = (YieldsList-end (YieldsList-from_chars c.args.message.now c.utf8.message cc) c.loop-c.yielded _ c.loop-c.yielded_by _ _ c.in-None.is c.next.ensures.steps).0 in
    c.loop-c.invariant ∙ ap (λ xs. string_bytes c.args.text.now ++ flat_map (λ d. encode_utf8 (text_char d)) xs) (sym (map-id c.loop-c.yielded) ∙ all)
