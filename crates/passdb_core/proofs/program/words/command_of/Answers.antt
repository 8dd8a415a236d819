use lib.Pointwise.{bytes_decides}
use Rattle.std.proofs.Common.{sym, ◌∙◌}
use Rattle.std.specs.String.{string_bytes}
use Rattle.passdb_core.proofs.Asking.{map_none, none_drawn, none_left, three_words}
use Rattle.passdb_core.proofs.program.words.command_of.Goals as goal

pub returns-then-eq : goal.returns-then-eq
returns-then-eq c = record {
  spelled = three_words _ _ _ _ _ _ _ _ c.in_ok-rest.ensures.found c.in_ok-rounds.ensures.found.0 c.in_ok-word.ensures (map_none string_bytes c.in_ok-word.rest.now (none_left c.is_empty.result _ c.is_empty.ensures c.if-not-is_empty.false)) ((bytes_decides _ _).0 (sym c.eq.ensures ∙ c.if-eq.true));
  some_rounds = c.in_ok-rounds.ensures.found.1;
  few_rounds = c.in_ok-rounds.ensures.found.2;
  drawn = none_drawn;
}
