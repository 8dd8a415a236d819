use Rattle.std.proofs.Common.{◌≡◌, ℕ, ◌+◌, ◌++◌, List, [], take}
use Rattle.std.specs.Int.{w32, to_be_bytes}
use Rattle.pbkdf2.specs.Pbkdf2.{chained, xor_through}
use Rattle.pbkdf2.proofs.block.derive_block.Given as goal

abbrev pub invariant-loop-turn : goal.invariant-loop-turn
invariant-loop-turn g l = record {
  last : (k : List ℕ) → g.P.Prf.holds l.keyed k [] → take g.P.Prf.OUTPUT l.last ≡ chained (g.P.Prf.prf k) (g.P.Prf.prf k (l.salt ++ to_be_bytes w32 l.number)) l.turn;
  sum : (k : List ℕ) → g.P.Prf.holds l.keyed k [] → take g.P.Prf.OUTPUT l.sum ≡ xor_through (g.P.Prf.prf k) (g.P.Prf.prf k (l.salt ++ to_be_bytes w32 l.number)) l.turn;
  steps : l.steps ≡ l.fn.steps + (l.turn + 1);
}
