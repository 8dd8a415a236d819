use Rattle.std.proofs.Common.{ℕ, List, ◌++◌, take}
use Rattle.frame.specs.DueText.{joined}
use Rattle.transfer.proofs.sample.lines.feed.Given as goal

abbrev pub invariant-loop-line : goal.invariant-loop-line
invariant-loop-line g l = (m : List ℕ) → g.H.Digest.holds l.initial.hasher m → g.H.Digest.holds l.hasher (m ++ joined (take l.line-index l.lines))
