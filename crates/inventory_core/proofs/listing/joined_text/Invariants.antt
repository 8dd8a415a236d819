use Rattle.std.proofs.Common.{◌≡◌, take}
use Rattle.std.specs.String.{string_bytes}
use Rattle.frame.specs.DueText.{joined}
use Rattle.inventory_core.proofs.listing.joined_text.Given as goal

abbrev pub invariant-loop-line : goal.invariant-loop-line
invariant-loop-line l = string_bytes l.text ≡ joined (take l.line-index l.lines)
