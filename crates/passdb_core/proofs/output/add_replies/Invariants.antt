use Rattle.std.proofs.Common.{◌≡◌, ◌++◌, take}
use Rattle.std.specs.List.{flat_map}
use Rattle.frame.specs.DueText.{joined}
use Rattle.passdb_core.specs.Program.{reply_line}
use Rattle.passdb_core.proofs.output.add_replies.Given as goal

abbrev pub invariant-loop-reply : goal.invariant-loop-reply
invariant-loop-reply l = joined l.lines ≡ joined l.fn.lines ++ flat_map reply_line (take l.reply-index l.replies)
