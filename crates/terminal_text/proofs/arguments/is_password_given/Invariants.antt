use Rattle.std.proofs.Common.{◌≡◌, drop, map, string_bytes}
use Rattle.terminal_text.specs.Arguments.{is_password_given}
use Rattle.terminal_text.proofs.arguments.is_password_given.Given as goal

abbrev pub invariant-loop-argument : goal.invariant-loop-argument
invariant-loop-argument l =
    is_password_given (map string_bytes (drop l.argument-index l.arguments)) ≡ is_password_given (map string_bytes l.arguments)
