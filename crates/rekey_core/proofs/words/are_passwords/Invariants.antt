use Rattle.std.proofs.Common.{◌≤◌, All, length, map, take}
use Rattle.std.specs.String.{string_bytes}
use Rattle.transfer.specs.Limits.{password_limit}
use Rattle.rekey_core.proofs.words.are_passwords.Given as goal

abbrev pub invariant-loop-word : goal.invariant-loop-word
invariant-loop-word l = All (λ password. length password ≤ password_limit) (take l.word-index (map string_bytes l.words))
