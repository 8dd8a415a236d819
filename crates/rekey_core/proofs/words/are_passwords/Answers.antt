use Rattle.std.proofs.Common.{◌<◌, ◌≤◌, length, arith}
use Rattle.std.specs.String.{string_bytes}
use Rattle.transfer.specs.Limits.{password_limit}
use Rattle.rekey_core.proofs.WordLists.{all_so, none_so, so_far}
use Rattle.rekey_core.proofs.words.are_passwords.Goals as goal

pub returns-then-len-gt-PASSWORD_LIMIT : goal.returns-then-len-gt-PASSWORD_LIMIT
returns-then-len-gt-PASSWORD_LIMIT c =
    let long : password_limit < length (string_bytes c.word-item.result) = omega arith in
    none_so string_bytes c.args.words.now c.loop-word.word-index c.word-item.result (omega arith) c.word-item.is long

pub loop-word-preserved : goal.loop-word-preserved
loop-word-preserved c =
    let short : length (string_bytes c.word-item.result) ≤ password_limit = omega arith in
    so_far string_bytes c.args.words.now c.loop-word.word-index c.word-item.result (omega arith) c.word-item.is short c.loop-word.invariant

pub returns : goal.returns
returns c = all_so string_bytes c.args.words.now c.loop-word.word-index (omega arith) c.loop-word.invariant
