use Rattle.std.proofs.Common.{◌≡◌, length, rules, ap}
use Rattle.std.proofs.lemmas.Str.{chars_from_encodes}
use Rattle.std.specs.Prelude.{nat_le}
use Rattle.std.specs.Str.{chars}
use Rattle.terminal_text.proofs.shell_word.is_short.Goals as goal

pub returns : goal.returns
returns c =
    let n : c.count.result ≡ length (chars c.args.text.now) = search (rules, chars_from_encodes) in
    ap (λ k. nat_le k 200) n
