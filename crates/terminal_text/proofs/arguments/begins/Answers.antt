use Rattle.std.proofs.lemmas.Str.Pattern.{starts_text}
use Rattle.terminal_text.proofs.arguments.begins.Goals as goal

pub returns : goal.returns
returns c = starts_text c.starts_with.result c.args.text.now c.args.message.now c.starts_with.ensures.cases
