use Rattle.std.proofs.Common.{lit<}
use Rattle.std.proofs.lemmas.Str.Pattern.{split_parts}
use Rattle.asn1_core.proofs.Words.{first_words}
use Rattle.asn1_core.proofs.identifier_text.first_word.Goals as goal

pub returns : goal.returns
returns c = first_words c.args.text.now c.split_once.result (split_parts 46 c.args.text.now c.split_once.result c.split_once.ensures.cases (lit< tt))
