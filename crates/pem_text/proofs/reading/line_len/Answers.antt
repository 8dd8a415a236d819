use Rattle.pem_text.proofs.LineCuts.{feed_none, feed_some}
use Rattle.pem_text.proofs.reading.line_len.Goals as goal

pub returns-in-Some-clause-at : goal.returns-in-Some-clause-at
returns-in-Some-clause-at c = feed_some c.args.text.now c.in-Some.end c.in-Some.ensures.at

pub returns-in-None-clause-at : goal.returns-in-None-clause-at
returns-in-None-clause-at c = feed_none c.args.text.now c.in-None.ensures.at
