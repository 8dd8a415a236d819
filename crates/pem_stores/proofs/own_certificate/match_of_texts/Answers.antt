use Rattle.std.proofs.Common.{inl}
use Rattle.pem_stores.proofs.own_certificate.match_of_texts.Goals as goal

pub returns-in-Ok-parse : goal.returns-in-Ok-parse
returns-in-Ok-parse c = inl (_, _, c.in-Ok.ensures, c.in-Ok-parse.ensures, c.match_of.ensures)
