use Rattle.p12.proofs.TextRefusals.{other_made}
use Rattle.p12.proofs.rows.PKCS12AttributeGrammarRow.text.Goals as goal

pub returns-in-Other : goal.returns-in-Other
returns-in-Other c =
    rw (c.in-Other.is) (other_made c.in-Other.other c.as_slice-in-Other.result.now c.as_slice-in-Other.ensures c.sequence-in-Other.result c.sequence-in-Other.ensures)
