use Rattle.std.proofs.Common.{sym, ◌∙◌}
use Rattle.der_core.specs.TiedLaws.{as_other, as_gives}
use Rattle.der_core.proofs.laws.read_as.Goals as goal

pub returns-then-not-can_decode : goal.returns-then-not-can_decode
returns-then-not-can_decode g c =
    as_other g.T.Decode.seen g.T.Decode.at g.T.Choice.can g.T.DecodeValue.seen g.T.DecodeValue.value g.met.T.WholeElement.tied c.args.header.tag.first (g.R.Reader.left c.args.r.now) c.args.header.tag.is_tag (rw c.requires at c.args.header.short) (sym c.can_decode.ensures ∙ c.if-not-can_decode.true)

pub returns : goal.returns
returns g c =
    as_gives g.T.Decode.seen g.T.Decode.at g.T.Choice.can g.T.DecodeValue.seen g.T.DecodeValue.value g.met.T.WholeElement.tied c.args.header.tag.first (g.R.Reader.left c.args.r.now) c.args.header.tag.is_tag (rw c.requires at c.args.header.short)
    c.args.header.length.value _ c.decode_value.result c.requires (sym c.can_decode.ensures ∙ c.if-not-can_decode.false) c.decode_value.ensures.read
