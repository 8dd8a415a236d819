use Rattle.std.proofs.Common.{arith}
use Rattle.asn1_core.specs.ElementLaws.{len_small}
use Rattle.asn1_core.specs.LengthLaws.{len_one_more, len_two_more, len_three_more, len_four_more}
use Rattle.asn1_core.proofs.write.write_header.Goals as goal

pub returns-then-n-lt128 : goal.returns-then-n-lt128
returns-then-n-lt128 g c = rw (len_small c.args.length.value c.if-n-lt128.true) c.write.ensures

pub returns-then-n-lt256 : goal.returns-then-n-lt256
returns-then-n-lt256 g c = rw (len_one_more c.args.length.value c.if-n-lt128.false c.if-n-lt256.true) c.write-then-n-lt256.ensures

pub returns-then-n-lt65536 : goal.returns-then-n-lt65536
returns-then-n-lt65536 g c = rw (len_two_more c.args.length.value c.if-n-lt256.false c.if-n-lt65536.true) c.write-then-n-lt65536.ensures

pub returns-then-n-lt16777216 : goal.returns-then-n-lt16777216
returns-then-n-lt16777216 g c = rw (len_three_more c.args.length.value c.if-n-lt65536.false c.if-n-lt16777216.true) c.write-then-n-lt16777216.ensures

pub returns-else-n-lt16777216 : goal.returns-else-n-lt16777216
returns-else-n-lt16777216 g c = rw (len_four_more c.args.length.value c.if-n-lt16777216.false (omega arith)) c.write-else-n-lt16777216.ensures
