use Rattle.transfer.proofs.Generated.{filled_all, filled_more, state_all, state_filled}
use Rattle.std.proofs.Common.{length-set, ◌∙◌, length, arith}
use Rattle.transfer.proofs.sample.generator.Generator.fill.Goals as goal

pub loop-filled-preserved : goal.loop-filled-preserved
loop-filled-preserved c = record {
  long = length-set c.loop-filled.out c.loop-filled.filled c.octet.result ∙ c.loop-filled.invariant.long;
  octets = filled_more c.loop-filled.out _ (length c.args.out.now) c.loop-filled.filled c.octet.result c.loop-filled.self.state c.octet.new.self.state (omega (arith, c.loop-filled-test.true, c.loop-filled.invariant.long)) c.loop-filled.invariant.long c.octet.ensures.state c.octet.ensures.octet c.loop-filled.invariant.octets;
  state = state_filled (length c.args.out.now) c.loop-filled.filled c.loop-filled.self.state c.octet.new.self.state _ (omega (arith, c.loop-filled-test.true, c.loop-filled.invariant.long)) c.octet.ensures.state c.loop-filled.invariant.state;
}

pub returns-clause-octets : goal.returns-clause-octets
returns-clause-octets c = filled_all c.loop-filled.out _ (length c.args.out.now) c.loop-filled.filled c.loop-filled.self.state (omega (arith, c.loop-filled-test.false, c.loop-filled.invariant.long)) c.loop-filled.invariant.long c.loop-filled.invariant.octets

pub returns-clause-state : goal.returns-clause-state
returns-clause-state c = state_all (length c.args.out.now) c.loop-filled.filled c.loop-filled.self.state _ (omega (arith, c.loop-filled-test.false, c.loop-filled.invariant.long)) c.loop-filled.invariant.state
