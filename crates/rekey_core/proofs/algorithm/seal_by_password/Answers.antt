use Rattle.rekey_core.proofs.Writing.{sealed_long, sealed_size_is}
use Rattle.rekey_core.proofs.algorithm.seal_by_password.Goals as goal

pub returns-in-Ok-clause-size : goal.returns-in-Ok-clause-size
returns-in-Ok-clause-size c = sealed_size_is c.args.to c.args.algorithm.now _ c.args.drawn.now c.args.new.now c.in-Ok.text c.args.text.now c.in_ok-algorithm.ensures.ok c.in-Ok.ensures.ok.0

pub returns-in-Err-TooLong-clause-err : goal.returns-in-Err-TooLong-clause-err
returns-in-Err-TooLong-clause-err c = sealed_long c.args.to c.args.algorithm.now _ c.args.drawn.now c.args.new.now c.args.text.now c.in-Err-TooLong.field-0 c.in_ok-algorithm.ensures.ok c.in-Err-TooLong.field-0-is c.in-Err-TooLong.ensures.err
