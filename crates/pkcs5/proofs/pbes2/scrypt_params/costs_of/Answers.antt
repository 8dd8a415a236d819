use Rattle.pkcs5.proofs.Numbers.{no_costs}
use Rattle.pkcs5.proofs.pbes2.scrypt_params.costs_of.Goals as goal

pub returns-in-Err-clause-err : goal.returns-in-Err-clause-err
returns-in-Err-clause-err c = (
  c.invalid-in-Err.ensures,
  no_costs c.args.params.now.cost_parameter c.in-Some.log_n c.args.params.now.block_size c.args.params.now.parallelization
      c.from-r.result c.from-p.result c.in-Some.ensures.some.1 c.from-r.ensures c.from-p.ensures c.in-Err.ensures.refused,
)
