use Rattle.std.proofs.Common.{◌≤◌, ◌∙◌, arith, length}
use Rattle.pkcs12_arguments.proofs.Taken.{as_many, map_whole, none_there, some_there, somes}
use Rattle.pkcs12_arguments.proofs.pairs.pairs_of.Goals as goal

pub returns-clause-ok : goal.returns-clause-ok
returns-clause-ok c =
    let i = c.loop-place.place in
    record {
      of_keys = c.loop-place.invariant.of_keys ∙ map_whole _ c.args.keys.now i (omega arith);
      of_certificates = c.loop-place.invariant.of_certificates ∙ map_whole _ c.args.certificates.now i (omega arith);
      named = λ some.
          let there = some_there _ _ some in
          let many = as_many c.args.names.now c.is_empty.result (length c.args.keys.now) there c.is_empty.ensures c.else-not-is_empty.either in
          let named : length c.args.names.now ≤ i = omega (arith, many) in
          c.loop-place.invariant.named there ∙ map_whole _ c.args.names.now i named ∙ somes _ _;
      unnamed = λ none. c.loop-place.invariant.unnamed (none_there _ _ none);
    }
