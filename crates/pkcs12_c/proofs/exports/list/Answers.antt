use Rattle.std.proofs.Common.{refl}
use Rattle.pkcs12_c.proofs.Tables.{listed_answers, refused_answers}
use Rattle.pkcs12_c.proofs.exports.list.Goals as goal

pub returns-in-Ok : goal.returns-in-Ok
returns-in-Ok c =
    let l = c.in-Ok.ensures.listed in
    listed_answers c.args.store.now c.in-Some.password.text.now c.args.password.now c.args.limit c.args.output.now c.filled_within.new.output c.filled_within.new.needed c.filled_within.result
    c.in-Some.ensures.some.0 c.in-Some.ensures.some.1 c.in-Ok.table l.0 l.1 c.in-Ok.ensures.exact (c.filled_within.ensures l.0 l.2)

pub returns-in-Err : goal.returns-in-Err
returns-in-Err c =
    refused_answers c.args.store.now c.in-Some.password.text.now c.args.password.now c.args.limit c.args.output.now c.args.output.now 0 _ c.in-Some.ensures.some.0 c.in-Some.ensures.some.1 c.in-Err.refusal
    c.in-Err.ensures.refused c.in-Err.ensures.exact (refl, refl, refl)
