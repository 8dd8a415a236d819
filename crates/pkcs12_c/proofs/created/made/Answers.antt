use Rattle.std.proofs.Common.{◌≡◌, ◌<◌, ◌^◌, arith, rules}
use Rattle.std.specs.Prelude.{Some}
use Rattle.create_core.specs.Created.{DrawsAndCreates, RefusesToCreate}
use Rattle.pkcs12_c.specs.Created.{IsMade, RefusesToMake, asked_by}
use Rattle.pkcs12_c.proofs.Made.{entries_made, entries_refused, made_err, made_ok}
use Rattle.pkcs12_c.proofs.created.made.Goals as goal

pub returns-clause-made : goal.returns-clause-made
returns-clause-made c =
    let a = asked_by c.args.creation.now in
    let told : c.new-draw.result.left ≡ c.args.random.now = search rules in
    let fits : c.args.creation.now.rounds < 2 ^ 32 = omega arith in
    made_ok c.create.result (DrawsAndCreates c.as_slice.result.now c.as_slice-2.result.now a.password a.rounds (Some c.new-draw.result.left) (Some c.create.new.draw.left))
    (IsMade a c.args.entries.now c.args.random.now)
    (λ b d. entries_made a c.args.entries.now c.args.random.now c.as_slice.result.now c.as_slice-2.result.now c.new-draw.result.left c.as_slice.ensures.value c.as_slice-2.ensures.value told c.create.new.draw.left
    b c.requires.rounds fits c.created_stores_open.ensures.opens d) c.create.ensures.created

pub returns-clause-refused : goal.returns-clause-refused
returns-clause-refused c =
    let a = asked_by c.args.creation.now in
    let told : c.new-draw.result.left ≡ c.args.random.now = search rules in
    let zero : c.new-draw.result.faults ≡ 0 = search rules in
    made_err c.create.result (RefusesToCreate c.as_slice.result.now c.as_slice-2.result.now a.rounds c.new-draw.result.faults c.create.new.draw.faults (Some c.new-draw.result.left))
    (RefusesToMake a c.args.entries.now c.args.random.now)
    (λ f r. entries_refused a c.args.entries.now c.args.random.now c.as_slice.result.now c.as_slice-2.result.now c.new-draw.result.left c.as_slice.ensures.value c.as_slice-2.ensures.value told
    c.new-draw.result.faults c.create.new.draw.faults f zero r) c.create.ensures.refused
