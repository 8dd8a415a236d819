use Rattle.passdb_core.specs.Asked.{command_in}
use Rattle.passdb_core.proofs.Scripts.{few_script, no_command, no_line, no_script, read_more, script_more, some_left}
use Rattle.passdb_core.proofs.script.read_script.Goals as goal

pub returns-in_default-clause-refused : goal.returns-in_default-clause-refused
returns-in_default-clause-refused c =
    no_script c.args.text.now _ c.loop-rest.rest.now c.loop-rest.invariant.commands c.loop-rest.invariant.spelled (some_left _ _ c.is_empty.ensures c.loop-rest-test.true) (no_line c.loop-rest.rest.now c.in_default.ensures)

pub returns-in_default-command_of-clause-refused : goal.returns-in_default-command_of-clause-refused
returns-in_default-command_of-clause-refused c =
    no_script c.args.text.now _ c.loop-rest.rest.now c.loop-rest.invariant.commands c.loop-rest.invariant.spelled (some_left _ _ c.is_empty.ensures c.loop-rest-test.true)
    (no_command c.loop-rest.rest.now c.in-Some.line.now c.in-Some.more.now c.in-Some.ensures c.in_default-command_of.ensures)

pub loop-rest-preserved : goal.loop-rest-preserved
loop-rest-preserved c = record {
  commands = read_more command_in c.loop-rest.commands c.push.new.self c.in-Some-command_of.command c.in-Ok.ensures.ok c.loop-rest.invariant.commands c.in-Some-command_of.ensures.0;
  spelled = script_more command_in c.args.text.now c.loop-rest.commands c.push.new.self c.in-Some-command_of.command c.loop-rest.rest.now c.in-Some.line.now c.in-Some.more.now c.in-Ok.ensures.ok
      c.loop-rest.invariant.spelled c.in-Some.ensures.parts c.in-Some-command_of.ensures.1;
}

pub returns-clause-few : goal.returns-clause-few
returns-clause-few c = few_script command_in c.args.text.now c.loop-rest.commands c.loop-rest.rest.now c.loop-rest.invariant.spelled
