use Rattle.program_tests.proofs.login_caller.logs_in.Given as goal

abbrev pub ghosts-logs_in_counted : goal.ghosts-logs_in_counted
ghosts-logs_in_counted a = record { name = a.blank.name; parts = a.blank.parts }
