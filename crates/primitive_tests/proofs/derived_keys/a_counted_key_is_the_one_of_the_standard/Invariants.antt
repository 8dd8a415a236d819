use Rattle.primitive_tests.proofs.derived_keys.a_counted_key_is_the_one_of_the_standard.Given as goal

abbrev pub ghosts-is_counted_key : goal.ghosts-is_counted_key
ghosts-is_counted_key g a = record { name = a.blank.name; parts = a.blank.parts }
