use Rattle.store_tests.proofs.ciphertexts_opened.keys_open_and_macs_agree_by_the_calls_that_count.Given as goal

abbrev pub ghosts-opens_counted : goal.ghosts-opens_counted
ghosts-opens_counted g a = record { name = a.blank.name; parts = a.blank.parts }
