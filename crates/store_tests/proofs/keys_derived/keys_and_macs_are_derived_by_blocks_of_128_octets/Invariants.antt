use Rattle.store_tests.proofs.keys_derived.keys_and_macs_are_derived_by_blocks_of_128_octets.Given as goal

abbrev pub ghosts-are_derived_by_long_blocks : goal.ghosts-are_derived_by_long_blocks
ghosts-are_derived_by_long_blocks g a = record { name = a.blank.name; parts = a.blank.parts }
