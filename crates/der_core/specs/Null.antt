-- The value of a NULL (X.690 section 8.8): no octet, and nothing is seen of it.

abbrev pub nothing : Unit {0}
nothing = tt
