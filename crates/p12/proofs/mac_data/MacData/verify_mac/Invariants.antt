use Rattle.p12.proofs.mac_data.MacData.verify_mac.Given as goal

abbrev pub ghosts-verify_mac_from : goal.ghosts-verify_mac_from
ghosts-verify_mac_from a = record { name = a.blank.name; parts = a.blank.parts }
