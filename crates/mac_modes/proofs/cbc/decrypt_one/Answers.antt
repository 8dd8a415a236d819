use Rattle.mac_modes.proofs.cbc.decrypt_one.Goals as goal

pub decrypt_block-requires : goal.decrypt_block-requires
decrypt_block-requires g c = c.requires.text
