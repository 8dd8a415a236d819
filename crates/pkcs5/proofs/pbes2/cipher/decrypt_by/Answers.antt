use Rattle.pkcs5.proofs.pbes2.cipher.decrypt_by.Goals as goal

pub new-cipher-requires : goal.new-cipher-requires
new-cipher-requires g c = c.requires.key

pub decrypt_with-requires : goal.decrypt_with-requires
decrypt_with-requires g c = c.requires.iv
