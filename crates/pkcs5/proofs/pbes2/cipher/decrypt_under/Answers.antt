use Rattle.std.proofs.Common.{◌∙◌, ap}
use Rattle.pkcs5.specs.Kinds.{key_size}
use Rattle.pkcs5.proofs.pbes2.cipher.decrypt_under.Goals as goal

pub decrypt_by-requires-clause-key : goal.decrypt_by-requires-clause-key
decrypt_by-requires-clause-key c = c.requires ∙ ap key_size c.in-Aes128Cbc.is

pub decrypt_by-requires-in-Aes192Cbc-clause-key : goal.decrypt_by-requires-in-Aes192Cbc-clause-key
decrypt_by-requires-in-Aes192Cbc-clause-key c = c.requires ∙ ap key_size c.in-Aes192Cbc.is

pub decrypt_by-requires-in-Aes256Cbc-clause-key : goal.decrypt_by-requires-in-Aes256Cbc-clause-key
decrypt_by-requires-in-Aes256Cbc-clause-key c = c.requires ∙ ap key_size c.in-Aes256Cbc.is

pub unseal_by-requires-clause-key : goal.unseal_by-requires-clause-key
unseal_by-requires-clause-key c = c.requires ∙ ap key_size c.in-Aes128Gcm.is

pub unseal_by-requires-in-Aes256Gcm-clause-key : goal.unseal_by-requires-in-Aes256Gcm-clause-key
unseal_by-requires-in-Aes256Gcm-clause-key c = c.requires ∙ ap key_size c.in-Aes256Gcm.is

pub decrypt_by-requires-in-DesEde3Cbc-clause-key : goal.decrypt_by-requires-in-DesEde3Cbc-clause-key
decrypt_by-requires-in-DesEde3Cbc-clause-key c = c.requires ∙ ap key_size c.in-DesEde3Cbc.is

pub decrypt_by-requires-in-DesCbc-clause-key : goal.decrypt_by-requires-in-DesCbc-clause-key
decrypt_by-requires-in-DesCbc-clause-key c = c.requires ∙ ap key_size c.in-DesCbc.is
