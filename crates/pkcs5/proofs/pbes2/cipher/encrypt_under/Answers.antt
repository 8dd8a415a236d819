use Rattle.std.proofs.Common.{◌∙◌, ap}
use Rattle.pkcs5.specs.Kinds.{key_size}
use Rattle.pkcs5.proofs.pbes2.cipher.encrypt_under.Goals as goal

pub encrypt_by-requires-clause-key : goal.encrypt_by-requires-clause-key
encrypt_by-requires-clause-key c = c.requires ∙ ap key_size c.in-Aes128Cbc.is

pub encrypt_by-requires-in-Aes192Cbc-clause-key : goal.encrypt_by-requires-in-Aes192Cbc-clause-key
encrypt_by-requires-in-Aes192Cbc-clause-key c = c.requires ∙ ap key_size c.in-Aes192Cbc.is

pub encrypt_by-requires-in-Aes256Cbc-clause-key : goal.encrypt_by-requires-in-Aes256Cbc-clause-key
encrypt_by-requires-in-Aes256Cbc-clause-key c = c.requires ∙ ap key_size c.in-Aes256Cbc.is

pub seal_by-requires-clause-key : goal.seal_by-requires-clause-key
seal_by-requires-clause-key c = c.requires ∙ ap key_size c.in-Aes128Gcm.is

pub seal_by-requires-in-Aes256Gcm-clause-key : goal.seal_by-requires-in-Aes256Gcm-clause-key
seal_by-requires-in-Aes256Gcm-clause-key c = c.requires ∙ ap key_size c.in-Aes256Gcm.is

pub encrypt_by-requires-in-DesEde3Cbc-clause-key : goal.encrypt_by-requires-in-DesEde3Cbc-clause-key
encrypt_by-requires-in-DesEde3Cbc-clause-key c = c.requires ∙ ap key_size c.in-DesEde3Cbc.is
