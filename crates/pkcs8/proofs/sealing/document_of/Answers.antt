use Rattle.std.proofs.lemmas.Result.{err_from_is_err_and}
use Rattle.pkcs5.specs.declared.encryption_scheme.EncryptionScheme.TheVariants.{Pbes2}
use Rattle.pkcs8.proofs.Documents.{no_string}
use Rattle.pkcs8.proofs.sealing.document_of.Goals as goal

pub returns-in_err-encrypted_data-clause-err : goal.returns-in_err-encrypted_data-clause-err
returns-in_err-encrypted_data-clause-err c =
    let p = err_from_is_err_and c.from_residual.result c.from_residual.ensures.1 in
    rw (p.1, p.2) (no_string (Pbes2 c.args.parameters) c.args.ciphertext.now c.in_err-encrypted_data.field-0.0 c.in_err-encrypted_data.ensures)
