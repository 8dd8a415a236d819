-- What C is returned.
use Rattle.std.specs.Prelude.{ℕ, ◌≡◌, Result, Ok, Err}
use Rattle.frame.specs.Status.{status_code}
use Rattle.create_core.specs.declared.error.CreateError.{CreateError}
use Rattle.create_core.specs.declared.error.CreateError.TheVariants as making
use Rattle.key_files.specs.declared.key_refusal.KeyRefusal.{KeyRefusal}
use Rattle.key_files.specs.declared.key_refusal.KeyRefusal.TheVariants as key
use Rattle.pem_stores.specs.declared.certificates.CertificateRefusal.{CertificateRefusal}
use Rattle.pem_stores.specs.declared.certificates.CertificateRefusal.TheVariants as certificate
use Rattle.pem_stores.specs.declared.text_refusal.TextRefusal.{TextRefusal}
use Rattle.pem_stores.specs.declared.text_refusal.TextRefusal.TheVariants as text
use Rattle.transfer.specs.Status.{status_of}
use Rattle.transfer.specs.declared.store.error.TransferError.TheVariants as cause
use Rattle.pkcs12_c.specs.declared.created.CreationRefusal.{CreationRefusal}
use Rattle.pkcs12_c.specs.declared.created.CreationRefusal.TheVariants.{Texts, Making}
use Rattle.pkcs12_c.specs.declared.refusal.Refusal.{Refusal}
use Rattle.pkcs12_c.specs.declared.refusal.Refusal.TheVariants.{Rounds, Password, Name, Pem, KeyMissing, ManyKeys, KeyForm, PasswordMissing, KeyPassword, CertificateMissing, CertificateMalformed, OtherKey, Store, Room}

-- the number of a refusal: that of the command's exit, those from 30 on of PEM texts, and 100 where
-- the output is too short
abbrev pub refusal_number : Refusal → ℕ
refusal_number Rounds = 2
refusal_number Password = 22
refusal_number PasswordMissing = 8
refusal_number Pem = 30
refusal_number KeyMissing = 31
refusal_number ManyKeys = 32
refusal_number KeyForm = 33
refusal_number KeyPassword = 34
refusal_number CertificateMissing = 35
refusal_number CertificateMalformed = 36
refusal_number OtherKey = 37
refusal_number Name = 38
refusal_number (Store e) = status_code (status_of e)
refusal_number Room = 100

-- 0, or the number of the refusal
abbrev pub answer_number : {A : Type 0} → Result A Refusal → ℕ
answer_number (Ok a) = 0
answer_number (Err e) = refusal_number e

-- No two results have one number.
abbrev pub NumbersTell : Type 0
NumbersTell = (r s : Result (Unit {0}) Refusal) → answer_number r ≡ answer_number s → r ≡ s

-- ---- Making a store of PEM texts

abbrev pub key_refusal : KeyRefusal → Refusal
key_refusal key.NoKey = KeyMissing
key_refusal key.ManyKeys = ManyKeys
key_refusal key.UnknownForm = Store cause.Unsupported
key_refusal key.Malformed = KeyForm
key_refusal key.NoCurve = Store cause.Unsupported
key_refusal key.TooLong = Store cause.TooLong
key_refusal key.UnknownScheme = Store cause.Unsupported
key_refusal key.TooManyRounds = Store cause.WorkLimit
key_refusal key.PasswordMissing = PasswordMissing
key_refusal key.NotOpened = KeyPassword
key_refusal key.Memory = Store cause.Memory

abbrev pub certificate_refusal : CertificateRefusal → Refusal
certificate_refusal certificate.NoCertificate = CertificateMissing
certificate_refusal certificate.Trusted = Store cause.Unsupported
certificate_refusal certificate.Malformed = CertificateMalformed
certificate_refusal certificate.Memory = Store cause.Memory

abbrev pub text_refusal : TextRefusal → Refusal
text_refusal text.KeyPem = Pem
text_refusal (text.Key e) = key_refusal e
text_refusal text.CertificatePem = Pem
text_refusal (text.Certificates e) = certificate_refusal e
text_refusal text.OtherKey = OtherKey
text_refusal text.Memory = Store cause.Memory

abbrev pub making_refusal : CreateError → Refusal
making_refusal making.Malformed = KeyForm
making_refusal making.Rng = Store cause.Rng
making_refusal making.TooLong = Store cause.TooLong
making_refusal making.Memory = Store cause.Memory

-- the refusal to make a store
abbrev pub creation_refusal : CreationRefusal → Refusal
creation_refusal (Texts e) = text_refusal e
creation_refusal (Making e) = making_refusal e
