-- The PKCS#8 texts of the private keys of PEM files, and when there is none.
use Rattle.std.specs.Prelude.{ℕ, ◌≡◌, ◌≢◌, ◌≤◌, ◌<◌, ◌⊎◌, List, [], Option, Some, None, Result, Ok, Err, ⊤, length}
use Rattle.asn1_core.specs.Der.{IsHeader}
use Rattle.asn1_core.specs.Gives.{IsNone}
use Rattle.asn1_core.specs.Oid.{oid_octets}
use Rattle.asn1_core.specs.Reading.{Fault, Bad, UnknownOid, left, whole, within}
use Rattle.asn1_core.specs.Writing.{IsOverlong}
use Rattle.asn1_core.specs.declared.error.Error.{Error as Asn1Error}
use Rattle.asn1_core.specs.declared.error.Error.TheVariants as asn1
use Rattle.asn1_core.specs.declared.identifier.ObjectIdentifier.{ObjectIdentifier}
use Rattle.spki.specs.Algorithm.{algorithm}
use Rattle.pkcs5.specs.SchemeOpening.{SchemeOpens}
use Rattle.pkcs5.specs.declared.encryption_scheme.EncryptionScheme.{EncryptionScheme}
use Rattle.pkcs5.specs.declared.encryption_scheme.EncryptionScheme.TheVariants.{Pbes1, Pbes2}
use Rattle.pkcs5.specs.declared.pbes2.kdf.Kdf.{Kdf}
use Rattle.pkcs5.specs.declared.pbes2.kdf.Kdf.TheVariants.{Pbkdf2, Scrypt}
use Rattle.pkcs8.specs.EncryptedPrivateKeyInfo.{encrypted_key, encrypted_key_at}
use Rattle.pkcs8.specs.PrivateKeyInfo.{private_key}
use Rattle.pkcs8.specs.Seen.{AnyPrivateKey, IsPrivateKey}
use Rattle.pkcs8.specs.Sealing.{RefusesToDecrypt}
use Rattle.pkcs8.specs.Spelling.{private_key_text}
use Rattle.pkcs8.specs.declared.encrypted_private_key_info.EncryptedPrivateKeyInfo.{EncryptedPrivateKeyInfo}
use Rattle.pkcs8.specs.declared.error.Error.{Error}
use Rattle.pkcs8.specs.declared.error.Error.TheVariants as errors
use Rattle.key_files.specs.Algorithms.{ec_public_key, rsa_encryption}
use Rattle.key_files.specs.Ec.{Ec, IsEcPrivateKey}
use Rattle.key_files.specs.Rsa.{Rsa, IsRsaPrivateKey}
use Rattle.key_files.specs.declared.key_form.KeyForm.{KeyForm}
use Rattle.key_files.specs.declared.key_form.KeyForm.TheVariants as form
use Rattle.key_files.specs.declared.key_refusal.KeyRefusal.{KeyRefusal}
use Rattle.key_files.specs.declared.key_refusal.KeyRefusal.TheVariants.{UnknownForm, Malformed, NoCurve, TooLong, UnknownScheme, TooManyRounds, PasswordMissing, NotOpened, Memory}

-- the text of a private key (PKCS#8)
abbrev pub IsKey : List ℕ → Type 0
IsKey b = (k : AnyPrivateKey) × IsPrivateKey b k

-- ---- Keys of older forms

-- the PKCS#8 text of a key with these octets, whose algorithm has this identifier and these parameters
abbrev pub wrapped_text : ObjectIdentifier → ℕ × List ℕ → List ℕ → List ℕ
wrapped_text o parameters octets =
    private_key_text (private_key (algorithm o (Some parameters)) octets None)

-- The text k is that text for the algorithm with this identifier.
pub record Wraps (oid : List ℕ) (parameters : ℕ × List ℕ) (octets k : List ℕ) : Type 0 where
  pub identifier : ObjectIdentifier
  pub named : oid_octets identifier ≡ oid
  pub is : k ≡ wrapped_text identifier parameters octets

-- The octets, or that text, are too long for DER as it is read here.
abbrev pub IsTooLong : List ℕ → ℕ × List ℕ → List ℕ → Type 0
IsTooLong oid parameters octets = (¬ (IsHeader (length octets)))
    ⊎ ((o : ObjectIdentifier) × (oid_octets o ≡ oid)
    × IsOverlong (length (wrapped_text o parameters octets)))

-- what a refusal to write that text says
abbrev pub unwritten : Asn1Error → KeyRefusal
unwritten asn1.Memory = Memory
unwritten e = TooLong

abbrev pub RefusesToWrap : List ℕ → ℕ × List ℕ → List ℕ → KeyRefusal → Type 0
RefusesToWrap oid parameters octets TooLong = IsTooLong oid parameters octets
RefusesToWrap oid parameters octets Memory = ⊤
RefusesToWrap oid parameters octets _ = ⊥

-- ---- Encrypted keys

abbrev pub kdf_rounds : Kdf → Option ℕ
kdf_rounds (Pbkdf2 p) = Some p.iteration_count
kdf_rounds (Scrypt p) = None

-- the rounds of PBKDF2 of a scheme
abbrev pub scheme_rounds : EncryptionScheme → Option ℕ
scheme_rounds (Pbes1 a) = None
scheme_rounds (Pbes2 par) = kdf_rounds par.kdf

-- the document in these octets, or the first fault of them
abbrev pub read_document : List ℕ → Result (EncryptedPrivateKeyInfo (List ℕ)) Fault
read_document octets = whole (encrypted_key_at (within 0x04 left)) octets

-- The octets are a document that is under a scheme of PBES2 with at most so many rounds of PBKDF2; c
-- is the ciphertext.
pub record IsDocumentWithin (octets : List ℕ) (limit : ℕ) (s : EncryptionScheme) (c : List ℕ)
    : Type 0 where
  pub document : read_document octets ≡ Ok (encrypted_key s c)
  pub rounds : ℕ
  pub counted : scheme_rounds s ≡ Some rounds
  pub within : rounds ≤ limit

-- The text k is the private key that the document opens to under the password.
pub record IsOpened (octets : List ℕ) (password : Option (List ℕ)) (limit : ℕ) (k : List ℕ)
    : Type 0 where
  pub scheme : EncryptionScheme
  pub ciphertext : List ℕ
  pub document : IsDocumentWithin octets limit scheme ciphertext
  pub given : List ℕ
  pub has : password ≡ Some given
  pub opens : SchemeOpens scheme given ciphertext k
  pub key : IsKey k

-- what a refusal to read a document says
abbrev pub unread : Error → KeyRefusal
unread (errors.Asn1 (asn1.OidUnknown o)) = UnknownScheme
unread e = Malformed

-- what a refusal to decrypt one says
abbrev pub unopened : Error → KeyRefusal
unopened errors.Memory = Memory
unopened e = NotOpened

-- the ciphertext c opens to no text under the password q, or to one that is no private key
abbrev pub OpensToNone : EncryptionScheme → List ℕ → List ℕ → Type 0
OpensToNone s q c = ((e : Error) × (e ≢ errors.Memory) × RefusesToDecrypt s q c e)
    ⊎ ((m : List ℕ) × SchemeOpens s q c m × IsNone IsPrivateKey m)

-- the octets are no such document
abbrev pub RefusesDocument : List ℕ → ℕ → KeyRefusal → Type 0
RefusesDocument octets limit Malformed = read_document octets ≡ Err Bad
RefusesDocument octets limit UnknownScheme =
    ((o : ObjectIdentifier) × (read_document octets ≡ Err (UnknownOid o)))
    ⊎ ((s : EncryptionScheme) × (c : List ℕ) × (read_document octets ≡ Ok (encrypted_key s c))
    × (scheme_rounds s ≡ None))
RefusesDocument octets limit TooManyRounds = (s : EncryptionScheme) × (c : List ℕ)
    × (r : ℕ) × (read_document octets ≡ Ok (encrypted_key s c)) × (scheme_rounds s ≡ Some r)
    × (limit < r)
RefusesDocument octets limit _ = ⊥

abbrev pub RefusesToOpenKey : List ℕ → Option (List ℕ) → ℕ → KeyRefusal → Type 0
RefusesToOpenKey octets password limit PasswordMissing = (s : EncryptionScheme) × (c : List ℕ)
    × IsDocumentWithin octets limit s c × (password ≡ None)
RefusesToOpenKey octets password limit NotOpened = (s : EncryptionScheme) × (c : List ℕ)
    × (q : List ℕ) × IsDocumentWithin octets limit s c × (password ≡ Some q) × OpensToNone s q c
RefusesToOpenKey octets password limit Memory = ⊤
RefusesToOpenKey octets password limit e = RefusesDocument octets limit e

-- ---- Any form

-- The text k is the PKCS#8 text of the key of this form in these octets.
abbrev pub IsKeyOf : KeyForm → List ℕ → Option (List ℕ) → ℕ → List ℕ → Type 0
IsKeyOf form.Plain octets password limit k = (k ≡ octets) × IsKey octets
IsKeyOf form.Encrypted octets password limit k = IsOpened octets password limit k
IsKeyOf form.Rsa octets password limit k = (n : Rsa) × IsRsaPrivateKey octets n
    × Wraps rsa_encryption (5, []) octets k
IsKeyOf form.Ec octets password limit k = (e : Ec) × (p : ℕ × List ℕ) × IsEcPrivateKey octets e
    × (e.parameters ≡ Some p) × Wraps ec_public_key p octets k
IsKeyOf form.Other octets password limit k = ⊥

abbrev pub RefusesPlain : List ℕ → KeyRefusal → Type 0
RefusesPlain octets Malformed = IsNone IsPrivateKey octets
RefusesPlain octets Memory = ⊤
RefusesPlain octets _ = ⊥

abbrev pub RefusesRsa : List ℕ → KeyRefusal → Type 0
RefusesRsa octets Malformed = IsNone IsRsaPrivateKey octets
RefusesRsa octets e = RefusesToWrap rsa_encryption (5, []) octets e

abbrev pub RefusesEc : List ℕ → KeyRefusal → Type 0
RefusesEc octets Malformed = IsNone IsEcPrivateKey octets
RefusesEc octets NoCurve = (k : Ec) × IsEcPrivateKey octets k × (k.parameters ≡ None)
RefusesEc octets e = (k : Ec) × (p : ℕ × List ℕ) × IsEcPrivateKey octets k
    × (k.parameters ≡ Some p) × RefusesToWrap ec_public_key p octets e

-- There is no such text, by cases on the refusal.
abbrev pub RefusesKey : KeyForm → List ℕ → Option (List ℕ) → ℕ → KeyRefusal → Type 0
RefusesKey form.Plain octets password limit e = RefusesPlain octets e
RefusesKey form.Encrypted octets password limit e = RefusesToOpenKey octets password limit e
RefusesKey form.Rsa octets password limit e = RefusesRsa octets e
RefusesKey form.Ec octets password limit e = RefusesEc octets e
RefusesKey form.Other octets password limit e = e ≡ UnknownForm
