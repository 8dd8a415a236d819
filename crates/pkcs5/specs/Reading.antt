-- What is read where: each text to its one value, or the refusal that comes. The relations of the
-- other files say what the texts are; these functions say besides which refusal comes where there
-- is none.
use Rattle.std.specs.Prelude.{ℕ, List, length, nat_lt, if◌then◌else◌, Option, Some, None, Result, Ok, ◌==◌, Err, nat_eq}
use Rattle.asn1_core.specs.Reading.{All, where_ok, Fault, UnknownOid, Front, ◌>>=◌, any_tag, ended, whole, within, known, on, option_at, uint_at, Bad, left, known_in}
use Rattle.std.specs.Str.{bytes_eq}
use Rattle.asn1_core.specs.Der.{el, octets}
use Rattle.asn1_core.specs.Oid.{oid_octets}
use Rattle.asn1_core.specs.declared.identifier.ObjectIdentifier.{ObjectIdentifier}
use Rattle.der_core.specs.Any.{any_at}
use Rattle.der_core.specs.Null.{nothing}
use Rattle.spki.specs.Algorithm.{algorithm_of, algorithm_at}
use Rattle.spki.specs.Seen.{AnyAlgorithm}
use Rattle.pkcs5.specs.Identifiers.{hmac_with_sha1_oid, hmac_with_sha224_oid, hmac_with_sha256_oid, hmac_with_sha384_oid, hmac_with_sha512_oid, pbkdf2_oid, scrypt_oid, aes_128_cbc_oid, aes_192_cbc_oid, aes_256_cbc_oid, aes_128_gcm_oid, aes_256_gcm_oid, des_ede3_cbc_oid, des_cbc_oid, pbe_with_md2_and_des_cbc_oid, pbe_with_md5_and_des_cbc_oid, pbe_with_md2_and_rc2_cbc_oid, pbe_with_md5_and_rc2_cbc_oid, pbe_with_sha1_and_des_cbc_oid, pbe_with_sha1_and_rc2_cbc_oid, pbes2_oid}
use Rattle.pkcs5.specs.declared.pbes2.pbkdf2_prf.Pbkdf2Prf.{Pbkdf2Prf}
use Rattle.pkcs5.specs.declared.pbes2.pbkdf2_prf.Pbkdf2Prf.TheVariants.{HmacWithSha1, HmacWithSha224, HmacWithSha256, HmacWithSha384, HmacWithSha512}
use Rattle.pkcs5.specs.declared.pbes2.pbkdf2_params.Pbkdf2Params.{Pbkdf2Params}
use Rattle.pkcs5.specs.declared.pbes2.scrypt_params.ScryptParams.{ScryptParams}
use Rattle.spki.specs.Made.{made_of}
use Rattle.pkcs5.specs.declared.pbes2.kdf.Kdf.{Kdf}
use Rattle.pkcs5.specs.declared.pbes2.kdf.Kdf.TheVariants.{Pbkdf2, Scrypt}
use Rattle.pkcs5.specs.Kinds.{iv_size}
use Rattle.pkcs5.specs.declared.pbes2.encryption_scheme.EncryptionScheme.TheVariants.{Aes128Cbc, Aes192Cbc, Aes256Cbc, Aes128Gcm, Aes256Gcm, DesEde3Cbc, DesCbc}
use Rattle.pkcs5.specs.declared.pbes1.algorithm.Algorithm.{Algorithm}
use Rattle.pkcs5.specs.declared.pbes1.encryption_scheme.EncryptionScheme.TheVariants.{PbeWithMd2AndDesCbc, PbeWithMd2AndRc2Cbc, PbeWithMd5AndDesCbc, PbeWithMd5AndRc2Cbc, PbeWithSha1AndDesCbc, PbeWithSha1AndRc2Cbc}
use Rattle.pkcs5.specs.declared.encryption_scheme.EncryptionScheme.TheVariants.{Pbes1, Pbes2}
use Rattle.pkcs5.specs.Pbkdf2Params.{pbkdf2_params}
use Rattle.pkcs5.specs.ScryptParams.{scrypt_params}
use Rattle.pkcs5.specs.Parameters.{parameters}
use Rattle.pkcs5.specs.Pbes1.{pbe_params, pbe}
use Rattle.pkcs5.specs.declared.pbes2.encryption_scheme.EncryptionScheme as cipher
use Rattle.pkcs5.specs.declared.pbes1.encryption_scheme.EncryptionScheme as pbe1
use Rattle.pkcs5.specs.declared.pbes1.parameters.Parameters as pbe1_parameters
use Rattle.pkcs5.specs.declared.encryption_scheme.EncryptionScheme as scheme
use Rattle.pkcs5.specs.declared.pbes2.parameters.Parameters as pbes2

-- ---- salts

abbrev pub salt_of : All (List ℕ)
salt_of b = where_ok (nat_lt (length b) 33) b

-- ---- the pseudorandom function of PBKDF2

-- the function of an identifier
abbrev pub prf_named : ObjectIdentifier → Option Pbkdf2Prf
prf_named o =
    if bytes_eq (oid_octets o) hmac_with_sha1_oid then Some HmacWithSha1
    else (if bytes_eq (oid_octets o) hmac_with_sha224_oid then Some HmacWithSha224
    else (if bytes_eq (oid_octets o) hmac_with_sha256_oid then Some HmacWithSha256
    else (if bytes_eq (oid_octets o) hmac_with_sha384_oid then Some HmacWithSha384
    else (if bytes_eq (oid_octets o) hmac_with_sha512_oid then Some HmacWithSha512 else None))))

-- parameters that are NULL, or none
abbrev pub null_or_none : Option (ℕ × List ℕ) → Result (Unit {0}) Fault
null_or_none None = Ok nothing
null_or_none (Some p) = whole (within 0x05 (ended nothing)) (el p.0 p.1)

-- the function that an algorithm is: its parameters are judged first, and then its identifier
abbrev pub prf_in : AnyAlgorithm → Result Pbkdf2Prf Fault
prf_in a = null_or_none a.parameters >>= λ u. known prf_named UnknownOid a.oid

abbrev pub pbkdf2_prf_of : All Pbkdf2Prf
pbkdf2_prf_of b = algorithm_of any_tag any_at b >>= prf_in

abbrev pub prf_at : Front Pbkdf2Prf
prf_at = within 0x30 pbkdf2_prf_of

-- ---- the parameters of PBKDF2

abbrev pub prf_or_default : Option Pbkdf2Prf → Pbkdf2Prf
prf_or_default None = HmacWithSha1
prf_or_default (Some f) = f

abbrev pub pbkdf2_params_of : All Pbkdf2Params
pbkdf2_params_of = on (within 0x04 salt_of) (λ s. on (uint_at 4294967295) (λ n.
    on (option_at (λ t. t == 0x02) (uint_at 65535)) (λ k.
    on (option_at (λ t. t == 0x30) (within 0x30 pbkdf2_prf_of))
    (λ f. ended (pbkdf2_params s n k (prf_or_default f))))))

abbrev pub pbkdf2_params_at : Front Pbkdf2Params
pbkdf2_params_at = within 0x30 pbkdf2_params_of

-- the parameters that an element is, given by its tag octet and its value
abbrev pub pbkdf2_params_in : ℕ × List ℕ → Result Pbkdf2Params Fault
pbkdf2_params_in p = whole pbkdf2_params_at (el p.0 p.1)

-- ---- the parameters of scrypt

abbrev pub scrypt_params_of : All ScryptParams
scrypt_params_of = on (within 0x04 salt_of) (λ s. on (uint_at 18446744073709551615) (λ n.
    on (uint_at 65535) (λ r. on (uint_at 65535) (λ p.
    on (option_at (λ t. t == 0x02) (uint_at 65535)) (λ k. ended (scrypt_params s n r p k))))))

abbrev pub scrypt_params_at : Front ScryptParams
scrypt_params_at = within 0x30 scrypt_params_of

-- the parameters that an element is, given by its tag octet and its value
abbrev pub scrypt_params_in : ℕ × List ℕ → Result ScryptParams Fault
scrypt_params_in p = whole scrypt_params_at (el p.0 p.1)

-- ---- the key derivation function

-- by the identifier, which is looked up before the parameters are read
abbrev pub kdf_with : ObjectIdentifier → ℕ × List ℕ → Result Kdf Fault
kdf_with o p =
    if bytes_eq (oid_octets o) pbkdf2_oid then (pbkdf2_params_in p >>= λ v. Ok (Pbkdf2 v))
    else (if bytes_eq (oid_octets o) scrypt_oid then (scrypt_params_in p >>= λ v. Ok (Scrypt v))
    else Err (UnknownOid o))

-- the function that an algorithm is: it has to have parameters
unfoldable pub kdf_in : AnyAlgorithm → Result Kdf Fault
kdf_in a = elim a.parameters [ None ↦ Err Bad | Some p ↦ kdf_with a.oid p ]

-- octets after the parameters come last
abbrev pub kdf_of : All Kdf
kdf_of = made_of kdf_in

abbrev pub kdf_at : Front Kdf
kdf_at = within 0x30 kdf_of

-- ---- the cipher

-- the cipher of an identifier, with this initialization vector or nonce
abbrev pub cipher_named : ObjectIdentifier → List ℕ → Option cipher.EncryptionScheme
cipher_named o iv =
    if bytes_eq (oid_octets o) aes_128_cbc_oid then Some (Aes128Cbc iv)
    else (if bytes_eq (oid_octets o) aes_192_cbc_oid then Some (Aes192Cbc iv)
    else (if bytes_eq (oid_octets o) aes_256_cbc_oid then Some (Aes256Cbc iv)
    else (if bytes_eq (oid_octets o) aes_128_gcm_oid then Some (Aes128Gcm iv)
    else (if bytes_eq (oid_octets o) aes_256_gcm_oid then Some (Aes256Gcm iv)
    else (if bytes_eq (oid_octets o) des_ede3_cbc_oid then Some (DesEde3Cbc iv)
    else (if bytes_eq (oid_octets o) des_cbc_oid then Some (DesCbc iv) else None))))))

-- the identifier is looked up before the length of the initialization vector is judged
abbrev pub cipher_with : ObjectIdentifier → List ℕ → Result cipher.EncryptionScheme Fault
cipher_with o iv = known_in (UnknownOid o) (cipher_named o iv)
    >>= λ c. where_ok (length iv == iv_size c) c

-- the cipher that an algorithm is: its parameters have to be an OCTET STRING
unfoldable pub cipher_in : AnyAlgorithm → Result cipher.EncryptionScheme Fault
cipher_in a = elim a.parameters [
  | None ↦ Err Bad
  | Some p ↦ whole (within 0x04 left) (el p.0 p.1)
      >>= cipher_with a.oid
]

-- octets after the parameters come last
abbrev pub cipher_of : All cipher.EncryptionScheme
cipher_of = made_of cipher_in

abbrev pub cipher_at : Front cipher.EncryptionScheme
cipher_at = within 0x30 cipher_of

-- ---- the parameters of PBES2

-- both are read as algorithms with any parameters before one of them is judged
abbrev pub parameters_of : All pbes2.Parameters
parameters_of = on (algorithm_at any_tag any_at) (λ f. on (algorithm_at any_tag any_at) (λ e rest.
    kdf_in f >>= λ k. cipher_in e >>= λ c. ended (parameters k c) rest))

abbrev pub parameters_at : Front pbes2.Parameters
parameters_at = within 0x30 parameters_of

-- the parameters that an element is, given by its tag octet and its value
abbrev pub parameters_in : ℕ × List ℕ → Result pbes2.Parameters Fault
parameters_in p = whole parameters_at (el p.0 p.1)

-- ---- PBES1

abbrev pub pbe_salt_of : All (List ℕ)
pbe_salt_of b = where_ok (nat_eq (length b) 8) b

abbrev pub pbe_params_of : All pbe1_parameters.Parameters
pbe_params_of = on (within 0x04 pbe_salt_of) (λ s. on (uint_at 65535) (λ n. ended (pbe_params s n)))

abbrev pub pbe_params_at : Front pbe1_parameters.Parameters
pbe_params_at = within 0x30 pbe_params_of

-- the parameters that an element is, given by its tag octet and its value
abbrev pub pbe_params_in : ℕ × List ℕ → Result pbe1_parameters.Parameters Fault
pbe_params_in p = whole pbe_params_at (el p.0 p.1)

-- the scheme that an identifier names
abbrev pub pbe_named : ObjectIdentifier → Option pbe1.EncryptionScheme
pbe_named o =
    if bytes_eq (oid_octets o) pbe_with_md2_and_des_cbc_oid then Some PbeWithMd2AndDesCbc
    else (if bytes_eq (oid_octets o) pbe_with_md2_and_rc2_cbc_oid then Some PbeWithMd2AndRc2Cbc
    else (if bytes_eq (oid_octets o) pbe_with_md5_and_des_cbc_oid then Some PbeWithMd5AndDesCbc
    else (if bytes_eq (oid_octets o) pbe_with_md5_and_rc2_cbc_oid then Some PbeWithMd5AndRc2Cbc
    else (if bytes_eq (oid_octets o) pbe_with_sha1_and_des_cbc_oid then Some PbeWithSha1AndDesCbc
    else (if bytes_eq (oid_octets o) pbe_with_sha1_and_rc2_cbc_oid then Some PbeWithSha1AndRc2Cbc
    else None)))))

-- by the identifier, which has to be one of the six, and then the parameters
unfoldable pub pbe_with : ObjectIdentifier → ℕ × List ℕ → Result Algorithm Fault
pbe_with o p = known_in Bad (pbe_named o) >>= λ e. (pbe_params_in p >>= λ v. Ok (pbe e v))

-- the algorithm of PBES1 that an algorithm is: it has to have parameters
unfoldable pub pbe_in : AnyAlgorithm → Result Algorithm Fault
pbe_in a = elim a.parameters [ None ↦ Err Bad | Some p ↦ pbe_with a.oid p ]

abbrev pub pbe_of : All Algorithm
pbe_of = made_of pbe_in

abbrev pub pbe_at : Front Algorithm
pbe_at = within 0x30 pbe_of

-- ---- the scheme

-- by the identifier, PBES2's or one of PBES1; a scheme of another identifier is none
abbrev pub scheme_with : ObjectIdentifier → ℕ × List ℕ → Result scheme.EncryptionScheme Fault
scheme_with o p =
    if bytes_eq (oid_octets o) pbes2_oid then (parameters_in p >>= λ v. Ok (Pbes2 v))
    else (pbe_with o p >>= λ a. Ok (Pbes1 a))

-- the scheme that an algorithm is: it has to have parameters
unfoldable pub scheme_in : AnyAlgorithm → Result scheme.EncryptionScheme Fault
scheme_in a = elim a.parameters [ None ↦ Err Bad | Some p ↦ scheme_with a.oid p ]

-- octets after the parameters come last
abbrev pub scheme_of : All scheme.EncryptionScheme
scheme_of = made_of scheme_in

abbrev pub scheme_at : Front scheme.EncryptionScheme
scheme_at = within 0x30 scheme_of
