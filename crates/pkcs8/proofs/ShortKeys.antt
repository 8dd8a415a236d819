-- Private keys whose texts are short: how long what is written of them is, and what sealing refuses.
use Rattle.std.proofs.Common.{◌≡◌, ℕ, ◌+◌, ◌<◌, ◌≤◌, List, [], ◌∷◌, ◌++◌, Option, Some, None, length, inl, inr, refl, ap, arith, length-append}
use Rattle.asn1_core.specs.Der.{el, uint, octets, oid, null, pctx}
use Rattle.asn1_core.specs.declared.error.Error.TheVariants as asn1
use Rattle.der_core.specs.Optional.{canon_option, writable_option}
use Rattle.pkcs5.specs.Cipher.{IsCipher, cipher_content}
use Rattle.pkcs5.specs.Identifiers.{pbes2_oid, pbkdf2_oid, scrypt_oid}
use Rattle.pkcs5.specs.Kdf.{IsKdf, kdf_content}
use Rattle.pkcs5.specs.Kinds.{IsDes, cipher_oid, iv_of, prf_oid}
use Rattle.pkcs5.specs.Opening.{FitsKey, ciphertext_size}
use Rattle.pkcs5.specs.Parameters.{AreParameters, parameters_content}
use Rattle.pkcs5.specs.Pbkdf2Params.{pbkdf2_params_content, stated_prf}
use Rattle.pkcs5.specs.Pbkdf2Prf.{prf_content}
use Rattle.pkcs5.specs.Refusals.{RefusesToEncrypt}
use Rattle.pkcs5.specs.Scheme.{scheme_content}
use Rattle.pkcs5.specs.ScryptParams.{scrypt_params_content}
use Rattle.pkcs5.specs.declared.encryption_scheme.EncryptionScheme.TheVariants.{Pbes2}
use Rattle.pkcs5.specs.declared.error.Error.{Error as Pkcs5Error}
use Rattle.pkcs5.specs.declared.error.Error.TheVariants as pkcs5
use Rattle.pkcs5.specs.declared.pbes2.encryption_scheme.EncryptionScheme.{EncryptionScheme}
use Rattle.pkcs5.specs.declared.pbes2.encryption_scheme.EncryptionScheme.TheVariants.{Aes128Cbc, Aes192Cbc, Aes256Cbc, Aes128Gcm, Aes256Gcm, DesEde3Cbc, DesCbc}
use Rattle.pkcs5.specs.declared.pbes2.kdf.Kdf.{Kdf}
use Rattle.pkcs5.specs.declared.pbes2.kdf.Kdf.TheVariants.{Pbkdf2, Scrypt}
use Rattle.pkcs5.specs.declared.pbes2.parameters.Parameters.{Parameters}
use Rattle.pkcs5.specs.declared.pbes2.pbkdf2_prf.Pbkdf2Prf.{Pbkdf2Prf}
use Rattle.pkcs5.specs.declared.pbes2.pbkdf2_prf.Pbkdf2Prf.TheVariants.{HmacWithSha1, HmacWithSha224, HmacWithSha256, HmacWithSha384, HmacWithSha512}
use Rattle.pkcs5.proofs.Openings.{length_opens}
use Rattle.spki.specs.Seen.{AnyAlgorithm}
use Rattle.spki.specs.Spelling.{algorithm_text}
use Rattle.pkcs8.specs.declared.error.Error.{Error}
use Rattle.pkcs8.specs.declared.error.Error.TheVariants as errors
use Rattle.pkcs8.specs.EncryptedPrivateKeyInfo.{encrypted_key_text}
use Rattle.pkcs8.specs.Sealing.{IsTooLong, RefusesToEncryptKey}
use Rattle.pkcs8.specs.Seen.{AnyPrivateKey, IsPrivateKey}
use Rattle.pkcs8.specs.Spelling.{key_parts, private_key_text}
use Rattle.pkcs8.proofs.Elements.{el_more, el_within, uint_within}
use Rattle.pkcs8.proofs.Spellings.{private_keys_spelled}

-- ---- what is written of a key

-- without attributes and further fields a text is no longer
parts_shortest : (a : AnyAlgorithm) (k : List ℕ) (o : Option (ℕ × List ℕ)) (x y : List ℕ) → length (key_parts a k o [] []) ≤ length (key_parts a k o x y)
parts_shortest a k None x y =
    let front = uint 0 ++ algorithm_text a ++ octets k in
    el_more 0x30 0x30 (front ++ [] ++ []) (front ++ x ++ y)
    (omega (arith, length-append (front ++ []) [], length-append front [], length-append (front ++ x) y, length-append front x))
parts_shortest a k (Some q) x y =
    let front = uint 1 ++ algorithm_text a ++ octets k in
    let public = pctx 1 (q.0 ∷ q.1) in
    el_more 0x30 0x30 (front ++ [] ++ public ++ []) (front ++ x ++ public ++ y)
    (omega (arith, length-append (front ++ [] ++ public) [], length-append (front ++ []) public, length-append front [], length-append (front ++ x ++ public) y, length-append (front ++ x) public, length-append front x))

pub written_shortest : (b : List ℕ) (k : AnyPrivateKey) → IsPrivateKey b k → length (private_key_text k) ≤ length b
written_shortest b k is =
    let (x, y, fx, fy, told) = ((private_keys_spelled b k).0 is).2 in
    omega (arith, ap length told, parts_shortest k.algorithm k.private_key k.public_key x y)

-- elements of any tag have a text
pub any_writable : {A : Type 0} (o : Option A) → writable_option (λ a. Unit {0}) o
any_writable None = tt
any_writable (Some a) = tt

-- ---- the text of an encrypted key

-- its parameters are short
cipher_named_within : (e : EncryptionScheme) → length (cipher_oid e) ≤ 9
cipher_named_within (Aes128Cbc iv) = omega arith
cipher_named_within (Aes192Cbc iv) = omega arith
cipher_named_within (Aes256Cbc iv) = omega arith
cipher_named_within (Aes128Gcm nonce) = omega arith
cipher_named_within (Aes256Gcm nonce) = omega arith
cipher_named_within (DesEde3Cbc iv) = omega arith
cipher_named_within (DesCbc iv) = omega arith

iv_within : (e : EncryptionScheme) → IsCipher e → length (iv_of e) ≤ 16
iv_within (Aes128Cbc iv) h = omega (arith, h)
iv_within (Aes192Cbc iv) h = omega (arith, h)
iv_within (Aes256Cbc iv) h = omega (arith, h)
iv_within (Aes128Gcm nonce) h = omega (arith, h)
iv_within (Aes256Gcm nonce) h = omega (arith, h)
iv_within (DesEde3Cbc iv) h = omega (arith, h)
iv_within (DesCbc iv) h = omega (arith, h)

cipher_within : (e : EncryptionScheme) → IsCipher e → length (el 0x30 (cipher_content e)) ≤ 43
cipher_within e h =
    el_within 0x30 37 (cipher_content e)
    (omega (arith, length-append (oid (cipher_oid e)) (octets (iv_of e)), el_within 6 9 (cipher_oid e) (cipher_named_within e) (omega arith), el_within 4 16 (iv_of e) (iv_within e h) (omega arith)))
    (omega arith)

stated_within : (k : Option ℕ) → writable_option (λ n. n ≤ 65535) k → length (canon_option uint k) ≤ 15
stated_within None h = omega arith
stated_within (Some n) h = uint_within n (omega (arith, h))

prf_named_within : (f : Pbkdf2Prf) → length (prf_oid f) ≤ 8
prf_named_within HmacWithSha1 = omega arith
prf_named_within HmacWithSha224 = omega arith
prf_named_within HmacWithSha256 = omega arith
prf_named_within HmacWithSha384 = omega arith
prf_named_within HmacWithSha512 = omega arith

prf_within : (f : Option Pbkdf2Prf) → length (canon_option (λ f. el 0x30 (prf_content f)) f) ≤ 26
prf_within None = omega arith
prf_within (Some f) =
    el_within 0x30 20 (prf_content f) (omega (arith, length-append (oid (prf_oid f)) null, el_within 6 8 (prf_oid f) (prf_named_within f) (omega arith), el_within 5 0 [] (omega arith) (omega arith))) (omega arith)

kdf_within : (k : Kdf) → IsKdf k → length (el 0x30 (kdf_content k)) ≤ 125
kdf_within (Pbkdf2 p) (salt, rounds, stated) =
    let s = octets p.salt in
    let n = uint p.iteration_count in
    let k = canon_option uint p.key_length in
    let f = canon_option (λ f. el 0x30 (prf_content f)) (stated_prf p.prf) in
    let content : length (pbkdf2_params_content p) ≤ 94 =
    omega (arith, length-append (s ++ n ++ k) f, length-append (s ++ n) k, length-append s n, el_within 4 32 p.salt salt (omega arith), uint_within p.iteration_count (omega (arith, rounds)), stated_within p.key_length stated, prf_within (stated_prf p.prf)) in
    el_within 0x30 119 (kdf_content (Pbkdf2 p)) (omega (arith, length-append (oid pbkdf2_oid) (el 0x30 (pbkdf2_params_content p)), el_within 6 9 pbkdf2_oid (omega arith) (omega arith), el_within 0x30 94 (pbkdf2_params_content p) content (omega arith))) (omega arith)
kdf_within (Scrypt p) (salt, turns, blocks, pieces, stated) =
    let s = octets p.salt in
    let n = uint p.cost_parameter in
    let r = uint p.block_size in
    let o = uint p.parallelization in
    let k = canon_option uint p.key_length in
    let content : length (scrypt_params_content p) ≤ 98 =
    omega (arith, length-append (s ++ n ++ r ++ o) k, length-append (s ++ n ++ r) o, length-append (s ++ n) r, length-append s n, el_within 4 32 p.salt salt (omega arith), uint_within p.cost_parameter (omega (arith, turns)), uint_within p.block_size (omega (arith, blocks)), uint_within p.parallelization (omega (arith, pieces)), stated_within p.key_length stated) in
    el_within 0x30 119 (kdf_content (Scrypt p)) (omega (arith, length-append (oid scrypt_oid) (el 0x30 (scrypt_params_content p)), el_within 6 9 scrypt_oid (omega arith) (omega arith), el_within 0x30 98 (scrypt_params_content p) content (omega arith))) (omega arith)

scheme_within : (par : Parameters) → AreParameters par → length (scheme_content (Pbes2 par)) ≤ 189
scheme_within par (kdf, cipher) =
    let content : length (parameters_content par) ≤ 168 =
    omega (arith, length-append (el 0x30 (kdf_content par.kdf)) (el 0x30 (cipher_content par.encryption)), kdf_within par.kdf kdf, cipher_within par.encryption cipher) in
    omega (arith, length-append (oid pbes2_oid) (el 0x30 (parameters_content par)), el_within 6 9 pbes2_oid (omega arith) (omega arith), el_within 0x30 168 (parameters_content par) content (omega arith))

-- the text has at most 207 octets beside the ciphertext
text_within : (par : Parameters) (c : List ℕ) (n : ℕ) → AreParameters par → length c ≤ n → n < 4294967000 → length (encrypted_key_text (Pbes2 par) c) ≤ n + 207
text_within par c n lawful h s =
    let a = el 0x30 (scheme_content (Pbes2 par)) in
    let whole : length (el 0x30 (a ++ octets c)) ≤ n + 201 + 6 =
    el_within 0x30 (n + 201) (a ++ octets c) (omega (arith, length-append a (octets c), el_within 0x30 189 (scheme_content (Pbes2 par)) (scheme_within par lawful) (omega arith), el_within 4 n c h (omega (arith, s)))) (omega (arith, s)) in
    omega (arith, whole)

-- a ciphertext has at most 16 octets more than its text
size_within : (e : EncryptionScheme) (n : ℕ) → ciphertext_size e n ≤ n + 16
size_within (Aes128Cbc iv) n = omega arith
size_within (Aes192Cbc iv) n = omega arith
size_within (Aes256Cbc iv) n = omega arith
size_within (Aes128Gcm nonce) n = omega arith
size_within (Aes256Gcm nonce) n = omega arith
size_within (DesEde3Cbc iv) n = omega arith
size_within (DesCbc iv) n = omega arith

not_too_long : (par : Parameters) (q m : List ℕ) → AreParameters par → length m ≤ 2147483648 → IsTooLong par q m → ⊥
not_too_long par q m lawful h (c, opens, long) =
    let size = length_opens par q c m opens in
    let most : length c ≤ length m + 16 = omega (arith, size, size_within par.encryption (length m)) in
    absurd (omega (arith, long, text_within par c (length m + 16) lawful most (omega (arith, h)), h))

-- ---- refusals

-- where the function gives a key, and the cipher is not DES, a text is encrypted
pub encrypts : {P : Type 0} (par : Parameters) (e : Pkcs5Error) → FitsKey par → (IsDes par.encryption → ⊥) → RefusesToEncrypt par e → P
encrypts par (pkcs5.AlgorithmParametersInvalid o) fits des h = absurd (h.1 fits)
encrypts par (pkcs5.UnsupportedAlgorithm o) fits des h = absurd (des h.2)
encrypts par pkcs5.DecryptFailed fits des h = absurd h
encrypts par pkcs5.EncryptFailed fits des h = absurd h
encrypts par pkcs5.NoPbes1CryptSupport fits des h = absurd h
encrypts par pkcs5.Rng fits des h = absurd h
encrypts par pkcs5.Memory fits des h = absurd h

pub short_sealed : (writable : Type 0) (par : Parameters) (q m : List ℕ) (e : Error) → writable → AreParameters par → FitsKey par → (IsDes par.encryption → ⊥) → length m ≤ 2147483648
    → RefusesToEncryptKey writable par q m e → e ≡ errors.Memory
short_sealed writable par q m (errors.EncryptedPrivateKey e) w lawful fits des h r = encrypts par e fits des r.1
short_sealed writable par q m (errors.Asn1 asn1.Malformed) w lawful fits des h r = absurd (r w)
short_sealed writable par q m (errors.Asn1 (asn1.OidUnknown o)) w lawful fits des h r = absurd r
short_sealed writable par q m (errors.Asn1 asn1.Overlength) w lawful fits des h (inl long) = absurd (omega (arith, h, long))
short_sealed writable par q m (errors.Asn1 asn1.Overlength) w lawful fits des h (inr long) = absurd (not_too_long par q m lawful h long)
short_sealed writable par q m (errors.Asn1 asn1.NoRoom) w lawful fits des h r = absurd r
short_sealed writable par q m (errors.Asn1 asn1.File) w lawful fits des h r = absurd r
short_sealed writable par q m (errors.Asn1 asn1.Memory) w lawful fits des h r = absurd r
short_sealed writable par q m (errors.KeyMalformed k) w lawful fits des h r = absurd r
short_sealed writable par q m errors.ParametersMalformed w lawful fits des h r = absurd r
short_sealed writable par q m (errors.PublicKey e) w lawful fits des h r = absurd r
short_sealed writable par q m errors.Memory w lawful fits des h r = refl
