-- How long the document of a private key is.
use Rattle.std.proofs.Common.{◌≡◌, ℕ, ◌+◌, ◌<◌, ◌≤◌, List, ◌++◌, length, ap, arith, length-append}
use Rattle.asn1_core.specs.Der.{null, octets, oid, seq, shortest, uint}
use Rattle.pkcs5.specs.Generation.{pbkdf2_sha256}
use Rattle.pkcs5.specs.Identifiers.{aes_256_cbc_oid, hmac_with_sha256_oid, pbes2_oid, pbkdf2_oid}
use Rattle.pkcs5.specs.Opening.{OpensBy, derived, key_under, prf_of}
use Rattle.pkcs5.specs.declared.pbes2.encryption_scheme.EncryptionScheme.TheVariants.{Aes256Cbc}
use Rattle.pkcs5.proofs.Openings.{length_opens}
use Rattle.pkcs8.specs.Seen.{AnyPrivateKey, IsPrivateKey}
use Rattle.pkcs8.specs.Spelling.{private_key_text}
use Rattle.transfer.specs.Document.{IsDocument, document_text}
use Rattle.transfer.specs.Limits.{rounds_limit, store_limit}
use Rattle.pkcs12_c.proofs.ElementLengths.{el_most, el_short, shortest_most}

-- What is written of a key is no longer than any text of it: the law `pkcs8::written_keys_are_shortest`.
abbrev pub KeysAreShortest : Type 0
KeysAreShortest = (b : List ℕ) (k : AnyPrivateKey) → IsPrivateKey b k → length (private_key_text k) ≤ length b

-- the parameters of PBKDF2
derivation_size : (rounds : ℕ) (salt : List ℕ) → rounds ≤ rounds_limit → length salt ≡ 16
    → length (seq (octets salt ++ uint rounds ++ seq (oid hmac_with_sha256_oid ++ null))) ≤ 40
derivation_size rounds salt most long =
    let function = oid hmac_with_sha256_oid ++ null in
    let named : length (oid hmac_with_sha256_oid) ≡ 10 = el_short 0x06 hmac_with_sha256_oid (omega arith) in
    let none : length null ≡ 2 = el_short 0x05 _ (omega arith) in
    let inside : length function ≡ 12 = omega (arith, length-append (oid hmac_with_sha256_oid) null, named, none) in
    let whole : length (seq function) ≡ 14 = omega (arith, el_short 0x30 function (omega (arith, inside)), inside) in
    let number : length (shortest rounds) ≤ 4 = shortest_most rounds (omega (arith, most)) in
    let count : length (uint rounds) ≤ 6 = omega (arith, el_short 0x02 (shortest rounds) (omega (arith, number)), number) in
    let salted : length (octets salt) ≡ 18 = omega (arith, el_short 0x04 salt (omega (arith, long)), long) in
    let parts : length (octets salt ++ uint rounds ++ seq function) ≤ 38 = omega (arith, length-append (octets salt ++ uint rounds) (seq function), length-append (octets salt) (uint rounds), whole, count, salted) in
    omega (arith, el_short 0x30 (octets salt ++ uint rounds ++ seq function) (omega (arith, parts)), parts)

-- the algorithm of a document
algorithm_size : (rounds : ℕ) (iv salt : List ℕ) → rounds ≤ rounds_limit → length iv ≡ 16 → length salt ≡ 16
    → length (seq (oid pbes2_oid ++ seq (seq (oid pbkdf2_oid ++ seq (octets salt ++ uint rounds ++ seq (oid hmac_with_sha256_oid ++ null))) ++ seq (oid aes_256_cbc_oid ++ octets iv)))) ≤ 99
algorithm_size rounds iv salt most long_iv long_salt =
    let derivation = seq (octets salt ++ uint rounds ++ seq (oid hmac_with_sha256_oid ++ null)) in
    let derived = oid pbkdf2_oid ++ derivation in
    let cipher = oid aes_256_cbc_oid ++ octets iv in
    let scheme = seq derived ++ seq cipher in
    let first : length derived ≤ 51 = omega (arith, length-append (oid pbkdf2_oid) derivation, el_short 0x06 pbkdf2_oid (omega arith), derivation_size rounds salt most long_salt) in
    let vector : length (octets iv) ≡ 18 = omega (arith, el_short 0x04 iv (omega (arith, long_iv)), long_iv) in
    let second : length cipher ≡ 29 = omega (arith, length-append (oid aes_256_cbc_oid) (octets iv), el_short 0x06 aes_256_cbc_oid (omega arith), vector) in
    let both : length scheme ≤ 84 =
    omega (arith, length-append (seq derived) (seq cipher), el_short 0x30 derived (omega (arith, first)), el_short 0x30 cipher (omega (arith, second)), first, second) in
    let inside : length (oid pbes2_oid ++ seq scheme) ≤ 97 =
    omega (arith, length-append (oid pbes2_oid) (seq scheme), el_short 0x06 pbes2_oid (omega arith), el_short 0x30 scheme (omega (arith, both)), both) in
    omega (arith, el_short 0x30 (oid pbes2_oid ++ seq scheme) (omega (arith, inside)), inside)

text_size : (rounds : ℕ) (iv salt c : List ℕ) → rounds ≤ rounds_limit → length iv ≡ 16 → length salt ≡ 16 → length c < 4294967000
    → length (document_text rounds iv salt c) ≤ 111 + length c
text_size rounds iv salt c most long_iv long_salt short =
    let algorithm = seq (oid pbes2_oid ++ seq (seq (oid pbkdf2_oid ++ seq (octets salt ++ uint rounds ++ seq (oid hmac_with_sha256_oid ++ null))) ++ seq (oid aes_256_cbc_oid ++ octets iv))) in
    let inside : length (algorithm ++ octets c) ≤ 105 + length c =
    omega (arith, length-append algorithm (octets c), algorithm_size rounds iv salt most long_iv long_salt, el_most 0x04 c (omega (arith, short))) in
    omega (arith, el_most 0x30 (algorithm ++ octets c) (omega (arith, inside, short)), inside)

ciphertext_size : (rounds : ℕ) (iv salt q text document : List ℕ) (d : IsDocument document rounds iv salt q text) → length d.ciphertext ≤ length (private_key_text d.key) + 16
unfolding OpensBy key_under derived prf_of
ciphertext_size rounds iv salt q text document d =
    let size = length_opens (pbkdf2_sha256 rounds salt (Aes256Cbc iv)) q d.ciphertext (private_key_text d.key) (record { blocks = record { some = d.some_blocks; whole = d.whole_blocks }; text = d.opens }) in
    omega (arith, size)

-- A document has at most 127 octets more than the text of its key.
pub document_size : KeysAreShortest → (rounds : ℕ) (iv salt q text document : List ℕ) → rounds ≤ rounds_limit → length iv ≡ 16 → length salt ≡ 16 → length text ≤ store_limit
    → IsDocument document rounds iv salt q text → length document ≤ 127 + length text
document_size shortest rounds iv salt q text document most long_iv long_salt short d =
    let c : length d.ciphertext ≤ length text + 16 = omega (arith, ciphertext_size rounds iv salt q text document d, shortest text d.key d.is_key) in
    omega (arith, ap length d.is_text, text_size rounds iv salt d.ciphertext most long_iv long_salt (omega (arith, c, short)), c)
