-- The document of a private key under a password: EncryptedPrivateKeyInfo (RFC 5958 section 3)
-- under PBES2 (RFC 8018 section 6.2), with PBKDF2 over HMAC-SHA-256 and AES-256 in CBC mode.
-- Encryption is never defined: a cipher is a permutation under each key, so the ciphertext of a
-- text is the one that opens to it.
use Rattle.std.specs.Prelude.{ℕ, ◌<◌, ◌%◌, ◌≡◌, ◌↔◌, All, List, ◌++◌, length}
use Rattle.sha2.specs.Sha256.{sha256}
use Rattle.block_core.specs.Aes.{inv_aes_256}
use Rattle.mac_modes.specs.Cbc.{uncbc}
use Rattle.mac_modes.specs.Hmac.{hmac}
use Rattle.mac_modes.specs.Padding.{padded}
use Rattle.pbkdf2.specs.Pbkdf2.{pbkdf2}
use Rattle.asn1_core.specs.Der.{null, octets, oid, seq, uint}
use Rattle.pkcs5.specs.Generation.{pbkdf2_sha256}
use Rattle.pkcs5.specs.Identifiers.{aes_256_cbc_oid, hmac_with_sha256_oid, pbes2_oid, pbkdf2_oid}
use Rattle.pkcs5.specs.declared.encryption_scheme.EncryptionScheme.TheVariants.{Pbes2}
use Rattle.pkcs5.specs.declared.pbes2.encryption_scheme.EncryptionScheme.TheVariants.{Aes256Cbc}
use Rattle.pkcs8.specs.EncryptedPrivateKeyInfo.{encrypted_key_text}
use Rattle.pkcs8.specs.Seen.{AnyPrivateKey, IsPrivateKey}
use Rattle.pkcs8.specs.Sealing.{IsSealed}
use Rattle.pkcs8.specs.Spelling.{private_key_text}

-- SEQUENCE { encryptionAlgorithm, encryptedData }, where the algorithm is PBES2 (RFC 8018 appendix
-- A.4) with PBKDF2 (appendix A.2) of this salt and so many rounds, no stated length of the key,
-- HMAC-SHA-256 (appendix B.1.2), and AES-256 in CBC mode with this IV (appendix B.2.5)
abbrev pub document_text : ℕ → List ℕ → List ℕ → List ℕ → List ℕ
document_text rounds iv salt c = seq (
    seq (oid pbes2_oid ++ seq (
    seq (oid pbkdf2_oid ++ seq
    (octets salt ++ uint rounds ++ seq (oid hmac_with_sha256_oid ++ null)))
    ++ seq (oid aes_256_cbc_oid ++ octets iv)))
    ++ octets c)

-- the key of 32 octets that is derived from the password q (RFC 8018 section 5.2)
abbrev pub document_key : ℕ → List ℕ → List ℕ → List ℕ
document_key rounds salt q = pbkdf2 (hmac sha256 64 q) 32 salt rounds 32

-- The document, in octets, seals the private key of this text: it states these rounds, this IV and
-- this salt, and its ciphertext opens under the password q to the key's canonical encoding.
pub record IsDocument (document : List ℕ) (rounds : ℕ) (iv salt q text : List ℕ) : Type 0 where
  pub in_octets : All (λ octet. octet < 256) document
  pub key : AnyPrivateKey
  pub is_key : IsPrivateKey text key
  pub ciphertext : List ℕ
  pub is_text : document ≡ document_text rounds iv salt ciphertext
  pub some_blocks : 0 < length ciphertext
  pub whole_blocks : length ciphertext % 16 ≡ 0
  pub opens : uncbc (inv_aes_256 (document_key rounds salt q)) 16 iv ciphertext
      ≡ padded (private_key_text key) 16

-- The text of a document is the canonical one of its grammar.
abbrev pub DocumentsAreCanonical : Type 0
DocumentsAreCanonical = (rounds : ℕ) (iv salt c : List ℕ)
    → document_text rounds iv salt c
    ≡ encrypted_key_text (Pbes2 (pbkdf2_sha256 rounds salt (Aes256Cbc iv))) c

-- A document is, in octets, what encryption under these parameters gives for a private key.
abbrev pub DocumentsAreSealed : Type 0
DocumentsAreSealed = (document : List ℕ) (rounds : ℕ) (iv salt q text : List ℕ)
    → IsDocument document rounds iv salt q text
    ↔ (All (λ octet. octet < 256) document × (k : AnyPrivateKey) × IsPrivateKey text k
    × IsSealed (pbkdf2_sha256 rounds salt (Aes256Cbc iv)) q (private_key_text k) document)

-- Of a key, rounds, an IV, a salt and a password there is one document.
abbrev pub OneDocument : Type 0
OneDocument = (d e : List ℕ) (rounds : ℕ) (iv salt q text : List ℕ) → length iv ≡ 16
    → IsDocument d rounds iv salt q text → IsDocument e rounds iv salt q text → d ≡ e
