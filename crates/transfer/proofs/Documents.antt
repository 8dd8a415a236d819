-- Documents, by the words of the standards and by the definitions of the crates below.
use Rattle.std.proofs.Common.{◌≡◌, ℕ, ◌<◌, ◌≤◌, List, [], ◌∷◌, ◌++◌, length, sym, ap, ◌∙◌, subst, arith}
use Rattle.std.specs.Prelude.{All}
use Rattle.std.proofs.lemmas.List.{append-nil}
use Rattle.std.proofs.lemmas.List.Elements.{All-tail}
use Rattle.asn1_core.specs.Der.{el, len, null, octets, oid, seq, uint}
use Rattle.pkcs5.specs.Generation.{pbkdf2_sha256}
use Rattle.pkcs5.specs.Identifiers.{aes_256_cbc_oid, hmac_with_sha256_oid, pbes2_oid, pbkdf2_oid}
use Rattle.pkcs5.specs.Kinds.{IsDes}
use Rattle.pkcs5.specs.Opening.{FitsKey, Opens, OpensBy, derived, key_under, prf_of}
use Rattle.pkcs5.specs.Parameters.{AreParameters}
use Rattle.pkcs5.specs.declared.encryption_scheme.EncryptionScheme.TheVariants.{Pbes2}
use Rattle.pkcs5.specs.declared.pbes2.encryption_scheme.EncryptionScheme.TheVariants.{Aes256Cbc}
use Rattle.pkcs8.specs.EncryptedPrivateKeyInfo.{encrypted_key_text}
use Rattle.pkcs8.specs.Seen.{AnyPrivateKey, IsPrivateKey}
use Rattle.pkcs8.specs.Sealing.{IsSealed}
use Rattle.pkcs8.specs.Spelling.{private_key_text}
use Rattle.transfer.specs.Document.{IsDocument, document_text}
use Rattle.transfer.specs.Limits.{rounds_limit}

pub document_canonical : (rounds : ℕ) (iv salt c : List ℕ) → document_text rounds iv salt c ≡ encrypted_key_text (Pbes2 (pbkdf2_sha256 rounds salt (Aes256Cbc iv))) c
document_canonical rounds iv salt c =
    ap (λ x. seq (seq (oid pbes2_oid ++ seq (seq (oid pbkdf2_oid ++ seq (x ++ seq (oid hmac_with_sha256_oid ++ null))) ++ seq (oid aes_256_cbc_oid ++ octets iv))) ++ octets c))
    (sym (append-nil (octets salt ++ uint rounds)))

pub sealed_document : (document : List ℕ) (rounds : ℕ) (iv salt q text : List ℕ) (k : AnyPrivateKey) → All (λ octet. octet < 256) document → IsPrivateKey text k → IsSealed (pbkdf2_sha256 rounds salt (Aes256Cbc iv)) q (private_key_text k) document
    → IsDocument document rounds iv salt q text
unfolding OpensBy key_under derived prf_of
sealed_document document rounds iv salt q text k octets is (c, o, e) = record {
  in_octets = octets;
  key = k;
  is_key = is;
  ciphertext = c;
  is_text = e ∙ sym (document_canonical rounds iv salt c);
  some_blocks = o.blocks.some;
  whole_blocks = o.blocks.whole;
  opens = o.text;
}

pub document_sealed : (document : List ℕ) (rounds : ℕ) (iv salt q text : List ℕ) (d : IsDocument document rounds iv salt q text)
    → IsSealed (pbkdf2_sha256 rounds salt (Aes256Cbc iv)) q (private_key_text d.key) document
unfolding OpensBy key_under derived prf_of
document_sealed document rounds iv salt q text d =
    (d.ciphertext, record { blocks = record { some = d.some_blocks; whole = d.whole_blocks }; text = d.opens }, d.is_text ∙ document_canonical rounds iv salt d.ciphertext)

-- These parameters are lawful, and give a key to a cipher other than DES.
pub lawful : (rounds : ℕ) (iv salt : List ℕ) → rounds ≤ rounds_limit → length iv ≡ 16 → length salt ≡ 16 → AreParameters (pbkdf2_sha256 rounds salt (Aes256Cbc iv))
lawful rounds iv salt r i s = ((omega (arith, s), omega (arith, r), tt), i)

pub gives_key : (rounds : ℕ) (iv salt : List ℕ) → FitsKey (pbkdf2_sha256 rounds salt (Aes256Cbc iv)) × (IsDes (Aes256Cbc iv) → ⊥)
gives_key rounds iv salt = ((tt, tt), λ des. des)

-- ---- One document

octets_behind : (front behind : List ℕ) → All (λ octet. octet < 256) (front ++ behind) → All (λ octet. octet < 256) behind
octets_behind [] behind h = h
octets_behind (x ∷ front) behind h = octets_behind front behind (All-tail (λ octet. octet < 256) x (front ++ behind) h)

octets_inside : (tag : ℕ) (value : List ℕ) → All (λ octet. octet < 256) (el tag value) → All (λ octet. octet < 256) value
unfolding el
octets_inside tag value h = octets_behind (tag ∷ len (length value)) value h

octets_sealed : (document : List ℕ) (rounds : ℕ) (iv salt q text : List ℕ) (d : IsDocument document rounds iv salt q text)
    → All (λ octet. octet < 256) d.ciphertext
octets_sealed document rounds iv salt q text d =
    octets_inside 0x04 d.ciphertext (octets_behind _ (octets d.ciphertext) (octets_inside 0x30 _ (subst (All (λ octet. octet < 256)) d.is_text d.in_octets)))

pub same_document : (d e : List ℕ) (rounds : ℕ) (iv salt q text : List ℕ) (x : IsDocument d rounds iv salt q text) (y : IsDocument e rounds iv salt q text) → x.key ≡ y.key
    → ((c f m : List ℕ) → All (λ octet. octet < 256) c → All (λ octet. octet < 256) f → Opens (pbkdf2_sha256 rounds salt (Aes256Cbc iv)) q c m → Opens (pbkdf2_sha256 rounds salt (Aes256Cbc iv)) q f m → c ≡ f)
    → d ≡ e
unfolding document_sealed
same_document d e rounds iv salt q text x y key one =
    let first = (document_sealed d rounds iv salt q text x).1 in
    let second = (document_sealed e rounds iv salt q text y).1 in
    let same : x.ciphertext ≡ y.ciphertext = one x.ciphertext y.ciphertext (private_key_text y.key) (octets_sealed d rounds iv salt q text x) (octets_sealed e rounds iv salt q text y)
    (subst (λ k. Opens (pbkdf2_sha256 rounds salt (Aes256Cbc iv)) q x.ciphertext (private_key_text k)) key first) second in
    x.is_text ∙ ap (document_text rounds iv salt) same ∙ sym y.is_text
