-- Documents that are too long.
use Rattle.std.proofs.Common.{ℕ, ◌≡◌, ◌+◌, ◌<◌, ◌≤◌, List, ◌++◌, length, None, refl, sym, subst, arith, length-append}
use Rattle.asn1_core.specs.Der.{el, len, octets, IsHeader}
use Rattle.asn1_core.specs.Writing.{Cause, IsOverlong}
use Rattle.asn1_core.specs.declared.error.Error.{Error}
use Rattle.asn1_core.specs.declared.error.Error.TheVariants.{Overlength}
use Rattle.asn1_core.specs.WritingLaws.{el_size, overlong_el}
use Rattle.pkcs5.specs.declared.encryption_scheme.EncryptionScheme.{EncryptionScheme}
use Rattle.pkcs5.specs.Scheme.{scheme_content}
use Rattle.pkcs8.specs.EncryptedPrivateKeyInfo.{encrypted_key_text}

not_less : (n m : ℕ) → (n < m → ⊥) → m ≤ n
not_less n m h = grind (arith, h)

-- A ciphertext that is no OCTET STRING makes a document that is too long.
pub long_ciphertext : (s : EncryptionScheme) (c : List ℕ) → (IsHeader (length c) → ⊥) → IsOverlong (length (encrypted_key_text s c))
long_ciphertext s c h =
    let string : 4294967296 ≤ length (octets c) = overlong_el 4 (length c) c refl (not_less (1 + length (len (length c)) + length c) 4294967296 h) in
    let content : length (el 0x30 (scheme_content s) ++ octets c) ≡ length (el 0x30 (scheme_content s)) + length (octets c) = length-append (el 0x30 (scheme_content s)) (octets c) in
    omega (arith, el_size 0x30 (el 0x30 (scheme_content s) ++ octets c), string, content)

pub no_string : (s : EncryptionScheme) (c : List ℕ) (e : Error) → (e ≡ Overlength) × (IsHeader (length c) → ⊥) → Cause ⊥ (IsOverlong (length (encrypted_key_text s c))) (Unit {0}) None 0 0 0 e
no_string s c e h = let Q : Error → Type 0 = λ e. Cause ⊥ (IsOverlong (length (encrypted_key_text s c))) (Unit {0}) None 0 0 0 e in subst Q (sym h.0) (long_ciphertext s c h.1)
