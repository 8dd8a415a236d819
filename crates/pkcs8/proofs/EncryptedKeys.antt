-- Encrypted keys over any octets.
use Rattle.std.specs.Prelude.{◌↔◌}
use Rattle.std.proofs.Common.{◌≡◌, ℕ, List, Ok, refl, ap, sym, ◌∙◌}
use Rattle.asn1_core.specs.Der.{el, octets, IsShort}
use Rattle.asn1_core.specs.Reading.{left, whole, within}
use Rattle.asn1_core.specs.Texts.{Exact, Inside}
use Rattle.asn1_core.specs.ElementLaws.{inside-exact}
use Rattle.asn1_core.specs.ExactLaws.{whole-exact}
use Rattle.asn1_core.specs.StandLaws.{whole_found, whole_sole}
use Rattle.pkcs5.specs.Opening.{FitsKey}
use Rattle.pkcs5.specs.Parameters.{AreParameters}
use Rattle.pkcs5.specs.Scheme.{IsScheme}
use Rattle.pkcs5.specs.SchemeOpening.{SchemeOpens}
use Rattle.pkcs5.specs.declared.encryption_scheme.EncryptionScheme.{EncryptionScheme}
use Rattle.pkcs5.specs.declared.encryption_scheme.EncryptionScheme.TheVariants.{Pbes2}
use Rattle.pkcs5.specs.declared.pbes2.parameters.Parameters.{Parameters}
use Rattle.pkcs8.specs.declared.encrypted_private_key_info.EncryptedPrivateKeyInfo.{EncryptedPrivateKeyInfo}
use Rattle.pkcs8.specs.EncryptedPrivateKeyInfo.{EncryptedKeyText, IsEncryptedKey, SpellsEncryptedKey, encrypted_key, encrypted_key_at}
use Rattle.pkcs8.specs.EncryptedPrivateKeyInfoLaws.{encrypted_key-exact, encrypted_key_canonical, encrypted_key_spelled}
use Rattle.pkcs8.specs.Sealing.{IsSealed}

any_encrypted_key-exact : Exact (EncryptedKeyText (Inside 0x04)) (encrypted_key_at (within 0x04 left))
any_encrypted_key-exact = encrypted_key-exact (Inside 0x04) (within 0x04 left) (inside-exact 4 refl)

-- what is read
pub key_read : (b : List ℕ) (k : EncryptedPrivateKeyInfo (List ℕ)) → whole (encrypted_key_at (within 0x04 left)) b ≡ Ok k → IsEncryptedKey b k
key_read b k e = whole_found (EncryptedKeyText (Inside 0x04)) (encrypted_key_at (within 0x04 left)) any_encrypted_key-exact b k e

pub key_sole : (b : List ℕ) (k l : EncryptedPrivateKeyInfo (List ℕ)) → IsEncryptedKey b k → IsEncryptedKey b l → k ≡ l
key_sole b k l r q = whole_sole (EncryptedKeyText (Inside 0x04)) (encrypted_key_at (within 0x04 left)) any_encrypted_key-exact b k l r q

-- a ciphertext has one text
string_spelled : (b d : List ℕ) → Inside 0x04 b d ↔ (Unit {0} × (b ≡ octets d))
string_spelled b d = (
  λ r. (tt, r.2 ∙ ap (λ (l : List ℕ). el 4 l) (sym r.1)),
  λ h. (d, refl, h.1),
)

spelled : (b : List ℕ) (s : EncryptionScheme) (c : List ℕ) → EncryptedKeyText (Inside 0x04) b (encrypted_key s c) ↔ ((IsScheme s × Unit {0}) × SpellsEncryptedKey (λ t d. t ≡ octets d) b s c)
spelled b s c = encrypted_key_spelled (λ (d : List ℕ). d) (Inside 0x04) (λ d. Unit {0}) (λ t d. t ≡ octets d) string_spelled b s c

pub keys_spelled : (b : List ℕ) (s : EncryptionScheme) (c : List ℕ) → whole (encrypted_key_at (within 0x04 left)) b ≡ Ok (encrypted_key s c)
    ↔ (IsScheme s × SpellsEncryptedKey (λ t d. t ≡ octets d) b s c × IsShort b)
keys_spelled b s c = (
  λ e. let r = key_read b (encrypted_key s c) e in let h = (spelled b s c).0 r.0 in (h.0.0, h.1, r.1),
  λ h. (whole-exact (EncryptedKeyText (Inside 0x04)) (encrypted_key_at (within 0x04 left)) any_encrypted_key-exact).again b (encrypted_key s c) ((spelled b s c).1 ((h.0, tt), h.1)) h.2,
)

pub sealed_opens : (par : Parameters) (q m b : List ℕ) → AreParameters par → FitsKey par → IsShort b → IsSealed par q m b
    → (c : List ℕ) × IsEncryptedKey b (encrypted_key (Pbes2 par) c) × SchemeOpens (Pbes2 par) q c m
sealed_opens par q m b lawful fits short (c, opens, is) =
    let text = encrypted_key_canonical (λ (d : List ℕ). d) (Inside 0x04) octets (Pbes2 par) c lawful (c, refl, refl) in
    (c, (rw is text, short), (fits, opens))
