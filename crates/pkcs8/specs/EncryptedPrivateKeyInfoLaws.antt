-- lemmas only: nothing to believe here
-- Encrypted keys are read exactly, and what is written of one is read again.
use Rattle.std.specs.Prelude.{◌↔◌}
use Rattle.std.proofs.Common.{◌≡◌, ℕ, Bool, true, ◌&&◌, List, [], ◌++◌, refl, sym, ap, ◌∙◌}
use Rattle.std.proofs.lemmas.List.{append-nil}
use Rattle.asn1_core.specs.Der.{el}
use Rattle.asn1_core.specs.OctetLaws.{both, and_true}
use Rattle.asn1_core.specs.Reading.{Front}
use Rattle.asn1_core.specs.Texts.{Exact, ExactAll, On, Ended}
use Rattle.asn1_core.specs.ExactLaws.{on-exact, ended-exact, same-exact}
use Rattle.asn1_core.specs.ElementLaws.{within-exact}
use Rattle.spki.specs.SameLaws.{Tells}
use Rattle.pkcs5.specs.Scheme.{SchemeText, scheme_content, IsScheme}
use Rattle.pkcs5.specs.SchemeLaws.{scheme-exact, scheme_canonical, scheme_spelled}
use Rattle.pkcs5.specs.declared.encryption_scheme.EncryptionScheme.{EncryptionScheme}
use Rattle.pkcs8.specs.declared.encrypted_private_key_info.EncryptedPrivateKeyInfo.{EncryptedPrivateKeyInfo}
use Rattle.pkcs8.specs.EncryptedPrivateKeyInfo.{encrypted_key, encrypted_key_of, encrypted_key_at, EncryptedKeyOf, EncryptedKeyText, encrypted_key_content, SpellsEncryptedKey}
use Rattle.pkcs5.specs.Reading.{scheme_at}

module _ {W : Type 0} (D : List ℕ → W → Type 0) (q : Front W) (exact_data : Exact D q) where
  abbrev Parts : List ℕ → EncryptedPrivateKeyInfo W → Type 0
  Parts = On SchemeText (λ s. On D (λ d. Ended (encrypted_key s d)))

  to : (b : List ℕ) (v : EncryptedPrivateKeyInfo W) → Parts b v → EncryptedKeyOf D b v
  to b v (s, r, x, h, (d, z, y, g, (none, is), e), f) =
      rw is (s, d, h, g, f ∙ ap (λ (l : List ℕ). s ++ l) (e ∙ rw none (append-nil d)))

  from : (b : List ℕ) (v : EncryptedPrivateKeyInfo W) → EncryptedKeyOf D b v → Parts b v
  from b v (s, d, h, g, is) = (s, d, v.encryption_algorithm, h, (d, [], v.encrypted_data, g, (refl, refl), sym (append-nil d)), is)

  pub encrypted_key_of-exact : ExactAll (EncryptedKeyOf D) (encrypted_key_of q)
  encrypted_key_of-exact = same-exact Parts (EncryptedKeyOf D) (encrypted_key_of q) to from
      (on-exact SchemeText (λ s. On D (λ d. Ended (encrypted_key s d))) scheme_at _ scheme-exact
      (λ s. on-exact D (λ d. Ended (encrypted_key s d)) q _ exact_data (λ d. ended-exact (encrypted_key s d))))

  pub encrypted_key-exact : Exact (EncryptedKeyText D) (encrypted_key_at q)
  encrypted_key-exact = within-exact 0x30 (EncryptedKeyOf D) (encrypted_key_of q) refl encrypted_key_of-exact

-- ---- what is written

module _ {B W : Type 0} (seen : B → W) (D : List ℕ → W → Type 0) (canon : B → List ℕ) where
  pub encrypted_key_canonical : (s : EncryptionScheme) (d : B) → IsScheme s → D (canon d) (seen d) → EncryptedKeyText D (el 0x30 (encrypted_key_content canon s d)) (encrypted_key s (seen d))
  encrypted_key_canonical s d h text =
      (encrypted_key_content canon s d, (el 0x30 (scheme_content s), canon d, scheme_canonical s h, text, refl), refl)

module _ {B W : Type 0} (seen : B → W) (D : List ℕ → W → Type 0) (writable : B → Type 0) (spell : List ℕ → B → Type 0) (spelled : (b : List ℕ) (d : B) → D b (seen d) ↔ (writable d × spell b d)) where
  spelled_to : (b : List ℕ) (s : EncryptionScheme) (d : B) → EncryptedKeyText D b (encrypted_key s (seen d)) → (IsScheme s × writable d) × SpellsEncryptedKey spell b s d
  spelled_to b s d (w, (a, q, r, t, is), e) =
      let one = (scheme_spelled a s).0 r in
      let two = (spelled q d).0 t in
      ((one.0, two.0), (a, q, one.1, two.1, e ∙ ap (λ (l : List ℕ). el 0x30 l) is))

  spelled_from : (b : List ℕ) (s : EncryptionScheme) (d : B) → (IsScheme s × writable d) × SpellsEncryptedKey spell b s d → EncryptedKeyText D b (encrypted_key s (seen d))
  spelled_from b s d ((h, i), (a, q, x, y, e)) = (a ++ q, (a, q, (scheme_spelled a s).1 (h, x), (spelled q d).1 (i, y), refl), e)

  pub encrypted_key_spelled : (b : List ℕ) (s : EncryptionScheme) (d : B) → EncryptedKeyText D b (encrypted_key s (seen d)) ↔ ((IsScheme s × writable d) × SpellsEncryptedKey spell b s d)
  encrypted_key_spelled b s d = (spelled_to b s d, spelled_from b s d)

-- equal encrypted keys are those of which the same is seen
pub encrypted_key_same : {W K : Type 0} (s t : EncryptionScheme) (alike : Bool) → (s ≡ t → alike ≡ true) × (alike ≡ true → s ≡ t)
    → (seen : K → W) (eq : K → K → Bool) → Tells seen eq → (c d : K)
    → (encrypted_key s (seen c) ≡ encrypted_key t (seen d) → (alike && eq c d) ≡ true) × ((alike && eq c d) ≡ true → encrypted_key s (seen c) ≡ encrypted_key t (seen d))
encrypted_key_same {W} {K} s t alike schemes seen eq tells c d = (
  λ e. and_true alike (eq c d) (schemes.0 (ap (λ (i : EncryptedPrivateKeyInfo W). i.encryption_algorithm) e)) ((tells c d).0 (ap (λ (i : EncryptedPrivateKeyInfo W). i.encrypted_data) e)),
  λ h.
      let r = both alike (eq c d) h in
      ap (λ (u : EncryptionScheme). encrypted_key u (seen c)) (schemes.1 r.0) ∙ ap (λ (w : W). encrypted_key t w) ((tells c d).1 r.1),
)
