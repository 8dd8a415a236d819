-- lemmas only: nothing to believe here
-- The cipher of PBES2 is read exactly, and what is written of one is read again.
use Rattle.std.specs.Prelude.{◌↔◌}
use Rattle.std.proofs.Common.{if◌then◌else◌, ◌≡◌, ℕ, List, ◌++◌, length, Option, Some, None, Ok, refl, sym, ap, subst, ◌∙◌, IsTrue, nat_eq}
use Rattle.std.proofs.lemmas.Bool.{eqb-true, eq-eqb}
use Rattle.std.specs.Str.{bytes_eq}
use Rattle.asn1_core.specs.Der.{el, oid, octets, IsShort}
use Rattle.asn1_core.specs.Identifier.{is_identifier}
use Rattle.asn1_core.specs.Oid.{oid_octets, oid_of, octets-oid_of}
use Rattle.asn1_core.specs.Reading.{Fault, UnknownOid, ◌>>=◌, where_ok, left, whole, within, known_in}
use Rattle.asn1_core.specs.Texts.{Exact, ExactAll, Within, Left, Perhaps}
use Rattle.asn1_core.specs.declared.identifier.ObjectIdentifier.{ObjectIdentifier}
use Rattle.asn1_core.specs.ExactLaws.{bind_ok, ok_is, where_holds, where_true, whole-exact, IsShort-right}
use Rattle.asn1_core.specs.ElementLaws.{within-exact, inside-exact}
use Rattle.asn1_core.specs.StandLaws.{whole_found}
use Rattle.der_core.specs.Any.{AnyText}
use Rattle.spki.specs.Algorithm.{algorithm, AlgorithmOf}
use Rattle.pkcs5.specs.Kinds.{cipher_oid, iv_of, iv_size}
use Rattle.pkcs5.specs.Cipher.{IsCipher, cipher_content, CipherOf, CipherText}
use Rattle.pkcs5.specs.JudgedLaws.{Judges, made_of-exact, if_test, any_is}
use Rattle.pkcs5.specs.declared.pbes2.encryption_scheme.EncryptionScheme.{EncryptionScheme}
use Rattle.pkcs5.specs.declared.pbes2.encryption_scheme.EncryptionScheme.TheVariants.{Aes128Cbc, Aes192Cbc, Aes256Cbc, Aes128Gcm, Aes256Gcm, DesEde3Cbc, DesCbc}
use Rattle.pkcs5.specs.Reading.{cipher_named, cipher_with, cipher_in, cipher_of, cipher_at}

-- the identifier and the initialization vector of a cipher
abbrev Named : List ℕ → List ℕ → EncryptionScheme → Type 0
Named k iv c = (k ≡ cipher_oid c) × (iv ≡ iv_of c)

is_named : (k m iv : List ℕ) (c : EncryptionScheme) (others : Option EncryptionScheme) → m ≡ cipher_oid c → iv ≡ iv_of c → ((d : EncryptionScheme) → others ≡ Some d → Named k iv d)
    → (d : EncryptionScheme) → (if bytes_eq k m then Some c else others) ≡ Some d → Named k iv d
is_named k m iv c others is vector rest d =
    if_test (λ (x : Option EncryptionScheme). x ≡ Some d → Named k iv d) k m (Some c) others
    (λ same e. let q : c ≡ d = cc in subst (Named k iv) q (same ∙ is, vector)) (rest d)

named_found : (o : ObjectIdentifier) (iv : List ℕ) (c : EncryptionScheme) → cipher_named o iv ≡ Some c → Named (oid_octets o) iv c
named_found o iv =
    is_named (oid_octets o) _ iv (Aes128Cbc iv) _ refl refl
    (is_named (oid_octets o) _ iv (Aes192Cbc iv) _ refl refl
    (is_named (oid_octets o) _ iv (Aes256Cbc iv) _ refl refl
    (is_named (oid_octets o) _ iv (Aes128Gcm iv) _ refl refl
    (is_named (oid_octets o) _ iv (Aes256Gcm iv) _ refl refl
    (is_named (oid_octets o) _ iv (DesEde3Cbc iv) _ refl refl
    (is_named (oid_octets o) _ iv (DesCbc iv) _ refl refl (λ d e. absurd cc)))))))

named_again : (o : ObjectIdentifier) (c : EncryptionScheme) → oid_octets o ≡ cipher_oid c → cipher_named o (iv_of c) ≡ Some c
named_again o (Aes128Cbc iv) e = rw e refl
named_again o (Aes192Cbc iv) e = rw e refl
named_again o (Aes256Cbc iv) e = rw e refl
named_again o (Aes128Gcm iv) e = rw e refl
named_again o (Aes256Gcm iv) e = rw e refl
named_again o (DesEde3Cbc iv) e = rw e refl
named_again o (DesCbc iv) e = rw e refl

pub cipher_is_identifier : (c : EncryptionScheme) → IsTrue (is_identifier (cipher_oid c))
cipher_is_identifier (Aes128Cbc iv) = refl
cipher_is_identifier (Aes192Cbc iv) = refl
cipher_is_identifier (Aes256Cbc iv) = refl
cipher_is_identifier (Aes128Gcm iv) = refl
cipher_is_identifier (Aes256Gcm iv) = refl
cipher_is_identifier (DesEde3Cbc iv) = refl
cipher_is_identifier (DesCbc iv) = refl

known_ok : (x : Option EncryptionScheme) (u : Fault) (c : EncryptionScheme) → known_in u x ≡ Ok c → x ≡ Some c
known_ok None u c e = absurd cc
known_ok (Some d) u c e = ap (λ (h : EncryptionScheme). Some h) (ok_is d c e)

octets-exact : Exact (Within 4 Left) (within 4 left)
octets-exact = inside-exact 4 refl

with_found : (o : ObjectIdentifier) (iv : List ℕ) (c : EncryptionScheme) → cipher_with o iv ≡ Ok c → Named (oid_octets o) iv c × IsCipher c
with_found o iv c e =
    let x = bind_ok (known_in (UnknownOid o) (cipher_named o iv)) (λ c. where_ok (nat_eq (length iv) (iv_size c)) c) c e in
    let w = where_holds (nat_eq (length iv) (iv_size x.0)) x.0 c x.2 in
    let named : Named (oid_octets o) iv c = subst (Named (oid_octets o) iv) w.1 (named_found o iv x.0 (known_ok (cipher_named o iv) (UnknownOid o) x.0 x.1)) in
    (named, ap length (sym named.1) ∙ eqb-true (length iv) (iv_size x.0) w.0 ∙ ap (λ (c : EncryptionScheme). iv_size c) w.1)

cipher_found : (o : ObjectIdentifier) (x : Option (ℕ × List ℕ)) (p : List ℕ) (c : EncryptionScheme) → Perhaps AnyText p x → cipher_in (algorithm o x) ≡ Ok c → CipherOf (oid (oid_octets o) ++ p) c
unfolding cipher_in
cipher_found o None p c r e = absurd cc
cipher_found o (Some x) p c r e =
    let y = bind_ok (whole (within 4 left) (el x.0 x.1)) (cipher_with o) c e in
    let f = (whole_found (Within 4 Left) (within 4 left) octets-exact (el x.0 x.1) y.0 y.1).0 in
    let w = with_found o y.0 c y.2 in
    let is : p ≡ octets (iv_of c) = any_is p x r ∙ f.2 ∙ ap (λ (l : List ℕ). el 4 l) (sym f.1 ∙ w.0.1) in
    (w.1, ap (λ (k : List ℕ). oid k ++ p) w.0.0 ∙ ap (λ (l : List ℕ). oid (cipher_oid c) ++ l) is)

pub cipher-judges : Judges (AlgorithmOf AnyText) cipher_in CipherOf
unfolding cipher_in
cipher-judges = record {
  found = λ b a c r e. subst (λ (l : List ℕ). CipherOf l c) (sym r.2) (cipher_found a.oid a.parameters r.0 c r.1 e);
  again = λ b c r short.
      let o = oid_of (cipher_oid c) (cipher_is_identifier c) in
      let iv = iv_of c in
      let same : oid_octets o ≡ cipher_oid c = octets-oid_of (cipher_oid c) (cipher_is_identifier c) in
      let read : whole (within 4 left) (el 4 iv) ≡ Ok iv = (whole-exact (Within 4 Left) (within 4 left) octets-exact).again (el 4 iv) iv (iv, refl, refl) (IsShort-right (oid (cipher_oid c)) (el 4 iv) (subst IsShort r.1 short)) in
      let named : known_in (UnknownOid o) (cipher_named o iv) ≡ Ok c = ap (known_in (UnknownOid o)) (named_again o c same) in
      let long : where_ok (nat_eq (length iv) (iv_size c)) c ≡ Ok c = where_true (nat_eq (length iv) (iv_size c)) c (eq-eqb (length iv) (iv_size c) r.0) in
      let is : cipher_with o iv ≡ Ok c = ap (λ q. q >>= λ c. where_ok (nat_eq (length iv) (iv_size c)) c) named ∙ long in
      (algorithm o (Some (4, iv)), (el 4 iv, (4, iv, refl, refl, refl, refl), r.1 ∙ ap (λ (k : List ℕ). oid k ++ el 4 iv) (sym same)), ap (λ q. q >>= cipher_with o) read ∙ is);
}

pub cipher_of-exact : ExactAll CipherOf cipher_of
cipher_of-exact = made_of-exact cipher_in CipherOf cipher-judges

pub cipher-exact : Exact CipherText cipher_at
cipher-exact = within-exact 0x30 CipherOf cipher_of refl cipher_of-exact

-- ---- what is written

pub cipher_canonical : (c : EncryptionScheme) → IsCipher c → CipherText (el 0x30 (cipher_content c)) c
cipher_canonical c h = (cipher_content c, (h, refl), refl)

pub cipher_spelled : (b : List ℕ) (c : EncryptionScheme) → CipherText b c ↔ (IsCipher c × (b ≡ el 0x30 (cipher_content c)))
cipher_spelled b c = (
  λ r. (r.1.0, r.2 ∙ ap (λ (l : List ℕ). el 0x30 l) r.1.1),
  λ h. (cipher_content c, (h.0, refl), h.1),
)
