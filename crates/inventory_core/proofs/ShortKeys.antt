-- The key of a certificate that was read has a text of at most 2 ^ 32 - 1 octets, and so a fingerprint.
use Rattle.std.proofs.Common.{◌≡◌, ℕ, zero, suc, List, [], ◌∷◌, length, length-append, Option, Some, None, map, sym, ap, ◌∙◌, subst, arith}
use Rattle.std.specs.List.{flat_map}
use Rattle.p12.specs.declared.safe_bag.SafeBag.{SafeBag}
use Rattle.transfer.specs.Opening.{all_certificates}
use Rattle.asn1_core.specs.Der.{IsShort}
use Rattle.asn1_core.specs.Fields.{Sequence}
use Rattle.asn1_core.specs.Texts.{Ended, On}
use Rattle.asn1_core.specs.WritingLaws.{el_size}
use Rattle.spki.specs.Spelling.{public_key_text}
use Rattle.spki.proofs.Spellings.{public_keys_spelled}
use Rattle.inventory_core.specs.Certificate.{AfterKey, AnyAlgorithmText, BitsText, Certificate, CertificateText, KeyText, SignedText, certificate}
use Rattle.inventory_core.specs.Gathering.{HaveShortKeys, certificate_of, certificate_part}
use Rattle.inventory_core.specs.Table.{IsKept}
use Rattle.inventory_core.proofs.Gatherings.{all_parts, is_read}

-- ---- a key that was read

-- Where a text of this kind is short, so is that of its key.
abbrev KeepsShort : (List ℕ → Certificate → Type 0) → Type 0
KeepsShort S = (b : List ℕ) (c : Certificate) → S b c → IsShort b → IsShort (public_key_text c.key)

on_keeps : {A : Type 0} (R : List ℕ → A → Type 0) (S : A → List ℕ → Certificate → Type 0) → ((a : A) → KeepsShort (S a)) → KeepsShort (On R S)
on_keeps R S h b c (p, q, a, r, s, is) short = h a q c s (omega (arith, length-append p q, ap length is, short))

first_keeps : (R : List ℕ → Certificate → Type 0) (S : Certificate → List ℕ → Certificate → Type 0) → KeepsShort R → ((a : Certificate) (b : List ℕ) (c : Certificate) → S a b c → c ≡ a) → KeepsShort (On R S)
first_keeps R S h same b c (p, q, a, r, s, is) short =
    subst (λ d. IsShort (public_key_text d.key)) (sym (same a q c s)) (h p a r (omega (arith, length-append p q, ap length is, short)))

sequence_keeps : (S : List ℕ → Certificate → Type 0) → KeepsShort S → KeepsShort (Sequence S)
sequence_keeps S h b c (p, s, is) short = h p c s (omega (arith, el_size 0x30 p, ap length is, short))

after_key_same : (a : Certificate) (b : List ℕ) (c : Certificate) → AfterKey a b c → c ≡ a
after_key_same a b c (p, q, x, r, (p2, q2, y, s, (p3, q3, z, t, ended, e3), e2), e) = ended.1

key_keeps : (issuer subject : List ℕ) → KeepsShort (On KeyText (λ key. AfterKey (certificate issuer subject key)))
key_keeps issuer subject b c (p, q, k, r, s, is) short =
    let front : IsShort p = omega (arith, length-append p q, ap length is, short) in
    let text : p ≡ public_key_text k = ((public_keys_spelled p k).0 (r, front)).2 in
    subst (λ d. IsShort (public_key_text d.key)) (sym (after_key_same (certificate issuer subject k) q c s)) (subst IsShort text front)

signed_keeps : KeepsShort SignedText
signed_keeps = sequence_keeps _ (on_keeps _ _ (λ version. on_keeps _ _ (λ serial. on_keeps _ _ (λ signature. on_keeps _ _ (λ issuer. on_keeps _ _ (λ validity. on_keeps _ _ (λ subject. key_keeps issuer subject)))))))

after_signed_same : (a : Certificate) (b : List ℕ) (c : Certificate) → On AnyAlgorithmText (λ algorithm. On BitsText (λ signature. Ended a)) b c → c ≡ a
after_signed_same a b c (p, q, x, r, (p2, q2, y, s, ended, e2), e) = ended.1

certificate_keeps : KeepsShort CertificateText
certificate_keeps = sequence_keeps _ (first_keeps SignedText _ signed_keeps after_signed_same)

short_key : (b : List ℕ) (o : Option Certificate) (c : Certificate) → o ≡ Some c → IsKept b o → IsShort (public_key_text c.key)
short_key b None c e kept = absurd (cc)
short_key b (Some d) c e kept = let same : d ≡ c = cc in subst (λ x. IsShort (public_key_text x.key)) same (certificate_keeps b d kept.0 kept.1)

short_keys_of : (bs : List (List ℕ)) → HaveShortKeys (map certificate_of bs)
short_keys_of [] j c e = absurd (let f : None ≡ Some (Some c) = e in cc)
short_keys_of (b ∷ bs) zero c e = short_key b (certificate_of b) c (let f : Some (certificate_of b) ≡ Some (Some c) = e in cc) (is_read b)
short_keys_of (b ∷ bs) (suc j) c e = short_keys_of bs j c e

-- What is gathered from bags has short keys.
pub gathered_short : (bags : List (List SafeBag)) (cs : List (Option Certificate)) → cs ≡ flat_map (λ gs. flat_map certificate_part gs) bags → HaveShortKeys cs
gathered_short bags cs are = subst HaveShortKeys (sym (are ∙ all_parts bags)) (short_keys_of (all_certificates bags))
