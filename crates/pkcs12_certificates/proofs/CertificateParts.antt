-- Of each certificate that the table takes the parts are read.
use Rattle.std.proofs.Common.{◌≡◌, ℕ, List, [], ◌++◌, Option, Some, None, Result, Ok, Err, IsTrue, refl, sym, ap, ◌∙◌, subst}
use Rattle.std.specs.Prelude.{◌==◌, slice_index}
use Rattle.std.proofs.lemmas.Bool.{eqb-true}
use Rattle.std.proofs.lemmas.List.{append-nil}
use Rattle.asn1_core.specs.Der.{el}
use Rattle.asn1_core.specs.Reading.{Fault}
use Rattle.asn1_core.specs.Texts.{Inside, On, Perhaps}
use Rattle.inventory_core.specs.Certificate.{AfterKey, Certificate, IsCertificate, KeyText, SignedText, Tagged, certificate}
use Rattle.x509_names.specs.Parts.{CertificateParts, HasParts, OrNone, SignedFront, TwoElements, certificate_parts}
use Rattle.x509_names.specs.PartsReading.{two_elements}
use Rattle.x509_names.proofs.CertificateFronts.{two_read}

first_of : (t : ℕ) (w : List ℕ) → slice_index (el t w) 0 ≡ t
unfolding el
first_of t w = refl

tagged_inside : (tag : ℕ) (b v : List ℕ) → Tagged tag b v → (w : List ℕ) × Inside tag b w
tagged_inside tag b v ((same, (t, w, ok, is)), test) =
    let first : slice_index v 0 ≡ t = ap (λ x. slice_index x 0) (same ∙ is) ∙ first_of t w in
    let tag_is : t ≡ tag = eqb-true t tag (subst (λ n. IsTrue (n == tag)) first test) in
    (w, (w, refl, is ∙ ap (λ n. el n w) tag_is))

-- any octets have two elements or none
validity_there : (w : List ℕ) → (o : Option (List ℕ × List ℕ)) × OrNone TwoElements w o
validity_there w = by_read (two_elements w) refl
  where
    by_read : (r : Result (List ℕ × List ℕ) Fault) → two_elements w ≡ r → (o : Option (List ℕ × List ℕ)) × OrNone TwoElements w o
    by_read (Ok v) e = (Some v, two_read.found w v e)
    by_read (Err f) e = (None, λ v r short. let again = two_read.again w v r short in absurd cc)

version_there : (b : List ℕ) (o : Option (List ℕ)) → Perhaps (Tagged 0xa0) b o → (p : Option (List ℕ)) × Perhaps (Inside 0xa0) b p
version_there b None h = (None, h)
version_there b (Some v) h = let t = tagged_inside 0xa0 b v h in (Some t.0, t.1)

after_same : (c d : Certificate) (b : List ℕ) → AfterKey c b d → d ≡ c
after_same c d b (x, y, o, h, (x', y', o', h', (x'', y'', o'', h'', e, is''), is'), is) = e.1

key_same : (i s b : List ℕ) (d : Certificate) → On KeyText (λ key. AfterKey (certificate i s key)) b d → (d.issuer ≡ i) × (d.subject ≡ s)
key_same i s b d (x, y, k, h, after, is) = let e = after_same (certificate i s k) d y after in (ap (λ c. c.issuer) e, ap (λ c. c.subject) e)

signed_there : (b : List ℕ) (c : Certificate) → SignedText b c → (p : CertificateParts) × SignedFront b p × (p.issuer ≡ c.issuer) × (p.subject ≡ c.subject)
signed_there b c (q, (v, r1, o, version, (n, r2, serial, number, (a, r3, alg, algorithm, (i, r4, issuer, issued, (w, r5, validity, valid, (s, r6, subject, subjected, rest, is6), is5), is4), is3), is2), is1), is) =
    let ver = version_there v o version in
    let w2 = tagged_inside 0x30 w validity valid in
    let times = validity_there w2.0 in
    let names = key_same issuer subject r6 c rest in (
      certificate_parts serial issuer times.0 subject,
      (
        q,
        (
          v,
          r1,
          ver.0,
          ver.1,
          (
            n,
            r2,
            serial,
            number.0,
            (
              a,
              r3,
              algorithm.0,
              (algorithm.0, refl, algorithm.2),
              (
                i,
                r4,
                issuer,
                issued.0,
                (w, r5, times.0, (w2.0, times.1, w2.1.2 ∙ ap (λ (x : List ℕ). el 0x30 x) (sym w2.1.1)), (s, r6, subject, subjected.0, refl, is6), is5),
                is4,
              ),
              is3,
            ),
            is2,
          ),
          is1,
        ),
        is,
      ),
      sym names.0,
      sym names.1,
    )

certificate_same : (b : List ℕ) (c : Certificate) → IsCertificate b c → (p : List ℕ) × (x : List ℕ) × (y : List ℕ) × SignedText x c × (p ≡ x ++ y) × (b ≡ el 0x30 p)
certificate_same b c ((p, (x, y, d, signed, (x', y', o', h', (x'', y'', o'', h'', e, is''), is'), is), is_el), short) =
    (p, x, y, subst (SignedText x) (sym e.1) signed, is, is_el)

pub parts_there : (b : List ℕ) (c : Certificate) → IsCertificate b c → (p : CertificateParts) × HasParts b p × (p.issuer ≡ c.issuer) × (p.subject ≡ c.subject)
parts_there b c h =
    let t = certificate_same b c h in
    let p = signed_there t.1 c t.3 in
    (p.0, ([], record { text = b; holds = (t.0, (t.1, t.2, p.0, p.1, refl, t.4), t.5); short = h.1; is = sym (append-nil b) }), p.2, p.3)
