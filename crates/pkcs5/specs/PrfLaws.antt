-- lemmas only: nothing to believe here
-- The pseudorandom function of PBKDF2 is read exactly, and what is written of one is read again.
use Rattle.std.specs.Prelude.{◌↔◌}
use Rattle.std.proofs.Common.{if◌then◌else◌, ◌≡◌, ℕ, List, [], ◌++◌, Option, Some, None, Ok, refl, sym, ap, subst, ◌∙◌, inl, inr, ◌⊎◌, IsTrue}
use Rattle.std.specs.Str.{bytes_eq}
use Rattle.std.proofs.lemmas.List.{append-nil}
use Rattle.asn1_core.specs.Der.{el, oid, null, seq, IsShort}
use Rattle.asn1_core.specs.Identifier.{is_identifier}
use Rattle.asn1_core.specs.Oid.{oid_octets, oid_of, octets-oid_of}
use Rattle.asn1_core.specs.Reading.{Fault, UnknownOid, any_tag, ended, whole, within, known, known_in}
use Rattle.asn1_core.specs.Texts.{Exact, ExactAll, Within, Ended, Perhaps}
use Rattle.asn1_core.specs.declared.identifier.ObjectIdentifier.{ObjectIdentifier}
use Rattle.asn1_core.specs.ExactLaws.{bind_ok, ok_is, whole-exact, ended-exact, IsShort-right}
use Rattle.asn1_core.specs.ElementLaws.{within-exact}
use Rattle.asn1_core.specs.StandLaws.{whole_found}
use Rattle.der_core.specs.Any.{AnyText, any_at}
use Rattle.der_core.specs.Null.{nothing}
use Rattle.spki.specs.Algorithm.{algorithm, AlgorithmOf}
use Rattle.spki.specs.AlgorithmLaws.{algorithm_of-exact}
use Rattle.spki.specs.AnyLaws.{any-exact, any-whole}
use Rattle.pkcs5.specs.Kinds.{prf_oid}
use Rattle.pkcs5.specs.Pbkdf2Prf.{PrfOf, PrfText, prf_content, SpellsPrf}
use Rattle.pkcs5.specs.JudgedLaws.{Judges, judged-exact, if_test, any_is}
use Rattle.pkcs5.specs.declared.pbes2.pbkdf2_prf.Pbkdf2Prf.{Pbkdf2Prf}
use Rattle.pkcs5.specs.declared.pbes2.pbkdf2_prf.Pbkdf2Prf.TheVariants.{HmacWithSha1, HmacWithSha224, HmacWithSha256, HmacWithSha384, HmacWithSha512}
use Rattle.pkcs5.specs.Reading.{prf_named, null_or_none, prf_in, pbkdf2_prf_of, prf_at}

null-exact : Exact (Within 5 (Ended nothing)) (within 5 (ended nothing))
null-exact = within-exact 5 (Ended nothing) (ended nothing) refl (ended-exact nothing)

-- parameters that are NULL, or none
null_found : (p : List ℕ) (x : Option (ℕ × List ℕ)) (u : Unit {0}) → Perhaps AnyText p x → null_or_none x ≡ Ok u → (p ≡ []) ⊎ (p ≡ null)
null_found p None u r e = inl r
null_found p (Some x) u r e =
    let f = (whole_found (Within 5 (Ended nothing)) (within 5 (ended nothing)) null-exact (el x.0 x.1) u e).0 in
    inr (any_is p x r ∙ f.2 ∙ ap (λ (l : List ℕ). el 5 l) f.1.0)

-- what a known identifier names
is_named : (k m : List ℕ) (f : Pbkdf2Prf) (others : Option Pbkdf2Prf) → m ≡ prf_oid f → ((g : Pbkdf2Prf) → others ≡ Some g → k ≡ prf_oid g)
    → (g : Pbkdf2Prf) → (if bytes_eq k m then Some f else others) ≡ Some g → k ≡ prf_oid g
is_named k m f others is rest g =
    if_test (λ (x : Option Pbkdf2Prf). x ≡ Some g → k ≡ prf_oid g) k m (Some f) others (λ same e. let q : f ≡ g = cc in same ∙ is ∙ ap (λ (h : Pbkdf2Prf). prf_oid h) q) (rest g)

named_found : (o : ObjectIdentifier) (f : Pbkdf2Prf) → prf_named o ≡ Some f → oid_octets o ≡ prf_oid f
named_found o =
    is_named (oid_octets o) _ HmacWithSha1 _ refl
    (is_named (oid_octets o) _ HmacWithSha224 _ refl
    (is_named (oid_octets o) _ HmacWithSha256 _ refl
    (is_named (oid_octets o) _ HmacWithSha384 _ refl
    (is_named (oid_octets o) _ HmacWithSha512 _ refl (λ g e. absurd cc)))))

named_again : (o : ObjectIdentifier) (f : Pbkdf2Prf) → oid_octets o ≡ prf_oid f → prf_named o ≡ Some f
named_again o HmacWithSha1 e = rw e refl
named_again o HmacWithSha224 e = rw e refl
named_again o HmacWithSha256 e = rw e refl
named_again o HmacWithSha384 e = rw e refl
named_again o HmacWithSha512 e = rw e refl

pub prf_is_identifier : (f : Pbkdf2Prf) → IsTrue (is_identifier (prf_oid f))
prf_is_identifier HmacWithSha1 = refl
prf_is_identifier HmacWithSha224 = refl
prf_is_identifier HmacWithSha256 = refl
prf_is_identifier HmacWithSha384 = refl
prf_is_identifier HmacWithSha512 = refl

known_ok : (x : Option Pbkdf2Prf) (u : Fault) (f : Pbkdf2Prf) → known_in u x ≡ Ok f → x ≡ Some f
known_ok None u f e = absurd cc
known_ok (Some g) u f e = ap (λ (h : Pbkdf2Prf). Some h) (ok_is g f e)

prf_found : (o : ObjectIdentifier) (x : Option (ℕ × List ℕ)) (p : List ℕ) (f : Pbkdf2Prf) → Perhaps AnyText p x → prf_in (algorithm o x) ≡ Ok f → PrfOf (oid (oid_octets o) ++ p) f
prf_found o x p f r e =
    let y = bind_ok (null_or_none x) (λ u. known prf_named UnknownOid o) f e in
    (p, null_found p x y.0 r y.1, ap (λ (k : List ℕ). oid k ++ p) (named_found o f (known_ok (prf_named o) (UnknownOid o) f y.2)))

-- the algorithm of a function, with NULL or nothing
prf_again : (f : Pbkdf2Prf) (p : List ℕ) → IsShort p → (p ≡ []) ⊎ (p ≡ null) → (x : Option (ℕ × List ℕ)) × Perhaps AnyText p x × (null_or_none x ≡ Ok nothing)
prf_again f p short (inl e) = (None, e, refl)
prf_again f p short (inr e) =
    let read : whole (within 5 (ended nothing)) (el 5 []) ≡ Ok nothing = (whole-exact (Within 5 (Ended nothing)) (within 5 (ended nothing)) null-exact).again (el 5 []) nothing ([], (refl, refl), refl) (subst IsShort e short) in
    (Some (5, []), (5, [], refl, refl, refl, e), read)

pub prf-judges : Judges (AlgorithmOf AnyText) prf_in PrfOf
prf-judges = record {
  found = λ b a f r e. subst (λ (l : List ℕ). PrfOf l f) (sym r.2) (prf_found a.oid a.parameters r.0 f r.1 e);
  again = λ b f r short.
      let o = oid_of (prf_oid f) (prf_is_identifier f) in
      let same : oid_octets o ≡ prf_oid f = octets-oid_of (prf_oid f) (prf_is_identifier f) in
      let x = prf_again f r.0 (IsShort-right (oid (prf_oid f)) r.0 (subst IsShort r.2 short)) r.1 in
      let named : prf_named o ≡ Some f = named_again o f same in
      (algorithm o x.0, (r.0, x.1, r.2 ∙ ap (λ (k : List ℕ). oid k ++ r.0) (sym same)), rw x.2 (ap (known_in (UnknownOid o)) named));
}

pub pbkdf2_prf_of-exact : ExactAll PrfOf pbkdf2_prf_of
pbkdf2_prf_of-exact = judged-exact (AlgorithmOf AnyText) prf_in PrfOf prf-judges _ (algorithm_of-exact any_tag AnyText any_at any-exact any-whole)

pub prf-exact : Exact PrfText prf_at
prf-exact = within-exact 0x30 PrfOf pbkdf2_prf_of refl pbkdf2_prf_of-exact

-- ---- what is written

pub prf_canonical : (f : Pbkdf2Prf) → PrfText (el 0x30 (prf_content f)) f
prf_canonical f = (prf_content f, (null, inr refl, refl), refl)

spelled_to : (b : List ℕ) (f : Pbkdf2Prf) → PrfText b f → SpellsPrf b f
spelled_to b f (w, (p, n, is), e) = elim n [
  | inl x ↦ inr (e ∙ ap (λ (l : List ℕ). seq l) (is ∙ ap (λ (l : List ℕ). oid (prf_oid f) ++ l) x ∙ append-nil (oid (prf_oid f))))
  | inr x ↦ inl (e ∙ ap (λ (l : List ℕ). seq l) (is ∙ ap (λ (l : List ℕ). oid (prf_oid f) ++ l) x))
]

spelled_from : (b : List ℕ) (f : Pbkdf2Prf) → SpellsPrf b f → PrfText b f
spelled_from b f (inl e) = (prf_content f, (null, inr refl, refl), e)
spelled_from b f (inr e) = (oid (prf_oid f), ([], inl refl, sym (append-nil (oid (prf_oid f)))), e)

pub prf_spelled : (b : List ℕ) (f : Pbkdf2Prf) → PrfText b f ↔ (Unit {0} × SpellsPrf b f)
prf_spelled b f = (λ r. (tt, spelled_to b f r), λ h. spelled_from b f h.1)
