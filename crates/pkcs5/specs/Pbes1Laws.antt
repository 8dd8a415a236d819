-- lemmas only: nothing to believe here
-- Algorithms of PBES1 are read exactly, and what is written of one is read again.
use Rattle.std.specs.Prelude.{◌↔◌}
use Rattle.std.proofs.Common.{if◌then◌else◌, ◌≡◌, ℕ, false, List, [], ◌++◌, length, Option, Some, None, Ok, refl, sym, ap, subst, ◌∙◌, IsTrue, nat_eq}
use Rattle.std.specs.Str.{bytes_eq}
use Rattle.std.proofs.lemmas.Bool.{eqb-true, eq-eqb}
use Rattle.std.proofs.lemmas.List.{append-nil}
use Rattle.asn1_core.specs.Der.{el, oid, octets, uint, shortest, IsShort}
use Rattle.asn1_core.specs.Identifier.{is_identifier}
use Rattle.asn1_core.specs.Oid.{oid_octets}
use Rattle.asn1_core.specs.Reading.{Fault, Bad, ◌>>=◌, within, uint_at, known_in}
use Rattle.asn1_core.specs.Texts.{Exact, ExactAll, On, Ended, Within, Uint}
use Rattle.asn1_core.specs.declared.identifier.ObjectIdentifier.{ObjectIdentifier}
use Rattle.asn1_core.specs.ExactLaws.{bind_ok, ok_is, on-exact, ended-exact, same-exact, where_holds, where_true, IsShort-right}
use Rattle.asn1_core.specs.ElementLaws.{within-exact}
use Rattle.asn1_core.specs.NumberLaws.{uint-exact}
use Rattle.der_core.specs.Any.{AnyText}
use Rattle.spki.specs.Algorithm.{AlgorithmOf}
use Rattle.pkcs5.specs.Identifiers.{pbes2_oid}
use Rattle.pkcs5.specs.Pbes1.{pbe_oid, pbe_params, PbeSaltOf, PbeParamsOf, PbeParamsText, pbe_params_content, ArePbeParams, pbe, PbeOf, PbeText, pbe_content}
use Rattle.pkcs5.specs.JudgedLaws.{Judges, JudgesWith, with_judges, made_of-exact, if_test, row_found, row_again}
use Rattle.pkcs5.specs.declared.pbes1.algorithm.Algorithm.{Algorithm}
use Rattle.pkcs5.specs.declared.pbes1.parameters.Parameters.{Parameters}
use Rattle.pkcs5.specs.declared.pbes1.encryption_scheme.EncryptionScheme.{EncryptionScheme}
use Rattle.pkcs5.specs.declared.pbes1.encryption_scheme.EncryptionScheme.TheVariants.{PbeWithMd2AndDesCbc, PbeWithMd2AndRc2Cbc, PbeWithMd5AndDesCbc, PbeWithMd5AndRc2Cbc, PbeWithSha1AndDesCbc, PbeWithSha1AndRc2Cbc}
use Rattle.pkcs5.specs.Reading.{pbe_salt_of, pbe_params_of, pbe_params_in, pbe_named, pbe_with, pbe_in, pbe_of, pbe_at}

-- ---- parameters

pub pbe_salt_of-exact : ExactAll PbeSaltOf pbe_salt_of
pbe_salt_of-exact = record {
  found = λ b s e.
      let w = where_holds (nat_eq (length b) 8) b s e in
      (sym w.1, ap length (sym w.1) ∙ eqb-true (length b) 8 w.0);
  again = λ b s r short.
      where_true (nat_eq (length b) 8) b (eq-eqb (length b) 8 (ap length (sym r.0) ∙ r.1)) ∙ ap (λ (l : List ℕ). Ok l) (sym r.0);
}

pub pbe_salt_canonical : (s : List ℕ) → length s ≡ 8 → Within 4 PbeSaltOf (el 4 s) s
pbe_salt_canonical s h = (s, (refl, h), refl)

abbrev Parts : List ℕ → Parameters → Type 0
Parts = On (Within 4 PbeSaltOf) (λ s. On (Uint 65535) (λ n. Ended (pbe_params s n)))

parts : ExactAll Parts pbe_params_of
parts =
    on-exact (Within 4 PbeSaltOf) _ (within 4 pbe_salt_of) _ (within-exact 4 PbeSaltOf pbe_salt_of refl pbe_salt_of-exact)
    (λ s. on-exact (Uint 65535) _ (uint_at 65535) _ (uint-exact 65535) (λ n. ended-exact (pbe_params s n)))

to : (b : List ℕ) (v : Parameters) → Parts b v → PbeParamsOf b v
to b v (s, t, salt, hs, (n, q, count, hn, x, en), es) =
    subst (PbeParamsOf b) (sym x.1) (s, n, hs, hn, es ∙ ap (λ (l : List ℕ). s ++ l) (en ∙ ap (λ (l : List ℕ). n ++ l) x.0 ∙ append-nil n))

from : (b : List ℕ) (v : Parameters) → PbeParamsOf b v → Parts b v
from b v (s, n, hs, hn, is) = (s, n, v.salt, hs, (n, [], v.iteration_count, hn, (refl, refl), sym (append-nil n)), is)

pub pbe_params_of-exact : ExactAll PbeParamsOf pbe_params_of
pbe_params_of-exact = same-exact Parts PbeParamsOf pbe_params_of to from parts

pub pbe_params_canonical : (v : Parameters) → ArePbeParams v → PbeParamsText (el 0x30 (pbe_params_content v)) v
pbe_params_canonical v h =
    (pbe_params_content v, (octets v.salt, uint v.iteration_count, pbe_salt_canonical v.salt h.0, (shortest v.iteration_count, (h.1, refl), refl), refl), refl)

params_to : (b : List ℕ) (v : Parameters) → PbeParamsText b v → ArePbeParams v × (b ≡ el 0x30 (pbe_params_content v))
params_to b v (w, (s, n, hs, hn, is), e) =
    let salt : s ≡ octets v.salt = hs.2 ∙ ap (λ (l : List ℕ). el 4 l) (sym hs.1.0) in
    let count : n ≡ uint v.iteration_count = hn.2 ∙ ap (λ (l : List ℕ). el 2 l) hn.1.1 in
    let same : s ++ n ≡ pbe_params_content v = rw (salt, count) refl in
    ((hs.1.1, hn.1.0), e ∙ ap (λ (l : List ℕ). el 0x30 l) (is ∙ same))

params_from : (b : List ℕ) (v : Parameters) → ArePbeParams v × (b ≡ el 0x30 (pbe_params_content v)) → PbeParamsText b v
params_from b v (h, e) = subst (λ (l : List ℕ). PbeParamsText l v) (sym e) (pbe_params_canonical v h)

pub pbe_params_spelled : (b : List ℕ) (v : Parameters) → PbeParamsText b v ↔ (ArePbeParams v × (b ≡ el 0x30 (pbe_params_content v)))
pbe_params_spelled b v = (params_to b v, params_from b v)

-- ---- the six

is_named : (k m : List ℕ) (f : EncryptionScheme) (others : Option EncryptionScheme) → m ≡ pbe_oid f → ((g : EncryptionScheme) → others ≡ Some g → k ≡ pbe_oid g)
    → (g : EncryptionScheme) → (if bytes_eq k m then Some f else others) ≡ Some g → k ≡ pbe_oid g
is_named k m f others is rest g =
    if_test (λ (x : Option EncryptionScheme). x ≡ Some g → k ≡ pbe_oid g) k m (Some f) others (λ same e. let q : f ≡ g = cc in same ∙ is ∙ ap (λ (h : EncryptionScheme). pbe_oid h) q) (rest g)

named_found : (o : ObjectIdentifier) (f : EncryptionScheme) → pbe_named o ≡ Some f → oid_octets o ≡ pbe_oid f
named_found o =
    is_named (oid_octets o) _ PbeWithMd2AndDesCbc _ refl
    (is_named (oid_octets o) _ PbeWithMd2AndRc2Cbc _ refl
    (is_named (oid_octets o) _ PbeWithMd5AndDesCbc _ refl
    (is_named (oid_octets o) _ PbeWithMd5AndRc2Cbc _ refl
    (is_named (oid_octets o) _ PbeWithSha1AndDesCbc _ refl
    (is_named (oid_octets o) _ PbeWithSha1AndRc2Cbc _ refl (λ g e. absurd cc))))))

named_again : (o : ObjectIdentifier) (f : EncryptionScheme) → oid_octets o ≡ pbe_oid f → pbe_named o ≡ Some f
named_again o PbeWithMd2AndDesCbc e = rw e refl
named_again o PbeWithMd2AndRc2Cbc e = rw e refl
named_again o PbeWithMd5AndDesCbc e = rw e refl
named_again o PbeWithMd5AndRc2Cbc e = rw e refl
named_again o PbeWithSha1AndDesCbc e = rw e refl
named_again o PbeWithSha1AndRc2Cbc e = rw e refl

pub pbe_is_identifier : (f : EncryptionScheme) → IsTrue (is_identifier (pbe_oid f))
pbe_is_identifier PbeWithMd2AndDesCbc = refl
pbe_is_identifier PbeWithMd2AndRc2Cbc = refl
pbe_is_identifier PbeWithMd5AndDesCbc = refl
pbe_is_identifier PbeWithMd5AndRc2Cbc = refl
pbe_is_identifier PbeWithSha1AndDesCbc = refl
pbe_is_identifier PbeWithSha1AndRc2Cbc = refl

-- none of them is PBES2
pub pbe_other : (f : EncryptionScheme) → bytes_eq (pbe_oid f) pbes2_oid ≡ false
pbe_other PbeWithMd2AndDesCbc = refl
pbe_other PbeWithMd2AndRc2Cbc = refl
pbe_other PbeWithMd5AndDesCbc = refl
pbe_other PbeWithMd5AndRc2Cbc = refl
pbe_other PbeWithSha1AndDesCbc = refl
pbe_other PbeWithSha1AndRc2Cbc = refl

known_ok : (x : Option EncryptionScheme) (u : Fault) (f : EncryptionScheme) → known_in u x ≡ Ok f → x ≡ Some f
known_ok None u f e = absurd cc
known_ok (Some g) u f e = ap (λ (h : EncryptionScheme). Some h) (ok_is g f e)

-- ---- the algorithm

pub pbe_found : (o : ObjectIdentifier) (x : ℕ × List ℕ) (a : Algorithm) → pbe_with o x ≡ Ok a → PbeOf (oid (oid_octets o) ++ el x.0 x.1) a
unfolding pbe_with
pbe_found o x a e =
    let y = bind_ok (known_in Bad (pbe_named o)) (λ f. pbe_params_in x >>= λ v. Ok (pbe f v)) a e in
    let z = row_found PbeParamsOf pbe_params_of pbe_params_of-exact (λ v. pbe y.0 v) x a y.2 in
    let same : oid_octets o ≡ pbe_oid y.0 = named_found o y.0 (known_ok (pbe_named o) Bad y.0 y.1) in
    subst (PbeOf (oid (oid_octets o) ++ el x.0 x.1)) (sym z.2) (el x.0 x.1, z.1, ap (λ (i : List ℕ). oid i ++ el x.0 x.1) same)

pub pbe_again : (b : List ℕ) (a : Algorithm) → PbeOf b a → IsShort b
    → (v : List ℕ) × (b ≡ oid (pbe_oid a.encryption) ++ el 0x30 v) × ((o : ObjectIdentifier) → oid_octets o ≡ pbe_oid a.encryption → pbe_with o (0x30, v) ≡ Ok a)
unfolding pbe_with
pbe_again b a (p, r, e) short =
    let s : IsShort p = IsShort-right (oid (pbe_oid a.encryption)) p (subst IsShort e short) in
    let read = row_again PbeParamsOf pbe_params_of pbe_params_of-exact (λ v. pbe a.encryption v) p a.parameters r s in (
      r.0,
      e ∙ ap (λ (l : List ℕ). oid (pbe_oid a.encryption) ++ l) r.2,
      λ o same. ap (λ q. known_in Bad q >>= λ f. (pbe_params_in (0x30, r.0) >>= λ v. Ok (pbe f v))) (named_again o a.encryption same) ∙ read,
    )

pbe-judges-with : JudgesWith pbe_with PbeOf
pbe-judges-with = record {
  found = pbe_found;
  again = λ b a r short. let x = pbe_again b a r short in (pbe_oid a.encryption, x.0, pbe_is_identifier a.encryption, x.1, x.2);
}

pub pbe-judges : Judges (AlgorithmOf AnyText) pbe_in PbeOf
unfolding pbe_in
pbe-judges = with_judges pbe_with PbeOf pbe-judges-with

pub pbe_of-exact : ExactAll PbeOf pbe_of
pbe_of-exact = made_of-exact pbe_in PbeOf pbe-judges

pub pbe-exact : Exact PbeText pbe_at
pbe-exact = within-exact 0x30 PbeOf pbe_of refl pbe_of-exact

-- ---- what is written

pub pbe_canonical : (a : Algorithm) → ArePbeParams a.parameters → PbeText (el 0x30 (pbe_content a)) a
pbe_canonical a h = (pbe_content a, (el 0x30 (pbe_params_content a.parameters), pbe_params_canonical a.parameters h, refl), refl)

-- the value octets have one spelling
pub pbe_content_is : (b : List ℕ) (a : Algorithm) → PbeOf b a → ArePbeParams a.parameters × (b ≡ pbe_content a)
pbe_content_is b a (p, r, e) =
    let h = params_to p a.parameters r in
    (h.0, e ∙ ap (λ (l : List ℕ). oid (pbe_oid a.encryption) ++ l) h.1)

pub pbe_spelled : (b : List ℕ) (a : Algorithm) → PbeText b a ↔ (ArePbeParams a.parameters × (b ≡ el 0x30 (pbe_content a)))
pbe_spelled b a = (
  λ r. let h = pbe_content_is r.0 a r.1 in (h.0, r.2 ∙ ap (λ (l : List ℕ). el 0x30 l) h.1),
  λ h. subst (λ (l : List ℕ). PbeText l a) (sym h.1) (pbe_canonical a h.0),
)
