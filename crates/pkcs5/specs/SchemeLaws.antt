-- lemmas only: nothing to believe here
-- Schemes are read exactly, and what is written of one is read again.
use Rattle.std.specs.Prelude.{◌↔◌}
use Rattle.std.proofs.Common.{◌≡◌, ℕ, false, List, ◌++◌, Result, Ok, refl, sym, ap, subst, ◌∙◌, IsTrue}
use Rattle.std.specs.Str.{bytes_eq}
use Rattle.asn1_core.specs.Der.{el, oid, seq, IsShort}
use Rattle.asn1_core.specs.ExactLaws.{bind_ok, ok_is, IsShort-right}
use Rattle.asn1_core.specs.Identifier.{is_identifier}
use Rattle.asn1_core.specs.Oid.{oid_octets}
use Rattle.asn1_core.specs.Reading.{Fault, ◌>>=◌}
use Rattle.asn1_core.specs.Texts.{Exact, ExactAll}
use Rattle.asn1_core.specs.declared.identifier.ObjectIdentifier.{ObjectIdentifier}
use Rattle.asn1_core.specs.ElementLaws.{within-exact}
use Rattle.der_core.specs.Any.{AnyText}
use Rattle.spki.specs.Algorithm.{AlgorithmOf}
use Rattle.pkcs5.specs.Identifiers.{pbes2_oid}
use Rattle.pkcs5.specs.Parameters.{ParametersOf, parameters_content}
use Rattle.pkcs5.specs.ParametersLaws.{parameters_of-exact, parameters_canonical, parameters_spelled}
use Rattle.pkcs5.specs.Pbes1.{pbe_oid}
use Rattle.pkcs5.specs.Pbes1Laws.{pbe_found, pbe_again, pbe_is_identifier, pbe_other, pbe_canonical, pbe_content_is}
use Rattle.pkcs5.specs.Scheme.{SchemeOf, SchemeText, scheme_content, IsScheme, SpellsScheme}
use Rattle.pkcs5.specs.JudgedLaws.{Judges, JudgesWith, with_judges, made_of-exact, if_test, row_found, row_again}
use Rattle.pkcs5.specs.declared.encryption_scheme.EncryptionScheme.{EncryptionScheme}
use Rattle.pkcs5.specs.declared.encryption_scheme.EncryptionScheme.TheVariants.{Pbes1, Pbes2}
use Rattle.pkcs5.specs.Reading.{parameters_of, parameters_in, pbe_with, scheme_with, scheme_in, scheme_of, scheme_at}

pbes2_found : (o : ObjectIdentifier) (x : ℕ × List ℕ) (s : EncryptionScheme) → oid_octets o ≡ pbes2_oid → (parameters_in x >>= λ v. Ok (Pbes2 v)) ≡ Ok s → SchemeOf (oid (oid_octets o) ++ el x.0 x.1) s
pbes2_found o x s same e =
    let y = row_found ParametersOf parameters_of parameters_of-exact (λ v. Pbes2 v) x s e in
    subst (SchemeOf (oid (oid_octets o) ++ el x.0 x.1)) (sym y.2) (el x.0 x.1, y.1, ap (λ (i : List ℕ). oid i ++ el x.0 x.1) same)

pbes1_found : (o : ObjectIdentifier) (x : ℕ × List ℕ) (s : EncryptionScheme) → (pbe_with o x >>= λ a. Ok (Pbes1 a)) ≡ Ok s → SchemeOf (oid (oid_octets o) ++ el x.0 x.1) s
pbes1_found o x s e =
    let y = bind_ok (pbe_with o x) (λ a. Ok (Pbes1 a)) s e in
    subst (SchemeOf (oid (oid_octets o) ++ el x.0 x.1)) (ok_is (Pbes1 y.0) s y.2) (pbe_found o x y.0 y.1)

with_found : (o : ObjectIdentifier) (x : ℕ × List ℕ) (s : EncryptionScheme) → scheme_with o x ≡ Ok s → SchemeOf (oid (oid_octets o) ++ el x.0 x.1) s
with_found o x s =
    let P : Result EncryptionScheme Fault → Type 0 = λ r. r ≡ Ok s → SchemeOf (oid (oid_octets o) ++ el x.0 x.1) s in
    if_test P (oid_octets o) pbes2_oid _ _ (pbes2_found o x s) (pbes1_found o x s)

-- an identifier that is not PBES2's
otherwise : (o : ObjectIdentifier) (x : ℕ × List ℕ) → bytes_eq (oid_octets o) pbes2_oid ≡ false → scheme_with o x ≡ (pbe_with o x >>= λ a. Ok (Pbes1 a))
otherwise o x h = rw h refl

scheme_again : (b : List ℕ) (s : EncryptionScheme) → SchemeOf b s → IsShort b → (id : List ℕ) × (v : List ℕ) × IsTrue (is_identifier id) × (b ≡ oid id ++ el 0x30 v) × ((o : ObjectIdentifier) → oid_octets o ≡ id → scheme_with o (0x30, v) ≡ Ok s)
scheme_again b (Pbes1 a) r short =
    let x = pbe_again b a r short in (
      pbe_oid a.encryption,
      x.0,
      pbe_is_identifier a.encryption,
      x.1,
      λ o same.
          otherwise o (0x30, x.0) (ap (λ (k : List ℕ). bytes_eq k pbes2_oid) same ∙ pbe_other a.encryption)
          ∙ ap (λ q. q >>= λ a. Ok (Pbes1 a)) (x.2 o same),
    )
scheme_again b (Pbes2 v) (p, r, e) short =
    let read = row_again ParametersOf parameters_of parameters_of-exact (λ v. Pbes2 v) p v r (IsShort-right (oid pbes2_oid) p (subst IsShort e short)) in
    (pbes2_oid, r.0, refl, e ∙ ap (λ (l : List ℕ). oid pbes2_oid ++ l) r.2, λ o same. rw same read)

scheme-judges-with : JudgesWith scheme_with SchemeOf
scheme-judges-with = record { found = with_found; again = scheme_again }

pub scheme-judges : Judges (AlgorithmOf AnyText) scheme_in SchemeOf
unfolding scheme_in
scheme-judges = with_judges scheme_with SchemeOf scheme-judges-with

pub scheme_of-exact : ExactAll SchemeOf scheme_of
scheme_of-exact = made_of-exact scheme_in SchemeOf scheme-judges

pub scheme-exact : Exact SchemeText scheme_at
scheme-exact = within-exact 0x30 SchemeOf scheme_of refl scheme_of-exact

-- ---- what is written

pub scheme_canonical : (s : EncryptionScheme) → IsScheme s → SchemeText (el 0x30 (scheme_content s)) s
scheme_canonical (Pbes1 a) h = pbe_canonical a h
scheme_canonical (Pbes2 v) h = (scheme_content (Pbes2 v), (el 0x30 (parameters_content v), parameters_canonical v h, refl), refl)

spelled_to : (b : List ℕ) (s : EncryptionScheme) → SchemeText b s → IsScheme s × SpellsScheme b s
spelled_to b (Pbes1 a) (w, r, e) =
    let h = pbe_content_is w a r in
    (h.0, e ∙ ap (λ (l : List ℕ). seq l) h.1)
spelled_to b (Pbes2 v) (w, (p, r, is), e) =
    let h = (parameters_spelled p v).0 r in
    (h.0, (p, h.1, e ∙ ap (λ (l : List ℕ). seq l) is))

spelled_from : (b : List ℕ) (s : EncryptionScheme) → IsScheme s → SpellsScheme b s → SchemeText b s
spelled_from b (Pbes1 a) h e = subst (λ (l : List ℕ). SchemeText l (Pbes1 a)) (sym e) (pbe_canonical a h)
spelled_from b (Pbes2 v) h (p, x, e) = (oid pbes2_oid ++ p, (p, (parameters_spelled p v).1 (h, x), refl), e)

pub scheme_spelled : (b : List ℕ) (s : EncryptionScheme) → SchemeText b s ↔ (IsScheme s × SpellsScheme b s)
scheme_spelled b s = (spelled_to b s, λ h. spelled_from b s h.0 h.1)
