-- lemmas only: nothing to believe here
-- The key derivation function of PBES2 is read exactly, and what is written of one is read again.
use Rattle.std.specs.Prelude.{◌↔◌}
use Rattle.std.proofs.Common.{◌≡◌, ℕ, List, ◌++◌, Result, Ok, refl, sym, ap, subst, ◌∙◌, IsTrue}
use Rattle.asn1_core.specs.Der.{el, oid, seq, IsShort}
use Rattle.asn1_core.specs.ExactLaws.{IsShort-right}
use Rattle.asn1_core.specs.Identifier.{is_identifier}
use Rattle.asn1_core.specs.Oid.{oid_octets}
use Rattle.asn1_core.specs.Reading.{Fault, ◌>>=◌}
use Rattle.asn1_core.specs.Texts.{Exact, ExactAll}
use Rattle.asn1_core.specs.declared.identifier.ObjectIdentifier.{ObjectIdentifier}
use Rattle.asn1_core.specs.ElementLaws.{within-exact}
use Rattle.der_core.specs.Any.{AnyText}
use Rattle.spki.specs.Algorithm.{AlgorithmOf}
use Rattle.pkcs5.specs.Identifiers.{pbkdf2_oid, scrypt_oid}
use Rattle.pkcs5.specs.Pbkdf2Params.{Pbkdf2ParamsOf, pbkdf2_params_content}
use Rattle.pkcs5.specs.Pbkdf2ParamsLaws.{pbkdf2_params_of-exact, pbkdf2_params_canonical, pbkdf2_params_spelled}
use Rattle.pkcs5.specs.ScryptParams.{ScryptParamsOf, scrypt_params_content}
use Rattle.pkcs5.specs.ScryptParamsLaws.{scrypt_params_of-exact, scrypt_params_canonical, scrypt_params_spelled}
use Rattle.pkcs5.specs.Kdf.{KdfOf, KdfText, kdf_content, IsKdf, SpellsKdf}
use Rattle.pkcs5.specs.JudgedLaws.{Judges, JudgesWith, with_judges, made_of-exact, if_test, row_found, row_again}
use Rattle.pkcs5.specs.declared.pbes2.kdf.Kdf.{Kdf}
use Rattle.pkcs5.specs.declared.pbes2.kdf.Kdf.TheVariants.{Pbkdf2, Scrypt}
use Rattle.pkcs5.specs.Reading.{pbkdf2_params_of, pbkdf2_params_in, scrypt_params_of, scrypt_params_in, kdf_with, kdf_in, kdf_of, kdf_at}

pbkdf2_found : (o : ObjectIdentifier) (x : ℕ × List ℕ) (k : Kdf) → oid_octets o ≡ pbkdf2_oid → (pbkdf2_params_in x >>= λ v. Ok (Pbkdf2 v)) ≡ Ok k → KdfOf (oid (oid_octets o) ++ el x.0 x.1) k
pbkdf2_found o x k same e =
    let y = row_found Pbkdf2ParamsOf pbkdf2_params_of pbkdf2_params_of-exact (λ v. Pbkdf2 v) x k e in
    subst (KdfOf (oid (oid_octets o) ++ el x.0 x.1)) (sym y.2) (el x.0 x.1, y.1, ap (λ (i : List ℕ). oid i ++ el x.0 x.1) same)

scrypt_found : (o : ObjectIdentifier) (x : ℕ × List ℕ) (k : Kdf) → oid_octets o ≡ scrypt_oid → (scrypt_params_in x >>= λ v. Ok (Scrypt v)) ≡ Ok k → KdfOf (oid (oid_octets o) ++ el x.0 x.1) k
scrypt_found o x k same e =
    let y = row_found ScryptParamsOf scrypt_params_of scrypt_params_of-exact (λ v. Scrypt v) x k e in
    subst (KdfOf (oid (oid_octets o) ++ el x.0 x.1)) (sym y.2) (el x.0 x.1, y.1, ap (λ (i : List ℕ). oid i ++ el x.0 x.1) same)

with_found : (o : ObjectIdentifier) (x : ℕ × List ℕ) (k : Kdf) → kdf_with o x ≡ Ok k → KdfOf (oid (oid_octets o) ++ el x.0 x.1) k
with_found o x k =
    let P : Result Kdf Fault → Type 0 = λ r. r ≡ Ok k → KdfOf (oid (oid_octets o) ++ el x.0 x.1) k in
    if_test P (oid_octets o) pbkdf2_oid _ _ (pbkdf2_found o x k) (if_test P (oid_octets o) scrypt_oid _ _ (scrypt_found o x k) (λ e. absurd cc))

kdf_again : (b : List ℕ) (k : Kdf) → KdfOf b k → IsShort b → (id : List ℕ) × (v : List ℕ) × IsTrue (is_identifier id) × (b ≡ oid id ++ el 0x30 v) × ((o : ObjectIdentifier) → oid_octets o ≡ id → kdf_with o (0x30, v) ≡ Ok k)
kdf_again b (Pbkdf2 v) (p, r, e) short =
    let read = row_again Pbkdf2ParamsOf pbkdf2_params_of pbkdf2_params_of-exact (λ v. Pbkdf2 v) p v r (IsShort-right (oid pbkdf2_oid) p (subst IsShort e short)) in
    (pbkdf2_oid, r.0, refl, e ∙ ap (λ (l : List ℕ). oid pbkdf2_oid ++ l) r.2, λ o same. rw same read)
kdf_again b (Scrypt v) (p, r, e) short =
    let read = row_again ScryptParamsOf scrypt_params_of scrypt_params_of-exact (λ v. Scrypt v) p v r (IsShort-right (oid scrypt_oid) p (subst IsShort e short)) in
    (scrypt_oid, r.0, refl, e ∙ ap (λ (l : List ℕ). oid scrypt_oid ++ l) r.2, λ o same. rw same read)

kdf-judges-with : JudgesWith kdf_with KdfOf
kdf-judges-with = record { found = with_found; again = kdf_again }

pub kdf-judges : Judges (AlgorithmOf AnyText) kdf_in KdfOf
unfolding kdf_in
kdf-judges = with_judges kdf_with KdfOf kdf-judges-with

pub kdf_of-exact : ExactAll KdfOf kdf_of
kdf_of-exact = made_of-exact kdf_in KdfOf kdf-judges

pub kdf-exact : Exact KdfText kdf_at
kdf-exact = within-exact 0x30 KdfOf kdf_of refl kdf_of-exact

-- ---- what is written

pub kdf_canonical : (k : Kdf) → IsKdf k → KdfText (el 0x30 (kdf_content k)) k
kdf_canonical (Pbkdf2 v) h = (kdf_content (Pbkdf2 v), (el 0x30 (pbkdf2_params_content v), pbkdf2_params_canonical v h, refl), refl)
kdf_canonical (Scrypt v) h = (kdf_content (Scrypt v), (el 0x30 (scrypt_params_content v), scrypt_params_canonical v h, refl), refl)

spelled_to : (b : List ℕ) (k : Kdf) → KdfText b k → IsKdf k × SpellsKdf b k
spelled_to b (Pbkdf2 v) (w, (p, r, is), e) =
    let h = (pbkdf2_params_spelled p v).0 r in
    (h.0, (p, h.1, e ∙ ap (λ (l : List ℕ). seq l) is))
spelled_to b (Scrypt v) (w, (p, r, is), e) =
    let h = (scrypt_params_spelled p v).0 r in
    (h.0, e ∙ ap (λ (l : List ℕ). seq l) (is ∙ ap (λ (l : List ℕ). oid scrypt_oid ++ l) h.1))

spelled_from : (b : List ℕ) (k : Kdf) → IsKdf k → SpellsKdf b k → KdfText b k
spelled_from b (Pbkdf2 v) h (p, s, e) = (oid pbkdf2_oid ++ p, (p, (pbkdf2_params_spelled p v).1 (h, s), refl), e)
spelled_from b (Scrypt v) h e = subst (λ (l : List ℕ). KdfText l (Scrypt v)) (sym e) (kdf_canonical (Scrypt v) h)

pub kdf_spelled : (b : List ℕ) (k : Kdf) → KdfText b k ↔ (IsKdf k × SpellsKdf b k)
kdf_spelled b k = (spelled_to b k, λ h. spelled_from b k h.0 h.1)
