-- The parts of a certificate are read exactly, and reading meets one fault alone.
use Rattle.std.proofs.Common.{◌≡◌, ℕ, false, List, [], ◌∷◌, ◌++◌, Option, Some, None, Ok, Err, Result, refl, sym, ap, ◌∙◌, subst, IsTrue, inl, inr}
use Rattle.std.specs.Prelude.{◌==◌}
use Rattle.asn1_core.specs.Der.{IsShort, el, is_tag}
use Rattle.asn1_core.specs.Reading.{All, Fault, Bad, UnknownOid, any_tag, ended, is_ended, inside_at, left, on, option_at, raw_at, raw_of}
use Rattle.asn1_core.specs.Gives.{Fails, Parses, ReadsAs}
use Rattle.asn1_core.specs.declared.error.Error.{Error}
use Rattle.asn1_core.specs.declared.error.Error.TheVariants as errors
use Rattle.asn1_core.specs.Texts.{Exact, ExactAll, Inside, On, Perhaps, Raw, Within}
use Rattle.asn1_core.specs.ExactLaws.{ended-exact, ok_is, on-exact, same-exact}
use Rattle.asn1_core.specs.ElementLaws.{inside-exact, raw-exact, within-exact, within-whole}
use Rattle.asn1_core.specs.FaultLaws.{OnlyBad, by_tag_bad, on_bad, option_bad, within_bad}
use Rattle.asn1_core.specs.StandLaws.{none_stands}
use Rattle.asn1_core.specs.Texts.{Left}
use Rattle.asn1_core.specs.OptionLaws.{Follows, OnOption, on_option-exact}
use Rattle.x509_names.specs.Parts.{Anything, CertificateFront, CertificateParts, HasParts, OrNone, SignedFront, TwoElements, certificate_parts}
use Rattle.x509_names.specs.PartsReading.{anything, certificate_at, or_none, signed_all, signed_at, some_or_none, two_elements, validity_at, version_at}

pub ended_fails : {A : Type 0} (x : A) (rest : List ℕ) (e : Error) → Fails ⊥ e (is_ended rest) → Fails ⊥ e (ended x rest)
ended_fails x [] errors.Malformed h = absurd cc
ended_fails x [] (errors.OidUnknown o) h = absurd cc
ended_fails x (b ∷ bs) errors.Malformed h = refl
ended_fails x (b ∷ bs) (errors.OidUnknown o) h = absurd cc
ended_fails x rest errors.Overlength h = absurd h
ended_fails x rest errors.NoRoom h = absurd h
ended_fails x rest errors.File h = absurd h
ended_fails x rest errors.Memory h = absurd h

-- ---- Parts

anything-exact : {A : Type 0} (x : A) → ExactAll (Anything x) (anything x)
anything-exact x = record {
  found = λ b v e. sym (ok_is x v e);
  again = λ b v r short. rw r refl;
}

none_found : {A : Type 0} (R : List ℕ → A → Type 0) (p : All A) → ExactAll R p → (b : List ℕ) (v : Option A) (r : Result A Fault) → p b ≡ r → some_or_none r ≡ Ok v → OrNone R b v
none_found R p exact b (Some v) (Ok x) is e = let same : x ≡ v = cc in exact.found b v (is ∙ ap (λ y. Ok y) same)
none_found R p exact b None (Ok x) is e = absurd cc
none_found R p exact b (Some v) (Err f) is e = absurd cc
none_found R p exact b None (Err f) is e = λ v r short. let again = exact.again b v r short in absurd cc

none_again : {A : Type 0} (R : List ℕ → A → Type 0) (p : All A) → ExactAll R p → (b : List ℕ) (v : Option A) (r : Result A Fault) → p b ≡ r → OrNone R b v → IsShort b → some_or_none r ≡ Ok v
none_again R p exact b (Some v) r is holds short = let again = exact.again b v holds short in rw (sym is ∙ again) refl
none_again R p exact b None (Ok x) is holds short = absurd (holds x (exact.found b x is) short)
none_again R p exact b None (Err f) is holds short = refl

or_none-exact : {A : Type 0} (R : List ℕ → A → Type 0) (p : All A) → ExactAll R p → ExactAll (OrNone R) (or_none p)
or_none-exact R p exact = record {
  found = λ b v e. none_found R p exact b v (p b) refl e;
  again = λ b v holds short. none_again R p exact b v (p b) refl holds short;
}

-- two elements are read exactly
pub two_read : ExactAll TwoElements two_elements
unfolding two_elements
two_read = on-exact Raw _ raw_at _ raw-exact (λ f. on-exact Raw _ raw_at _ raw-exact (λ s. ended-exact (f, s)))

validity_read : Exact (Within 0x30 (OrNone TwoElements)) validity_at
unfolding validity_at
validity_read = within-exact 0x30 _ _ refl (or_none-exact TwoElements two_elements two_read)

-- ---- A version that may be left out

perhaps_to : {A B : Type 0} (R : List ℕ → A → Type 0) (S : Option A → List ℕ → B → Type 0) (b : List ℕ) (v : B) → OnOption R S b v → On (Perhaps R) S b v
perhaps_to R S b v (inl s) = ([], b, None, refl, s, refl)
perhaps_to R S b v (inr (p, q, a, r, s, is)) = (p, q, Some a, r, s, is)

perhaps_from : {A B : Type 0} (R : List ℕ → A → Type 0) (S : Option A → List ℕ → B → Type 0) (b : List ℕ) (v : B) → On (Perhaps R) S b v → OnOption R S b v
perhaps_from R S b v (p, q, None, r, s, is) = inl (subst (λ l. S None l v) (sym (is ∙ ap (λ l. l ++ q) r)) s)
perhaps_from R S b v (p, q, Some a, r, s, is) = inr (p, q, a, r, s, is)

version_on : {B : Type 0} (S : Option (List ℕ) → List ℕ → B → Type 0) (k : Option (List ℕ) → All B) → Follows (λ t. t == 0xa0) (S None)
    → ((o : Option (List ℕ)) → ExactAll (S o) (k o)) → ExactAll (On (Perhaps (Inside 0xa0)) S) (on version_at k)
unfolding version_at
version_on S k follows others =
    same-exact (OnOption (Inside 0xa0) S) (On (Perhaps (Inside 0xa0)) S) (on (option_at (λ t. t == 0xa0) (inside_at 0xa0)) k)
    (perhaps_to (Inside 0xa0) S) (perhaps_from (Inside 0xa0) S)
    (on_option-exact (λ t. t == 0xa0) (Inside 0xa0) S (inside_at 0xa0) k (inside-exact 0xa0 refl) (within-whole 0xa0 Left refl) follows others)

follows_serial : {B : Type 0} (S : List ℕ → List ℕ → B → Type 0) → Follows (λ t. t == 0xa0) (On (Inside 0x02) S)
unfolding el
follows_serial {B} S t l v (p, q, a, (w, n, is_el), s, is) =
    let e : t ∷ l ≡ el 0x02 w ++ q = is ∙ ap (λ x. x ++ q) is_el in
    let same : 0x02 ≡ t = cc in
    (subst (λ n. IsTrue (is_tag n)) same refl, subst (λ n. (n == 0xa0) ≡ false) same refl)

-- ---- Rows

signed_read : Exact SignedFront signed_at
unfolding signed_at signed_all
signed_read = within-exact 0x30 _ _ refl (version_on _ _ (follows_serial _) (λ v. on-exact (Inside 0x02) _ (inside_at 0x02) _ (inside-exact 0x02 refl) (λ n.
    on-exact (Inside 0x30) _ (inside_at 0x30) _ (inside-exact 0x30 refl) (λ a. on-exact Raw _ raw_at _ raw-exact (λ i.
    on-exact (Within 0x30 (OrNone TwoElements)) _ validity_at _ validity_read (λ w. on-exact Raw _ raw_at _ raw-exact (λ s.
    anything-exact (certificate_parts n i w s))))))))

pub front_read : Exact CertificateFront certificate_at
unfolding certificate_at
front_read = within-exact 0x30 _ _ refl (on-exact SignedFront _ signed_at _ signed_read (λ p. anything-exact p))

-- ---- Faults

anything_bad : {A : Type 0} (x : A) → OnlyBad (anything x)
anything_bad x b o e = absurd cc

pub left_bad : OnlyBad left
left_bad b o e = absurd cc

pub inside_bad : (tag : ℕ) → OnlyBad (inside_at tag)
inside_bad tag = within_bad tag left left_bad

pub raw_bad : OnlyBad raw_at
unfolding raw_at
raw_bad = by_tag_bad any_tag raw_of (λ t b o e. absurd cc)

none_never : {A : Type 0} (r : Result A Fault) (o : _) → some_or_none r ≡ Err (UnknownOid o) → ⊥
none_never (Ok x) o e = absurd cc
none_never (Err f) o e = absurd cc

version_bad : OnlyBad version_at
unfolding version_at
version_bad = option_bad (λ t. t == 0xa0) (inside_at 0xa0) (inside_bad 0xa0)

validity_bad : OnlyBad validity_at
unfolding validity_at
validity_bad = within_bad 0x30 (or_none two_elements) (λ b o e. none_never (two_elements b) o e)

signed_bad : OnlyBad signed_at
unfolding signed_at signed_all
signed_bad = within_bad 0x30 _ (on_bad _ _ version_bad (λ v. on_bad _ _ (inside_bad 0x02) (λ n. on_bad _ _ (inside_bad 0x30) (λ a. on_bad _ _ raw_bad (λ i.
    on_bad _ _ validity_bad (λ w. on_bad _ _ raw_bad (λ s. anything_bad (certificate_parts n i w s))))))))

front_bad : OnlyBad certificate_at
unfolding certificate_at
front_bad = within_bad 0x30 _ (on_bad _ _ signed_bad (λ p. anything_bad p))

-- ---- The call

pub parses_parts : {X : Type 0} (view : X → CertificateParts) (b new : List ℕ) (r : Result X Error) → ReadsAs certificate_at view b new r → Parses errors.Malformed HasParts view b r
parses_parts view b new (Ok x) e = (new, front_read.found b (view x) new e)
parses_parts view b new (Err errors.Malformed) h = (refl, λ v p. let t = p.1 in none_stands CertificateFront certificate_at front_read b Bad h.1 t.text v p.0 t.holds t.short t.is)
parses_parts view b new (Err (errors.OidUnknown o)) h = absurd (front_bad b o h.1)
parses_parts view b new (Err errors.Overlength) h = absurd h.1
parses_parts view b new (Err errors.NoRoom) h = absurd h.1
parses_parts view b new (Err errors.File) h = absurd h.1
parses_parts view b new (Err errors.Memory) h = absurd h.1
