-- Certificates are read exactly, and meet one fault alone.
use Rattle.std.proofs.Common.{◌≡◌, ℕ, Bool, false, List, [], ◌∷◌, ◌++◌, Option, Some, None, Ok, Err, Result, refl, sym, ap, ◌∙◌, subst, IsTrue, inl, inr}
use Rattle.std.specs.Prelude.{◌==◌, slice_index}
use Rattle.std.proofs.lemmas.Bool.{eqb-true}
use Rattle.asn1_core.specs.Der.{el, is_tag}
use Rattle.asn1_core.specs.Reading.{All, Front, Fault, Bad, UnknownOid, any_tag, ended, is_ended, inside_at, left, on, option_at, raw_at, raw_of, whole, within}
use Rattle.asn1_core.specs.Gives.{Fails, Gives, Parses}
use Rattle.asn1_core.specs.declared.error.Error.{Error}
use Rattle.asn1_core.specs.declared.error.Error.TheVariants as errors
use Rattle.asn1_core.specs.Texts.{Ended, Exact, ExactAll, On, Perhaps, Whole}
use Rattle.asn1_core.specs.Fields.{passing}
use Rattle.asn1_core.specs.ExactLaws.{ended-exact, on-exact, same-exact}
use Rattle.asn1_core.specs.ElementLaws.{inside-exact, raw-exact, within-exact}
use Rattle.asn1_core.specs.FieldLaws.{passing-exact}
use Rattle.asn1_core.specs.FaultLaws.{OnlyBad, by_tag_bad, ended_bad, on_bad, option_bad, where_bad, within_bad}
use Rattle.asn1_core.specs.StandLaws.{whole_sole}
use Rattle.asn1_core.specs.OptionLaws.{Follows, OnOption, on_option-exact}
use Rattle.der_core.specs.Any.{AnyText, any_at}
use Rattle.der_core.specs.BitString.{BitsOf, bits_of}
use Rattle.der_core.specs.StringLaws.{bits_of-exact}
use Rattle.spki.specs.AlgorithmLaws.{algorithm-exact}
use Rattle.spki.specs.AnyLaws.{algorithm_bad, any-exact, any-whole, any_bad}
use Rattle.spki.specs.OidLaws.{parses_short}
use Rattle.spki.specs.PublicKeyLaws.{public_key-exact}
use Rattle.inventory_core.specs.Certificate.{AnyAlgorithmText, AfterKey, BitsText, Certificate, CertificateText, IsCertificate, KeyText, SerialText, SignedText, Tagged, begins, certificate, has_octets}
use Rattle.inventory_core.specs.CertificateReading.{any_algorithm_at, after_key, after_signed, bits_at, certificate_at, key_at, maybe_at, serial_at, signed_all, signed_at, tagged_at}

pub ended_fails : {A : Type 0} (x : A) (rest : List ℕ) (e : Error) → Fails ⊥ e (is_ended rest) → Fails ⊥ e (ended x rest)
ended_fails x [] errors.Malformed h = absurd cc
ended_fails x [] (errors.OidUnknown o) h = absurd cc
ended_fails x (b ∷ bs) errors.Malformed h = refl
ended_fails x (b ∷ bs) (errors.OidUnknown o) h = absurd cc
ended_fails x rest errors.Overlength h = absurd h
ended_fails x rest errors.NoRoom h = absurd h
ended_fails x rest errors.File h = absurd h
ended_fails x rest errors.Memory h = absurd h

-- ---- Parts

tagged-exact : (tag : ℕ) → Exact (Tagged tag) (tagged_at tag)
tagged-exact tag = passing-exact (begins tag) raw-exact

first_of : (t : ℕ) (w : List ℕ) → slice_index (el t w) 0 ≡ t
unfolding el
first_of t w = refl

tagged_whole : (tag : ℕ) → Whole (λ t. t == tag) (Tagged tag)
tagged_whole tag b v ((same, (t, w, ok, is)), test) =
    let first : slice_index v 0 ≡ t = ap (λ x. slice_index x 0) (same ∙ is) ∙ first_of t w in
    (t, w, ok, subst (λ n. IsTrue (n == tag)) first test, is)

algorithm_read : Exact AnyAlgorithmText any_algorithm_at
unfolding any_algorithm_at
algorithm_read = algorithm-exact any_tag AnyText any_at any-exact any-whole

bits_read : Exact BitsText bits_at
unfolding bits_at
bits_read = within-exact 0x03 BitsOf bits_of refl bits_of-exact

key_read : Exact KeyText key_at
unfolding key_at
key_read = public_key-exact any_tag AnyText any_at any-exact any-whole BitsText (within 0x03 bits_of) (within-exact 0x03 BitsOf bits_of refl bits_of-exact)

serial_read : Exact SerialText serial_at
serial_read = passing-exact has_octets (inside-exact 0x02 refl)

-- ---- Parts that may be left out

perhaps_to : {A B : Type 0} (R : List ℕ → A → Type 0) (S : Option A → List ℕ → B → Type 0) (b : List ℕ) (v : B) → OnOption R S b v → On (Perhaps R) S b v
perhaps_to R S b v (inl s) = ([], b, None, refl, s, refl)
perhaps_to R S b v (inr (p, q, a, r, s, is)) = (p, q, Some a, r, s, is)

perhaps_from : {A B : Type 0} (R : List ℕ → A → Type 0) (S : Option A → List ℕ → B → Type 0) (b : List ℕ) (v : B) → On (Perhaps R) S b v → OnOption R S b v
perhaps_from R S b v (p, q, None, r, s, is) = inl (subst (λ l. S None l v) (sym (is ∙ ap (λ l. l ++ q) r)) s)
perhaps_from R S b v (p, q, Some a, r, s, is) = inr (p, q, a, r, s, is)

maybe_on : {B : Type 0} (tag : ℕ) (S : Option (List ℕ) → List ℕ → B → Type 0) (k : Option (List ℕ) → All B) → Follows (λ t. t == tag) (S None)
    → ((o : Option (List ℕ)) → ExactAll (S o) (k o)) → ExactAll (On (Perhaps (Tagged tag)) S) (on (maybe_at tag) k)
unfolding maybe_at
maybe_on tag S k follows others =
    same-exact (OnOption (Tagged tag) S) (On (Perhaps (Tagged tag)) S) (on (option_at (λ t. t == tag) (tagged_at tag)) k)
    (perhaps_to (Tagged tag) S) (perhaps_from (Tagged tag) S)
    (on_option-exact (λ t. t == tag) (Tagged tag) S (tagged_at tag) k (tagged-exact tag) (tagged_whole tag) follows others)

follows_end : {B : Type 0} (can : ℕ → Bool) (x : B) → Follows can (Ended x)
follows_end can x t l v h = absurd cc

follows_maybe : {B : Type 0} (can : ℕ → Bool) (tag : ℕ) (S : Option (List ℕ) → List ℕ → B → Type 0) → IsTrue (is_tag tag) → can tag ≡ false
    → Follows can (S None) → Follows can (On (Perhaps (Tagged tag)) S)
unfolding el
follows_maybe {B} can tag S ok other more t l v (p, q, None, r, s, is) = more t l v (subst (λ x. S None x v) (sym (is ∙ ap (λ x. x ++ q) r)) s)
follows_maybe {B} can tag S ok other more t l v (p, q, Some a, r, s, is) =
    let w = tagged_whole tag p a r in
    let e : t ∷ l ≡ el w.0 w.1 ++ q = is ∙ ap (λ x. x ++ q) w.4 in
    let same : tag ≡ t = (let h : w.0 ≡ tag = eqb-true w.0 tag w.3 in let g : t ≡ w.0 = cc in sym (g ∙ h)) in
    (subst (λ n. IsTrue (is_tag n)) same ok, subst (λ n. can n ≡ false) same other)

follows_serial : {B : Type 0} (S : List ℕ → List ℕ → B → Type 0) → Follows (λ t. t == 0xa0) (On SerialText S)
unfolding el
follows_serial {B} S t l v (p, q, a, ((w, n, is_el), some), s, is) =
    let e : t ∷ l ≡ el 0x02 w ++ q = is ∙ ap (λ x. x ++ q) is_el in
    let same : 0x02 ≡ t = cc in
    (subst (λ n. IsTrue (is_tag n)) same refl, subst (λ n. (n == 0xa0) ≡ false) same refl)

-- ---- Rows

after_key_read : (c : Certificate) → ExactAll (AfterKey c) (after_key c)
unfolding after_key
after_key_read c =
    maybe_on 0x81 _ _ (follows_maybe _ 0x82 _ refl refl (follows_maybe _ 0xa3 _ refl refl (follows_end _ c))) (λ p.
    maybe_on 0x82 _ _ (follows_maybe _ 0xa3 _ refl refl (follows_end _ c)) (λ q.
    maybe_on 0xa3 _ _ (follows_end _ c) (λ e. ended-exact c)))

signed_read : Exact SignedText signed_at
unfolding signed_at signed_all
signed_read = within-exact 0x30 _ _ refl (maybe_on 0xa0 _ _ (follows_serial _) (λ v. on-exact SerialText _ serial_at _ serial_read (λ n.
    on-exact AnyAlgorithmText _ any_algorithm_at _ algorithm_read (λ a. on-exact (Tagged 0x30) _ (tagged_at 0x30) _ (tagged-exact 0x30) (λ i.
    on-exact (Tagged 0x30) _ (tagged_at 0x30) _ (tagged-exact 0x30) (λ w. on-exact (Tagged 0x30) _ (tagged_at 0x30) _ (tagged-exact 0x30) (λ s.
    on-exact KeyText _ key_at _ key_read (λ k. after_key_read (certificate i s k)))))))))

pub certificate_read : Exact CertificateText certificate_at
unfolding certificate_at after_signed
certificate_read = within-exact 0x30 _ _ refl (on-exact SignedText _ signed_at _ signed_read (λ c.
    on-exact AnyAlgorithmText _ any_algorithm_at _ algorithm_read (λ a. on-exact BitsText _ bits_at _ bits_read (λ s. ended-exact c))))

-- ---- Faults

passing_bad : {A : Type 0} (t : A → Bool) (p : Front A) → OnlyBad p → OnlyBad (passing t p)
passing_bad t p h b o = bind_where t (p b) o (h b o)
  where
    bind_where : {A : Type 0} (t : A → Bool) (r : Result (A × List ℕ) Fault) (o : _) → (r ≡ Err (UnknownOid o) → ⊥) → passing t (λ x. r) [] ≡ Err (UnknownOid o) → ⊥
    bind_where t (Ok x) o g e = where_bad (t x.0) x o e
    bind_where t (Err Bad) o g e = absurd cc
    bind_where t (Err (UnknownOid p)) o g e = absurd (g cc)

raw_bad : OnlyBad raw_at
unfolding raw_at
raw_bad = by_tag_bad any_tag raw_of (λ t b o e. absurd cc)

tagged_bad : (tag : ℕ) → OnlyBad (tagged_at tag)
tagged_bad tag = passing_bad (begins tag) raw_at raw_bad

maybe_bad : (tag : ℕ) → OnlyBad (maybe_at tag)
unfolding maybe_at
maybe_bad tag = option_bad (λ t. t == tag) (tagged_at tag) (tagged_bad tag)

left_bad : OnlyBad left
left_bad b o e = absurd cc

serial_bad : OnlyBad serial_at
serial_bad = passing_bad has_octets (inside_at 0x02) (within_bad 0x02 left left_bad)

algorithm_only : OnlyBad any_algorithm_at
unfolding any_algorithm_at
algorithm_only = algorithm_bad any_tag any_at any_bad

bits_of_bad : OnlyBad bits_of
bits_of_bad [] o e = absurd cc
bits_of_bad (u ∷ l) o e = where_bad _ _ o e

bits_bad : OnlyBad bits_at
unfolding bits_at
bits_bad = within_bad 0x03 bits_of bits_of_bad

key_bad : OnlyBad key_at
unfolding key_at
key_bad = within_bad 0x30 _ (on_bad _ _ (algorithm_bad any_tag any_at any_bad) (λ a. on_bad _ _ (within_bad 0x03 bits_of bits_of_bad) (λ k. ended_bad _)))

after_key_bad : (c : Certificate) → OnlyBad (after_key c)
unfolding after_key
after_key_bad c = on_bad _ _ (maybe_bad 0x81) (λ p. on_bad _ _ (maybe_bad 0x82) (λ q. on_bad _ _ (maybe_bad 0xa3) (λ e. ended_bad c)))

signed_bad : OnlyBad signed_at
unfolding signed_at signed_all
signed_bad = within_bad 0x30 _ (on_bad _ _ (maybe_bad 0xa0) (λ v. on_bad _ _ serial_bad (λ n. on_bad _ _ algorithm_only (λ a. on_bad _ _ (tagged_bad 0x30) (λ i.
    on_bad _ _ (tagged_bad 0x30) (λ w. on_bad _ _ (tagged_bad 0x30) (λ s. on_bad _ _ key_bad (λ k. after_key_bad (certificate i s k)))))))))

certificate_bad : OnlyBad certificate_at
unfolding certificate_at after_signed
certificate_bad = within_bad 0x30 _ (on_bad _ _ signed_bad (λ c. on_bad _ _ algorithm_only (λ a. on_bad _ _ bits_bad (λ s. ended_bad c))))

pub parses_certificate : {X : Type 0} (view : X → Certificate) (b : List ℕ) (r : Result X Error) → Gives view r (whole certificate_at b) → Parses errors.Malformed IsCertificate view b r
parses_certificate view b r e = parses_short CertificateText certificate_at certificate_read certificate_bad b view r e

-- A text is that of one certificate at most.
pub certificate_sole : (b : List ℕ) (c d : Certificate) → IsCertificate b c → IsCertificate b d → c ≡ d
certificate_sole = whole_sole CertificateText certificate_at certificate_read
