-- Keys are read exactly, and meet one fault alone.
use Rattle.std.proofs.Common.{◌≡◌, ℕ, Bool, false, List, [], ◌∷◌, ◌++◌, Option, Some, None, Result, refl, sym, ap, ◌∙◌, subst, IsTrue, inl, inr}
use Rattle.std.specs.Prelude.{◌==◌}
use Rattle.asn1_core.specs.Der.{el, is_tag}
use Rattle.asn1_core.specs.Reading.{All, Front, ended, inside_at, is_ended, left, on, option_at, whole, within}
use Rattle.asn1_core.specs.Gives.{Fails, Gives, Parses}
use Rattle.asn1_core.specs.declared.error.Error.{Error}
use Rattle.asn1_core.specs.declared.error.Error.TheVariants as errors
use Rattle.asn1_core.specs.Texts.{Ended, Exact, ExactAll, Inside, Left, On, Perhaps, Within}
use Rattle.asn1_core.specs.ExactLaws.{ended-exact, on-exact, same-exact, whole-exact}
use Rattle.asn1_core.specs.ElementLaws.{inside-exact, within-exact, within-whole}
use Rattle.asn1_core.specs.FaultLaws.{OnlyBad, ended_bad, on_bad, option_bad, whole_bad, where_bad, within_bad}
use Rattle.asn1_core.specs.StandLaws.{whole_sole}
use Rattle.asn1_core.specs.OptionLaws.{Follows, OnOption, on_option-exact}
use Rattle.der_core.specs.Any.{AnyText, any_at}
use Rattle.der_core.specs.BitString.{BitsOf, bits_of}
use Rattle.der_core.specs.StringLaws.{bits_of-exact}
use Rattle.spki.specs.AnyLaws.{any-exact, any_bad}
use Rattle.spki.specs.OidLaws.{parses_short}
use Rattle.key_files.specs.Ec.{Ec, EcPrivateKeyText, IsEcPrivateKey, PointText, ec}
use Rattle.key_files.specs.Reading.{after_exponent, after_primes, curve_at, curve_option_at, ec_all, ec_at, integer_at, key_octets_at, others_at, point_at, point_option_at, rsa_all, rsa_at, rsa_public_all, rsa_public_at}
use Rattle.key_files.specs.Rsa.{AfterExponent, IntegerText, IsRsaPrivateKey, IsRsaPublicKey, Rsa, RsaPrivateKeyText, RsaPublicKeyText, rsa}

pub ended_fails : {A : Type 0} (x : A) (rest : List ℕ) (e : Error) → Fails ⊥ e (is_ended rest) → Fails ⊥ e (ended x rest)
ended_fails x [] errors.Malformed h = absurd cc
ended_fails x [] (errors.OidUnknown o) h = absurd cc
ended_fails x (b ∷ bs) errors.Malformed h = refl
ended_fails x (b ∷ bs) (errors.OidUnknown o) h = absurd cc
ended_fails x rest errors.Overlength h = absurd h
ended_fails x rest errors.NoRoom h = absurd h
ended_fails x rest errors.File h = absurd h
ended_fails x rest errors.Memory h = absurd h

-- ---- Parts that may be left out

perhaps_to : {A B : Type 0} (R : List ℕ → A → Type 0) (S : Option A → List ℕ → B → Type 0) (b : List ℕ) (v : B) → OnOption R S b v → On (Perhaps R) S b v
perhaps_to R S b v (inl s) = ([], b, None, refl, s, refl)
perhaps_to R S b v (inr (p, q, a, r, s, is)) = (p, q, Some a, r, s, is)

perhaps_from : {A B : Type 0} (R : List ℕ → A → Type 0) (S : Option A → List ℕ → B → Type 0) (b : List ℕ) (v : B) → On (Perhaps R) S b v → OnOption R S b v
perhaps_from R S b v (p, q, None, r, s, is) = inl (subst (λ l. S None l v) (sym (is ∙ ap (λ l. l ++ q) r)) s)
perhaps_from R S b v (p, q, Some a, r, s, is) = inr (p, q, a, r, s, is)

maybe_on : {A B : Type 0} (tag : ℕ) (R : List ℕ → A → Type 0) (at : Front A) (S : Option A → List ℕ → B → Type 0) (k : Option A → All B)
    → IsTrue (is_tag tag) → Exact (Within tag R) at → Follows (λ t. t == tag) (S None) → ((o : Option A) → ExactAll (S o) (k o))
    → ExactAll (On (Perhaps (Within tag R)) S) (on (option_at (λ t. t == tag) at) k)
maybe_on tag R at S k ok exact follows others =
    same-exact (OnOption (Within tag R) S) (On (Perhaps (Within tag R)) S) (on (option_at (λ t. t == tag) at) k)
    (perhaps_to (Within tag R) S) (perhaps_from (Within tag R) S)
    (on_option-exact (λ t. t == tag) (Within tag R) S at k exact (within-whole tag R ok) follows others)

follows_end : {B : Type 0} (can : ℕ → Bool) (x : B) → Follows can (Ended x)
follows_end can x t l v h = absurd cc

follows_maybe : {A B : Type 0} (can : ℕ → Bool) (tag : ℕ) (R : List ℕ → A → Type 0) (S : Option A → List ℕ → B → Type 0)
    → IsTrue (is_tag tag) → can tag ≡ false → Follows can (S None) → Follows can (On (Perhaps (Within tag R)) S)
unfolding el
follows_maybe {A} {B} can tag R S ok other more t l v (p, q, None, r, s, is) = more t l v (subst (λ x. S None x v) (sym (is ∙ ap (λ x. x ++ q) r)) s)
follows_maybe {A} {B} can tag R S ok other more t l v (p, q, Some a, (w, r, is_el), s, is) =
    let e : t ∷ l ≡ el tag w ++ q = is ∙ ap (λ x. x ++ q) is_el in
    let same : tag ≡ t = cc in
    (subst (λ n. IsTrue (is_tag n)) same ok, subst (λ n. can n ≡ false) same other)

-- ---- Rows

integer_read : Exact IntegerText integer_at
integer_read = inside-exact 0x02 refl

after_exponent_read : (k : Rsa) → ExactAll (AfterExponent k) (after_exponent k)
unfolding after_exponent after_primes others_at
after_exponent_read k =
    on-exact IntegerText _ integer_at _ integer_read (λ d. on-exact IntegerText _ integer_at _ integer_read (λ p.
    on-exact IntegerText _ integer_at _ integer_read (λ q. on-exact IntegerText _ integer_at _ integer_read (λ dp.
    on-exact IntegerText _ integer_at _ integer_read (λ dq. on-exact IntegerText _ integer_at _ integer_read (λ c.
    maybe_on 0x30 Left (inside_at 0x30) _ _ refl (inside-exact 0x30 refl) (follows_end _ k) (λ others. ended-exact k)))))))

rsa_read : Exact RsaPrivateKeyText rsa_at
unfolding rsa_at rsa_all
rsa_read = within-exact 0x30 _ _ refl (on-exact IntegerText _ integer_at _ integer_read (λ v.
    on-exact IntegerText _ integer_at _ integer_read (λ n. on-exact IntegerText _ integer_at _ integer_read (λ e. after_exponent_read (rsa n e)))))

rsa_public_read : Exact RsaPublicKeyText rsa_public_at
unfolding rsa_public_at rsa_public_all
rsa_public_read = within-exact 0x30 _ _ refl (on-exact IntegerText _ integer_at _ integer_read (λ n.
    on-exact IntegerText _ integer_at _ integer_read (λ e. ended-exact (rsa n e))))

curve_read : Exact (Within 0xa0 AnyText) curve_at
unfolding curve_at
curve_read = within-exact 0xa0 AnyText (whole any_at) refl (whole-exact AnyText any_at any-exact)

point_read : Exact (Within 0xa1 PointText) point_at
unfolding point_at
point_read = within-exact 0xa1 PointText (whole (within 0x03 bits_of)) refl
    (whole-exact PointText (within 0x03 bits_of) (within-exact 0x03 BitsOf bits_of refl bits_of-exact))

ec_read : Exact EcPrivateKeyText ec_at
unfolding ec_at ec_all curve_option_at point_option_at
ec_read = within-exact 0x30 _ _ refl (on-exact IntegerText _ integer_at _ integer_read (λ v.
    on-exact (Inside 0x04) _ key_octets_at _ (inside-exact 0x04 refl) (λ key.
    maybe_on 0xa0 AnyText curve_at _ _ refl curve_read (follows_maybe _ 0xa1 PointText _ refl refl (follows_end _ _)) (λ ps.
    maybe_on 0xa1 PointText point_at _ _ refl point_read (follows_end _ _) (λ q. ended-exact (ec ps q))))))

-- ---- Faults

left_bad : OnlyBad left
left_bad b o e = absurd cc

inside_bad : (tag : ℕ) → OnlyBad (inside_at tag)
inside_bad tag = within_bad tag left left_bad

after_exponent_bad : (k : Rsa) → OnlyBad (after_exponent k)
unfolding after_exponent after_primes others_at
after_exponent_bad k = on_bad _ _ (inside_bad 2) (λ d. on_bad _ _ (inside_bad 2) (λ p. on_bad _ _ (inside_bad 2) (λ q. on_bad _ _ (inside_bad 2) (λ dp.
    on_bad _ _ (inside_bad 2) (λ dq. on_bad _ _ (inside_bad 2) (λ c. on_bad _ _ (option_bad _ (inside_at 0x30) (inside_bad 0x30)) (λ others. ended_bad k)))))))

rsa_bad : OnlyBad rsa_at
unfolding rsa_at rsa_all
rsa_bad = within_bad 0x30 _ (on_bad _ _ (inside_bad 2) (λ v. on_bad _ _ (inside_bad 2) (λ n. on_bad _ _ (inside_bad 2) (λ e. after_exponent_bad (rsa n e)))))

rsa_public_bad : OnlyBad rsa_public_at
unfolding rsa_public_at rsa_public_all
rsa_public_bad = within_bad 0x30 _ (on_bad _ _ (inside_bad 2) (λ n. on_bad _ _ (inside_bad 2) (λ e. ended_bad (rsa n e))))

curve_bad : OnlyBad curve_at
unfolding curve_at
curve_bad = within_bad 0xa0 _ (whole_bad any_at any_bad)

bits_of_bad : OnlyBad bits_of
bits_of_bad [] o e = absurd cc
bits_of_bad (u ∷ l) o e = where_bad _ _ o e

point_bad : OnlyBad point_at
unfolding point_at
point_bad = within_bad 0xa1 _ (whole_bad (within 0x03 bits_of) (within_bad 0x03 bits_of bits_of_bad))

ec_bad : OnlyBad ec_at
unfolding ec_at ec_all curve_option_at point_option_at
ec_bad = within_bad 0x30 _ (on_bad _ _ (inside_bad 2) (λ v. on_bad _ _ (inside_bad 4) (λ key.
    on_bad _ _ (option_bad _ curve_at curve_bad) (λ ps. on_bad _ _ (option_bad _ point_at point_bad) (λ q. ended_bad (ec ps q))))))

-- ---- What is read

pub parses_rsa : {X : Type 0} (view : X → Rsa) (b : List ℕ) (r : Result X Error) → Gives view r (whole rsa_at b) → Parses errors.Malformed IsRsaPrivateKey view b r
parses_rsa view b r e = parses_short RsaPrivateKeyText rsa_at rsa_read rsa_bad b view r e

pub parses_rsa_public : {X : Type 0} (view : X → Rsa) (b : List ℕ) (r : Result X Error) → Gives view r (whole rsa_public_at b) → Parses errors.Malformed IsRsaPublicKey view b r
parses_rsa_public view b r e = parses_short RsaPublicKeyText rsa_public_at rsa_public_read rsa_public_bad b view r e

pub parses_ec : {X : Type 0} (view : X → Ec) (b : List ℕ) (r : Result X Error) → Gives view r (whole ec_at b) → Parses errors.Malformed IsEcPrivateKey view b r
parses_ec view b r e = parses_short EcPrivateKeyText ec_at ec_read ec_bad b view r e

pub rsa_public_sole : (b : List ℕ) (k l : Rsa) → IsRsaPublicKey b k → IsRsaPublicKey b l → k ≡ l
rsa_public_sole = whole_sole RsaPublicKeyText rsa_public_at rsa_public_read

pub ec_sole : (b : List ℕ) (k l : Ec) → IsEcPrivateKey b k → IsEcPrivateKey b l → k ≡ l
ec_sole = whole_sole EcPrivateKeyText ec_at ec_read
