-- Private keys whose parts are any elements meet one fault alone.
use Rattle.std.proofs.Common.{◌≡◌, ◌≢◌, ℕ, zero, suc, List, [], ◌∷◌, length, Option, Result, Ok, Err, nat_eq}
use Rattle.asn1_core.specs.Reading.{Fault, Bad, UnknownOid, Front, ◌>>=◌, where_ok, uint_of, many_in, many, any_tag, within, left, whole}
use Rattle.asn1_core.specs.FaultLaws.{OnlyBad, on_bad, option_bad, within_bad, by_tag_bad, where_bad}
use Rattle.asn1_core.specs.Gives.{Gives, Parses}
use Rattle.asn1_core.specs.declared.identifier.ObjectIdentifier.{ObjectIdentifier}
use Rattle.asn1_core.specs.declared.error.Error.{Error as Below}
use Rattle.asn1_core.specs.declared.error.Error.TheVariants as below
use Rattle.der_core.specs.Any.{any_at}
use Rattle.der_core.specs.BitString.{bits_of}
use Rattle.spki.specs.AnyLaws.{any_bad, algorithm_bad}
use Rattle.spki.specs.OidLaws.{parses_short}
use Rattle.pkcs8.specs.PrivateKeyInfo.{version_of, skipped, attributes_at, further_at, further_of, ended_further}
use Rattle.pkcs8.specs.Seen.{AnyPrivateKey, IsPrivateKey}
use Rattle.pkcs8.proofs.Spellings.{AnyPrivateKeyText, any_private_key_at, any_private_key-exact}

abbrev failed : {A : Type 0} → Fault → Result A Fault
failed q = Err q

bind_bad : {A B : Type 0} (r : Result A Fault) (f : A → Result B Fault) (o : ObjectIdentifier) → (r ≢ Err (UnknownOid o)) → ((x : A) → f x ≢ Err (UnknownOid o)) → (r >>= f) ≢ Err (UnknownOid o)
bind_bad (Ok x) f o h k e = k x e
bind_bad (Err Bad) f o h k e = absurd cc
bind_bad (Err (UnknownOid p)) f o h k e = absurd (h (let same : UnknownOid p ≡ UnknownOid o = cc in cc))

uint_bad : (max : ℕ) → OnlyBad (uint_of max)
unfolding uint_of
uint_bad max [] o e = absurd cc
uint_bad max (b ∷ []) o e = where_bad _ _ o e
uint_bad max (b ∷ c ∷ bs) o e = where_bad _ _ o e

bits_bad : OnlyBad bits_of
bits_bad [] o e = absurd cc
bits_bad (u ∷ l) o e = where_bad _ _ o e

skipped_bad : OnlyBad skipped
skipped_bad b o e = absurd cc

left_bad : OnlyBad left
left_bad b o e = absurd cc

many_in_bad : {A : Type 0} (p : Front A) → OnlyBad p → (k : ℕ) → OnlyBad (many_in p k)
many_in_bad p h zero [] o e = absurd cc
many_in_bad p h zero (b ∷ bs) o e = absurd cc
many_in_bad p h (suc k) [] o e = absurd cc
many_in_bad p h (suc k) (b ∷ bs) o e = bind_bad (p (b ∷ bs)) _ o (h (b ∷ bs) o) (λ x. bind_bad (many_in p k x.1) _ o (many_in_bad p h k x.1 o) (λ vs e. absurd cc)) e

further_bad : OnlyBad further_of
further_bad b o = bind_bad (many further_at b) _ o (many_in_bad further_at (by_tag_bad _ _ (λ t. skipped_bad)) (length b) b o) (λ fs e. absurd cc)

ended_further_bad : {A W : Type 0} (n : ℕ) (q : Option W) (v : A) → OnlyBad (ended_further n q v)
ended_further_bad n q v b o = bind_bad (where_ok (nat_eq n (version_of q)) v) _ o (where_bad _ v o) (λ w. bind_bad (further_of b) _ o (further_bad b o) (λ u e. absurd cc))

private_key_bad : OnlyBad any_private_key_at
private_key_bad = within_bad 0x30 _ (on_bad _ _ (within_bad 0x02 _ (uint_bad 1)) (λ n. on_bad _ _ (algorithm_bad any_tag any_at any_bad) (λ a. on_bad _ _ (within_bad 0x04 left left_bad)
    (λ k. on_bad _ _ (option_bad _ attributes_at (within_bad 0xa0 skipped skipped_bad)) (λ x. on_bad _ _ (option_bad _ (within 0x81 bits_of) (within_bad 0x81 bits_of bits_bad)) (λ q. ended_further_bad n q _))))))

pub parses_private_key : {X : Type 0} (view : X → AnyPrivateKey) (b : List ℕ) (r : Result X Below) → Gives view r (whole any_private_key_at b) → Parses below.Malformed IsPrivateKey view b r
parses_private_key view b r e = parses_short AnyPrivateKeyText any_private_key_at any_private_key-exact private_key_bad b view r e
