-- lemmas only: nothing to believe here
-- Algorithms and public keys whose parts are any elements are read exactly, and meet one fault alone.
use Rattle.std.proofs.Common.{◌≡◌, ℕ, Bool, List, [], ◌∷◌, Result, Ok, refl}
use Rattle.asn1_core.specs.Reading.{Front, any_tag, whole, within}
use Rattle.asn1_core.specs.Texts.{Exact, Whole, Within}
use Rattle.asn1_core.specs.StandLaws.{whole_found}
use Rattle.asn1_core.specs.Gives.{Gives, Parses}
use Rattle.asn1_core.specs.ElementLaws.{by_tag-exact, by_tag-whole, within-exact}
use Rattle.asn1_core.specs.FaultLaws.{OnlyBad, by_tag_bad, within_bad, on_bad, option_bad, ended_bad, oid_at_bad, where_bad}
use Rattle.asn1_core.specs.declared.error.Error.{Error as Below}
use Rattle.asn1_core.specs.declared.error.Error.TheVariants as below
use Rattle.der_core.specs.Any.{AnyOf, AnyText, any_of, any_at}
use Rattle.der_core.specs.AnyLaws.{any_of-exact}
use Rattle.spki.specs.Algorithm.{algorithm_at, AlgorithmText}
use Rattle.spki.specs.AlgorithmLaws.{algorithm-exact}
use Rattle.spki.specs.OidLaws.{parses_short}
use Rattle.spki.specs.SubjectPublicKeyInfo.{public_key_at, PublicKeyText}
use Rattle.spki.specs.PublicKeyLaws.{public_key-exact}
use Rattle.spki.specs.Seen.{AnyAlgorithm, AnyPublicKey, IsAlgorithm, IsPublicKey}
use Rattle.der_core.specs.BitString.{BitsOf, bits_of}
use Rattle.der_core.specs.StringLaws.{bits_of-exact}

pub any-exact : Exact AnyText any_at
any-exact = by_tag-exact any_tag AnyOf any_of (λ t h. any_of-exact t)

pub any-whole : Whole any_tag AnyText
any-whole = by_tag-whole any_tag AnyOf

pub any_bad : OnlyBad any_at
any_bad = by_tag_bad any_tag any_of (λ t b o e. absurd cc)

pub algorithm_bad : {V : Type 0} (can : ℕ → Bool) (p : Front V) → OnlyBad p → OnlyBad (algorithm_at can p)
algorithm_bad can p h = within_bad 0x30 _ (on_bad _ _ oid_at_bad (λ o. on_bad _ _ (option_bad can p h) (λ x. ended_bad _)))

pub parses_algorithm : {X : Type 0} (view : X → AnyAlgorithm) (b : List ℕ) (r : Result X Below) → Gives view r (whole (algorithm_at any_tag any_at) b) → Parses below.Malformed IsAlgorithm view b r
parses_algorithm view b r e = parses_short (AlgorithmText AnyText) (algorithm_at any_tag any_at) (algorithm-exact any_tag AnyText any_at any-exact any-whole) (algorithm_bad any_tag any_at any_bad) b view r e

bits_bad : OnlyBad bits_of
bits_bad [] o e = absurd cc
bits_bad (u ∷ l) o e = where_bad _ _ o e

pub parses_public_key : {X : Type 0} (view : X → AnyPublicKey) (b : List ℕ) (r : Result X Below) → Gives view r (whole (public_key_at any_tag any_at (within 0x03 bits_of)) b) → Parses below.Malformed IsPublicKey view b r
parses_public_key view b r e =
    parses_short (PublicKeyText AnyText (Within 0x03 BitsOf)) (public_key_at any_tag any_at (within 0x03 bits_of))
    (public_key-exact any_tag AnyText any_at any-exact any-whole (Within 0x03 BitsOf) (within 0x03 bits_of) (within-exact 0x03 BitsOf bits_of refl bits_of-exact))
    (within_bad 0x30 _ (on_bad _ _ (algorithm_bad any_tag any_at any_bad) (λ a. on_bad _ _ (within_bad 0x03 bits_of bits_bad) (λ k. ended_bad _)))) b view r e

pub public_key_found : (b : List ℕ) (v : AnyPublicKey) → whole (public_key_at any_tag any_at (within 0x03 bits_of)) b ≡ Ok v → IsPublicKey b v
public_key_found = whole_found (PublicKeyText AnyText (Within 0x03 BitsOf)) (public_key_at any_tag any_at (within 0x03 bits_of))
    (public_key-exact any_tag AnyText any_at any-exact any-whole (Within 0x03 BitsOf) (within 0x03 bits_of) (within-exact 0x03 BitsOf bits_of refl bits_of-exact))
