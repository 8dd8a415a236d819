-- lemmas only: nothing to believe here
-- From reading functions to what calls return.
use Rattle.std.proofs.Common.{◌≡◌, ◌≢◌, ℕ, List, length, Option, Some, None, Result, Ok, Err, refl, subst, inr, arith}
use Rattle.std.specs.Prelude.{MatchResult}
use Rattle.asn1_core.specs.Der.{IsShort, IsHeader, el}
use Rattle.asn1_core.specs.Reading.{Fault, Bad, Front, whole, oid_at}
use Rattle.asn1_core.specs.Texts.{Exact, Oid}
use Rattle.asn1_core.specs.Gives.{Gives, IsNone, Parses}
use Rattle.asn1_core.specs.StandLaws.{whole_found, whole_none}
use Rattle.asn1_core.specs.FaultLaws.{OnlyBad, whole_bad, oid_at_bad}
use Rattle.asn1_core.specs.ElementLaws.{oid-exact, el_length}
use Rattle.asn1_core.specs.declared.error.Error.{Error as Below}
use Rattle.asn1_core.specs.declared.error.Error.TheVariants as below
use Rattle.asn1_core.specs.declared.identifier.ObjectIdentifier.{ObjectIdentifier}
use Rattle.spki.specs.declared.error.Error.{Error}
use Rattle.spki.specs.declared.error.Error.TheVariants as errors
use Rattle.spki.specs.AlgorithmOids.{ParametersOid, AssertsParameters}

module _ {V : Type 0} (R : List ℕ → V → Type 0) (at : Front V) (exact : Exact R at) (bad : OnlyBad at) (b : List ℕ) (short : IsShort b) where
  none : (f : Fault) → whole at b ≡ Err f → IsNone R b
  none f e = λ v r. whole_none R at exact b f e v (r, short)

  pub parses : {X : Type 0} (view : X → V) (r : Result X Below) → Gives view r (whole at b) → Parses below.Malformed R view b r
  parses view (Ok x) e = (whole_found R at exact b (view x) e).0
  parses view (Err below.Malformed) e = (refl, none Bad e)
  parses view (Err (below.OidUnknown o)) e = absurd (whole_bad at bad b o e)
  parses view (Err below.Overlength) e = absurd e
  parses view (Err below.NoRoom) e = absurd e
  parses view (Err below.File) e = absurd e
  parses view (Err below.Memory) e = absurd e

-- the same of a relation that holds of texts of at most 2 ^ 32 - 1 octets alone
module _ {V : Type 0} (R : List ℕ → V → Type 0) (at : Front V) (exact : Exact R at) (bad : OnlyBad at) (b : List ℕ) where
  none_short : (f : Fault) → whole at b ≡ Err f → IsNone (λ b v. R b v × IsShort b) b
  none_short f e = λ v r. whole_none R at exact b f e v r

  pub parses_short : {X : Type 0} (view : X → V) (r : Result X Below) → Gives view r (whole at b) → Parses below.Malformed (λ b v. R b v × IsShort b) view b r
  parses_short view (Ok x) e = whole_found R at exact b (view x) e
  parses_short view (Err below.Malformed) e = (refl, none_short Bad e)
  parses_short view (Err (below.OidUnknown o)) e = absurd (whole_bad at bad b o e)
  parses_short view (Err below.Overlength) e = absurd e
  parses_short view (Err below.NoRoom) e = absurd e
  parses_short view (Err below.File) e = absurd e
  parses_short view (Err below.Memory) e = absurd e

pub parses_oid : (b : List ℕ) → IsShort b → (r : Result ObjectIdentifier Below) → Gives (λ o. o) r (whole oid_at b) → Parses below.Malformed Oid (λ o. o) b r
parses_oid b short = parses Oid oid_at oid-exact oid_at_bad b short (λ o. o)

pub element_short : (t : ℕ) (v : List ℕ) → IsHeader (length v) → IsShort (el t v)
element_short t v h = omega (arith, h, el_length t (length v) v refl)

pub asserted : (expected actual : ObjectIdentifier) (p : Option (ℕ × List ℕ)) → ParametersOid p (Ok actual) → (r : Result ObjectIdentifier Error)
    → MatchResult r (λ o. (o ≡ expected) × (actual ≡ expected)) (λ e. (e ≡ errors.OidUnknown actual) × (actual ≢ expected)) → AssertsParameters expected p r
asserted expected actual None h r m = absurd cc
asserted expected actual (Some p) h (Ok o) m = (m.0, subst (λ (q : ObjectIdentifier). Oid (el p.0 p.1) q) m.1 h)
asserted expected actual (Some p) h (Err e) m = inr (actual, h, m.1, m.0)
