-- The identifiers of an algorithm with any parameters, which are given by their tag octet and their
-- value.
use Rattle.std.specs.Prelude.{◌≡◌, ◌≢◌, ◌⊎◌, ℕ, List, [], Option, Some, None, Result, Ok, Err}
use Rattle.asn1_core.specs.Der.{el}
use Rattle.asn1_core.specs.Texts.{Oid}
use Rattle.asn1_core.specs.declared.identifier.ObjectIdentifier.{ObjectIdentifier}
use Rattle.asn1_core.specs.declared.error.Error.{Error as Below}
use Rattle.asn1_core.specs.declared.error.Error.TheVariants as below
use Rattle.spki.specs.declared.error.Error.{Error}
use Rattle.spki.specs.declared.error.Error.TheVariants as errors
use Rattle.asn1_core.specs.Gives.{IsNone, Parses}

-- the identifier that the parameters are: there have to be some, and they have to be one
abbrev pub ParametersOid : Option (ℕ × List ℕ) → Result ObjectIdentifier Error → Type 0
ParametersOid None r = r ≡ Err errors.AlgorithmParametersMissing
ParametersOid (Some p) r = Parses (errors.Asn1 below.Malformed) Oid (λ o. o) (el p.0 p.1) r

-- whether the parameters are NULL
abbrev pub IsNull : ℕ × List ℕ → Type 0
IsNull p = (p.0 ≡ 0x05) × (p.1 ≡ [])

-- the algorithm's identifier, and after it that of the parameters
abbrev pub WithOid : ObjectIdentifier → List ℕ
    → Result (ObjectIdentifier × Option ObjectIdentifier) Below → Type 0
WithOid a b (Ok x) = (o : ObjectIdentifier) × Oid b o × (x ≡ (a, Some o))
WithOid a b (Err e) = (e ≡ below.Malformed) × IsNone Oid b

-- both identifiers, where parameters that are NULL count as none
abbrev pub Oids : ObjectIdentifier → Option (ℕ × List ℕ)
    → Result (ObjectIdentifier × Option ObjectIdentifier) Below → Type 0
Oids a None r = r ≡ Ok (a, None)
Oids a (Some p) r = (IsNull p × (r ≡ Ok (a, None))) ⊎ ((¬ (IsNull p)) × WithOid a (el p.0 p.1) r)

-- whether the parameters are the expected identifier
abbrev pub IsParameters : ObjectIdentifier → List ℕ → Result ObjectIdentifier Error → Type 0
IsParameters expected b (Ok o) = (o ≡ expected) × Oid b expected
IsParameters expected b (Err e) = ((e ≡ errors.Asn1 below.Malformed) × IsNone Oid b)
    ⊎ ((o : ObjectIdentifier) × Oid b o × (o ≢ expected) × (e ≡ errors.OidUnknown o))

abbrev pub AssertsParameters : ObjectIdentifier → Option (ℕ × List ℕ)
    → Result ObjectIdentifier Error → Type 0
AssertsParameters expected None r = r ≡ Err errors.AlgorithmParametersMissing
AssertsParameters expected (Some p) r = IsParameters expected (el p.0 p.1) r

-- whether the algorithm and then its parameters are the expected identifiers
abbrev pub AssertsOids : ObjectIdentifier → Option (ℕ × List ℕ) → ObjectIdentifier
    → ObjectIdentifier → Result (Unit {0}) Error → Type 0
AssertsOids a p algorithm parameters (Ok u) = (a ≡ algorithm)
    × AssertsParameters parameters p (Ok parameters)
AssertsOids a p algorithm parameters (Err e) = ((a ≢ algorithm) × (e ≡ errors.OidUnknown a))
    ⊎ ((a ≡ algorithm) × AssertsParameters parameters p (Err e))
