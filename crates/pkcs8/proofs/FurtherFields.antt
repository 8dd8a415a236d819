-- The loop over further fields, where one is refused.
use Rattle.std.proofs.Common.{◌≡◌, ℕ, suc, ◌-◌, ◌<◌, List, [], ◌∷◌, length, Err, refl, sym, ap, ◌∙◌, arith}
use Rattle.asn1_core.specs.Reading.{Fault, Bad, UnknownOid, Front, many_in, many}
use Rattle.asn1_core.specs.Gives.{Fails}
use Rattle.asn1_core.specs.PartLoop.{with_front, SoFar}
use Rattle.asn1_core.specs.declared.error.Error.{Error}
use Rattle.asn1_core.specs.declared.error.Error.TheVariants as errors
use Rattle.pkcs8.specs.PrivateKeyInfo.{further_at, further_of}

refused_in : {A : Type 0} (p : Front A) (k : ℕ) (rest : List ℕ) (f : Fault) → 0 < length rest → p rest ≡ Err f → many_in p (suc k) rest ≡ Err f
refused_in p k [] f h e = absurd (omega arith)
refused_in p k (b ∷ bs) f h e = rw e refl

refused : {A : Type 0} (p : Front A) (b rest : List ℕ) (items : List A) (f : Fault) → 0 < length rest → SoFar p b items rest → p rest ≡ Err f → many p b ≡ Err f
refused p b rest items f h s e =
    let k = s.fuel - 1 in
    let is : s.fuel ≡ suc k = omega (arith, s.enough) in
    sym s.same ∙ ap (λ (j : ℕ). with_front items (many_in p j rest)) is ∙ rw (refused_in p k rest f h e) refl

-- what is refused of a field is refused of them all
module _ (b rest : List ℕ) (some : 0 < length rest) (s : (fs : List (Unit {0})) × SoFar further_at b fs rest) where
  stopped : (f : Fault) → further_at rest ≡ Err f → further_of b ≡ Err f
  stopped f e = rw (refused further_at b rest s.0 f some s.1 e) refl

  pub fields_fail : (e : Error) → Fails ⊥ e (further_at rest) → Fails ⊥ e (further_of b)
  fields_fail errors.Malformed h = stopped Bad h
  fields_fail (errors.OidUnknown o) h = stopped (UnknownOid o) h
  fields_fail errors.Overlength h = h
  fields_fail errors.NoRoom h = h
  fields_fail errors.File h = h
  fields_fail errors.Memory h = h
