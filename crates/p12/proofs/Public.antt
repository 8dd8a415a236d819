-- From the reading functions to the public words of this crate.
use Rattle.std.proofs.Common.{◌≡◌, ℕ, List, refl}
use Rattle.asn1_core.specs.Der.{IsShort}
use Rattle.asn1_core.specs.Reading.{Bad, UnknownOid, Front, whole}
use Rattle.asn1_core.specs.Texts.{Exact}
use Rattle.asn1_core.specs.Gives.{Fails, NoneStands}
use Rattle.asn1_core.specs.StandLaws.{none_stands, whole_none}
use Rattle.asn1_core.specs.declared.error.Error.{Error as Asn1Error}
use Rattle.asn1_core.specs.declared.error.Error.TheVariants as asn1
use Rattle.p12.specs.Error.{refusal_of, MalformedOnly}
use Rattle.p12.specs.declared.error.Error.TheVariants.{Malformed}

pub refused : {A : Type 0} {R : List ℕ → A → Type 0} {at : Front A} → Exact R at → (old new : List ℕ) (e : Asn1Error) → (new ≡ old) × Fails (Unit {0}) e (at old) → (new ≡ old) × MalformedOnly (refusal_of e) (NoneStands R old)
refused {R = R} {at = at} exact old new asn1.Malformed h = (h.0, none_stands R at exact old Bad h.1)
refused {R = R} {at = at} exact old new (asn1.OidUnknown o) h = (h.0, none_stands R at exact old (UnknownOid o) h.1)
refused exact old new asn1.Overlength h = absurd h.1
refused exact old new asn1.NoRoom h = absurd h.1
refused exact old new asn1.File h = absurd h.1
refused exact old new asn1.Memory h = (h.0, tt)

-- the same of a call that takes no memory
pub refused_free : {A : Type 0} {R : List ℕ → A → Type 0} {at : Front A} → Exact R at → (old : List ℕ) (e : Asn1Error) → Fails ⊥ e (at old) → MalformedOnly (refusal_of e) (NoneStands R old)
refused_free {R = R} {at = at} exact old asn1.Malformed h = none_stands R at exact old Bad h
refused_free {R = R} {at = at} exact old (asn1.OidUnknown o) h = none_stands R at exact old (UnknownOid o) h
refused_free exact old asn1.Overlength h = absurd h
refused_free exact old asn1.NoRoom h = absurd h
refused_free exact old asn1.File h = absurd h
refused_free exact old asn1.Memory h = absurd h

pub not_whole : {A : Type 0} {R : List ℕ → A → Type 0} {at : Front A} → Exact R at → (b : List ℕ) (e : Asn1Error) → Fails (Unit {0}) e (whole at b) → MalformedOnly (refusal_of e) ((v : A) → R b v × IsShort b → ⊥)
not_whole {R = R} {at = at} exact b asn1.Malformed h = whole_none R at exact b Bad h
not_whole {R = R} {at = at} exact b (asn1.OidUnknown o) h = whole_none R at exact b (UnknownOid o) h
not_whole exact b asn1.Overlength h = absurd h
not_whole exact b asn1.NoRoom h = absurd h
not_whole exact b asn1.File h = absurd h
not_whole exact b asn1.Memory h = tt

-- the same of a call that takes no memory
pub not_whole_free : {A : Type 0} {R : List ℕ → A → Type 0} {at : Front A} → Exact R at → (b : List ℕ) (e : Asn1Error) → Fails ⊥ e (whole at b) → (refusal_of e ≡ Malformed) × ((v : A) → R b v × IsShort b → ⊥)
not_whole_free {R = R} {at = at} exact b asn1.Malformed h = (refl, whole_none R at exact b Bad h)
not_whole_free {R = R} {at = at} exact b (asn1.OidUnknown o) h = (refl, whole_none R at exact b (UnknownOid o) h)
not_whole_free exact b asn1.Overlength h = absurd h
not_whole_free exact b asn1.NoRoom h = absurd h
not_whole_free exact b asn1.File h = absurd h
not_whole_free exact b asn1.Memory h = absurd h
