-- lemmas only: nothing to believe here
-- From an exact reading function to the public word.
use Rattle.std.proofs.Common.{◌≡◌, ℕ, List, ◌++◌, Result, Ok, Err, sym, ap, subst, ◌∙◌}
use Rattle.std.proofs.lemmas.List.{append-nil}
use Rattle.asn1_core.specs.Der.{IsShort}
use Rattle.asn1_core.specs.Reading.{Fault, Bad, UnknownOid, Front, whole, ended}
use Rattle.asn1_core.specs.Texts.{Exact}
use Rattle.asn1_core.specs.Gives.{ReadsIn, ReadsAs, Reads, NoneStands}
use Rattle.asn1_core.specs.ExactLaws.{bind_ok, ended_ok, ok_is, whole-exact}
use Rattle.asn1_core.specs.declared.error.Error.{Error}
use Rattle.asn1_core.specs.declared.error.Error.TheVariants as errors

pub none_stands : {A : Type 0} (R : List ℕ → A → Type 0) (at : Front A) → Exact R at → (b : List ℕ) (f : Fault) → at b ≡ Err f → NoneStands R b
none_stands R at exact b f e = λ t v rest r short is.
    let again : at b ≡ Ok (v, rest) = ap at is ∙ exact.again t v rest r short in
    absurd cc

pub reads : {X A : Type 0} (R : List ℕ → A → Type 0) (at : Front A) (view : X → A) → Exact R at → (old new : List ℕ) (result : Result X Error) → ReadsIn at view old new result → Reads R view old new result
reads R at view exact old new (Ok x) e = exact.found old (view x) new e
reads R at view exact old new (Err errors.Memory) h = h.0
reads R at view exact old new (Err errors.Malformed) h = (h.0, none_stands R at exact old Bad h.1)
reads R at view exact old new (Err (errors.OidUnknown o)) h = (h.0, none_stands R at exact old (UnknownOid o) h.1)
reads R at view exact old new (Err errors.Overlength) h = h.1
reads R at view exact old new (Err errors.NoRoom) h = h.1
reads R at view exact old new (Err errors.File) h = h.1

-- the same of a call that takes no memory
free : {X A : Type 0} (at : Front A) (view : X → A) (old new : List ℕ) (result : Result X Error) → ReadsAs at view old new result → ReadsIn at view old new result
free at view old new (Ok x) e = e
free at view old new (Err errors.Memory) h = absurd h.1
free at view old new (Err errors.Malformed) h = h
free at view old new (Err (errors.OidUnknown o)) h = h
free at view old new (Err errors.Overlength) h = h
free at view old new (Err errors.NoRoom) h = h
free at view old new (Err errors.File) h = h

pub reads_free : {X A : Type 0} (R : List ℕ → A → Type 0) (at : Front A) (view : X → A) → Exact R at → (old new : List ℕ) (result : Result X Error) → ReadsAs at view old new result → Reads R view old new result
reads_free R at view exact old new result h = reads R at view exact old new result (free at view old new result h)

-- ---- whole texts

pub whole_found : {A : Type 0} (R : List ℕ → A → Type 0) (at : Front A) → Exact R at → (b : List ℕ) (v : A) → whole at b ≡ Ok v → R b v × IsShort b
whole_found R at exact b v e =
    let x = bind_ok (at b) (λ x. ended x.0 x.1) v e in
    let y = ended_ok x.0.0 v x.0.1 x.2 in
    let f = exact.found b x.0.0 x.0.1 x.1 in
    let is : b ≡ f.text = f.is ∙ ap (λ (r : List ℕ). f.text ++ r) y.0 ∙ append-nil f.text in
    ((whole-exact R at exact).found b v e, subst IsShort (sym is) f.short)

pub whole_none : {A : Type 0} (R : List ℕ → A → Type 0) (at : Front A) → Exact R at → (b : List ℕ) (f : Fault) → whole at b ≡ Err f → (v : A) → R b v × IsShort b → ⊥
whole_none R at exact b f e v r = let g = (whole-exact R at exact).again b v r.0 r.1 in absurd cc

-- one text has one value
pub whole_sole : {A : Type 0} (R : List ℕ → A → Type 0) (at : Front A) → Exact R at → (b : List ℕ) (v w : A) → R b v × IsShort b → R b w × IsShort b → v ≡ w
whole_sole R at exact b v w r s = ok_is v w (sym ((whole-exact R at exact).again b v r.0 r.1) ∙ (whole-exact R at exact).again b w s.0 s.1)
