-- What a reader returns, against what reading a list gives.
use Rattle.std.specs.Prelude.{◌≡◌, ◌⊎◌, ℕ, List, ◌++◌, Result, Ok, Err}
use Rattle.asn1_core.specs.Reading.{Fault, Bad, UnknownOid, Front}
use Rattle.asn1_core.specs.Der.{IsShort}
use Rattle.asn1_core.specs.Texts.{Taken}
use Rattle.asn1_core.specs.declared.error.Error.{Error}
use Rattle.asn1_core.specs.declared.error.Error.TheVariants as errors

-- which fault an error stands for; running out of memory where the call takes memory
abbrev pub Fails : {Y : Type 0} → Type 0 → Error → Result Y Fault → Type 0
Fails memory errors.Malformed read = read ≡ Err Bad
Fails memory (errors.OidUnknown o) read = read ≡ Err (UnknownOid o)
Fails memory errors.Overlength read = ⊥
Fails memory errors.NoRoom read = ⊥
Fails memory errors.File read = ⊥
Fails memory errors.Memory read = memory

-- what a call returns that takes no memory: just what reading gives
abbrev pub Gives : {X Y : Type 0} → (X → Y) → Result X Error → Result Y Fault → Type 0
Gives view (Ok x) read = read ≡ Ok (view x)
Gives view (Err e) read = Fails ⊥ e read

-- the same of a call on a reader, which a refusal does not move
abbrev pub ReadsAs : {X A : Type 0} → Front A → (X → A) → List ℕ → List ℕ → Result X Error → Type 0
ReadsAs at view old new (Ok x) = at old ≡ Ok (view x, new)
ReadsAs at view old new (Err e) = (new ≡ old) × Fails ⊥ e (at old)

-- the same of a call that takes memory, which it may lack at any point
abbrev pub GivesIn : {X Y : Type 0} → (X → Y) → Result X Error → Result Y Fault → Type 0
GivesIn view (Ok x) read = read ≡ Ok (view x)
GivesIn view (Err e) read = Fails (Unit {0}) e read

abbrev pub ReadsIn : {X A : Type 0} → Front A → (X → A) → List ℕ → List ℕ → Result X Error → Type 0
ReadsIn at view old new (Ok x) = at old ≡ Ok (view x, new)
ReadsIn at view old new (Err e) = (new ≡ old) × Fails (Unit {0}) e (at old)

-- no text of the relation is in front
abbrev pub NoneStands : {A : Type 0} → (List ℕ → A → Type 0) → List ℕ → Type 0
NoneStands R b = (t : List ℕ) (v : _) (rest : List ℕ) → R t v → IsShort t → b ≡ t ++ rest → ⊥

-- the public word, by the relation alone: the value of the text in front, or a refusal exactly
-- where none is there
abbrev pub Reads : {X A : Type 0} → (List ℕ → A → Type 0) → (X → A) → List ℕ → List ℕ
    → Result X Error → Type 0
Reads R view old new (Ok x) = Taken R old (view x) new
Reads R view old new (Err errors.Memory) = new ≡ old
Reads R view old new (Err errors.Malformed) = (new ≡ old) × NoneStands R old
Reads R view old new (Err (errors.OidUnknown o)) = (new ≡ old) × NoneStands R old
Reads R view old new (Err errors.Overlength) = ⊥
Reads R view old new (Err errors.NoRoom) = ⊥
Reads R view old new (Err errors.File) = ⊥

-- ---- whole texts, with errors of any type

-- what reading gives, each fault as the error that is raised from it; running out of memory where
-- the call takes memory
abbrev pub GivesAs : {X Y E : Type 0} → (Error → E) → Type 0 → (X → Y) → Result X E → Result Y Fault
    → Type 0
GivesAs raised memory view (Ok x) read = read ≡ Ok (view x)
GivesAs raised memory view (Err e) read = (f : Error) × (e ≡ raised f) × Fails memory f read

-- b is a text of no value
abbrev pub IsNone : {V : Type 0} → (List ℕ → V → Type 0) → List ℕ → Type 0
IsNone R b = (v : _) → R b v → ⊥

-- the value whose text b is, or the one refusal, exactly where it is a text of none
abbrev pub Parses : {X V E : Type 0} → E → (List ℕ → V → Type 0) → (X → V) → List ℕ → Result X E
    → Type 0
Parses malformed R view b (Ok x) = R b (view x)
Parses malformed R view b (Err e) = (e ≡ malformed) × IsNone R b

-- the same of a call that takes memory
abbrev pub ParsesIn : {X V E : Type 0} → E → E → (List ℕ → V → Type 0) → (X → V) → List ℕ
    → Result X E → Type 0
ParsesIn memory malformed R view b (Ok x) = R b (view x)
ParsesIn memory malformed R view b (Err e) = (e ≡ memory) ⊎ ((e ≡ malformed) × IsNone R b)
