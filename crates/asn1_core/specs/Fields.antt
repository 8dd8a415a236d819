-- How rows are put together: the parts of a text, each with the field of the value that it gives.
use Rattle.std.specs.Prelude.{◌≡◌, ◌≢◌, ℕ, List, [], ◌∷◌, ◌++◌, Option, Some, None, Result, Ok, Err, cond, ◌==◌, ◌⊎◌, IsTrue, Bool}
use Rattle.asn1_core.specs.Texts.{Within, Many}
use Rattle.asn1_core.specs.Reading.{Fault, Bad, Front, All, ◌>>=◌, many, where_ok}

-- one part, of which the value's field is get, and then the other parts
abbrev pub Field : {A W : Type 0} → (List ℕ → A → Type 0) → (W → A) → (List ℕ → W → Type 0) → List ℕ
    → W → Type 0
Field R get S b w = (x : List ℕ) × (y : List ℕ) × R x (get w) × S y w × (b ≡ x ++ y)

-- no further part
abbrev pub End : {W : Type 0} → List ℕ → W → Type 0
End b w = b ≡ []

abbrev pub Sequence : {W : Type 0} → (List ℕ → W → Type 0) → List ℕ → W → Type 0
Sequence = Within 0x30

-- the last of one or more parts counts
abbrev pub Latest : {A : Type 0} → (List ℕ → A → Type 0) → List ℕ → A → Type 0
Latest {A = A} R b v = (more : List A) × Many R b (more ++ v ∷ [])

-- by the value: one of a known identifier, or of another
abbrev pub ByCase : {A : Type 0} → List ℕ → List ℕ → (List ℕ → A → Type 0) → (List ℕ → A → Type 0)
    → List ℕ → A → Type 0
ByCase k known R S b v = ((k ≡ known) × R b v) ⊎ ((k ≢ known) × S b v)

abbrev pub Never : {A : Type 0} → List ℕ → A → Type 0
Never b v = ⊥

-- the one text of R that has the value c
abbrev pub The : {A : Type 0} → (List ℕ → A → Type 0) → A → List ℕ → Unit {0} → Type 0
The R c b u = R b c

-- a value that passes a test
abbrev pub Passing : {A : Type 0} → (A → Bool) → (List ℕ → A → Type 0) → List ℕ → A → Type 0
Passing t R b v = R b v × IsTrue (t v)

-- nothing for the value c, or a text of R
abbrev pub OrNothing : {A : Type 0} → A → (List ℕ → A → Type 0) → List ℕ → A → Type 0
OrNothing c R b v = ((b ≡ []) × (v ≡ c)) ⊎ R b v

-- ---- reading

-- a part in the middle that may be left out, told by its tag octet
abbrev pub optional : {A B : Type 0} → ℕ → Front A → (Option A → All B) → All B
optional tag p k [] = k None []
optional tag p k (b ∷ bs) = cond (b == tag) (p (b ∷ bs) >>= λ x. k (Some x.0) x.1) (k None (b ∷ bs))

abbrev pub last_of : {A : Type 0} → List A → Result A Fault
last_of [] = Err Bad
last_of (v ∷ []) = Ok v
last_of (v ∷ w ∷ ws) = last_of (w ∷ ws)

abbrev pub latest : {A : Type 0} → Front A → All A
latest p b = many p b >>= last_of

abbrev pub never : {A : Type 0} → All A
never b = Err Bad

abbrev pub the : {A : Type 0} → (A → Bool) → Front A → Front (Unit {0})
the t p b = p b >>= λ x. where_ok (t x.0) (tt, x.1)

abbrev pub passing : {A : Type 0} → (A → Bool) → Front A → Front A
passing t p b = p b >>= λ x. where_ok (t x.0) x

-- the same of all of a text
abbrev pub checked : {A : Type 0} → (A → Bool) → All A → All A
checked t p b = p b >>= λ v. where_ok (t v) v

abbrev pub or_nothing : {A : Type 0} → A → All A → All A
or_nothing c p [] = Ok c
or_nothing c p (b ∷ bs) = p (b ∷ bs)
