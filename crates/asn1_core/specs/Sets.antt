-- Lists up to their order, and texts in ascending order.
use Rattle.std.specs.Prelude.{◌≡◌, ◌≢◌, ℕ, List, [], ◌∷◌, if◌then◌else◌, IsPermutation}
use Rattle.asn1_core.specs.Der.{joined}
use Rattle.std.specs.Cmp.Lexicographic.{slice_cmp}
use Rattle.std.specs.Ordering.{nat_cmp, is_lt}

-- R holds of the lists' elements, one by one
abbrev pub Each : {A B : Type 0} → (A → B → Type 0) → List A → List B → Type 0
Each R [] [] = Unit {0}
Each R [] (y ∷ ys) = ⊥
Each R (x ∷ xs) [] = ⊥
Each R (x ∷ xs) (y ∷ ys) = R x y × Each R xs ys

-- equal up to the order, where the elements are equal up to S
abbrev pub SameSet : {A : Type 0} → (A → A → Type 0) → List A → List A → Type 0
SameSet {A = A} S xs ys = (zs : List A) × IsPermutation xs zs × Each S zs ys

-- b is the join of spellings of the values, in any order
abbrev pub SpellSet : {A : Type 0} → (List ℕ → A → Type 0) → List ℕ → List A → Type 0
SpellSet Spell b vs = (ts : List (List ℕ)) × (us : List (List ℕ)) × Each Spell ts vs
    × IsPermutation ts us × (b ≡ joined us)

-- x among texts that ascend; a shorter text comes before a longer one that it begins
unfoldable pub put_in : List ℕ → List (List ℕ) → List (List ℕ)
put_in x [] = x ∷ []
put_in x (y ∷ ys) = if is_lt (slice_cmp nat_cmp y x) then y ∷ put_in x ys else x ∷ y ∷ ys

-- the texts in ascending order
unfoldable pub in_order : List (List ℕ) → List (List ℕ)
in_order [] = []
in_order (x ∷ xs) = put_in x (in_order xs)

-- ---- spellings

-- some w that is the same as v has the text b
abbrev pub Decodes : {A : Type 0} → (List ℕ → A → Type 0) → (A → A → Type 0) → List ℕ → A → Type 0
Decodes {A = A} R S b v = (w : A) × R b w × S w v

-- another spelling than the canonical one
abbrev pub Other : {A : Type 0} → (List ℕ → A → Type 0) → (A → List ℕ) → List ℕ → A → Type 0
Other Spell canon b v = Spell b v × (b ≢ canon v)

-- some text has the value
abbrev pub IsRead : {A : Type 0} → (List ℕ → A → Type 0) → A → Type 0
IsRead R v = (t : List ℕ) × R t v
