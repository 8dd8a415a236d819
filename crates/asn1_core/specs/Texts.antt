-- Texts that are in a relation to a value, and how such relations are put together.
use Rattle.std.specs.Prelude.{◌≡◌, ℕ, ◌≤◌, List, [], ◌∷◌, ◌++◌, Option, Some, None, IsTrue, Bool, true, false, Ok}
use Rattle.asn1_core.specs.Der.{el, IsShort, IsElement, is_tag, shortest}
use Rattle.asn1_core.specs.Oid.{oid_octets}
use Rattle.asn1_core.specs.declared.identifier.ObjectIdentifier.{ObjectIdentifier}
use Rattle.asn1_core.specs.Reading.{Front, All}

-- v is read from the front of b
pub record Taken {A : Type 0} (R : List ℕ → A → Type 0) (b : List ℕ) (v : A) (rest : List ℕ)
    : Type 0 where
  pub text : List ℕ
  pub holds : R text v
  pub short : IsShort text
  pub is : b ≡ text ++ rest

abbrev pub On : {A B : Type 0} → (List ℕ → A → Type 0) → (A → List ℕ → B → Type 0) → List ℕ → B
    → Type 0
On {A = A} R S b v = (p : List ℕ) × (q : List ℕ) × (a : A) × R p a × S a q v × (b ≡ p ++ q)

-- by a test
abbrev pub Chosen : {A : Type 0} → Bool → (List ℕ → A → Type 0) → (List ℕ → A → Type 0) → List ℕ → A
    → Type 0
Chosen true R S b v = R b v
Chosen false R S b v = S b v

-- there is nothing, for the value x
abbrev pub Ended : {A : Type 0} → A → List ℕ → A → Type 0
Ended x b v = (b ≡ []) × (v ≡ x)

abbrev pub Within : {A : Type 0} → ℕ → (List ℕ → A → Type 0) → List ℕ → A → Type 0
Within tag R b v = (p : List ℕ) × R p v × (b ≡ el tag p)

abbrev pub Made : {A B : Type 0} → (A → B) → (List ℕ → A → Type 0) → List ℕ → B → Type 0
Made {A = A} f R b w = (v : A) × R b v × (w ≡ f v)

abbrev pub Perhaps : {A : Type 0} → (List ℕ → A → Type 0) → List ℕ → Option A → Type 0
Perhaps R b None = b ≡ []
Perhaps R b (Some v) = R b v

abbrev pub Many : {A : Type 0} → (List ℕ → A → Type 0) → List ℕ → List A → Type 0
Many R b [] = b ≡ []
Many R b (v ∷ vs) = (p : List ℕ) × (q : List ℕ) × R p v × Many R q vs × (b ≡ p ++ q)

-- one element whose tag octet is accepted, by a relation for its value
abbrev pub ByTag : {A : Type 0} → (ℕ → Bool) → (ℕ → List ℕ → A → Type 0) → List ℕ → A → Type 0
ByTag can R b v = (t : ℕ) × (w : List ℕ) × IsTrue (is_tag t) × IsTrue (can t) × R t w v
    × (b ≡ el t w)

-- each text is one element whose tag octet is accepted
abbrev pub Whole : {A : Type 0} → (ℕ → Bool) → (List ℕ → A → Type 0) → Type 0
Whole {A = A} can R = (b : List ℕ) (v : A) → R b v
    → (t : ℕ) × (w : List ℕ) × IsTrue (is_tag t) × IsTrue (can t) × (b ≡ el t w)

-- any octets
abbrev pub Left : List ℕ → List ℕ → Type 0
Left b v = v ≡ b

-- the octets of the value of an element with this tag
abbrev pub Inside : ℕ → List ℕ → List ℕ → Type 0
Inside tag = Within tag Left

-- one whole element, whatever it holds
abbrev pub Raw : List ℕ → List ℕ → Type 0
Raw b v = (v ≡ b) × IsElement b

abbrev pub UintOf : ℕ → List ℕ → ℕ → Type 0
UintOf max b n = (n ≤ max) × (b ≡ shortest n)

abbrev pub Uint : ℕ → List ℕ → ℕ → Type 0
Uint max = Within 0x02 (UintOf max)

abbrev pub OidOf : List ℕ → ObjectIdentifier → Type 0
OidOf b o = b ≡ oid_octets o

abbrev pub Oid : List ℕ → ObjectIdentifier → Type 0
Oid = Within 0x06 OidOf

-- one of the known values
abbrev pub Known : {A B : Type 0} → (A → Option B) → (List ℕ → A → Type 0) → List ℕ → B → Type 0
Known {A = A} f R b v = (a : A) × R b a × (f a ≡ Some v)

-- a reader that is exact for a relation: what is read is a text of its value, and each text of a
-- value is read, whatever follows
pub record Exact {A : Type 0} (R : List ℕ → A → Type 0) (at : Front A) : Type 0 where
  pub found : (b : List ℕ) (v : A) (rest : List ℕ) → at b ≡ Ok (v, rest) → Taken R b v rest
  pub again : (t : List ℕ) (v : A) (rest : List ℕ) → R t v → IsShort t
      → at (t ++ rest) ≡ Ok (v, rest)

pub record ExactAll {A : Type 0} (R : List ℕ → A → Type 0) (all : All A) : Type 0 where
  pub found : (b : List ℕ) (v : A) → all b ≡ Ok v → R b v
  pub again : (b : List ℕ) (v : A) → R b v → IsShort b → all b ≡ Ok v

-- what is seen of a value that may be missing
abbrev pub seen_option : {A V : Type 0} → (A → V) → Option A → Option V
seen_option seen None = None
seen_option seen (Some a) = Some (seen a)
