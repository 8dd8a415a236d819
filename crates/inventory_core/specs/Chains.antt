-- The parents and the chains of the certificates of a store. Certificates are numbered from 0, in
-- store order; None is one that could not be read.
use Rattle.std.specs.Prelude.{ℕ, ◌≡◌, ◌≢◌, ◌<◌, List, [], ◌∷◌, ◌++◌, Option, Some, None, Bool, true, false, ◌==◌, MatchOption}
use Rattle.std.specs.List.{list_any, slice_get}
use Rattle.std.specs.Str.{bytes_eq}
use Rattle.std.specs.Bool.{MatchBool}
use Rattle.inventory_core.specs.Certificate.{Certificate}
use Rattle.inventory_core.specs.declared.parent.Parent.{Parent}
use Rattle.inventory_core.specs.declared.parent.Parent.TheVariants as parent

-- whether there is such a certificate and its subject is this name
abbrev pub has_subject : Option (Option Certificate) → List ℕ → Bool
has_subject (Some (Some c)) name = bytes_eq c.subject name
has_subject (Some None) name = false
has_subject None name = false

-- The subject of the k-th certificate is this name.
abbrev pub Subject : List (Option Certificate) → List ℕ → ℕ → Type 0
Subject cs name k = has_subject (slice_get cs k) name ≡ true

-- The least number with P, or none.
abbrev pub IsLeast : (ℕ → Type 0) → Option ℕ → Type 0
IsLeast P o = MatchOption o ((k : ℕ) → P k → ⊥) (λ k. P k × ((i : ℕ) → i < k → P i → ⊥))

-- The parent of the j-th certificate: itself, where its issuer is its subject; else the least other
-- one whose subject is its issuer; else none that is known.
abbrev pub IsParent : List (Option Certificate) → ℕ → Certificate → Parent → Type 0
IsParent cs j c parent.Itself = c.issuer ≡ c.subject
IsParent cs j c (parent.Of k) = (c.issuer ≢ c.subject)
    × IsLeast (λ i. (i ≢ j) × Subject cs c.issuer i) (Some k)
IsParent cs j c parent.Unknown = (c.issuer ≢ c.subject)
    × IsLeast (λ i. (i ≢ j) × Subject cs c.issuer i) None

-- ---- Chains

-- whether a number is in a list
abbrev pub has : List ℕ → ℕ → Bool
has ks k = list_any (λ i. i == k) ks

-- After a certificate comes the least one that is not among the numbers so far and whose subject is
-- its issuer. Nothing follows one that could not be read or is its own issuer.
abbrev pub FollowsOne : List (Option Certificate) → List ℕ → Option (Option Certificate) → Option ℕ
    → Type 0
FollowsOne cs sofar (Some (Some c)) o =
    MatchBool (bytes_eq c.issuer c.subject) (o ≡ None)
    (IsLeast (λ k. (has sofar k ≡ false) × Subject cs c.issuer k) o)
FollowsOne cs sofar (Some None) o = o ≡ None
FollowsOne cs sofar None o = o ≡ None

-- The same after the j-th.
abbrev pub Next : List (Option Certificate) → List ℕ → ℕ → Option ℕ → Type 0
Next cs sofar j o = FollowsOne cs sofar (slice_get cs j) o

-- These numbers follow after the j-th, one after the other, and nothing follows after the last.
abbrev pub Continues : List (Option Certificate) → List ℕ → ℕ → List ℕ → Type 0
Continues cs sofar j [] = Next cs sofar j None
Continues cs sofar j (k ∷ ks) = Next cs sofar j (Some k) × Continues cs (sofar ++ k ∷ []) k ks

-- The chain that begins with this number.
abbrev pub IsChain : List (Option Certificate) → ℕ → List ℕ → Type 0
IsChain cs start ks = (rest : List ℕ) × (ks ≡ start ∷ rest) × Continues cs (start ∷ []) start rest

-- ---- What chains are

-- No number is there twice.
abbrev pub Once : List ℕ → Type 0
Once [] = Unit {0}
Once (k ∷ ks) = (has ks k ≡ false) × Once ks

-- The subject of each is the issuer of the one before it, the j-th being before the first.
abbrev pub Issued : List (Option Certificate) → ℕ → List ℕ → Type 0
Issued cs j [] = Unit {0}
Issued cs j (k ∷ ks) =
    ((c : Certificate) × (slice_get cs j ≡ Some (Some c)) × Subject cs c.issuer k) × Issued cs k ks

-- A chain has each certificate at most once, and the subject of each is the issuer of the one
-- before it.
abbrev pub ChainsRise : Type 0
ChainsRise = (cs : List (Option Certificate)) (start : ℕ) (ks : List ℕ) → IsChain cs start ks
    → Once ks × ((rest : List ℕ) → ks ≡ start ∷ rest → Issued cs start rest)
