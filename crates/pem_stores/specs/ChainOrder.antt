-- The order of the certificates that are no key's own. Certificates are numbered from 0, those of the
-- keys first.
use Rattle.std.specs.Prelude.{ℕ, ◌≡◌, ◌+◌, ◌-◌, Bool, List, [], ◌∷◌, ◌++◌, Option, Some, None, cond, length, nat_lt, take}
use Rattle.std.specs.List.{AllZip, concat, range_with_len}
use Rattle.asn1_core.specs.Gives.{IsNone}
use Rattle.inventory_core.specs.Certificate.{Certificate, IsCertificate}
use Rattle.inventory_core.specs.Chains.{IsChain, has}

-- one more number, unless it is there
abbrev pub with_place : List ℕ → ℕ → List ℕ
with_place sofar k = cond (has sofar k) sofar (sofar ++ k ∷ [])

-- the same of numbers that are not below `own`
abbrev pub with_next : ℕ → List ℕ → ℕ → List ℕ
with_next own sofar k = cond (nat_lt k own) sofar (with_place sofar k)

-- the numbers of a list that are not below `own` and not there yet, after those that are there
abbrev pub with_fresh : ℕ → List ℕ → List ℕ → List ℕ
with_fresh own sofar [] = sofar
with_fresh own sofar (k ∷ ks) = with_fresh own (with_next own sofar k) ks

-- `found` tells of all numbers whether they are among these.
abbrev pub ArePlaces : (ℕ → Bool) → List ℕ → Type 0
ArePlaces found ks = (q : ℕ) → found q ≡ has ks q

-- The certificate in these octets; None where there is none in them.
abbrev pub IsRead : List ℕ → Option Certificate → Type 0
IsRead b (Some c) = IsCertificate b c
IsRead b None = IsNone IsCertificate b

-- These are the chains of the certificates from the i-th on.
abbrev pub AreChains : List (Option Certificate) → ℕ → List (List ℕ) → Type 0
AreChains cs i [] = Unit {0}
AreChains cs i (ks ∷ kss) = IsChain cs i ks × AreChains cs (i + 1) kss

-- First come the places in the chains of the keys, from leaf to root, each once and without the keys'
-- own certificates, and then all others, in order; `chained` counts the first ones.
pub record IsOrder (certificates : List (List ℕ)) (own : ℕ) (places : List ℕ) (chained : ℕ)
    : Type 0 where
  pub read : List (Option Certificate)
  pub are_read : AllZip IsRead certificates read
  pub chains : List (List ℕ)
  pub each : length chains ≡ own
  pub are : AreChains read 0 chains
  pub first : take chained places ≡ with_fresh own [] (concat chains)
  pub all : places ≡ with_fresh own (take chained places)
      (range_with_len own (length certificates - own))
