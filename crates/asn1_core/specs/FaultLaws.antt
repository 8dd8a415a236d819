-- lemmas only: nothing to believe here
-- Which faults reading can meet: where no part looks an identifier up, there is one fault alone.
use Rattle.std.proofs.Common.{◌≡◌, ◌≢◌, ℕ, ◌-◌, Bool, true, false, List, [], ◌∷◌, Option, Some, None, Result, Ok, Err, ap, nat_lt}
use Rattle.asn1_core.specs.Der.{is_tag}
use Rattle.asn1_core.specs.Oid.{as_oid}
use Rattle.asn1_core.specs.Reading.{Fault, Bad, UnknownOid, All, Front, ◌>>=◌, where_ok, on, ended, whole, option_at, option_in, oid_of, oid_at, known_in, within, by_tag, valued, slice_at, long_at, len_at, header_at}
use Rattle.asn1_core.specs.declared.identifier.ObjectIdentifier.{ObjectIdentifier}

-- reading meets no unknown identifier
abbrev pub OnlyBad : {A : Type 0} → All A → Type 0
OnlyBad all = (b : List ℕ) (o : ObjectIdentifier) → all b ≢ Err (UnknownOid o)

abbrev failed : {A : Type 0} → Fault → Result A Fault
failed q = Err q

failed_bind : {A B : Type 0} (p o : ObjectIdentifier) (f : A → Result B Fault) → (failed {A = A} (UnknownOid p) >>= f) ≡ failed {A = B} (UnknownOid o) → failed {A = A} (UnknownOid p) ≡ failed {A = A} (UnknownOid o)
failed_bind {A} {B} p o f e = let g : UnknownOid p ≡ UnknownOid o = cc in ap (λ (q : Fault). failed q) g

bind_bad : {A B : Type 0} (r : Result A Fault) (f : A → Result B Fault) (o : ObjectIdentifier) → (r ≢ Err (UnknownOid o)) → ((x : A) → f x ≢ Err (UnknownOid o)) → (r >>= f) ≢ Err (UnknownOid o)
bind_bad (Ok x) f o h k e = k x e
bind_bad (Err Bad) f o h k e = absurd cc
bind_bad (Err (UnknownOid p)) f o h k e = absurd (h (failed_bind p o f e))

pub where_bad : {A : Type 0} (t : Bool) (x : A) (o : ObjectIdentifier) → where_ok t x ≢ Err (UnknownOid o)
where_bad true x o e = absurd cc
where_bad false x o e = absurd cc

pub ended_bad : {A : Type 0} (x : A) → OnlyBad (ended x)
ended_bad x [] o e = absurd cc
ended_bad x (b ∷ l) o e = absurd cc

pub on_bad : {A B : Type 0} (p : Front A) (k : A → All B) → OnlyBad p → ((a : A) → OnlyBad (k a)) → OnlyBad (on p k)
on_bad p k h g b o = bind_bad (p b) (λ x. k x.0 x.1) o (h b o) (λ x. g x.0 x.1 o)

pub whole_bad : {A : Type 0} (p : Front A) → OnlyBad p → OnlyBad (whole p)
whole_bad p h b o = bind_bad (p b) (λ x. ended x.0 x.1) o (h b o) (λ x. ended_bad x.0 x.1 o)

abbrev len_in : Bool → ℕ → List ℕ → Result (ℕ × List ℕ) Fault
len_in t b l = elim t [ true ↦ Ok (b, l) | false ↦ long_at (b - 128) l ]

len_in_bad : (t : Bool) (b : ℕ) (l : List ℕ) (o : ObjectIdentifier) → len_in t b l ≢ Err (UnknownOid o)
len_in_bad true b l o e = absurd cc
len_in_bad false b l o e = where_bad _ _ o e

len_bad : OnlyBad len_at
unfolding len_at
len_bad [] o e = absurd cc
len_bad (b ∷ l) o e = len_in_bad (nat_lt b 128) b l o e

valued_bad : {A : Type 0} (q : All A) (n : ℕ) → OnlyBad q → OnlyBad (valued q n)
valued_bad q n h b o = bind_bad (slice_at n b) _ o (where_bad _ _ o) (λ w. bind_bad (q w.0) _ o (h w.0 o) (λ v e. absurd cc))

header_bad : OnlyBad header_at
unfolding header_at
header_bad [] o e = absurd cc
header_bad (t ∷ l) o e = bind_bad (len_at l) _ o (len_bad l o) (λ n. where_bad _ _ o) e

pub by_tag_bad : {A : Type 0} (can : ℕ → Bool) (q : ℕ → All A) → ((t : ℕ) → OnlyBad (q t)) → OnlyBad (by_tag can q)
by_tag_bad can q h b o = bind_bad (header_at b) _ o (header_bad b o) (λ x. bind_bad (where_ok (can x.0.tag) x) _ o (where_bad _ _ o) (λ y. valued_bad (q y.0.tag) y.0.size (h y.0.tag) y.1 o))

pub within_bad : {A : Type 0} (tag : ℕ) (q : All A) → OnlyBad q → OnlyBad (within tag q)
within_bad tag q h = by_tag_bad _ _ (λ t. h)

option_in_bad : {A : Type 0} (p : Front A) → OnlyBad p → (x y : Bool) → OnlyBad (option_in p x y)
option_in_bad p h false y b o e = absurd cc
option_in_bad p h true false b o e = absurd cc
option_in_bad p h true true b o e = bind_bad (p b) _ o (h b o) (λ x e. absurd cc) e

pub option_bad : {A : Type 0} (can : ℕ → Bool) (p : Front A) → OnlyBad p → OnlyBad (option_at can p)
option_bad can p h [] o e = absurd cc
option_bad can p h (t ∷ l) o e = option_in_bad p h (is_tag t) (can t) (t ∷ l) o e

known_bad : (x : Option ObjectIdentifier) (o : ObjectIdentifier) → known_in Bad x ≢ Err (UnknownOid o)
known_bad None o e = absurd cc
known_bad (Some y) o e = absurd cc

pub oid_bad : OnlyBad oid_of
oid_bad b o = known_bad (as_oid b) o

pub oid_at_bad : OnlyBad oid_at
oid_at_bad = within_bad 0x06 oid_of oid_bad
