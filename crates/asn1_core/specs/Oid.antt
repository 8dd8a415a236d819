-- The octets of an identifier. They are all that tells two identifiers apart.
use Rattle.std.specs.Prelude.{ℕ, ◌≡◌, ◌≤◌, List, length, take, nat_eq, Bool, true, false, Option, Some, None, IsTrue, refl}
use Rattle.std.specs.Ordering.{on}
use Rattle.std.specs.Bool.{Decides}
use Rattle.std.specs.Cmp.Lexicographic.{pointwise, bytes_decides}
use Rattle.std.proofs.Common.{sym, ◌∙◌, ap, subst, rules, true≢false}
use Rattle.std.proofs.Props.{props}
use Rattle.asn1_core.specs.Identifier.{Holds, is_identifier}
use Rattle.octet_core.specs.Padded.{IsPadded, padded}
use Rattle.octet_core.specs.PaddedLaws.{padded_take, length-take_padded, is_padded, take_padded}
use Rattle.asn1_core.specs.declared.identifier.ObjectIdentifier.{ObjectIdentifier}

abbrev pub oid_octets : ObjectIdentifier → List ℕ
oid_octets o = take o.size o.octets

pub Holds-prop : (octets : List ℕ) (size : ℕ) → IsProp (Holds octets size)
Holds-prop octets size = Prim.hlevel props

abbrev pub built : (octets : List ℕ) (size : ℕ) → Holds octets size → ObjectIdentifier
built octets size h = record { octets = octets; size = size; holds = h }

abbrev Reaches : ObjectIdentifier → List ℕ → ℕ → Type 0
Reaches a octets size = (h : Holds octets size) → a ≡ built octets size h

same_fields : (a b : ObjectIdentifier) → a.octets ≡ b.octets → a.size ≡ b.size → a ≡ b
same_fields a b o s =
    let here : Reaches a a.octets a.size =
    λ h. ap (built a.octets a.size) (Holds-prop a.octets a.size a.holds h) in
    let along : Reaches a b.octets a.size = subst (λ octets. Reaches a octets a.size) o here in
    let there : Reaches a b.octets b.size = subst (λ size. Reaches a b.octets size) s along in
    there b.holds

pub same_oid : (a b : ObjectIdentifier) → oid_octets a ≡ oid_octets b → a ≡ b
same_oid a b e =
    same_fields a b
    (sym (padded_take 39 a.size a.octets a.holds.0) ∙ ap (padded 39) e
    ∙ padded_take 39 b.size b.octets b.holds.0)
    (sym (length-take_padded 39 a.size a.octets a.holds.0) ∙ ap length e
    ∙ length-take_padded 39 b.size b.octets b.holds.0)

-- `==` says whether two identifiers are equal
pub oid_decides : (a b : ObjectIdentifier) → Decides (on oid_octets (pointwise nat_eq) a b) (a ≡ b)
oid_decides a b =
    let d = bytes_decides (oid_octets a) (oid_octets b) in
    ((λ h. same_oid a b (d.0 h)), (λ e. d.1 (ap oid_octets e)))

short_identifier : (v : List ℕ) → IsTrue (is_identifier v) → length v ≤ 39
short_identifier v h = Prim.search rules

pub holds_of : (v : List ℕ) → IsTrue (is_identifier v) → Holds (padded 39 v) (length v)
holds_of v h =
    let padding : IsPadded 39 (length v) (padded 39 v) = is_padded 39 v (short_identifier v h) in
    (padding, subst (λ w. IsTrue (is_identifier w)) (sym (take_padded 39 v)) h)

-- the identifier of these octets
abbrev pub oid_of : (v : List ℕ) → IsTrue (is_identifier v) → ObjectIdentifier
oid_of v h = built (padded 39 v) (length v) (holds_of v h)

pub octets-oid_of : (v : List ℕ) (h : IsTrue (is_identifier v)) → oid_octets (oid_of v h) ≡ v
octets-oid_of v h = take_padded 39 v

oid_if : (v : List ℕ) (b : Bool) → is_identifier v ≡ b → Option ObjectIdentifier
oid_if v true h = Some (oid_of v h)
oid_if v false h = None

-- the identifier of these octets, where they are one
pub as_oid : List ℕ → Option ObjectIdentifier
as_oid v = oid_if v (is_identifier v) refl

oid_if-octets : (o : ObjectIdentifier) (b : Bool) (h : is_identifier (oid_octets o) ≡ b)
    → oid_if (oid_octets o) b h ≡ Some o
unfolding oid_if
oid_if-octets o true h =
    ap Some (same_oid (oid_of (oid_octets o) h) o (octets-oid_of (oid_octets o) h))
oid_if-octets o false h = absurd (true≢false (sym o.holds.1 ∙ h))

pub as_oid_octets : (o : ObjectIdentifier) → as_oid (oid_octets o) ≡ Some o
unfolding as_oid
as_oid_octets o = oid_if-octets o (is_identifier (oid_octets o)) refl

pub as_oid_at : (v : List ℕ) (o : ObjectIdentifier) → oid_octets o ≡ v → as_oid v ≡ Some o
as_oid_at v o e = subst (λ w. as_oid w ≡ Some o) e (as_oid_octets o)

oid_if-none : (v : List ℕ) (b : Bool) (h : is_identifier v ≡ b) → b ≡ false → oid_if v b h ≡ None
unfolding oid_if
oid_if-none v true h e = absurd (true≢false e)
oid_if-none v false h e = refl

pub as_oid_none : (v : List ℕ) → is_identifier v ≡ false → as_oid v ≡ None
unfolding as_oid
as_oid_none v e = oid_if-none v (is_identifier v) refl e

oid_if-found : (v : List ℕ) (b : Bool) (h : is_identifier v ≡ b) (o : ObjectIdentifier)
    → oid_if v b h ≡ Some o → oid_octets o ≡ v
unfolding oid_if
oid_if-found v true h o e = let f : oid_of v h ≡ o = cc in ap oid_octets (sym f) ∙ octets-oid_of v h
oid_if-found v false h o e = absurd cc

pub as_oid_found : (v : List ℕ) (o : ObjectIdentifier) → as_oid v ≡ Some o → oid_octets o ≡ v
unfolding as_oid
as_oid_found v o e = oid_if-found v (is_identifier v) refl o e
