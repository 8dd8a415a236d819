-- Values that are equal up to the order of their sets, and values that are read again from what is
-- written of them.
use Rattle.std.specs.Prelude.{◌≡◌, ℕ, List}
use Rattle.asn1_core.specs.Der.{IsShort}
use Rattle.asn1_core.specs.Sets.{SameSet, Decodes, IsRead}
use Rattle.p12.specs.declared.attribute.PKCS12Attribute.{PKCS12Attribute}
use Rattle.p12.specs.declared.attribute.PKCS12Attribute.TheVariants.{FriendlyName, LocalKeyId, Other}
use Rattle.p12.specs.declared.safe_bag.SafeBag.{SafeBag}

-- one of another kind up to the order of its elements
abbrev pub SameAttribute : PKCS12Attribute → PKCS12Attribute → Type 0
SameAttribute (FriendlyName t) w = w ≡ FriendlyName t
SameAttribute (LocalKeyId v) w = w ≡ LocalKeyId v
SameAttribute (Other o) (FriendlyName t) = ⊥
SameAttribute (Other o) (LocalKeyId v) = ⊥
SameAttribute (Other o) (Other p) = (o.oid ≡ p.oid) × SameSet (λ x y. x ≡ y) o.values p.values

abbrev pub SameBag : SafeBag → SafeBag → Type 0
SameBag g h = (g.bag ≡ h.bag) × SameSet SameAttribute g.attributes h.attributes

-- what is written of a value that some text has is a text of that value
abbrev pub IsReadAgain : {A : Type 0} → (List ℕ → A → Type 0) → (A → List ℕ) → Type 0
IsReadAgain {A = A} R canon = (v : A) → IsRead R v → R (canon v) v

-- the same up to the order of sets
abbrev pub IsReadAsSame : {A : Type 0} → (List ℕ → A → Type 0) → (A → A → Type 0) → (A → List ℕ)
    → Type 0
IsReadAsSame {A = A} R S canon = (v : A) → IsRead R v → Decodes R S (canon v) v

-- each value that some text has can be written
abbrev pub CanBeWritten : {A : Type 0} → (List ℕ → A → Type 0) → (A → Type 0) → Type 0
CanBeWritten {A = A} R writable = (v : A) → IsRead R v → writable v

-- values that are the same have one canonical text
abbrev pub IsOneText : {A : Type 0} → (A → A → Type 0) → (A → List ℕ) → Type 0
IsOneText {A = A} S canon = (v w : A) → S v w → canon v ≡ canon w

-- what is written of a value that some text has is read as the same value, and of that the same
-- octets are written
abbrev pub IsWrittenAlike : {A : Type 0} → (List ℕ → A → Type 0) → (A → A → Type 0) → (A → List ℕ)
    → Type 0
IsWrittenAlike {A = A} R S canon = (v w : A) → IsRead R v → R (canon v) w × IsShort (canon v)
    → S w v × (canon w ≡ canon v)
