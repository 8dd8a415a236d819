-- Reading from left to right, with the first fault that is met.
use Rattle.std.specs.Prelude.{ℕ, zero, suc, ◌+◌, ◌*◌, ◌-◌, ◌^◌, Bool, true, false, List, [], ◌∷◌, length, take, drop, Option, Some, None, Result, Ok, Err, nat_lt, ◌==◌, ◌&&◌, ◌||◌, slice_index_or as get_or}
use Rattle.asn1_core.specs.Der.{el, is_tag}
use Rattle.asn1_core.specs.Oid.{as_oid}
use Rattle.asn1_core.specs.declared.identifier.ObjectIdentifier.{ObjectIdentifier}

-- what is wrong with a text
pub data Fault : Type 0 where
  Bad : Fault
  UnknownOid : ObjectIdentifier → Fault

infixl 10 ◌>>=◌
abbrev pub ◌>>=◌ : {A B : Type 0} → Result A Fault → (A → Result B Fault) → Result B Fault
(Ok x) >>= f = f x
(Err e) >>= f = Err e

-- x, where the test holds
abbrev pub where_ok : {A : Type 0} → Bool → A → Result A Fault
where_ok true x = Ok x
where_ok false x = Err Bad

-- a value at the end of a text
abbrev pub ended : {A : Type 0} → A → List ℕ → Result A Fault
ended x [] = Ok x
ended x (b ∷ bs) = Err Bad

-- A reader takes a value from the front; a whole reader takes all of a text.
abbrev pub Front : Type 0 → Type 0
Front A = List ℕ → Result (A × List ℕ) Fault

abbrev pub All : Type 0 → Type 0
All A = List ℕ → Result A Fault

abbrev pub whole : {A : Type 0} → Front A → All A
whole p b = p b >>= λ x. ended x.0 x.1

-- one part, and then the rest of the text, in a way that may depend on the part
abbrev pub on : {A B : Type 0} → Front A → (A → All B) → All B
on p k b = p b >>= λ x. k x.0 x.1

-- a part at the end that may be left out
abbrev pub perhaps : {A : Type 0} → Front A → All (Option A)
perhaps p [] = Ok None
perhaps p (b ∷ bs) = whole p (b ∷ bs) >>= λ v. Ok (Some v)

abbrev pub many_in : {A : Type 0} → Front A → ℕ → All (List A)
many_in p zero [] = Ok []
many_in p zero (b ∷ bs) = Err Bad
many_in p (suc k) [] = Ok []
many_in p (suc k) (b ∷ bs) = p (b ∷ bs) >>= λ x. many_in p k x.1 >>= λ vs. Ok (x.0 ∷ vs)

-- one part after the other, to the end
abbrev pub many : {A : Type 0} → Front A → All (List A)
many p b = many_in p (length b) b

abbrev pub made : {A B : Type 0} → (A → B) → All A → All B
made f p b = p b >>= λ x. Ok (f x)

abbrev pub is_ended : List ℕ → Result (Unit {0}) Fault
is_ended rest = ended tt rest

abbrev pub number_on : ℕ → List ℕ → ℕ
number_on n [] = n
number_on n (b ∷ bs) = number_on (256 * n + b) bs

-- each is an octet
abbrev pub are_octets : List ℕ → Bool
are_octets [] = true
are_octets (b ∷ bs) = nat_lt b 256 && are_octets bs

-- a length in k octets after the first: at least 128, and no octet 0 in front
abbrev pub long_at : ℕ → Front ℕ
long_at k bytes =
    let n = number_on 0 (take k bytes) in
    where_ok (are_octets (take k bytes)
    && (nat_lt 0 k && nat_lt k 5 && nat_lt k (length bytes + 1) && nat_lt 127 n
    && nat_lt 0 (get_or bytes 0 0))) (n, drop k bytes)

unfoldable pub len_at : Front ℕ
len_at [] = Err Bad
len_at (b ∷ bytes) = elim (nat_lt b 128) [ true ↦ Ok (b, bytes) | false ↦ long_at (b - 128) bytes ]

-- a tag octet and a length
pub record Head : Type 0 where
  pub tag : ℕ
  pub size : ℕ

-- the tag octet in front, which stays there
abbrev pub peek_at : All ℕ
peek_at [] = Err Bad
peek_at (tag ∷ bytes) = where_ok (is_tag tag) tag

-- the header in front, of an element that is not too long
unfoldable pub header_at : Front Head
header_at [] = Err Bad
header_at (tag ∷ bytes) = len_at bytes
    >>= λ n. where_ok (is_tag tag && nat_lt (1 + (length bytes - length n.1) + n.0) (2 ^ 32))
    (record { tag = tag; size = n.0 }, n.1)

-- the n octets in front
abbrev pub slice_at : ℕ → Front (List ℕ)
slice_at n b = where_ok (nat_lt n (length b + 1)) (take n b, drop n b)

-- a value of n octets, read to its end
abbrev pub valued : {A : Type 0} → All A → ℕ → Front A
valued q n b = slice_at n b >>= λ w. q w.0 >>= λ v. Ok (v, w.1)

-- one whole element whose tag octet is accepted; its value is read by its tag octet
abbrev pub by_tag : {A : Type 0} → (ℕ → Bool) → (ℕ → All A) → Front A
by_tag can q b = header_at b >>= λ h. where_ok (can h.0.tag) h
    >>= λ h. valued (q h.0.tag) h.0.size h.1

-- one whole element of this tag octet, its value read to its end
abbrev pub within : {A : Type 0} → ℕ → All A → Front A
within tag q = by_tag (λ t. t == tag) (λ t. q)

-- the octets of a value, whatever they are
abbrev pub left : All (List ℕ)
left b = Ok b

abbrev pub inside_at : ℕ → Front (List ℕ)
inside_at tag = within tag left

-- the number whose shortest two's complement this is, at most max
unfoldable pub uint_of : ℕ → All ℕ
uint_of max [] = Err Bad
uint_of max (b ∷ []) = where_ok (nat_lt b 128 && nat_lt b (max + 1)) b
uint_of max (b ∷ c ∷ bs) =
    where_ok (are_octets (b ∷ c ∷ bs)
    && (nat_lt b 128 && (nat_lt 0 b || nat_lt 127 c) && nat_lt (number_on b (c ∷ bs)) (max + 1)))
    (number_on b (c ∷ bs))

abbrev pub uint_at : ℕ → Front ℕ
uint_at max = within 0x02 (uint_of max)

-- a value that only some are known of; an unknown one is refused with its own fault
abbrev pub known_in : {B : Type 0} → Fault → Option B → Result B Fault
known_in unknown None = Err unknown
known_in unknown (Some b) = Ok b

-- the identifier of these octets
abbrev pub oid_of : All ObjectIdentifier
oid_of b = known_in Bad (as_oid b)

abbrev pub oid_at : Front ObjectIdentifier
oid_at = within 0x06 oid_of

-- every tag octet
abbrev pub any_tag : ℕ → Bool
any_tag t = true

-- an element that is kept as its text
abbrev pub raw_of : ℕ → All (List ℕ)
raw_of t w = Ok (el t w)

-- one whole element, whatever it holds
unfoldable pub raw_at : Front (List ℕ)
raw_at = by_tag any_tag raw_of

-- a part by two tests: whether a tag octet is in front, and whether it is one of the part's
abbrev pub option_in : {A : Type 0} → Front A → Bool → Bool → Front (Option A)
option_in p false y b = Err Bad
option_in p true false b = Ok (None, b)
option_in p true true b = p b >>= λ x. Ok (Some x.0, x.1)

-- a part, or none where the text is at its end or a tag octet comes next that is not accepted
abbrev pub option_at : {A : Type 0} → (ℕ → Bool) → Front A → Front (Option A)
option_at can p [] = Ok (None, [])
option_at can p (t ∷ l) = option_in p (is_tag t) (can t) (t ∷ l)

-- the same of a value that was read
abbrev pub known : {A B : Type 0} → (A → Option B) → (A → Fault) → A → Result B Fault
known f unknown a = known_in (unknown a) (f a)
