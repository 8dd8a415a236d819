-- Elements of the context class (X.690 section 8.14): a number, and the value that is in the
-- element whole, or whose tag the number replaces.
use Rattle.std.specs.Prelude.{◌≡◌, ◌==◌, ℕ, ◌+◌, ◌-◌, ◌<◌, ◌%◌, ◌/◌, Bool, List, Ok, nat_lt, ◌&&◌, cond}
use Rattle.asn1_core.specs.Der.{ctx}
use Rattle.asn1_core.specs.Reading.{All, Front, ◌>>=◌, whole, by_tag}
use Rattle.der_core.specs.declared.context_specific.ContextSpecific.{ContextSpecific}
use Rattle.der_core.specs.declared.context_specific.TagMode.{TagMode}
use Rattle.der_core.specs.declared.context_specific.TagMode.TheVariants as modes

abbrev pub context : {V : Type 0} → ℕ → TagMode → V → ContextSpecific V
context n mode v = record { tag_number = n; tag_mode = mode; value = v }

-- the tag octet of a value whose own is t: of a number over 30 it is that of 30, since no tag octet
-- has it
abbrev pub context_tag : ℕ → TagMode → ℕ → ℕ
context_tag n modes.Explicit t = 0xa0 + cond (nat_lt n 31) n 30
context_tag n modes.Implicit t = cond (t / 32 % 2 == 1) 0xa0 0x80 + cond (nat_lt n 31) n 30

-- the octets that are in the element: the whole text of the value, or the value octets alone
abbrev pub context_content : TagMode → List ℕ → List ℕ → List ℕ
context_content modes.Explicit whole value = whole
context_content modes.Implicit whole value = value

-- the element of a0 and a number up to 30 round a text of the value
abbrev pub ContextText : {V : Type 0} → (List ℕ → V → Type 0) → List ℕ → ContextSpecific V → Type 0
ContextText P b v = (x : List ℕ) × P x v.value × (v.tag_number < 31) × (v.tag_mode ≡ modes.Explicit)
    × (b ≡ ctx v.tag_number x)

-- ---- reading

-- the tag octets that hold a whole element, and all of the context class
abbrev pub is_explicit : ℕ → Bool
is_explicit t = nat_lt 0x9f t && nat_lt t 0xbf

abbrev pub is_context : ℕ → Bool
is_context t = nat_lt 0x7f t && nat_lt t 0xc0

abbrev pub explicit : {V : Type 0} → ℕ → V → ContextSpecific V
explicit t v = context (t - 0xa0) modes.Explicit v

abbrev pub context_of : {V : Type 0} → Front V → ℕ → All (ContextSpecific V)
context_of p t w = whole p w >>= λ v. Ok (explicit t v)

abbrev pub context_at : {V : Type 0} → Front V → Front (ContextSpecific V)
context_at p = by_tag is_explicit (context_of p)
