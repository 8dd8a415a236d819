-- Reading lists of contents from left to right, and writing them with the encrypted octets in one.
-- Nothing to believe here: it is proved to give what `Joined` says.
use Rattle.std.specs.Prelude.{ℕ, ◌++◌, ◌^◌, ◌==◌, nat_lt, List, length, Result, Ok, Err}
use Rattle.std.specs.Str.{bytes_eq}
use Rattle.asn1_core.specs.Der.{el, joined, oid, uint}
use Rattle.asn1_core.specs.Fields.{the}
use Rattle.asn1_core.specs.Oid.{oid_octets}
use Rattle.asn1_core.specs.Reading.{All, Fault, Front, ◌>>=◌, ended, inside_at, made, many, oid_at, on, raw_at, uint_at, where_ok, whole, within}
use Rattle.p12.specs.Identifiers.{data_oid, encrypted_data_oid}
use Rattle.legacy_store.specs.Joined.{PartedContent}
use Rattle.legacy_store.specs.declared.joined.Parted.{Parted}

-- what is read to the end, one part after the other, joined
abbrev pub joined_all : Front (List ℕ) → All (List ℕ)
joined_all p = made joined (many p)

-- EncryptedContentInfo (RFC 5652 section 6.1) whose encrypted octets are in parts
unfoldable pub parted_info_at : Front PartedContent
parted_info_at =
    within 0x30 (on (the (λ o. bytes_eq (oid_octets o) data_oid) oid_at) (λ u. on raw_at (λ a.
    on (within 0xa0 (joined_all (inside_at 0x04))) (λ v. ended
    (record { algorithm = a; octets = v })))))

-- EncryptedData (section 8) around it
unfoldable pub parted_data_at : Front PartedContent
parted_data_at = within 0x30 (on (the (λ n. n == 0) (uint_at 0xff)) (λ u.
    on parted_info_at (λ p. ended p)))

abbrev pub parted_body_all : All PartedContent
parted_body_all = whole (within 0xa0 (whole parted_data_at))

-- ContentInfo (section 3) around it
unfoldable pub parted_at : Front PartedContent
parted_at = within 0x30 (on (the (λ o. bytes_eq (oid_octets o) encrypted_data_oid) oid_at)
    (λ u. parted_body_all))

-- ---- writing

-- an element of at most 2 ^ 32 - 1 octets
abbrev pub short_el : ℕ → All (List ℕ)
short_el tag v = where_ok (nat_lt (length (el tag v)) (2 ^ 32)) (el tag v)

-- the same, with the encrypted octets in one
unfoldable pub info_text : PartedContent → Result (List ℕ) Fault
info_text p = short_el 0x80 p.octets
    >>= λ x. short_el 0x30 (oid data_oid ++ p.algorithm ++ x)

unfoldable pub content_text : PartedContent → Result (List ℕ) Fault
content_text p = info_text p
    >>= λ x. short_el 0x30 (uint 0 ++ x)
    >>= λ x. short_el 0xa0 x
    >>= λ x. short_el 0x30 (oid encrypted_data_oid ++ x)

-- ---- joining

abbrev pub text_or : List ℕ → Result PartedContent Fault → Result (List ℕ) Fault
text_or q (Ok p) = content_text p
text_or q (Err f) = Ok q

-- the text of a content, whose encrypted octets are joined where they are in parts
unfoldable pub joined_content : All (List ℕ)
joined_content q = text_or q (whole parted_at q)

unfoldable pub joined_at : Front (List ℕ)
joined_at b = raw_at b >>= λ x. joined_content x.0 >>= λ e. Ok (e, x.1)

abbrev pub sealed : All (List ℕ) → All (List ℕ)
sealed p b = p b >>= λ x. short_el 0x30 x

-- the text of a list of contents, in each of which they are joined
unfoldable pub joined_safe : All (List ℕ)
joined_safe = whole (within 0x30 (sealed (joined_all joined_at)))

-- ---- what is seen of values that lend

abbrev pub seen_parted : Parted → PartedContent
seen_parted p = record { algorithm = p.algorithm.now; octets = p.octets }
