-- The length of the text of both contents depends on the lengths of salts and ciphertexts alone.
use Rattle.std.proofs.Common.{◌≡◌, ℕ, ◌+◌, ◌≤◌, List, [], ◌∷◌, ◌++◌, length, refl, sym, ap, ◌∙◌, arith, length-append}
use Rattle.std.proofs.lemmas.List.{length-replicate}
use Rattle.asn1_core.specs.Der.{el, len, oid, octets, uint, ctx}
use Rattle.asn1_core.specs.WritingLaws.{el_size}
use Rattle.p12.specs.AlgorithmIdentifier.{ciphertext_length}
use Rattle.p12.specs.Building.{Entry, Salts, blank, certificate_bags, key_bag, outer_length, own_attributes, sealed_content, triple_des, two_contents}
use Rattle.p12.specs.Canonical.{algorithm_canon, attributes_canon, bags_canon, content_canon, contents_canon}
use Rattle.p12.specs.Identifiers.{data_oid, encrypted_data_oid, shrouded_key_bag_oid, triple_des_scheme_oid}
use Rattle.p12.specs.declared.content_info.ContentInfo.{ContentInfo}
use Rattle.p12.specs.declared.content_info.ContentInfo.TheVariants as content
use Rattle.p12.proofs.Fits.{Fits, left_fits, right_fits, through, value_fits}

abbrev pub Same : List ℕ → List ℕ → Type 0
Same v w = length v ≡ length w

pub el_same : (tag : ℕ) (v w : List ℕ) → Same v w → Same (el tag v) (el tag w)
el_same tag v w e = el_size tag v ∙ ap (λ (n : ℕ). 1 + length (len n) + n) e ∙ sym (el_size tag w)

pub join_same : (a b c d : List ℕ) → Same a b → Same c d → Same (a ++ c) (b ++ d)
join_same a b c d e f = omega (arith, length-append a c, length-append b d, e, f)

pub behind_same : (a c d : List ℕ) → Same c d → Same (a ++ c) (a ++ d)
behind_same a c d e = join_same a a c d refl e

pub front_same : (a b c : List ℕ) → Same a b → Same (a ++ c) (b ++ c)
front_same a b c e = join_same a b c c e refl

algorithm_same : (s r : List ℕ) → Same s r → Same (algorithm_canon (triple_des s)) (algorithm_canon (triple_des r))
algorithm_same s r e =
    el_same 0x30 _ _ (behind_same (oid triple_des_scheme_oid) _ _ (el_same 0x30 _ _ (front_same (octets s) (octets r) (uint 2048) (el_same 0x04 s r e))))

sealed_same : (s r c d : List ℕ) → Same s r → Same c d → Same (content_canon (sealed_content s c)) (content_canon (sealed_content r d))
sealed_same s r c d e f =
    let info = el_same 0x30 _ _ (behind_same (oid data_oid) _ _ (join_same _ _ _ _ (algorithm_same s r e) (el_same 0x80 c d f))) in
    el_same 0x30 _ _ (behind_same (oid encrypted_data_oid) _ _ (el_same 0xa0 _ _ (el_same 0x30 _ _ (behind_same (uint 0) _ _ info))))

key_same : (e : Entry) (s r c d : List ℕ) → Same s r → Same c d → Same (bags_canon (key_bag e s c ∷ [])) (bags_canon (key_bag e r d ∷ []))
key_same e s r c d h f =
    let key = el_same 0x30 _ _ (join_same _ _ _ _ (algorithm_same s r h) (el_same 0x04 c d f)) in
    let bag = el_same 0x30 _ _ (behind_same (oid shrouded_key_bag_oid) _ _ (front_same _ _ (attributes_canon (own_attributes e)) (el_same 0xa0 _ _ key))) in
    el_same 0x30 _ _ (front_same _ _ [] bag)

data_same : (v w : List ℕ) → Same v w → Same (content_canon (content.Data v)) (content_canon (content.Data w))
data_same v w e = el_same 0x30 _ _ (behind_same (oid data_oid) _ _ (el_same 0xa0 _ _ (el_same 0x04 v w e)))

two_same : (e : Entry) (s r : Salts) (c d v w : List ℕ) → Same s.key r.key → Same s.certificates r.certificates → Same c d → Same v w
    → Same (contents_canon (two_contents e s c v)) (contents_canon (two_contents e r d w))
two_same e s r c d v w k h f g =
    let second = data_same (bags_canon (key_bag e s.key v ∷ [])) (bags_canon (key_bag e r.key w ∷ [])) (key_same e s.key r.key v w k g) in
    el_same 0x30 _ _ (join_same _ _ _ _ (sealed_same s.certificates r.certificates c d h f) (front_same _ _ [] second))

blank_size : (n : ℕ) → length (blank n) ≡ n
blank_size n = length-replicate n 0

-- v has as many octets as what is encrypted of m
abbrev pub Seals : List ℕ → List ℕ → Type 0
Seals m v = length v ≡ ciphertext_length (length m)

abbrev blanks : Salts
blanks = record { key = blank 8; certificates = blank 8; mac = blank 8 }

pub two_size : (e : Entry) (s : Salts) (c v : List ℕ) → length s.key ≡ 8 → length s.certificates ≡ 8 → Seals (bags_canon (certificate_bags e)) c → Seals e.key v
    → length (contents_canon (two_contents e s c v)) ≡ outer_length e
unfolding outer_length
two_size e s c v k h f g =
    let n = ciphertext_length (length (bags_canon (certificate_bags e))) in
    let m = ciphertext_length (length e.key) in
    two_same e s blanks c (blank n) v (blank m) (k ∙ sym (blank_size 8)) (h ∙ sym (blank_size 8)) (f ∙ sym (blank_size n)) (g ∙ sym (blank_size m))

-- the text of the key's bag is no longer than that of both contents
data_fits : (v : List ℕ) → Fits v (content_canon (content.Data v))
data_fits v =
    through v (octets v) (content_canon (content.Data v)) (value_fits 0x04 v (octets v) refl)
    (through (octets v) (ctx 0 (octets v)) (content_canon (content.Data v)) (value_fits 0xa0 (octets v) (ctx 0 (octets v)) refl)
    (through (ctx 0 (octets v)) (oid data_oid ++ ctx 0 (octets v)) (content_canon (content.Data v)) (right_fits (oid data_oid) (ctx 0 (octets v)) _ refl) (value_fits 0x30 (oid data_oid ++ ctx 0 (octets v)) _ refl)))

second_fits : (x y : ContentInfo) → Fits (content_canon y) (contents_canon (x ∷ y ∷ []))
second_fits x y =
    let all = content_canon x ++ (content_canon y ++ []) in
    through (content_canon y) (content_canon y ++ []) (contents_canon (x ∷ y ∷ [])) (left_fits (content_canon y) [] (content_canon y ++ []) refl)
    (through (content_canon y ++ []) all (contents_canon (x ∷ y ∷ [])) (right_fits (content_canon x) (content_canon y ++ []) all refl) (value_fits 0x30 all (contents_canon (x ∷ y ∷ [])) refl))

pub key_size : (e : Entry) (salt v : List ℕ) → length salt ≡ 8 → Seals e.key v → length (bags_canon (key_bag e salt v ∷ [])) ≤ outer_length e
unfolding outer_length
key_size e salt v h g =
    let n = ciphertext_length (length (bags_canon (certificate_bags e))) in
    let m = ciphertext_length (length e.key) in
    let bags = bags_canon (key_bag e (blank 8) (blank m) ∷ []) in
    let same : Same (bags_canon (key_bag e salt v ∷ [])) bags = key_same e salt (blank 8) v (blank m) (h ∙ sym (blank_size 8)) (g ∙ sym (blank_size m)) in
    let two = contents_canon (two_contents e blanks (blank n) (blank m)) in
    let fits : Fits bags two = through bags (content_canon (content.Data bags)) two (data_fits bags) (second_fits (sealed_content (blank 8) (blank n)) (content.Data bags)) in
    omega (arith, same, fits)
