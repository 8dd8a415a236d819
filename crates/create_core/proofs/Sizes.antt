-- How long the text of a store is.
use Rattle.std.proofs.Common.{◌≡◌, ◌∙◌, refl, sym, ap, ℕ, ◌≤◌, Bool, true, false, List, [], ◌∷◌, ◌++◌, length, map, Option, Some, None, arith}
use Rattle.std.specs.Prelude.{All, if◌then◌else◌}
use Rattle.std.proofs.lemmas.List.{length-replicate}
use Rattle.std.proofs.lemmas.List.Elements.{All-head, All-tail}
use Rattle.asn1_core.specs.Der.{el, oid, octets, uint, ctx, pctx, seq, joined}
use Rattle.mac_modes.specs.HmacLaws.{length-hmac}
use Rattle.pkcs5.specs.OpeningLaws.{opened_is}
use Rattle.pkcs5.specs.Identifiers.{aes_256_cbc_oid, pbes2_oid, pbkdf2_oid}
use Rattle.pkcs5.specs.Pbkdf2Prf.{prf_content}
use Rattle.pkcs5.specs.declared.pbes2.pbkdf2_prf.Pbkdf2Prf.TheVariants.{HmacWithSha256}
use Rattle.pkcs5.proofs.Openings.{length_opens}
use Rattle.pkcs12_kdf.specs.Mac.{mac_under_in}
use Rattle.pkcs12_kdf.specs.Password.{bmp_password}
use Rattle.p12.specs.AlgorithmIdentifier.{unlock}
use Rattle.p12.proofs.Pbes2.{unlock_pbes2-is}
use Rattle.p12.specs.Canonical.{algorithm_canon, attributes_canon, bag_canon, bags_canon, content_canon, contents_canon, store_canon}
use Rattle.p12.specs.Identifiers.{data_oid, encrypted_data_oid, shrouded_key_bag_oid}
use Rattle.p12.specs.MacData.{mac_of, mac_value}
use Rattle.p12.specs.declared.algorithm_identifier.AlgorithmIdentifier.TheVariants.{Sha256}
use Rattle.p12.specs.declared.content_info.ContentInfo.{ContentInfo}
use Rattle.p12.specs.declared.content_info.ContentInfo.TheVariants as content
use Rattle.p12.specs.declared.safe_bag.SafeBag.{SafeBag}
use Rattle.p12.proofs.Fits.{Fits, left_fits, right_fits, through, value_fits}
use Rattle.p12.proofs.MadeSizes.{Same, behind_same, el_same, front_same, join_same}
use Rattle.sha2.specs.Sha256.{sha256}
use Rattle.sha2.proofs.Facts256.{length-sha256}
use Rattle.create_core.specs.Bags.{KeysSealed, certificate_bags, key_bag, own_attributes}
use Rattle.create_core.specs.Created.{sealed_content, store_of, two_contents}
use Rattle.sealing_core.specs.Drawn.{AreOf16}
use Rattle.create_core.specs.Parts.{Seals, parameters_under, sealed_length, under}
use Rattle.create_core.specs.Size.{blank, blank_contents, blank_key_bag, blank_keys, blank_part, blank_sealed, blank_store, created_size}
use Rattle.sealing_core.specs.declared.drawn.IvAndSalt.{IvAndSalt}
use Rattle.create_core.specs.declared.entry.CertificateEntry.{CertificateEntry}
use Rattle.create_core.specs.declared.entry.KeyEntry.{KeyEntry}

-- ---- ciphertexts

if_value : (t : Bool) (r : Option (List ℕ)) (m : List ℕ) → (if t then r else None) ≡ Some m → r ≡ Some m
if_value true r m e = e
if_value false r m e = absurd cc

sealed_size : (r : ℕ) (p : List ℕ) (d : IvAndSalt) (m c : List ℕ) → unlock (under r d) p c ≡ Some m → length c ≡ sealed_length (length m)
unfolding unlock
sealed_size r p d m c e = length_opens (parameters_under r d) p c m (opened_is (parameters_under r d) p c m (if_value _ _ m (sym (unlock_pbes2-is (parameters_under r d) p c) ∙ e)))

blank_size : (n : ℕ) → length (blank n) ≡ n
blank_size n = length-replicate n 0

text_same : (r : ℕ) (p : List ℕ) (d : IvAndSalt) (m c : List ℕ) → Seals r p d m c → Same c (blank_sealed m)
text_same r p d m c s = sealed_size r p d m c s.opens ∙ sym (blank_size (sealed_length (length m)))

-- ---- algorithms

algorithm_same : (r : ℕ) (d e : IvAndSalt) → Same d.iv e.iv → Same d.salt e.salt → Same (algorithm_canon (under r d)) (algorithm_canon (under r e))
algorithm_same r d e iv salt =
    let n = uint r in
    let tail = el 0x30 (prf_content HmacWithSha256) in
    let first = front_same (octets d.salt) (octets e.salt) n (el_same 0x04 _ _ salt) in
    let second = front_same (octets d.salt ++ n) (octets e.salt ++ n) [] first in
    let params = el_same 0x30 _ _ (front_same ((octets d.salt ++ n) ++ []) ((octets e.salt ++ n) ++ []) tail second) in
    let kdf = el_same 0x30 _ _ (behind_same (oid pbkdf2_oid) _ _ params) in
    let cipher = el_same 0x30 _ _ (behind_same (oid aes_256_cbc_oid) _ _ (el_same 0x04 _ _ iv)) in
    el_same 0x30 _ _ (behind_same (oid pbes2_oid) _ _ (el_same 0x30 _ _ (join_same _ _ _ _ kdf cipher)))

part_same : (r : ℕ) (d : IvAndSalt) → AreOf16 d → Same (algorithm_canon (under r d)) (algorithm_canon (under r blank_part))
part_same r d of = algorithm_same r d blank_part (of.0 ∙ sym (blank_size 16)) (of.1 ∙ sym (blank_size 16))

-- ---- bags

key_same : (r : ℕ) (e : KeyEntry) (d : IvAndSalt) (c : List ℕ) → AreOf16 d → Same c (blank_sealed e.key) → Same (bag_canon (key_bag r e d c)) (bag_canon (blank_key_bag r e))
key_same r e d c of text =
    let key = el_same 0x30 _ _ (join_same _ _ _ _ (part_same r d of) (el_same 0x04 c (blank_sealed e.key) text)) in
    el_same 0x30 _ _ (behind_same (oid shrouded_key_bag_oid) _ _ (front_same _ _ (attributes_canon (own_attributes e)) (el_same 0xa0 _ _ key)))

keys_joined : (r : ℕ) (p : List ℕ) (es : List KeyEntry) (ds : List IvAndSalt) (gs : List SafeBag) → All AreOf16 ds → KeysSealed r p es ds gs
    → Same (joined (map bag_canon gs)) (joined (map bag_canon (map (blank_key_bag r) es)))
keys_joined r p [] [] [] of h = refl
keys_joined r p [] [] (g ∷ gs) of h = absurd h
keys_joined r p [] (d ∷ ds) gs of h = absurd h
keys_joined r p (e ∷ es) [] gs of h = absurd h
keys_joined r p (e ∷ es) (d ∷ ds) [] of h = absurd h
keys_joined r p (e ∷ es) (d ∷ ds) (g ∷ gs) of h =
    let one : Same (bag_canon g) (bag_canon (blank_key_bag r e)) =
    ap (λ (x : SafeBag). length (bag_canon x)) h.0.is ∙ key_same r e d h.0.ciphertext (All-head AreOf16 d ds of) (text_same r p d e.key h.0.ciphertext h.0.seals) in
    join_same _ _ _ _ one (keys_joined r p es ds gs (All-tail AreOf16 d ds of) h.1)

pub keys_same : (r : ℕ) (p : List ℕ) (es : List KeyEntry) (ds : List IvAndSalt) (gs : List SafeBag) → All AreOf16 ds → KeysSealed r p es ds gs → length (bags_canon gs) ≡ length (blank_keys r es)
keys_same r p es ds gs of h = el_same 0x30 _ _ (keys_joined r p es ds gs of h)

-- ---- contents

sealed_same : (r : ℕ) (d : IvAndSalt) (c v : List ℕ) → AreOf16 d → Same c v → Same (content_canon (sealed_content r d c)) (content_canon (sealed_content r blank_part v))
sealed_same r d c v of text =
    let info = el_same 0x30 _ _ (behind_same (oid data_oid) _ _ (join_same _ _ _ _ (part_same r d of) (el_same 0x80 c v text))) in
    el_same 0x30 _ _ (behind_same (oid encrypted_data_oid) _ _ (el_same 0xa0 _ _ (el_same 0x30 _ _ (behind_same (uint 0) _ _ info))))

data_same : (v w : List ℕ) → Same v w → Same (content_canon (content.Data v)) (content_canon (content.Data w))
data_same v w e = el_same 0x30 _ _ (behind_same (oid data_oid) _ _ (el_same 0xa0 _ _ (el_same 0x04 v w e)))

two_same : (r : ℕ) (p : List ℕ) (keys : List KeyEntry) (certificates : List CertificateEntry) (ds : List IvAndSalt) (d : IvAndSalt) (c : List ℕ) (gs : List SafeBag) → All AreOf16 ds → AreOf16 d
    → Seals r p d (bags_canon (certificate_bags keys certificates)) c → KeysSealed r p keys ds gs → Same (contents_canon (two_contents r d c gs)) (contents_canon (blank_contents r keys certificates))
two_same r p keys certificates ds d c gs all of s h =
    let m = bags_canon (certificate_bags keys certificates) in
    let second = data_same (bags_canon gs) (blank_keys r keys) (keys_same r p keys ds gs all h) in
    el_same 0x30 _ _ (join_same _ _ _ _ (sealed_same r d c (blank_sealed m) of (text_same r p d m c s)) (front_same _ _ [] second))

-- ---- the store

digest_length : (q salt v : List ℕ) (r : ℕ) → length (mac_value Sha256 q salt r v) ≡ 32
unfolding mac_value mac_under_in
digest_length q salt v r = length-hmac sha256 64 32 length-sha256 _ v

pub store_size : (r : ℕ) (p : List ℕ) (keys : List KeyEntry) (certificates : List CertificateEntry) (ds : List IvAndSalt) (d : IvAndSalt) (c : List ℕ) (gs : List SafeBag) (salt : List ℕ) → All AreOf16 ds → AreOf16 d
    → Seals r p d (bags_canon (certificate_bags keys certificates)) c → KeysSealed r p keys ds gs → length salt ≡ 8
    → length (store_canon (store_of r p salt (two_contents r d c gs))) ≡ created_size r keys certificates
unfolding created_size mac_of
store_size r p keys certificates ds d c gs salt all of s h long =
    let text = two_same r p keys certificates ds d c gs all of s h in
    let v = contents_canon (two_contents r d c gs) in
    let digest : Same (mac_value Sha256 (bmp_password p) salt r v) (blank 32) = digest_length (bmp_password p) salt v r ∙ sym (blank_size 32) in
    let outer = el_same 0x30 _ _ (behind_same (oid data_oid) _ _ (el_same 0xa0 _ _ (el_same 0x04 _ _ text))) in
    let info = el_same 0x30 _ _ (behind_same (algorithm_canon Sha256) _ _ (el_same 0x04 _ _ digest)) in
    let mac = el_same 0x30 _ _ (join_same _ _ _ _ info (front_same _ _ (uint r) (el_same 0x04 salt (blank 8) (long ∙ sym (blank_size 8))))) in
    el_same 0x30 _ _ (behind_same (uint 3) _ _ (join_same _ _ _ _ outer mac))

-- ---- what is too long in a part is too long in the whole

in_el : (tag : ℕ) (v : List ℕ) → Fits v (el tag v)
in_el tag v = value_fits tag v (el tag v) refl

in_front : (x y : List ℕ) → Fits x (x ++ y)
in_front x y = left_fits x y (x ++ y) refl

in_back : (x y : List ℕ) → Fits y (x ++ y)
in_back x y = right_fits x y (x ++ y) refl

data_in : (t : List ℕ) → Fits t (content_canon (content.Data t))
data_in t = through t _ _ (through t _ (oid data_oid ++ ctx 0 (octets t)) (through t _ (ctx 0 (octets t)) (in_el 0x04 t) (in_el 0xa0 _)) (in_back (oid data_oid) _)) (in_el 0x30 _)

sealed_in : (r : ℕ) (d : IvAndSalt) (t : List ℕ) → Fits t (content_canon (sealed_content r d t))
sealed_in r d t =
    let a = algorithm_canon (under r d) in
    let i = oid data_oid ++ (a ++ pctx 0 t) in
    let one = through t _ i (through t _ (a ++ pctx 0 t) (in_el 0x80 t) (in_back a _)) (in_back (oid data_oid) _) in
    let two = through t _ (seq (uint 0 ++ seq i)) (through t _ (uint 0 ++ seq i) (through t _ (seq i) one (in_el 0x30 i)) (in_back (uint 0) _)) (in_el 0x30 _) in
    through t _ (seq (oid encrypted_data_oid ++ ctx 0 (seq (uint 0 ++ seq i)))) (through t _ (oid encrypted_data_oid ++ ctx 0 (seq (uint 0 ++ seq i))) (through t _ _ two (in_el 0xa0 _)) (in_back (oid encrypted_data_oid) _)) (in_el 0x30 _)

-- the text of the contents stands in that of the store
pub contents_in : (r : ℕ) (p salt : List ℕ) (cs : List ContentInfo) → length (contents_canon cs) ≤ length (store_canon (store_of r p salt cs))
contents_in r p salt cs =
    let t = contents_canon cs in
    let c = content_canon (content.Data t) in
    through t _ (store_canon (store_of r p salt cs)) (through t _ _ (through t c _ (data_in t) (in_front c _)) (in_back (uint 3) _)) (in_el 0x30 _)

blank_contents_in : (r : ℕ) (keys : List KeyEntry) (certificates : List CertificateEntry) → length (contents_canon (blank_contents r keys certificates)) ≤ created_size r keys certificates
unfolding created_size
blank_contents_in r keys certificates =
    let t = contents_canon (blank_contents r keys certificates) in
    let c = content_canon (content.Data t) in
    through t _ (store_canon (blank_store r keys certificates)) (through t _ _ (through t c _ (data_in t) (in_front c _)) (in_back (uint 3) _)) (in_el 0x30 _)

pub certificates_in : (r : ℕ) (keys : List KeyEntry) (certificates : List CertificateEntry) → length (bags_canon (certificate_bags keys certificates)) ≤ created_size r keys certificates
certificates_in r keys certificates =
    let m = bags_canon (certificate_bags keys certificates) in
    let t = blank_sealed m in
    let one : Fits t (contents_canon (blank_contents r keys certificates)) = through t _ _ (through t _ _ (sealed_in r blank_part t) (in_front _ _)) (in_el 0x30 _) in
    omega (arith, one, blank_size (sealed_length (length m)), blank_contents_in r keys certificates)

pub keys_in : (r : ℕ) (keys : List KeyEntry) (certificates : List CertificateEntry) → length (blank_keys r keys) ≤ created_size r keys certificates
keys_in r keys certificates =
    let t = blank_keys r keys in
    let one : Fits t (contents_canon (blank_contents r keys certificates)) = through t _ _ (through t _ _ (through t _ _ (data_in t) (in_front _ [])) (in_back _ _)) (in_el 0x30 _) in
    omega (arith, one, blank_contents_in r keys certificates)

-- what is sealed is no longer than the text of the contents
pub certificates_fit : (r : ℕ) (p : List ℕ) (d : IvAndSalt) (m c : List ℕ) (gs : List SafeBag) → Seals r p d m c → length m ≤ length (contents_canon (two_contents r d c gs))
certificates_fit r p d m c gs s =
    let one : Fits c (contents_canon (two_contents r d c gs)) = through c _ _ (through c _ _ (sealed_in r d c) (in_front _ _)) (in_el 0x30 _) in
    omega (arith, one, sealed_size r p d m c s.opens)
