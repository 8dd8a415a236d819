-- How long what is sealed anew is.
use Rattle.std.proofs.Common.{◌≡◌, ◌∙◌, refl, sym, ap, subst, mul-suc, ℕ, zero, suc, ◌+◌, ◌*◌, ◌/◌, ◌%◌, ◌==◌, ◌≤◌, ◌&&◌, Bool, true, false, nat_lt, List, [], ◌∷◌, ◌++◌, length, map, take, drop, replicate, Option, Some, None, arith}
use Rattle.std.specs.Prelude.{if◌then◌else◌}
use Rattle.std.proofs.lemmas.Bool.{eqb-true}
use Rattle.std.proofs.lemmas.List.{length-append, length-take-le, length-take, length-drop, length-replicate}
use Rattle.asn1_core.specs.Der.{el, len, oid, octets, uint, ctx, pctx, seq, joined}
use Rattle.asn1_core.specs.OctetLaws.{both}
use Rattle.asn1_core.specs.Sets.{Each}
use Rattle.asn1_core.specs.WritingLaws.{el_size}
use Rattle.block_core.specs.Bits.{xor_each}
use Rattle.block_core.specs.BitsLaws.{length-octets_of_bits, length-xor_each}
use Rattle.block_core.specs.Des.{under_keys}
use Rattle.block_core.specs.Tdes.{inv_tdes}
use Rattle.mac_modes.specs.Cbc.{block, opened}
use Rattle.mac_modes.specs.Padding.{pad_count}
use Rattle.pkcs5.specs.Kinds.{rounds_of}
use Rattle.pkcs5.specs.Pbkdf2Prf.{prf_content}
use Rattle.pkcs5.specs.declared.pbes2.pbkdf2_prf.Pbkdf2Prf.TheVariants.{HmacWithSha256}
use Rattle.pkcs5.specs.Opening.{unpadded}
use Rattle.pkcs5.specs.OpeningLaws.{opened_is}
use Rattle.pkcs5.specs.Generation.{pbkdf2_sha256}
use Rattle.pkcs5.specs.Identifiers.{aes_256_cbc_oid, pbes2_oid, pbkdf2_oid}
use Rattle.pkcs5.specs.declared.pbes2.encryption_scheme.EncryptionScheme.TheVariants.{Aes256Cbc}
use Rattle.pkcs5.proofs.Openings.{length_opens}
use Rattle.pkcs12_kdf.specs.Password.{bmp_password}
use Rattle.p12.specs.AlgorithmIdentifier.{is_blocks, openable, triple_des_text, unlock, unlock_pbe, unlock_pbes2}
use Rattle.p12.specs.Canonical.{algorithm_canon, attributes_canon, bag_canon, bags_canon, content_canon, contents_canon, encrypted_key_canon, kind_canon, store_canon}
use Rattle.p12.specs.Identifiers.{data_oid, encrypted_data_oid, shrouded_key_bag_oid, triple_des_scheme_oid}
use Rattle.p12.specs.MacData.{is_mac_digest, mac_of, mac_value}
use Rattle.p12.specs.SafeBag.{IsBags, kind_oid}
use Rattle.pkcs12_kdf.specs.Mac.{mac_under_in}
use Rattle.mac_modes.specs.HmacLaws.{length-hmac}
use Rattle.mac_modes.specs.Sha1Laws.{length-sha1}
use Rattle.sha1.specs.Sha1.{sha1}
use Rattle.sha2.specs.Sha256.{sha256}
use Rattle.sha2.proofs.Facts256.{length-sha256}
use Rattle.p12.specs.declared.algorithm_identifier.AlgorithmIdentifier.{AlgorithmIdentifier}
use Rattle.p12.specs.declared.algorithm_identifier.AlgorithmIdentifier.TheVariants.{Sha1, Sha256, PbewithSHAAnd40BitRC2CBC, PbeWithSHAAnd3KeyTripleDESCBC, Pbes2, OtherAlg}
use Rattle.p12.specs.declared.attribute.PKCS12Attribute.{PKCS12Attribute}
use Rattle.p12.specs.declared.content_info.ContentInfo.{ContentInfo}
use Rattle.p12.specs.declared.content_info.ContentInfo.TheVariants as content
use Rattle.p12.specs.declared.encrypted_private_key_info.EncryptedPrivateKeyInfo.{EncryptedPrivateKeyInfo}
use Rattle.p12.specs.declared.encrypted_data.EncryptedData.{EncryptedData}
use Rattle.p12.specs.declared.pkcs12_pbe_params.Pkcs12PbeParams.{Pkcs12PbeParams}
use Rattle.p12.specs.declared.safe_bag.SafeBag.{SafeBag}
use Rattle.p12.specs.declared.safe_bag.SafeBagKind.{SafeBagKind}
use Rattle.p12.specs.declared.safe_bag.SafeBagKind.TheVariants as kind
use Rattle.p12.proofs.DefinitionLaws.{bags_sole}
use Rattle.p12.proofs.Fits.{Fits, left_fits, right_fits, through, value_fits}
use Rattle.p12.proofs.Paddings.{unpadded_is}
use Rattle.p12.proofs.Pbes2.{unlock_pbes2-is}
use Rattle.rekey_core.specs.Anew.{anew, drawn_for}
use Rattle.rekey_core.specs.Like.{IsAnew, KindLike}
use Rattle.rekey_core.specs.Resealing.{EachDrawn, OpensEqually}
use Rattle.rekey_core.specs.Making.{store_anew}
use Rattle.rekey_core.specs.Sealing.{BagSealed, ContentSealed}
use Rattle.rekey_core.specs.Size.{blank, blank_algorithm, blank_bag, blank_content, blank_contents, blank_key, blank_kind, blank_store, blank_text, changed_size, digest_size, sealed_size, size_in}
use Rattle.rekey_core.specs.Unlocking.{HoldsBy, Unlocking}
use Rattle.rekey_core.specs.Kinds.{MacKind, kind_for, mac_salt}
use Rattle.rekey_core.specs.declared.kinds.Kinds.{Kinds}

-- ---- ciphertexts (the lemmas of `pkcs5` on CBC, for Triple DES under a key that is given)

module _ (D : List ℕ → List ℕ) (blocks : (b : List ℕ) → length (D b) ≡ 8) (iv c : List ℕ) where
  length_opened : (k : ℕ) → 8 * k ≤ length c → length (opened D 8 iv k c) ≡ 8 * k
  unfolding opened
  length_opened zero room = omega arith
  length_opened (suc k) room =
      let m : 8 * suc k ≡ 8 * k + 8 = mul-suc 8 k in
      let before : length (block 8 k (iv ++ c)) ≡ 8 = length-take-le 8 (drop (8 * k) (iv ++ c)) (omega (arith, m, length-drop (8 * k) (iv ++ c), length-append iv c)) in
      let last : length (xor_each (D (block 8 k c)) (block 8 k (iv ++ c))) ≡ 8 = length-xor_each (D (block 8 k c)) (block 8 k (iv ++ c)) (blocks (block 8 k c) ∙ sym before) ∙ blocks (block 8 k c) in
      omega (arith, m, length-append (opened D 8 iv k c) (xor_each (D (block 8 k c)) (block 8 k (iv ++ c))), length_opened k (omega (arith, m)), last)

tdes_blocks : (key b : List ℕ) → length (inv_tdes key b) ≡ 8
unfolding inv_tdes under_keys
tdes_blocks key b = length-octets_of_bits 8 _

if_value : (t : Bool) (r : Option (List ℕ)) (m : List ℕ) → (if t then r else None) ≡ Some m → (t ≡ true) × (r ≡ Some m)
if_value true r m e = (refl, e)
if_value false r m e = absurd cc

triple_des_length : (p : Pkcs12PbeParams) (q c m : List ℕ) → unlock_pbe (PbeWithSHAAnd3KeyTripleDESCBC p) q c ≡ Some m → length c ≡ length m + pad_count 8 (length m)
unfolding unlock_pbe triple_des_text
triple_des_length p q c m e =
    let t = if_value (nat_lt 0 p.iterations && is_blocks c) (unpadded 8 (triple_des_text q p.salt p.iterations c)) m e in
    let u = both (nat_lt 0 p.iterations) (is_blocks c) t.0 in
    let v = both (nat_lt 0 (length c)) (length c % 8 == 0) u.1 in
    let whole : length c % 8 ≡ 0 = eqb-true (length c % 8) 0 v.1 in
    let all : 8 * (length c / 8) ≡ length c = omega arith in
    sym (length_opened _ (tdes_blocks _) _ c (length c / 8) (omega arith) ∙ all) ∙ ap length (sym (unpadded_is 8 _ m t.1))
    ∙ length-append m (replicate (pad_count 8 (length m)) (pad_count 8 (length m))) ∙ ap (λ (n : ℕ). length m + n) (length-replicate (pad_count 8 (length m)) (pad_count 8 (length m)))

pbes2_length : (rounds : ℕ) (salt iv q c m : List ℕ) → unlock_pbes2 (pbkdf2_sha256 rounds salt (Aes256Cbc iv)) q c ≡ Some m → length c ≡ length m + pad_count 16 (length m)
pbes2_length rounds salt iv q c m e =
    let par = pbkdf2_sha256 rounds salt (Aes256Cbc iv) in
    length_opens par q c m (opened_is par q c m (if_value _ _ m (sym (unlock_pbes2-is par q c) ∙ e)).1)

-- A text that is sealed anew is as long as it is stated.
pub sealed_length : (a : AlgorithmIdentifier) (z q c m : List ℕ) → unlock (anew a z) q c ≡ Some m → length c ≡ sealed_size a (length m)
unfolding unlock
sealed_length Sha1 z q c m e = absurd cc
sealed_length Sha256 z q c m e = absurd cc
sealed_length (PbewithSHAAnd40BitRC2CBC p) z q c m e = absurd cc
sealed_length (PbeWithSHAAnd3KeyTripleDESCBC p) z q c m e = triple_des_length (record { salt = z; iterations = p.iterations }) (bmp_password q) c m e
sealed_length (Pbes2 par) z q c m e = pbes2_length _ _ _ q c m e
sealed_length (OtherAlg p) z q c m e = absurd cc

-- ---- texts of the same length

abbrev pub Same : List ℕ → List ℕ → Type 0
Same v w = length v ≡ length w

pub el_same : (tag : ℕ) (v w : List ℕ) → Same v w → Same (el tag v) (el tag w)
el_same tag v w e = el_size tag v ∙ ap (λ (n : ℕ). 1 + length (len n) + n) e ∙ sym (el_size tag w)

pub join_same : (a b c d : List ℕ) → Same a b → Same c d → Same (a ++ c) (b ++ d)
join_same a b c d e f = omega (arith, length-append a c, length-append b d, e, f)

pub tail_same : (a c d : List ℕ) → Same c d → Same (a ++ c) (a ++ d)
tail_same a c d e = join_same a a c d refl e

pub front_same : (a b c : List ℕ) → Same a b → Same (a ++ c) (b ++ c)
front_same a b c e = join_same a b c c e refl

blank_size : (n : ℕ) → length (blank n) ≡ n
blank_size n = length-replicate n 0

algorithm_same : (a : AlgorithmIdentifier) (y z : List ℕ) → Same y z → Same (algorithm_canon (anew a y)) (algorithm_canon (anew a z))
algorithm_same Sha1 y z e = refl
algorithm_same Sha256 y z e = refl
algorithm_same (PbewithSHAAnd40BitRC2CBC p) y z e = refl
algorithm_same (OtherAlg o) y z e = refl
algorithm_same (PbeWithSHAAnd3KeyTripleDESCBC p) y z e =
    el_same 0x30 _ _ (tail_same (oid triple_des_scheme_oid) _ _ (el_same 0x30 _ _ (front_same (octets y) (octets z) (uint p.iterations) (el_same 0x04 y z e))))
algorithm_same (Pbes2 par) y z e =
    let salt : Same (drop 16 y) (drop 16 z) = length-drop 16 y ∙ omega (arith, e) ∙ sym (length-drop 16 z) in
    let iv : Same (take 16 y) (take 16 z) = length-take 16 y ∙ omega (arith, e) ∙ sym (length-take 16 z) in
    let n = uint (rounds_of par.kdf) in
    let tail = el 0x30 (prf_content HmacWithSha256) in
    let first = front_same (octets (drop 16 y)) (octets (drop 16 z)) n (el_same 0x04 _ _ salt) in
    let second = front_same (octets (drop 16 y) ++ n) (octets (drop 16 z) ++ n) [] first in
    let params = el_same 0x30 _ _ (front_same ((octets (drop 16 y) ++ n) ++ []) ((octets (drop 16 z) ++ n) ++ []) tail second) in
    let kdf = el_same 0x30 _ _ (tail_same (oid pbkdf2_oid) _ _ params) in
    let cipher = el_same 0x30 _ _ (tail_same (oid aes_256_cbc_oid) _ _ (el_same 0x04 _ _ iv)) in
    el_same 0x30 _ _ (tail_same (oid pbes2_oid) _ _ (el_same 0x30 _ _ (join_same _ _ _ _ kdf cipher)))

anew_same : (to : Kinds) (a b : AlgorithmIdentifier) (z : List ℕ) → IsAnew to z a b → Same (algorithm_canon b) (algorithm_canon (blank_algorithm (kind_for to a)))
anew_same to a b z n =
    let k = kind_for to a in
    ap (λ (x : AlgorithmIdentifier). length (algorithm_canon x)) n.algorithm ∙ algorithm_same k z (blank (drawn_for k)) (n.drawn ∙ sym (blank_size (drawn_for k)))

text_same : (to : Kinds) (q z d : List ℕ) (a b : AlgorithmIdentifier) (m : List ℕ) → IsAnew to z a b → unlock b q d ≡ Some m → Same d (blank (sealed_size (kind_for to a) (length m)))
text_same to q z d a b m n e = sealed_length (kind_for to a) z q d m (subst (λ (x : AlgorithmIdentifier). unlock x q d ≡ Some m) n.algorithm e) ∙ sym (blank_size (sealed_size (kind_for to a) (length m)))

-- ---- bags

key_same : (to : Kinds) (u : Unlocking) (q z : List ℕ) (k l : EncryptedPrivateKeyInfo) → IsAnew to z k.encryption_algorithm l.encryption_algorithm
    → OpensEqually u q k.encryption_algorithm k.encrypted_data l.encryption_algorithm l.encrypted_data → Same (encrypted_key_canon l) (encrypted_key_canon (blank_key to u k))
key_same to u q z k l n o =
    let a = k.encryption_algorithm in
    let b = kind_for to a in
    let size : blank (sealed_size b (size_in (u a k.encrypted_data))) ≡ blank (sealed_size b (length o.text)) = ap (λ (x : Option (List ℕ)). blank (sealed_size b (size_in x))) o.opens in
    let text = text_same to q z l.encrypted_data a l.encryption_algorithm o.text n o.opens_anew ∙ ap length (sym size) in
    el_same 0x30 _ _ (join_same _ _ _ _ (anew_same to a l.encryption_algorithm z n) (el_same 0x04 _ _ text))

kind_same : (to : Kinds) (u : Unlocking) (q z : List ℕ) (k l : SafeBagKind) → KindLike to u q z k l → Same (oid (kind_oid l) ++ ctx 0 (kind_canon l)) (oid (kind_oid (blank_kind to u k)) ++ ctx 0 (kind_canon (blank_kind to u k)))
kind_same to u q z (kind.CertBag c) l v = ap (λ (x : SafeBagKind). length (oid (kind_oid x) ++ ctx 0 (kind_canon x))) v.1
kind_same to u q z (kind.OtherBagKind o) l v = ap (λ (x : SafeBagKind). length (oid (kind_oid x) ++ ctx 0 (kind_canon x))) v.1
kind_same to u q z (kind.Pkcs8ShroudedKeyBag k) (kind.CertBag c) v = absurd v
kind_same to u q z (kind.Pkcs8ShroudedKeyBag k) (kind.OtherBagKind o) v = absurd v
kind_same to u q z (kind.Pkcs8ShroudedKeyBag k) (kind.Pkcs8ShroudedKeyBag l) v = tail_same (oid shrouded_key_bag_oid) _ _ (el_same 0xa0 _ _ (key_same to u q z k l v.0 v.1))

regroup : (a b c : List ℕ) → length (a ++ (b ++ c)) ≡ length (a ++ b) + length c
regroup a b c = omega (arith, length-append a (b ++ c), length-append b c, length-append a b)

pub bag_same : (to : Kinds) (u : Unlocking) (q z : List ℕ) (g h : SafeBag) → BagSealed to u q z g h → Same (bag_canon h) (bag_canon (blank_bag to u g))
bag_same to u q z g h b =
    let k = kind_same to u q z g.bag h.bag b.value in
    let s : Same (attributes_canon h.attributes) (attributes_canon g.attributes) = ap (λ (vs : List PKCS12Attribute). length (attributes_canon vs)) b.attributes in
    el_same 0x30 _ _ (regroup (oid (kind_oid h.bag)) (ctx 0 (kind_canon h.bag)) (attributes_canon h.attributes) ∙ omega (arith, k, s) ∙ sym (regroup (oid (kind_oid (blank_kind to u g.bag))) (ctx 0 (kind_canon (blank_kind to u g.bag))) (attributes_canon g.attributes)))

bags_joined : (to : Kinds) (u : Unlocking) (q : List ℕ) (gs hs : List SafeBag) (d : List ℕ) → EachDrawn (BagSealed to u q) gs hs d → Same (joined (map bag_canon hs)) (joined (map bag_canon (map (blank_bag to u) gs)))
bags_joined to u q [] [] d s = refl
bags_joined to u q [] (h ∷ hs) d s = absurd s
bags_joined to u q (g ∷ gs) [] d s = absurd s
bags_joined to u q (g ∷ gs) (h ∷ hs) d (z, rest, e, b, s) = join_same _ _ _ _ (bag_same to u q z g h b) (bags_joined to u q gs hs rest s)

pub bags_same : (to : Kinds) (u : Unlocking) (q : List ℕ) (gs hs : List SafeBag) (d : List ℕ) → EachDrawn (BagSealed to u q) gs hs d → Same (bags_canon hs) (blank_text to u gs)
bags_same to u q gs hs d s = el_same 0x30 _ _ (bags_joined to u q gs hs d s)

-- ---- contents

some_is : (x y : List ℕ) → Some x ≡ Some y → x ≡ y
some_is x y e = cc

-- a content holds bags in one way
pub holds_sole : (u : Unlocking) (c : ContentInfo) (gs hs : List SafeBag) → HoldsBy u c gs → HoldsBy u c hs → gs ≡ hs
holds_sole u c gs hs (m, e, b) (n, f, d) = bags_sole m gs hs b (subst (λ (x : List ℕ). IsBags x hs) (some_is n m (sym f ∙ e)) d)

content_same_of : (to : Kinds) (u : Unlocking) (q d : List ℕ) (c e : ContentInfo) → (s : ContentSealed to u q d c e) → Same (content_canon e) (content_canon (blank_content to u c s.bags))
content_same_of to u q d (content.Data v) (content.Data w) s =
    let text : Same w (blank_text to u s.bags) = ap length (some_is w (bags_canon s.bags_anew) s.opens) ∙ bags_same to u q s.bags s.bags_anew s.of_keys s.sealed in
    el_same 0x30 _ _ (tail_same (oid data_oid) _ _ (el_same 0xa0 _ _ (el_same 0x04 _ _ text)))
content_same_of to u q d (content.EncryptedData v) (content.EncryptedData w) s =
    let i = v.encrypted_content_info in
    let j = w.encrypted_content_info in
    let a = i.content_encryption_algorithm in
    let text = text_same to q s.own j.encrypted_content a j.content_encryption_algorithm (bags_canon s.bags_anew) s.form s.opens
    ∙ ap (λ (n : ℕ). length (blank (sealed_size (kind_for to a) n))) (bags_same to u q s.bags s.bags_anew s.of_keys s.sealed) in
    let info = el_same 0x30 _ _ (tail_same (oid data_oid) _ _ (join_same _ _ _ _ (anew_same to a j.content_encryption_algorithm s.own s.form) (el_same 0x80 _ _ text))) in
    el_same 0x30 _ _ (tail_same (oid encrypted_data_oid) _ _ (el_same 0xa0 _ _ (el_same 0x30 _ _ (tail_same (uint 0) _ _ info))))
content_same_of to u q d (content.Data v) (content.EncryptedData w) s = absurd s.form
content_same_of to u q d (content.Data v) (content.OtherContext o) s = absurd s.form
content_same_of to u q d (content.EncryptedData v) (content.Data w) s = absurd s.form
content_same_of to u q d (content.EncryptedData v) (content.OtherContext o) s = absurd s.form
content_same_of to u q d (content.OtherContext o) e s = absurd s.form

pub content_same : (to : Kinds) (u : Unlocking) (q d : List ℕ) (c e : ContentInfo) (gs : List SafeBag) → ContentSealed to u q d c e → HoldsBy u c gs → Same (content_canon e) (content_canon (blank_content to u c gs))
content_same to u q d c e gs s h = content_same_of to u q d c e s ∙ ap (λ (x : List SafeBag). length (content_canon (blank_content to u c x))) (holds_sole u c s.bags gs s.holds h)

contents_joined : (to : Kinds) (u : Unlocking) (q : List ℕ) (cs es : List ContentInfo) (gss : List (List SafeBag)) (d : List ℕ) → EachDrawn (ContentSealed to u q) cs es d → Each (HoldsBy u) cs gss
    → Same (joined (map content_canon es)) (joined (map content_canon (blank_contents to u cs gss)))
contents_joined to u q [] [] gss d s h = refl
contents_joined to u q [] (e ∷ es) gss d s h = absurd s
contents_joined to u q (c ∷ cs) [] gss d s h = absurd s
contents_joined to u q (c ∷ cs) (e ∷ es) [] d s h = absurd h
contents_joined to u q (c ∷ cs) (e ∷ es) (gs ∷ gss) d (z, rest, f, b, s) h = join_same _ _ _ _ (content_same to u q z c e gs b h.0) (contents_joined to u q cs es gss rest s h.1)

pub contents_same : (to : Kinds) (u : Unlocking) (q : List ℕ) (cs es : List ContentInfo) (gss : List (List SafeBag)) (d : List ℕ) → EachDrawn (ContentSealed to u q) cs es d → Each (HoldsBy u) cs gss
    → Same (contents_canon es) (contents_canon (blank_contents to u cs gss))
contents_same to u q cs es gss d s h = el_same 0x30 _ _ (contents_joined to u q cs es gss d s h)

-- ---- stores

digest_length : (a : AlgorithmIdentifier) (q salt v : List ℕ) (r : ℕ) → is_mac_digest a ≡ true → length (mac_value a q salt r v) ≡ digest_size a
unfolding mac_value mac_under_in
digest_length Sha1 q salt v r e = length-hmac sha1 64 20 length-sha1 _ v
digest_length Sha256 q salt v r e = length-hmac sha256 64 32 length-sha256 _ v
digest_length (PbewithSHAAnd40BitRC2CBC p) q salt v r e = absurd cc
digest_length (PbeWithSHAAnd3KeyTripleDESCBC p) q salt v r e = absurd cc
digest_length (Pbes2 par) q salt v r e = absurd cc
digest_length (OtherAlg o) q salt v r e = absurd cc

-- The text of a store that is made of contents that are sealed anew is as long as it is stated.
pub store_size : (to : Kinds) (u : Unlocking) (q : List ℕ) (version : ℕ) (m : MacKind) (cs es : List ContentInfo) (gss : List (List SafeBag)) (d salt : List ℕ) → is_mac_digest m.digest ≡ true
    → EachDrawn (ContentSealed to u q) cs es d → Each (HoldsBy u) cs gss → length salt ≡ mac_salt to → length (store_canon (store_anew version m q salt es)) ≡ changed_size to version m u cs gss
unfolding changed_size mac_of
store_size to u q version m cs es gss d salt known s h long =
    let a = m.digest in
    let n = m.count in
    let text = contents_same to u q cs es gss d s h in
    let digest : Same (mac_value a (bmp_password q) salt n (contents_canon es)) (blank (digest_size a)) = digest_length a (bmp_password q) salt (contents_canon es) n known ∙ sym (blank_size (digest_size a)) in
    let outer = el_same 0x30 _ _ (tail_same (oid data_oid) _ _ (el_same 0xa0 _ _ (el_same 0x04 _ _ text))) in
    let info = el_same 0x30 _ _ (tail_same (algorithm_canon a) _ _ (el_same 0x04 _ _ digest)) in
    let mac = el_same 0x30 _ _ (join_same _ _ _ _ info (front_same _ _ (uint n) (el_same 0x04 salt (blank (mac_salt to)) (long ∙ sym (blank_size (mac_salt to)))))) in
    el_same 0x30 _ _ (tail_same (uint version) _ _ (join_same _ _ _ _ outer mac))

-- ---- what is too long in a part is too long in the whole

sealed_most : (a : AlgorithmIdentifier) (n : ℕ) → openable a ≡ true → n ≤ sealed_size a n
sealed_most Sha1 n e = absurd cc
sealed_most Sha256 n e = absurd cc
sealed_most (PbewithSHAAnd40BitRC2CBC p) n e = absurd cc
sealed_most (PbeWithSHAAnd3KeyTripleDESCBC p) n e = omega arith
sealed_most (Pbes2 par) n e = omega arith
sealed_most (OtherAlg o) n e = absurd cc

in_el : (tag : ℕ) (v : List ℕ) → Fits v (el tag v)
in_el tag v = value_fits tag v (el tag v) refl

in_front : (x y : List ℕ) → Fits x (x ++ y)
in_front x y = left_fits x y (x ++ y) refl

in_back : (x y : List ℕ) → Fits y (x ++ y)
in_back x y = right_fits x y (x ++ y) refl

pub blank_data_size : (to : Kinds) (u : Unlocking) (k : EncryptedPrivateKeyInfo) (key : List ℕ) → u k.encryption_algorithm k.encrypted_data ≡ Some key
    → length (blank_key to u k).encrypted_data ≡ sealed_size (kind_for to k.encryption_algorithm) (length key)
blank_data_size to u k key e = blank_size _ ∙ ap (λ (x : Option (List ℕ)). sealed_size (kind_for to k.encryption_algorithm) (size_in x)) e

-- what is sealed of a key stands in its bag
pub key_in : (to : Kinds) (u : Unlocking) (g : SafeBag) (k : EncryptedPrivateKeyInfo) → g.bag ≡ kind.Pkcs8ShroudedKeyBag k → length (blank_key to u k).encrypted_data ≤ length (bag_canon (blank_bag to u g))
key_in to u g k is =
    let v = (blank_key to u k).encrypted_data in
    let e = encrypted_key_canon (blank_key to u k) in
    let inner = ctx 0 e ++ attributes_canon g.attributes in
    let whole : bag_canon (blank_bag to u g) ≡ seq (oid shrouded_key_bag_oid ++ inner) = ap (λ (x : SafeBagKind). bag_canon (record { bag = blank_kind to u x; attributes = g.attributes })) is in
    let one = through v (octets v) _ (in_el 0x04 v) (in_back (algorithm_canon (blank_algorithm (kind_for to k.encryption_algorithm))) (octets v)) in
    let two = through v _ (ctx 0 e) (through v _ e one (in_el 0x30 _)) (in_el 0xa0 e) in
    let three = through v _ (oid shrouded_key_bag_oid ++ inner) (through v _ inner two (in_front (ctx 0 e) (attributes_canon g.attributes))) (in_back (oid shrouded_key_bag_oid) inner) in
    omega (arith, ap length whole, through v _ (seq (oid shrouded_key_bag_oid ++ inner)) three (in_el 0x30 _))

bag_joined : (to : Kinds) (u : Unlocking) (before : List SafeBag) (g : SafeBag) (back : List SafeBag) → Fits (bag_canon (blank_bag to u g)) (joined (map bag_canon (map (blank_bag to u) (before ++ g ∷ back))))
bag_joined to u [] g back = in_front _ _
bag_joined to u (h ∷ before) g back = through _ _ _ (bag_joined to u before g back) (in_back _ _)

pub bag_in : (to : Kinds) (u : Unlocking) (before : List SafeBag) (g : SafeBag) (back gs : List SafeBag) → gs ≡ before ++ g ∷ back → length (bag_canon (blank_bag to u g)) ≤ length (blank_text to u gs)
bag_in to u before g back gs e = let k = through _ _ _ (bag_joined to u before g back) (in_el 0x30 _) in subst (λ (l : List SafeBag). length (bag_canon (blank_bag to u g)) ≤ length (blank_text to u l)) (sym e) k

-- the text of bags stands in their content, and so does what is sealed of it
pub plain_in : (to : Kinds) (u : Unlocking) (v : List ℕ) (gs : List SafeBag) → length (blank_text to u gs) ≤ length (content_canon (blank_content to u (content.Data v) gs))
plain_in to u v gs =
    let t = blank_text to u gs in
    through t _ _ (through t _ (oid data_oid ++ ctx 0 (octets t)) (through t _ (ctx 0 (octets t)) (in_el 0x04 t) (in_el 0xa0 _)) (in_back (oid data_oid) _)) (in_el 0x30 _)

pub sealed_in : (to : Kinds) (u : Unlocking) (d : EncryptedData) (gs : List SafeBag)
    → sealed_size (kind_for to d.encrypted_content_info.content_encryption_algorithm) (length (blank_text to u gs)) ≤ length (content_canon (blank_content to u (content.EncryptedData d) gs))
sealed_in to u d gs =
    let a = kind_for to d.encrypted_content_info.content_encryption_algorithm in
    let n = sealed_size a (length (blank_text to u gs)) in
    let t = blank n in
    let i = oid data_oid ++ (algorithm_canon (blank_algorithm a) ++ pctx 0 t) in
    let one = through t _ i (through t _ (algorithm_canon (blank_algorithm a) ++ pctx 0 t) (in_el 0x80 t) (in_back (algorithm_canon (blank_algorithm a)) _)) (in_back (oid data_oid) _) in
    let two = through t _ (seq (uint 0 ++ seq i)) (through t _ (uint 0 ++ seq i) (through t _ (seq i) one (in_el 0x30 i)) (in_back (uint 0) _)) (in_el 0x30 _) in
    let three = through t _ (seq (oid encrypted_data_oid ++ ctx 0 (seq (uint 0 ++ seq i)))) (through t _ (oid encrypted_data_oid ++ ctx 0 (seq (uint 0 ++ seq i))) (through t _ _ two (in_el 0xa0 _)) (in_back (oid encrypted_data_oid) _)) (in_el 0x30 _) in
    omega (arith, blank_size n, three)

pub text_in_sealed : (to : Kinds) (u : Unlocking) (d : EncryptedData) (gs : List SafeBag) → openable (kind_for to d.encrypted_content_info.content_encryption_algorithm) ≡ true
    → length (blank_text to u gs) ≤ length (content_canon (blank_content to u (content.EncryptedData d) gs))
text_in_sealed to u d gs o =
    let a = d.encrypted_content_info.content_encryption_algorithm in
    omega (arith, sealed_most (kind_for to a) (length (blank_text to u gs)) o, sealed_in to u d gs)

content_joined : (to : Kinds) (u : Unlocking) (before : List ContentInfo) (c : ContentInfo) (back : List ContentInfo) (first : List (List SafeBag)) (gs : List SafeBag) (more : List (List SafeBag))
    → Each (HoldsBy u) before first → Fits (content_canon (blank_content to u c gs)) (joined (map content_canon (blank_contents to u (before ++ c ∷ back) (first ++ gs ∷ more))))
content_joined to u [] c back [] gs more h = in_front _ _
content_joined to u [] c back (f ∷ first) gs more h = absurd h
content_joined to u (b ∷ before) c back [] gs more h = absurd h
content_joined to u (b ∷ before) c back (f ∷ first) gs more h = through _ _ _ (content_joined to u before c back first gs more h.1) (in_back _ _)

pub content_in : (to : Kinds) (u : Unlocking) (before : List ContentInfo) (c : ContentInfo) (back cs : List ContentInfo) (first : List (List SafeBag)) (gs : List SafeBag) (more gss : List (List SafeBag))
    → Each (HoldsBy u) before first → cs ≡ before ++ c ∷ back → gss ≡ first ++ gs ∷ more → length (content_canon (blank_content to u c gs)) ≤ length (contents_canon (blank_contents to u cs gss))
content_in to u before c back cs first gs more gss h e f =
    let k = through _ _ _ (content_joined to u before c back first gs more h) (in_el 0x30 _) in
    subst (λ (l : List ContentInfo). length (content_canon (blank_content to u c gs)) ≤ length (contents_canon (blank_contents to u l gss))) (sym e)
    (subst (λ (l : List (List SafeBag)). length (content_canon (blank_content to u c gs)) ≤ length (contents_canon (blank_contents to u (before ++ c ∷ back) l))) (sym f) k)

pub contents_in : (to : Kinds) (version : ℕ) (m : MacKind) (u : Unlocking) (cs : List ContentInfo) (gss : List (List SafeBag)) → length (contents_canon (blank_contents to u cs gss)) ≤ changed_size to version m u cs gss
unfolding changed_size
contents_in to version m u cs gss =
    let t = contents_canon (blank_contents to u cs gss) in
    let c = content_canon (content.Data t) in
    let one = through t _ c (through t _ (oid data_oid ++ ctx 0 (octets t)) (through t _ (ctx 0 (octets t)) (in_el 0x04 t) (in_el 0xa0 _)) (in_back (oid data_oid) _)) (in_el 0x30 _) in
    through t _ (store_canon (blank_store to version m u cs gss)) (through t _ _ (through t c _ one (in_front c _)) (in_back (uint version) _)) (in_el 0x30 _)
