-- Parts that are sealed anew have texts.
use Rattle.std.proofs.Common.{◌≡◌, inr, ℕ, ◌-◌, ◌^◌, ◌≤◌, List, [], ◌∷◌, ◌++◌, length, map, take, drop, Some, refl, sym, subst, ◌∙◌, arith, append-nil}
use Rattle.std.proofs.lemmas.List.{length-drop, length-take}
use Rattle.std.proofs.lemmas.List.Elements.{All-nil, All-cons}
use Rattle.std.specs.Prelude.{All}
use Rattle.asn1_core.specs.Der.{IsShort, seq, octets, ctx, joined, null, shortest, uint}
use Rattle.asn1_core.specs.Oid.{oid_of}
use Rattle.asn1_core.specs.Sets.{IsRead}
use Rattle.asn1_core.specs.Fields.{OrNothing}
use Rattle.asn1_core.specs.Texts.{Many, Perhaps, Uint}
use Rattle.pkcs5.specs.Generation.{pbkdf2_sha256}
use Rattle.pkcs5.specs.Identifiers.{pbes2_oid}
use Rattle.pkcs5.specs.Kdf.{IsKdf}
use Rattle.pkcs5.specs.Kinds.{rounds_of}
use Rattle.pkcs5.specs.Parameters.{AreParameters, parameters_content}
use Rattle.pkcs5.specs.ParametersLaws.{parameters_canonical, parameters_spelled}
use Rattle.pkcs5.specs.declared.pbes2.encryption_scheme.EncryptionScheme.TheVariants.{Aes256Cbc}
use Rattle.pkcs5.specs.declared.pbes2.kdf.Kdf.{Kdf}
use Rattle.pkcs5.specs.declared.pbes2.kdf.Kdf.TheVariants.{Pbkdf2, Scrypt}
use Rattle.pkcs5.specs.declared.pbes2.parameters.Parameters.{Parameters}
use Rattle.p12.specs.AlgorithmIdentifier.{AlgorithmCase, AlgorithmText, ParamsText, unlock}
use Rattle.p12.specs.Canonical.{WritableBag, algorithm_canon, bags_canon, content_canon, contents_canon, encrypted_data_canon, encrypted_key_canon, params_canon, store_canon}
use Rattle.p12.specs.ContentInfo.{ContentCase, ContentText, IsContents}
use Rattle.p12.specs.Identifiers.{data_oid, encrypted_data_oid, sha256_oid, triple_des_scheme_oid}
use Rattle.p12.specs.MacData.{MacText, mac_of, mac_value}
use Rattle.p12.specs.Pfx.{IsStore, PfxText}
use Rattle.p12.specs.SafeBag.{BagText}
use Rattle.p12.proofs.Again.{bag_writes, encrypted_content_of, encrypted_data_of, encrypted_key_of, known, one_left, params_again, store_again}
use Rattle.p12.specs.declared.algorithm_identifier.AlgorithmIdentifier.{AlgorithmIdentifier}
use Rattle.p12.specs.declared.algorithm_identifier.AlgorithmIdentifier.TheVariants.{Sha1, Sha256, PbewithSHAAnd40BitRC2CBC, PbeWithSHAAnd3KeyTripleDESCBC, Pbes2, OtherAlg}
use Rattle.p12.specs.declared.attribute.PKCS12Attribute.{PKCS12Attribute}
use Rattle.p12.specs.declared.content_info.ContentInfo.{ContentInfo}
use Rattle.p12.specs.declared.content_info.ContentInfo.TheVariants as content
use Rattle.p12.specs.declared.encrypted_private_key_info.EncryptedPrivateKeyInfo.{EncryptedPrivateKeyInfo}
use Rattle.p12.specs.declared.mac_data.MacData.{MacData}
use Rattle.p12.specs.declared.pfx.PFX.{PFX}
use Rattle.p12.specs.declared.pkcs12_pbe_params.Pkcs12PbeParams.{Pkcs12PbeParams}
use Rattle.p12.specs.declared.safe_bag.SafeBag.{SafeBag}
use Rattle.p12.specs.declared.safe_bag.SafeBagKind.{SafeBagKind}
use Rattle.p12.specs.declared.safe_bag.SafeBagKind.TheVariants as kind
use Rattle.pkcs12_kdf.specs.Password.{bmp_password}
use Rattle.rekey_core.specs.Anew.{anew, drawn_for}
use Rattle.rekey_core.specs.Unlocking.{Unlocking}
use Rattle.rekey_core.specs.Like.{IsAnew, KindLike}
use Rattle.rekey_core.specs.Resealing.{EachDrawn}
use Rattle.rekey_core.specs.Making.{store_anew}
use Rattle.rekey_core.specs.Sealing.{BagSealed, ContentSealed}
use Rattle.rekey_core.specs.Kinds.{count_for, digest_for, kind_for, mac_for, renewed, renewed_mac}
use Rattle.rekey_core.specs.declared.kinds.Kinds.{Kinds}
use Rattle.rekey_core.specs.declared.kinds.Kinds.TheVariants.{Kept, Renewed}
use Rattle.rekey_core.specs.declared.kinds.Rounds.{Rounds}

-- ---- algorithms

rounds_fit : (k : Kdf) → IsKdf k → rounds_of k ≤ 4294967295
rounds_fit (Pbkdf2 p) w = w.1
rounds_fit (Scrypt p) w = omega arith

triple_des_text : (p : Pkcs12PbeParams) (q z : List ℕ) → ParamsText q p → IsRead ParamsText (record { salt = z; iterations = p.iterations })
triple_des_text p q z (w, (x, y, r, s, e), e0) = (seq (octets z ++ y), (octets z ++ y, (octets z, y, (z, refl, refl), s, refl), refl))

pbes2_text : (par : Parameters) (z : List ℕ) → AreParameters par → length z ≡ 32 → AreParameters (pbkdf2_sha256 (rounds_of par.kdf) (drop 16 z) (Aes256Cbc (take 16 z)))
pbes2_text par z w l = ((omega (arith, l, length-drop 16 z), rounds_fit par.kdf w.0, tt), length-take 16 z ∙ omega (arith, l))

-- The algorithm that takes the place of one has a text.
pub algorithm_anew : (a : AlgorithmIdentifier) (z t key c m : List ℕ) → unlock (anew a z) key c ≡ Some m → length z ≡ drawn_for a → AlgorithmText t a → AlgorithmText (algorithm_canon (anew a z)) (anew a z)
unfolding unlock
algorithm_anew Sha1 z t key c m o l r = absurd cc
algorithm_anew Sha256 z t key c m o l r = absurd cc
algorithm_anew (PbewithSHAAnd40BitRC2CBC p) z t key c m o l r = absurd cc
algorithm_anew (PbeWithSHAAnd3KeyTripleDESCBC p) z t key c m o l (w, (x, q, k, i, (is, r), e), e0) =
    let v : Pkcs12PbeParams = record { salt = z; iterations = p.iterations } in
    known AlgorithmCase k triple_des_scheme_oid (params_canon v) (PbeWithSHAAnd3KeyTripleDESCBC v) is (is, params_again v (triple_des_text p q z r))
algorithm_anew (Pbes2 par) z t key c m o l (w, (x, q, k, i, (is, r), e), e0) =
    let v = pbkdf2_sha256 (rounds_of par.kdf) (drop 16 z) (Aes256Cbc (take 16 z)) in
    known AlgorithmCase k pbes2_oid (seq (parameters_content v)) (Pbes2 v) is (is, parameters_canonical v (pbes2_text par z ((parameters_spelled q par).0 r).0 l))
algorithm_anew (OtherAlg v) z t key c m o l r = absurd cc

-- And so has one of a kind that is stated.
renewed_text : (r : Rounds) (z : List ℕ) → length z ≡ 32 → AlgorithmText (algorithm_canon (anew (renewed r.count) z)) (anew (renewed r.count) z)
renewed_text r z l =
    let v = pbkdf2_sha256 r.count (drop 16 z) (Aes256Cbc (take 16 z)) in
    known AlgorithmCase (oid_of pbes2_oid refl) pbes2_oid (seq (parameters_content v)) (Pbes2 v) refl
    (refl, parameters_canonical v ((omega (arith, l, length-drop 16 z), omega (arith, r.fits), tt), length-take 16 z ∙ omega (arith, l)))

kind_text : (to : Kinds) (a : AlgorithmIdentifier) (z t key c m : List ℕ) → unlock (anew (kind_for to a) z) key c ≡ Some m → length z ≡ drawn_for (kind_for to a) → AlgorithmText t a
    → AlgorithmText (algorithm_canon (anew (kind_for to a) z)) (anew (kind_for to a) z)
kind_text Kept a z t key c m o l r = algorithm_anew a z t key c m o l r
kind_text (Renewed rounds) a z t key c m o l r = renewed_text rounds z l

algorithm_sealed : (to : Kinds) (a b : AlgorithmIdentifier) (z t key c m : List ℕ) → unlock b key c ≡ Some m → IsAnew to z a b → AlgorithmText t a → AlgorithmText (algorithm_canon b) b
algorithm_sealed to a b z t key c m o n r =
    subst (λ (x : AlgorithmIdentifier). AlgorithmText (algorithm_canon x) x) (sym n.algorithm) (kind_text to a z t key c m (subst (λ (x : AlgorithmIdentifier). unlock x key c ≡ Some m) n.algorithm o) n.drawn r)

-- ---- bags

key_bag_read : (to : Kinds) (z : List ℕ) (k l : EncryptedPrivateKeyInfo) (vs : List PKCS12Attribute) (t q m : List ℕ) → unlock l.encryption_algorithm q l.encrypted_data ≡ Some m → IsAnew to z k.encryption_algorithm l.encryption_algorithm
    → BagText t (record { bag = kind.Pkcs8ShroudedKeyBag k; attributes = vs }) → IsRead BagText (record { bag = kind.Pkcs8ShroudedKeyBag l; attributes = vs })
key_bag_read to z k l vs t q m opens new (w, (a, b, i, o, (x, y, (u, (is, (w2, (x3, y3, alg, rest, e5), e6)), e3), (x2, y2, s, e4, e2), e1), e), e0) =
    let key = encrypted_key_canon l in
    (seq (a ++ (ctx 0 key ++ y)), (a ++ (ctx 0 key ++ y), (a, ctx 0 key ++ y, i, o, (ctx 0 key, y, (key, (is, encrypted_key_of l (algorithm_sealed to k.encryption_algorithm l.encryption_algorithm z x3 q l.encrypted_data m opens new alg)), refl), (x2, y2, s, e4, e2), refl), refl), refl))

-- the same bag by its parts
by_parts : (t : List ℕ) (g : SafeBag) (k : SafeBagKind) (vs : List PKCS12Attribute) → g.bag ≡ k → vs ≡ g.attributes → BagText t g → BagText t (record { bag = k; attributes = vs })
by_parts t g k vs is same r =
    subst (λ (ws : List PKCS12Attribute). BagText t (record { bag = k; attributes = ws })) (sym same) (subst (λ (x : SafeBagKind). BagText t (record { bag = x; attributes = g.attributes })) is r)

bag_read : (to : Kinds) (u : Unlocking) (q z : List ℕ) (g : SafeBag) (k l : SafeBagKind) (vs : List PKCS12Attribute) → g.bag ≡ k → vs ≡ g.attributes → KindLike to u q z k l → IsRead BagText g → IsRead BagText (record { bag = l; attributes = vs })
bag_read to u q z g (kind.CertBag c) l vs is same v (t, r) = (t, by_parts t g l vs (is ∙ sym v.1) same r)
bag_read to u q z g (kind.OtherBagKind o) l vs is same v (t, r) = (t, by_parts t g l vs (is ∙ sym v.1) same r)
bag_read to u q z g (kind.Pkcs8ShroudedKeyBag k) (kind.CertBag c) vs is same v r = absurd v
bag_read to u q z g (kind.Pkcs8ShroudedKeyBag k) (kind.OtherBagKind o) vs is same v r = absurd v
bag_read to u q z g (kind.Pkcs8ShroudedKeyBag k) (kind.Pkcs8ShroudedKeyBag l) vs is same v (t, r) =
    key_bag_read to z k l vs t q v.1.text v.1.opens_anew v.0 (by_parts t g (kind.Pkcs8ShroudedKeyBag k) vs is same r)

pub bag_sealed : (to : Kinds) (u : Unlocking) (q z : List ℕ) (g h : SafeBag) → BagSealed to u q z g h → IsRead BagText g → IsRead BagText h
bag_sealed to u q z g h b r = bag_read to u q z g g.bag h.bag h.attributes refl b.attributes b.value r

pub bags_sealed : (to : Kinds) (u : Unlocking) (q : List ℕ) (gs hs : List SafeBag) (d t : List ℕ) → EachDrawn (BagSealed to u q) gs hs d → Many BagText t gs → IsRead (Many BagText) hs
bags_sealed to u q [] [] d t s m = ([], refl)
bags_sealed to u q [] (h ∷ hs) d t s m = absurd s
bags_sealed to u q (g ∷ gs) [] d t s m = absurd s
bags_sealed to u q (g ∷ gs) (h ∷ hs) d t (z, rest, e, b, s) (x, y, r, m, f) =
    let one = bag_sealed to u q z g h b (x, r) in
    let more = bags_sealed to u q gs hs rest y s m in
    (one.0 ++ more.0, (one.0, more.0, one.1, more.1, refl))

-- Bags that have a text can be written.
pub bags_write : (hs : List SafeBag) (t : List ℕ) → Many BagText t hs → All WritableBag hs
bags_write [] t m = All-nil WritableBag
bags_write (h ∷ hs) t (x, y, r, m, f) = All-cons WritableBag h hs (bag_writes h (x, r)) (bags_write hs y m)

-- ---- contents

pub content_text : (to : Kinds) (u : Unlocking) (q d : List ℕ) (c e : ContentInfo) → ContentSealed to u q d c e → IsRead ContentText c → ContentText (content_canon e) e
content_text to u q d (content.Data v) (content.Data w) s r = known ContentCase (oid_of data_oid refl) data_oid (ctx 0 (octets w)) (content.Data w) refl (refl, (octets w, (w, refl, refl), refl))
content_text to u q d (content.EncryptedData v) (content.EncryptedData w) s (t, (x, (a, b, k, o, (is, (y, (u2, (x1, y1, r1, (x2, y2, (u3, (x3, y3, r3, (x4, y4, r4, s4, e4), e33), e32), e22, e21), e11), e10), e1)), e), e0)) =
    let j = w.encrypted_content_info in
    let alg = algorithm_sealed to v.encrypted_content_info.content_encryption_algorithm j.content_encryption_algorithm s.own x4 q j.encrypted_content (bags_canon s.bags_anew) s.opens s.form r4 in
    known ContentCase (oid_of encrypted_data_oid refl) encrypted_data_oid (ctx 0 (encrypted_data_canon w)) (content.EncryptedData w) refl
    (refl, (encrypted_data_canon w, encrypted_data_of w (encrypted_content_of j alg), refl))
content_text to u q d (content.Data v) (content.EncryptedData w) s r = absurd s.form
content_text to u q d (content.Data v) (content.OtherContext o) s r = absurd s.form
content_text to u q d (content.EncryptedData v) (content.Data w) s r = absurd s.form
content_text to u q d (content.EncryptedData v) (content.OtherContext o) s r = absurd s.form
content_text to u q d (content.OtherContext o) e s r = absurd s.form

pub contents_many : (to : Kinds) (u : Unlocking) (q : List ℕ) (cs es : List ContentInfo) (d t : List ℕ) → EachDrawn (ContentSealed to u q) cs es d → Many ContentText t cs → Many ContentText (joined (map content_canon es)) es
contents_many to u q [] [] d t s m = refl
contents_many to u q [] (e ∷ es) d t s m = absurd s
contents_many to u q (c ∷ cs) [] d t s m = absurd s
contents_many to u q (c ∷ cs) (e ∷ es) d t (z, rest, f, b, s) (x, y, r, m, g) =
    (content_canon e, joined (map content_canon es), content_text to u q z c e b (x, r), contents_many to u q cs es rest y s m, refl)

-- Contents that are sealed anew are listed by their canonical text.
pub contents_list : (to : Kinds) (u : Unlocking) (q : List ℕ) (v : List ℕ) (cs es : List ContentInfo) (d : List ℕ) → IsContents v cs → EachDrawn (ContentSealed to u q) cs es d → IsShort (contents_canon es) → IsContents (contents_canon es) es
unfolding IsContents
contents_list to u q v cs es d ((w, m, e), short) s h = ((joined (map content_canon es), contents_many to u q cs es d w s m, refl), h)

-- ---- the store

mac_text : (m : MacData) (digest salt : List ℕ) → IsRead MacText m → IsRead MacText (record { mac = record { digest_algorithm = m.mac.digest_algorithm; digest = digest }; salt = salt; iterations = m.iterations })
mac_text m digest salt (t, (w, (x, y, (w1, (x1, y1, r1, s1, e11), e10), (x2, y2, s2, s3, e2), e1), e0)) =
    let d = seq (x1 ++ octets digest) in
    (seq (d ++ (octets salt ++ y2)), (d ++ (octets salt ++ y2), (d, octets salt ++ y2, (x1 ++ octets digest, (x1, octets digest, r1, (octets digest, [], (digest, refl, refl), refl, sym (append-nil (octets digest))), refl), refl), (octets salt, y2, (salt, refl, refl), s3, refl), refl), refl))

sha256_text : AlgorithmText (algorithm_canon Sha256) Sha256
sha256_text = known AlgorithmCase (oid_of sha256_oid refl) sha256_oid null Sha256 refl (refl, inr refl)

renewed_mac_text : (r : Rounds) (digest salt : List ℕ) → IsRead MacText (record { mac = record { digest_algorithm = Sha256; digest = digest }; salt = salt; iterations = r.count })
renewed_mac_text r digest salt =
    let m : MacData = record { mac = record { digest_algorithm = Sha256; digest = digest }; salt = salt; iterations = r.count } in
    let x = algorithm_canon Sha256 in
    let y = uint r.count in
    let d = seq (x ++ octets digest) in
    (seq (d ++ (octets salt ++ y)), (d ++ (octets salt ++ y), (d, octets salt ++ y, (x ++ octets digest, (x, octets digest, sha256_text, (octets digest, [], (digest, refl, refl), refl, sym (append-nil (octets digest))), refl), refl), (octets salt, y, (salt, refl, refl), one_left (OrNothing 1 (Uint (2 ^ 32 - 1))) m (λ m. m.iterations) y (inr (shortest r.count, (omega (arith, r.fits), refl), refl)), refl), refl), refl))

kind_mac : (to : Kinds) (m : MacData) (digest salt : List ℕ) → IsRead MacText m → IsRead MacText (record { mac = record { digest_algorithm = digest_for to m; digest = digest }; salt = salt; iterations = count_for to m })
kind_mac Kept m digest salt r = mac_text m digest salt r
kind_mac (Renewed rounds) m digest salt r = renewed_mac_text rounds digest salt

-- the store of this version, whose text is x, and of a MAC that has a text
store_of : (version : ℕ) (x : List ℕ) (m : MacData) (es : List ContentInfo) → Uint 0xff x version → IsRead MacText m
    → IsRead PfxText (record { version = version; auth_safe = content.Data (contents_canon es); mac_data = Some m })
store_of version x m es r mac =
    let plain = content_canon (content.Data (contents_canon es)) in
    let k = known ContentCase (oid_of data_oid refl) data_oid (ctx 0 (octets (contents_canon es))) (content.Data (contents_canon es)) refl (refl, (octets (contents_canon es), (contents_canon es, refl, refl), refl)) in
    (seq (x ++ (plain ++ mac.0)), (x ++ (plain ++ mac.0), (x, plain ++ mac.0, r, (plain, mac.0, k, (mac.0, [], mac.1, refl, sym (append-nil mac.0)), refl), refl), refl))

pub store_text : (to : Kinds) (b v : List ℕ) (s : PFX) (m : MacData) (q salt : List ℕ) (es : List ContentInfo) → IsStore b s → s.auth_safe ≡ content.Data v → s.mac_data ≡ Some m
    → IsShort (store_canon (store_anew s.version (mac_for to m) q salt es)) → IsStore (store_canon (store_anew s.version (mac_for to m) q salt es)) (store_anew s.version (mac_for to m) q salt es)
unfolding IsStore mac_of
store_text to b v s m q salt es ((w, (x, y, r, (x2, y2, c, (x3, y3, n, e3, e2), e1), e), e0), short) is has h =
    let mac = kind_mac to m (mac_value (digest_for to m) (bmp_password q) salt (count_for to m) (contents_canon es)) salt (x3, subst (Perhaps MacText x3) has n) in
    (store_again (store_anew s.version (mac_for to m) q salt es) (store_of s.version x _ es r mac), h)

-- A store of renewed kinds has a text, whatever the old one was.
pub renewed_store : (rounds : Rounds) (version : ℕ) (q salt : List ℕ) (es : List ContentInfo) → version ≤ 255
    → IsShort (store_canon (store_anew version (renewed_mac rounds) q salt es)) → IsStore (store_canon (store_anew version (renewed_mac rounds) q salt es)) (store_anew version (renewed_mac rounds) q salt es)
unfolding IsStore mac_of
renewed_store rounds version q salt es small h =
    let mac = renewed_mac_text rounds (mac_value Sha256 (bmp_password q) salt rounds.count (contents_canon es)) salt in
    (store_again (store_anew version (renewed_mac rounds) q salt es) (store_of version (uint version) (mac_of Sha256 (bmp_password q) (contents_canon es) salt rounds.count) es (shortest version, (omega (arith, small), refl), refl) mac), h)
