-- A part of a text is no longer than the whole.
use Rattle.std.proofs.Common.{◌≡◌, ℕ, zero, suc, ◌≤◌, ◌<◌, ◌^◌, List, [], ◌∷◌, ◌++◌, length, Option, Some, None, ap, arith, length-append}
use Rattle.std.specs.Prelude.{All, IfSome}
use Rattle.asn1_core.specs.Der.{el, len}
use Rattle.asn1_core.specs.Texts.{Inside, Many, Raw, Perhaps}
use Rattle.asn1_core.specs.declared.identifier.ObjectIdentifier.{ObjectIdentifier}
use Rattle.p12.specs.declared.pkcs12_pbe_params.Pkcs12PbeParams.{Pkcs12PbeParams}
use Rattle.p12.specs.declared.algorithm_identifier.AlgorithmIdentifier.{AlgorithmIdentifier}
use Rattle.p12.specs.declared.algorithm_identifier.AlgorithmIdentifier.TheVariants.{Sha1, Sha256, PbewithSHAAnd40BitRC2CBC, PbeWithSHAAnd3KeyTripleDESCBC, Pbes2, OtherAlg}
use Rattle.p12.specs.declared.encrypted_data.EncryptedData.{EncryptedData}
use Rattle.p12.specs.declared.content_info.ContentInfo.{ContentInfo}
use Rattle.p12.specs.declared.content_info.ContentInfo.TheVariants as content
use Rattle.p12.specs.declared.mac_data.MacData.{MacData}
use Rattle.p12.specs.declared.pfx.PFX.{PFX}
use Rattle.p12.specs.declared.encrypted_private_key_info.EncryptedPrivateKeyInfo.{EncryptedPrivateKeyInfo}
use Rattle.p12.specs.declared.safe_bag.SafeBag.{SafeBag}
use Rattle.p12.specs.declared.safe_bag.SafeBagKind.{SafeBagKind}
use Rattle.p12.specs.declared.safe_bag.SafeBagKind.TheVariants as kind
use Rattle.p12.specs.AlgorithmIdentifier.{ParamsText, AlgorithmCase, AlgorithmText, salt_of}
use Rattle.p12.specs.EncryptedData.{EncryptedDataText}
use Rattle.p12.specs.ContentInfo.{ContentCase, ContentFits, ContentText, IsContents}
use Rattle.p12.specs.EncryptedPrivateKeyInfo.{EncryptedKeyText}
use Rattle.p12.specs.MacData.{MacText}
use Rattle.p12.specs.Pfx.{IsStore, StoreFits}
use Rattle.p12.specs.SafeBag.{BagFits, BagText, BagWithin, IsBags, KindCase, KindFits, KindWithin}

abbrev pub Fits : List ℕ → List ℕ → Type 0
Fits x b = length x ≤ length b

pub through : (x y z : List ℕ) → Fits x y → Fits y z → Fits x z
through x y z h i = omega (arith, h, i)

pub value_fits : (tag : ℕ) (v b : List ℕ) → b ≡ el tag v → Fits v b
unfolding el
value_fits tag v b e = omega (arith, ap length e, length-append (len (length v)) v)

pub left_fits : (x y b : List ℕ) → b ≡ x ++ y → Fits x b
left_fits x y b e = omega (arith, ap length e, length-append x y)

pub right_fits : (x y b : List ℕ) → b ≡ x ++ y → Fits y b
right_fits x y b e = omega (arith, ap length e, length-append x y)

pub inside_fits : (tag : ℕ) (b v : List ℕ) → Inside tag b v → Fits v b
inside_fits tag b v r = omega (arith, ap length r.1, value_fits tag r.0 b r.2)

raw_fits : (b v : List ℕ) → Raw b v → Fits v b
raw_fits b v r = omega (arith, ap length r.0)

-- ---- algorithms

params_fit : (b : List ℕ) (p : Pkcs12PbeParams) → ParamsText b p → Fits p.salt b
params_fit b p r = let f = r.1 in through _ _ _ (inside_fits 0x04 f.0 p.salt f.2) (through _ _ _ (left_fits f.0 f.1 r.0 f.4) (value_fits 0x30 r.0 b r.2))

case_fits : (k : ObjectIdentifier) (q : List ℕ) (a : AlgorithmIdentifier) → AlgorithmCase k q a → Fits (salt_of a) q
case_fits k q Sha1 r = omega arith
case_fits k q Sha256 r = omega arith
case_fits k q (Pbes2 par) r = omega arith
case_fits k q (OtherAlg o) r = omega arith
case_fits k q (PbewithSHAAnd40BitRC2CBC p) r = params_fit q p r.1
case_fits k q (PbeWithSHAAnd3KeyTripleDESCBC p) r = params_fit q p r.1

salt_fits : (b : List ℕ) (a : AlgorithmIdentifier) → AlgorithmText b a → Fits (salt_of a) b
salt_fits b a r = let f = r.1 in through _ _ _ (case_fits f.2 f.1 a f.4) (through _ _ _ (right_fits f.0 f.1 r.0 f.5) (value_fits 0x30 r.0 b r.2))

-- ---- contents

pub encrypted_fits : (b : List ℕ) (d : EncryptedData) → EncryptedDataText b d → Fits d.encrypted_content_info.encrypted_content b × Fits (salt_of d.encrypted_content_info.content_encryption_algorithm) b
encrypted_fits b d r =
    let version = r.1 in
    let info = version.3 in
    let e = info.2 in
    let kind = e.1 in
    let algorithm = kind.3 in
    let text = algorithm.3 in
    let to_info = through _ _ _ (left_fits info.0 info.1 version.1 info.4) (through _ _ _ (right_fits version.0 version.1 r.0 version.4) (value_fits 0x30 r.0 b r.2)) in
    let to_kind = through _ _ _ (right_fits kind.0 kind.1 e.0 kind.4) (through _ _ _ (value_fits 0x30 e.0 info.0 e.2) to_info) in
    let to_text = through _ _ _ (right_fits algorithm.0 algorithm.1 kind.1 algorithm.4) to_kind in (
      through _ _ _ (inside_fits 0x80 text.0 _ text.2) (through _ _ _ (left_fits text.0 text.1 algorithm.1 text.4) to_text),
      through _ _ _ (salt_fits algorithm.0 _ algorithm.2) (through _ _ _ (left_fits algorithm.0 algorithm.1 kind.1 algorithm.4) to_kind),
    )

content_case_fits : (k : ObjectIdentifier) (q : List ℕ) (c : ContentInfo) → ContentCase k q c → ContentFits (length q) c
content_case_fits k q (content.Data v) r = let w = r.1 in (through _ _ _ (inside_fits 0x04 w.0 v w.1) (value_fits 0xa0 w.0 q w.2), omega arith)
content_case_fits k q (content.EncryptedData d) r =
    let w = r.1 in
    let f = encrypted_fits w.0 d w.1 in
    let v = value_fits 0xa0 w.0 q w.2 in
    (through _ _ _ f.0 v, through _ _ _ f.1 v)
content_case_fits k q (content.OtherContext o) r = let w = r.3 in (through _ _ _ (raw_fits w.0 o.content w.1) (value_fits 0xa0 w.0 q w.2), omega arith)

wider : (m n : ℕ) (c : ContentInfo) → m ≤ n → ContentFits m c → ContentFits n c
wider m n c h f = (omega (arith, h, f.0), omega (arith, h, f.1))

content_fits : (b : List ℕ) (c : ContentInfo) → ContentText b c → ContentFits (length b) c
content_fits b c r = let f = r.1 in wider (length f.1) (length b) c (through _ _ _ (right_fits f.0 f.1 r.0 f.5) (value_fits 0x30 r.0 b r.2)) (content_case_fits f.2 f.1 c f.4)

item_fits : (n : ℕ) (c : ContentInfo) (cs : List ContentInfo) → ContentFits n c → All (ContentFits n) cs → All (ContentFits n) (c ∷ cs)
item_fits n c cs f h zero d lt = f
item_fits n c cs f h (suc k) d lt = h k d (omega (arith, lt))

all_fit : (n : ℕ) (b : List ℕ) (cs : List ContentInfo) → length b ≤ n → Many ContentText b cs → All (ContentFits n) cs
all_fit n b [] h m = λ k d lt. absurd (omega (arith, lt))
all_fit n b (c ∷ cs) h (p, q, r, m, e) =
    item_fits n c cs (wider (length p) n c (omega (arith, h, left_fits p q b e)) (content_fits p c r)) (all_fit n q cs (omega (arith, h, right_fits p q b e)) m)

pub contents_fit : (b : List ℕ) (cs : List ContentInfo) → IsContents b cs → All (ContentFits (length b)) cs
unfolding IsContents
contents_fit b cs p = let r = p.0 in all_fit (length b) r.0 cs (value_fits 0x30 r.0 b r.2) r.1

-- ---- bags

key_fits : (b : List ℕ) (e : EncryptedPrivateKeyInfo) → EncryptedKeyText b e → Fits e.encrypted_data b × Fits (salt_of e.encryption_algorithm) b
key_fits b e r =
    let algorithm = r.1 in
    let text = algorithm.3 in
    let whole = value_fits 0x30 r.0 b r.2 in (
      through _ _ _ (inside_fits 0x04 text.0 _ text.2) (through _ _ _ (left_fits text.0 text.1 algorithm.1 text.4) (through _ _ _ (right_fits algorithm.0 algorithm.1 r.0 algorithm.4) whole)),
      through _ _ _ (salt_fits algorithm.0 _ algorithm.2) (through _ _ _ (left_fits algorithm.0 algorithm.1 r.0 algorithm.4) whole),
    )

kind_within : (k : ObjectIdentifier) (q : List ℕ) (v : SafeBagKind) → KindCase k q v → KindWithin (length q) v
kind_within k q (kind.CertBag c) r = tt
kind_within k q (kind.Pkcs8ShroudedKeyBag e) r = key_fits q e r.1
kind_within k q (kind.OtherBagKind o) r = tt

wider_kind : (m n : ℕ) (v : SafeBagKind) → m ≤ n → KindWithin m v → KindWithin n v
wider_kind m n (kind.CertBag c) h f = tt
wider_kind m n (kind.Pkcs8ShroudedKeyBag e) h f = (omega (arith, h, f.0), omega (arith, h, f.1))
wider_kind m n (kind.OtherBagKind o) h f = tt

bag_within : (b : List ℕ) (g : SafeBag) → BagText b g → BagWithin (length b) g
bag_within b g r =
    let on = r.1 in
    let f = on.4 in
    let w = f.2 in
    let to_value = through _ _ _ (right_fits on.0 on.1 r.0 on.5) (value_fits 0x30 r.0 b r.2) in
    let to_kind = through _ _ _ (value_fits 0xa0 w.0 f.0 w.2) (through _ _ _ (left_fits f.0 f.1 on.1 f.4) to_value) in
    wider_kind (length w.0) (length b) g.bag to_kind (kind_within on.2 w.0 g.bag w.1)

bag_first : (n : ℕ) (g : SafeBag) (gs : List SafeBag) → BagWithin n g → All (BagWithin n) gs → All (BagWithin n) (g ∷ gs)
bag_first n g gs f h zero d lt = f
bag_first n g gs f h (suc k) d lt = h k d (omega (arith, lt))

all_bags_within : (n : ℕ) (b : List ℕ) (gs : List SafeBag) → length b ≤ n → Many BagText b gs → All (BagWithin n) gs
all_bags_within n b [] h m = λ k d lt. absurd (omega (arith, lt))
all_bags_within n b (g ∷ gs) h (p, q, r, m, e) =
    bag_first n g gs (wider_kind (length p) n g.bag (omega (arith, h, left_fits p q b e)) (bag_within p g r)) (all_bags_within n q gs (omega (arith, h, right_fits p q b e)) m)

pub bags_fit_within : (n : ℕ) (b : List ℕ) (gs : List SafeBag) → length b ≤ n → IsBags b gs → All (BagWithin n) gs
unfolding IsBags
bags_fit_within n b gs h p = let r = p.0 in all_bags_within n r.0 gs (omega (arith, h, value_fits 0x30 r.0 b r.2)) r.1

within_fits : (n : ℕ) (v : SafeBagKind) → n < 2 ^ 32 → KindWithin n v → KindFits v
within_fits n (kind.CertBag c) h f = tt
within_fits n (kind.Pkcs8ShroudedKeyBag e) h f = (omega (arith, h, f.0), omega (arith, h, f.1))
within_fits n (kind.OtherBagKind o) h f = tt

pub bags_fit : (b : List ℕ) (gs : List SafeBag) → IsBags b gs → All BagFits gs
unfolding IsBags
bags_fit b gs p = λ k d lt. within_fits (length b) _ p.1 (bags_fit_within (length b) b gs (omega arith) p k d lt)

-- ---- stores

mac_fits : (b : List ℕ) (m : MacData) → MacText b m → Fits m.salt b
mac_fits b m r =
    let digest = r.1 in
    let salt = digest.3 in
    through _ _ _ (inside_fits 0x04 salt.0 m.salt salt.2) (through _ _ _ (left_fits salt.0 salt.1 digest.1 salt.4) (through _ _ _ (right_fits digest.0 digest.1 r.0 digest.4) (value_fits 0x30 r.0 b r.2)))

mac_part_fits : (n : ℕ) (b : List ℕ) (o : Option MacData) → length b ≤ n → Perhaps MacText b o → IfSome o (λ m. length m.salt ≤ n)
mac_part_fits n b None h r = tt
mac_part_fits n b (Some m) h r = omega (arith, h, mac_fits b m r)

pub store_fits : (b : List ℕ) (s : PFX) → IsStore b s → StoreFits (length b) s
unfolding IsStore
store_fits b s p =
    let r = p.0 in
    let version = r.1 in
    let auth_safe = version.3 in
    let mac = auth_safe.3 in
    let to_safe = through _ _ _ (right_fits version.0 version.1 r.0 version.4) (value_fits 0x30 r.0 b r.2) in (
      wider (length auth_safe.0) (length b) s.auth_safe (through _ _ _ (left_fits auth_safe.0 auth_safe.1 version.1 auth_safe.4) to_safe) (content_fits auth_safe.0 s.auth_safe auth_safe.2),
      mac_part_fits (length b) mac.0 s.mac_data (through _ _ _ (left_fits mac.0 mac.1 auth_safe.1 mac.4) (through _ _ _ (right_fits auth_safe.0 auth_safe.1 version.1 auth_safe.4) to_safe)) mac.2,
    )
