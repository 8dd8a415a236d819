-- The texts that a value is read from: its canonical text, and its other spellings. Each is made as the canonical text
-- is, of any spellings of the parts, and departs from it only where a comment here says so.
use Rattle.std.specs.Prelude.{◌≡◌, ◌⊎◌, ◌↔◌, ℕ, List, [], ◌∷◌, ◌++◌}
use Rattle.asn1_core.specs.Der.{seq, set, ctx, pctx, oid, octets, null, uint, el}
use Rattle.asn1_core.specs.Oid.{oid_octets}
use Rattle.asn1_core.specs.Sets.{Decodes, IsRead, Other as AnotherSpelling, SpellSet}
use Rattle.asn1_core.specs.Texts.{Inside, Many}
use Rattle.asn1_core.specs.Unicode.{Bmp, text_units}
use Rattle.der_core.specs.Optional.{SpellsOption}
use Rattle.pkcs5.specs.Identifiers.{pbes2_oid}
use Rattle.pkcs5.specs.Parameters.{SpellsParameters}
use Rattle.p12.specs.Identifiers.{sha1_oid, sha256_oid, data_oid, encrypted_data_oid, friendly_name_oid, local_key_id_oid}
use Rattle.p12.specs.SafeBag.{kind_oid}
use Rattle.p12.specs.Canonical.{algorithm_canon, cert_bag_canon, content_canon}
use Rattle.p12.specs.declared.algorithm_identifier.AlgorithmIdentifier.{AlgorithmIdentifier}
use Rattle.p12.specs.declared.algorithm_identifier.AlgorithmIdentifier.TheVariants.{Sha1, Sha256, PbewithSHAAnd40BitRC2CBC, PbeWithSHAAnd3KeyTripleDESCBC, Pbes2, OtherAlg}
use Rattle.p12.specs.declared.digest_info.DigestInfo.{DigestInfo}
use Rattle.p12.specs.declared.mac_data.MacData.{MacData}
use Rattle.p12.specs.declared.encrypted_data.EncryptedContentInfo.{EncryptedContentInfo}
use Rattle.p12.specs.declared.encrypted_data.EncryptedData.{EncryptedData}
use Rattle.p12.specs.declared.content_info.ContentInfo.{ContentInfo}
use Rattle.p12.specs.declared.content_info.ContentInfo.TheVariants as content
use Rattle.p12.specs.declared.encrypted_private_key_info.EncryptedPrivateKeyInfo.{EncryptedPrivateKeyInfo}
use Rattle.p12.specs.declared.attribute.PKCS12Attribute.{PKCS12Attribute}
use Rattle.p12.specs.declared.attribute.PKCS12Attribute.TheVariants.{FriendlyName, LocalKeyId, Other}
use Rattle.p12.specs.declared.safe_bag.SafeBagKind.{SafeBagKind}
use Rattle.p12.specs.declared.safe_bag.SafeBagKind.TheVariants as kind
use Rattle.p12.specs.declared.safe_bag.SafeBag.{SafeBag}
use Rattle.p12.specs.declared.pfx.PFX.{PFX}

-- ---- algorithms and the MAC

-- the hash of this identifier: with NULL, which is written, or without
abbrev pub SpellsHash : List ℕ → List ℕ → Type 0
SpellsHash b name = (b ≡ seq (oid name ++ null)) ⊎ (b ≡ seq (oid name))

-- with any spelling of the parameters of PBES2
abbrev pub SpellsAlgorithm : List ℕ → AlgorithmIdentifier → Type 0
SpellsAlgorithm b Sha1 = SpellsHash b sha1_oid
SpellsAlgorithm b Sha256 = SpellsHash b sha256_oid
SpellsAlgorithm b (PbewithSHAAnd40BitRC2CBC p) = b ≡ algorithm_canon (PbewithSHAAnd40BitRC2CBC p)
SpellsAlgorithm b (PbeWithSHAAnd3KeyTripleDESCBC p) = b ≡ algorithm_canon (PbeWithSHAAnd3KeyTripleDESCBC p)
SpellsAlgorithm b (Pbes2 par) = (q : List ℕ) × SpellsParameters q par × (b ≡ seq (oid pbes2_oid ++ q))
SpellsAlgorithm b (OtherAlg o) = b ≡ algorithm_canon (OtherAlg o)

abbrev pub SpellsDigest : List ℕ → DigestInfo → Type 0
SpellsDigest b d = (a : List ℕ) × SpellsAlgorithm a d.digest_algorithm × (b ≡ seq (a ++ octets d.digest))

-- a count of 1 may be left out
abbrev pub SpellsCount : List ℕ → ℕ → Type 0
SpellsCount b n = (b ≡ uint n) ⊎ ((b ≡ []) × (n ≡ 1))

abbrev pub SpellsMac : List ℕ → MacData → Type 0
SpellsMac b m =
    (d : List ℕ) × (n : List ℕ) × SpellsDigest d m.mac × SpellsCount n m.iterations
    × (b ≡ seq (d ++ (octets m.salt ++ n)))

-- ---- contents

abbrev pub SpellsEncryptedContent : List ℕ → EncryptedContentInfo → Type 0
SpellsEncryptedContent b e =
    (a : List ℕ) × SpellsAlgorithm a e.content_encryption_algorithm
    × (b ≡ seq (oid data_oid ++ (a ++ pctx 0 e.encrypted_content)))

abbrev pub SpellsEncryptedData : List ℕ → EncryptedData → Type 0
SpellsEncryptedData b e = (c : List ℕ) × SpellsEncryptedContent c e.encrypted_content_info × (b ≡ seq (uint 0 ++ c))

abbrev pub SpellsContent : List ℕ → ContentInfo → Type 0
SpellsContent b (content.Data v) = b ≡ content_canon (content.Data v)
SpellsContent b (content.EncryptedData e) =
    (d : List ℕ) × SpellsEncryptedData d e × (b ≡ seq (oid encrypted_data_oid ++ ctx 0 d))
SpellsContent b (content.OtherContext o) = b ≡ content_canon (content.OtherContext o)

-- the contents in order
abbrev pub SpellsContents : List ℕ → List ContentInfo → Type 0
SpellsContents b cs = (p : List ℕ) × Many SpellsContent p cs × (b ≡ seq p)

-- ---- bags

abbrev pub SpellsEncryptedKey : List ℕ → EncryptedPrivateKeyInfo → Type 0
SpellsEncryptedKey b e =
    (a : List ℕ) × SpellsAlgorithm a e.encryption_algorithm × (b ≡ seq (a ++ octets e.encrypted_data))

-- any number of texts, one after another
abbrev pub AreSeveral : {A : Type 0} → (List ℕ → A → Type 0) → List ℕ → Type 0
AreSeveral {A = A} R b = (vs : List A) × Many R b vs

-- in a set of names, or of key ids, others may come before the one; the elements of another set may be in any order
abbrev pub SpellsAttribute : List ℕ → PKCS12Attribute → Type 0
SpellsAttribute b (FriendlyName t) =
    (others : List ℕ) × AreSeveral Bmp others
    × (b ≡ seq (oid friendly_name_oid ++ set (others ++ el 0x1e (text_units t))))
SpellsAttribute b (LocalKeyId v) =
    (others : List ℕ) × AreSeveral (Inside 0x04) others × (b ≡ seq (oid local_key_id_oid ++ set (others ++ octets v)))
SpellsAttribute b (Other o) =
    (p : List ℕ) × SpellSet (λ t e. t ≡ e) p o.values × (b ≡ seq (oid (oid_octets o.oid) ++ set p))

-- where there are no attributes, there may be an empty set; they may be in any order
abbrev pub SpellsAttributes : List ℕ → List PKCS12Attribute → Type 0
SpellsAttributes b [] = (b ≡ []) ⊎ (b ≡ set [])
SpellsAttributes b (v ∷ vs) = (p : List ℕ) × SpellSet SpellsAttribute p (v ∷ vs) × (b ≡ set p)

abbrev pub SpellsKind : List ℕ → SafeBagKind → Type 0
SpellsKind b (kind.CertBag c) = b ≡ cert_bag_canon c
SpellsKind b (kind.Pkcs8ShroudedKeyBag e) = SpellsEncryptedKey b e
SpellsKind b (kind.OtherBagKind o) = b ≡ o.bag_value

abbrev pub SpellsBag : List ℕ → SafeBag → Type 0
SpellsBag b g =
    (x : List ℕ) × (y : List ℕ) × SpellsKind x g.bag × SpellsAttributes y g.attributes
    × (b ≡ seq (oid (kind_oid g.bag) ++ (ctx 0 x ++ y)))

-- the bags in order
abbrev pub SpellsBags : List ℕ → List SafeBag → Type 0
SpellsBags b gs = (p : List ℕ) × Many SpellsBag p gs × (b ≡ seq p)

-- ---- stores

abbrev pub SpellsStore : List ℕ → PFX → Type 0
SpellsStore b s =
    (c : List ℕ) × (m : List ℕ) × SpellsContent c s.auth_safe × SpellsOption SpellsMac m s.mac_data
    × (b ≡ seq (uint s.version ++ (c ++ m)))

-- ---- what the laws say, of each value that some text has

-- its texts are the canonical one and its other spellings
abbrev pub IsSpelled : {A : Type 0} → (List ℕ → A → Type 0) → (A → List ℕ) → (List ℕ → A → Type 0) → Type 0
IsSpelled {A = A} R canon Spell =
    (v : A) → IsRead R v → (b : List ℕ) → R b v ↔ ((b ≡ canon v) ⊎ AnotherSpelling Spell canon b v)

-- the texts of values that are the same up to the order of sets are the canonical one and its other spellings
abbrev pub IsSpelledAsSame : {A : Type 0} → (List ℕ → A → Type 0) → (A → A → Type 0) → (A → List ℕ)
    → (List ℕ → A → Type 0) → Type 0
IsSpelledAsSame {A = A} R S canon Spell =
    (v : A) → IsRead R v → (b : List ℕ) → Decodes R S b v ↔ ((b ≡ canon v) ⊎ AnotherSpelling Spell canon b v)

-- its one text is the canonical one
abbrev pub HasOneText : {A : Type 0} → (List ℕ → A → Type 0) → (A → List ℕ) → Type 0
HasOneText {A = A} R canon = (v : A) → IsRead R v → (b : List ℕ) → R b v ↔ (b ≡ canon v)
