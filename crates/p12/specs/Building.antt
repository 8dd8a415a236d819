-- Stores that are made here (RFC 7292 section 5): every part under a salt of 8 drawn octets and
-- 2,048 rounds, texts under Triple DES, the MAC under SHA-1.
use Rattle.std.specs.Prelude.{◌≡◌, ◌≤◌, ◌⊎◌, ℕ, List, [], ◌∷◌, ◌++◌, length, map, replicate, All, Option, Some, IfSome, ⊤}
use Rattle.std.specs.Io.KnownBytes.{Consumes}
use Rattle.octet_core.specs.Draw.{Lacks}
use Rattle.sha1.specs.Sha1.{sha1}
use Rattle.asn1_core.specs.Der.{IsShort}
use Rattle.asn1_core.specs.Sets.{Each}
use Rattle.asn1_core.specs.Writing.{IsOverlong}
use Rattle.p12.specs.AlgorithmIdentifier.{ciphertext_length, unlock_pbe}
use Rattle.p12.specs.Canonical.{WritableBag, bags_canon, contents_canon}
use Rattle.p12.specs.Collected.{certificates_among, keys_among}
use Rattle.p12.specs.MacData.{mac_of}
use Rattle.p12.specs.Same.{SameBag}
use Rattle.p12.specs.declared.algorithm_identifier.AlgorithmIdentifier.{AlgorithmIdentifier}
use Rattle.p12.specs.declared.algorithm_identifier.AlgorithmIdentifier.TheVariants.{Sha1, PbeWithSHAAnd3KeyTripleDESCBC}
use Rattle.p12.specs.declared.attribute.PKCS12Attribute.{PKCS12Attribute}
use Rattle.p12.specs.declared.attribute.PKCS12Attribute.TheVariants.{FriendlyName, LocalKeyId}
use Rattle.p12.specs.declared.cert_bag.CertBag.TheVariants.{X509}
use Rattle.p12.specs.declared.content_info.ContentInfo.{ContentInfo}
use Rattle.p12.specs.declared.content_info.ContentInfo.TheVariants as content
use Rattle.p12.specs.declared.encrypted_data.EncryptedContentInfo.{EncryptedContentInfo}
use Rattle.p12.specs.declared.error.Error.{Error}
use Rattle.p12.specs.declared.error.Error.TheVariants as errors
use Rattle.p12.specs.declared.pfx.PFX.{PFX}
use Rattle.p12.specs.declared.safe_bag.SafeBag.{SafeBag}
use Rattle.p12.specs.declared.safe_bag.SafeBagKind.TheVariants as kind
use Rattle.p12.specs.declared.store.DrawnSalts.{DrawnSalts}
use Rattle.p12.specs.declared.store.EntryParts.{EntryParts}

-- ---- drawn salts

-- a salt of 8 octets was drawn, and P is so of it
pub record DrawsSalt (old new : Option (List ℕ)) (P : List ℕ → Type 0) : Type 0 where
  pub salt : List ℕ
  pub long : length salt ≡ 8
  pub took : Consumes old new salt
  pub is : P salt

-- the salts of a store: for its key, for its certificates, and for its MAC
pub record Salts : Type 0 where
  pub key : List ℕ
  pub certificates : List ℕ
  pub mac : List ℕ

-- they were drawn in this order, 8 octets each, and P is so of them
pub record DrawsSalts (old new : Option (List ℕ)) (P : Salts → Type 0) : Type 0 where
  pub salts : Salts
  pub key_long : length salts.key ≡ 8
  pub certificates_long : length salts.certificates ≡ 8
  pub mac_long : length salts.mac ≡ 8
  pub took : Consumes old new (salts.key ++ (salts.certificates ++ salts.mac))
  pub are : P salts

-- where the octets to come are told, there are n at least
abbrev pub AreEnough : Option (List ℕ) → ℕ → Type 0
AreEnough left n = IfSome left (λ octets. n ≤ length octets)

-- a call that draws n octets is refused, by cases on the error: one with ⊥ never comes, running out
-- of memory may come at any point; `bad` is when a value cannot be written, `long` when a text
-- would be too long, and both come only where there were enough octets
abbrev pub RefusesDrawn : Type 0 → Type 0 → ℕ → ℕ → Option (List ℕ) → ℕ → Error → Type 0
RefusesDrawn bad long before now left n errors.Malformed = bad × AreEnough left n
RefusesDrawn bad long before now left n errors.Invalid = ⊥
RefusesDrawn bad long before now left n errors.Rng = Lacks before now left n
RefusesDrawn bad long before now left n errors.TooLong = long × AreEnough left n
RefusesDrawn bad long before now left n errors.Memory = ⊤

-- the draw of n octets is refused
abbrev pub FailsToDraw : ℕ → ℕ → Option (List ℕ) → ℕ → Error → Type 0
FailsToDraw before now left n e = (e ≡ errors.Rng) × Lacks before now left n

-- ---- texts under Triple DES

abbrev pub triple_des : List ℕ → AlgorithmIdentifier
triple_des salt = PbeWithSHAAnd3KeyTripleDESCBC (record { salt = salt; iterations = 2048 })

-- c is a ciphertext of the text m under a password in UTF-16 and a salt
pub record IsCiphertext (q salt m c : List ℕ) : Type 0 where
  pub opens : unlock_pbe (triple_des salt) q c ≡ Some m
  pub size : length c ≡ ciphertext_length (length m)

-- the bags are encrypted in e under this salt
pub record SealsBags (q : List ℕ) (gs : List SafeBag) (salt : List ℕ) (e : EncryptedContentInfo)
    : Type 0 where
  pub algorithm : e.content_encryption_algorithm ≡ triple_des salt
  pub ciphertext : IsCiphertext q salt (bags_canon gs) e.encrypted_content

-- what is encrypted of a text m would have more than 2 ^ 32 - 1 octets
abbrev pub IsTooLong : List ℕ → Type 0
IsTooLong m = IsOverlong (ciphertext_length (length m))

-- encrypting bags is refused, by cases on the error
abbrev pub RefusesBags : List SafeBag → Error → Type 0
RefusesBags gs errors.Malformed = ¬ (All WritableBag gs)
RefusesBags gs errors.Invalid = ⊥
RefusesBags gs errors.Rng = ⊥
RefusesBags gs errors.TooLong = IsTooLong (bags_canon gs)
RefusesBags gs errors.Memory = ⊤

-- ---- stores

-- whose certificate, key and further certificates they are, and the name of both
pub record Entry : Type 0 where
  pub certificate : List ℕ
  pub key : List ℕ
  pub others : List (List ℕ)
  pub name : List ℕ

abbrev pub entry_of : List ℕ → List ℕ → List (List ℕ) → List ℕ → Entry
entry_of certificate key others name =
    record { certificate = certificate; key = key; others = others; name = name }

-- the name, and the SHA-1 of the certificate, by which a key finds it
abbrev pub own_attributes : Entry → List PKCS12Attribute
own_attributes e = FriendlyName e.name ∷ LocalKeyId (sha1 e.certificate) ∷ []

abbrev pub certificate_bag : List PKCS12Attribute → List ℕ → SafeBag
certificate_bag attributes v = record { bag = kind.CertBag (X509 v); attributes = attributes }

abbrev pub certificate_bags : Entry → List SafeBag
certificate_bags e = certificate_bag (own_attributes e) e.certificate
    ∷ map (certificate_bag []) e.others

-- the key, of which v is encrypted
abbrev pub key_bag : Entry → List ℕ → List ℕ → SafeBag
key_bag e salt v = record {
  bag = kind.Pkcs8ShroudedKeyBag
      (record { encryption_algorithm = triple_des salt; encrypted_data = v });
  attributes = own_attributes e;
}

abbrev pub sealed_content : List ℕ → List ℕ → ContentInfo
sealed_content salt c =
    content.EncryptedData
    (record {
      encrypted_content_info = record {
        content_encryption_algorithm = triple_des salt;
        encrypted_content = c;
      };
    })

-- the two contents: the certificates, of which c is encrypted, and the key, of which v is
abbrev pub two_contents : Entry → Salts → List ℕ → List ℕ → List ContentInfo
two_contents e s c v =
    sealed_content s.certificates c ∷ content.Data (bags_canon (key_bag e s.key v ∷ [])) ∷ []

-- t is the text of both contents under a password in UTF-16 and these salts
pub record IsOuterText (q : List ℕ) (e : Entry) (s : Salts) (t : List ℕ) : Type 0 where
  -- what is encrypted of the certificates and of the key
  pub certificates : List ℕ
  pub key : List ℕ
  pub certificates_seal : IsCiphertext q s.certificates
      (bags_canon (certificate_bags e)) certificates
  pub certificates_short : IsShort (bags_canon (certificate_bags e))
  pub key_seals : IsCiphertext q s.key e.key key
  pub is : t ≡ contents_canon (two_contents e s certificates key)
  pub short : IsShort t

-- the store over a text, whose MAC is under this salt
abbrev pub store_over : List ℕ → List ℕ → List ℕ → PFX
store_over q salt t = record {
  version = 3;
  auth_safe = content.Data t;
  mac_data = Some (mac_of Sha1 q t salt 2048);
}

-- the store of an entry under a password in UTF-16 and these salts
abbrev pub IsStoreOf : List ℕ → Entry → PFX → Salts → Type 0
IsStoreOf q e store s = (t : List ℕ) × IsOuterText q e s t × (store ≡ store_over q s.mac t)

-- the salts and ciphertexts in the text of both contents, by their lengths
abbrev pub blank : ℕ → List ℕ
blank n = replicate n 0

-- the octets of the text of both contents, of which those of salts and ciphertexts are only counted
unfoldable pub outer_length : Entry → ℕ
outer_length e =
    let certificates = blank (ciphertext_length (length (bags_canon (certificate_bags e)))) in
    let key = blank (ciphertext_length (length e.key)) in
    length (contents_canon
    (two_contents e (record {
      key = blank 8;
      certificates = blank 8;
      mac = blank 8;
    }) certificates key))

-- one of its texts would have more than 2 ^ 32 - 1 octets: the encrypted key, the encrypted
-- certificates, or that of both contents
abbrev pub IsTooLongStore : Entry → Type 0
IsTooLongStore e = IsTooLong e.key
    ⊎ (IsTooLong (bags_canon (certificate_bags e)) ⊎ IsOverlong (outer_length e))

-- what a call sees of an entry
abbrev pub seen_entry : EntryParts → Entry
seen_entry e = record {
  certificate = e.certificate.now;
  key = e.key.now;
  others = e.others.now;
  name = e.name.now;
}

-- an entry is refused, by cases on the error: one with ⊥ never comes, running out of memory may
-- come at any point
abbrev pub RefusesStore : Entry → Error → Type 0
RefusesStore e errors.Malformed = ⊥
RefusesStore e errors.Invalid = ⊥
RefusesStore e errors.Rng = ⊥
RefusesStore e errors.TooLong = IsTooLongStore e
RefusesStore e errors.Memory = ⊤

abbrev pub seen_salts : DrawnSalts → Salts
seen_salts d = record { key = d.key; certificates = d.certificates; mac = d.mac }

-- ---- a store that opens

-- the bags of a store under a password are those of its entry up to the order of attributes, and
-- give its certificates and its key
pub record GivesBack (p : List ℕ) (e : Entry) (gs : List SafeBag) : Type 0 where
  pub salt : List ℕ
  pub key : List ℕ
  pub bags : Each SameBag gs (certificate_bags e ++ key_bag e salt key ∷ [])
  pub certificates : certificates_among gs ≡ e.certificate ∷ e.others
  pub keys : keys_among p gs ≡ e.key ∷ []
