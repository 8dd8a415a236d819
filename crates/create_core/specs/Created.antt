-- The store that is made of keys and certificates (RFC 7292 section 5): one content holds the
-- certificates, encrypted; one holds the keys, each encrypted; the MAC is under SHA-256. Every part
-- and the MAC take the same number of rounds.
use Rattle.std.specs.Prelude.{ℕ, ◌+◌, ◌*◌, ◌≤◌, ◌<◌, ◌≡◌, All, List, [], ◌∷◌, ◌++◌, length, Option, Some, ⊤}
use Rattle.std.specs.Io.KnownBytes.{Consumes}
use Rattle.octet_core.specs.Draw.{Lacks}
use Rattle.p12.specs.Building.{AreEnough}
use Rattle.p12.specs.Canonical.{bags_canon, contents_canon, store_canon}
use Rattle.p12.specs.MacData.{mac_of}
use Rattle.p12.specs.declared.algorithm_identifier.AlgorithmIdentifier.TheVariants.{Sha256}
use Rattle.p12.specs.declared.content_info.ContentInfo.{ContentInfo}
use Rattle.p12.specs.declared.content_info.ContentInfo.TheVariants as content
use Rattle.p12.specs.declared.pfx.PFX.{PFX}
use Rattle.p12.specs.declared.safe_bag.SafeBag.{SafeBag}
use Rattle.pkcs12_kdf.specs.Password.{bmp_password}
use Rattle.transfer.specs.Limits.{store_limit}
use Rattle.create_core.specs.Bags.{HasKeyText, IsCertificateNamedInText, IsNamedInText, KeysSealed, certificate_bags}
use Rattle.sealing_core.specs.Drawn.{AreOf16, octets_of}
use Rattle.create_core.specs.Parts.{Seals, under}
use Rattle.create_core.specs.Size.{created_size}
use Rattle.sealing_core.specs.declared.drawn.IvAndSalt.{IvAndSalt}
use Rattle.create_core.specs.declared.entry.CertificateEntry.{CertificateEntry}
use Rattle.create_core.specs.declared.entry.KeyEntry.{KeyEntry}
use Rattle.create_core.specs.declared.error.CreateError.{CreateError}
use Rattle.create_core.specs.declared.error.CreateError.TheVariants.{Malformed, Rng, TooLong, Memory}

-- how many octets a store draws: an IV and a salt for each key, then those for the certificates,
-- then the salt of the MAC
abbrev pub created_draws : List KeyEntry → ℕ
created_draws keys = 32 * (length keys + 1) + 8

-- the content of which c is encrypted
abbrev pub sealed_content : ℕ → IvAndSalt → List ℕ → ContentInfo
sealed_content r d c = content.EncryptedData
    (record {
      encrypted_content_info = record {
        content_encryption_algorithm = under r d;
        encrypted_content = c;
      };
    })

-- the two contents: the certificates, of which c is encrypted, and the bags of the keys
abbrev pub two_contents : ℕ → IvAndSalt → List ℕ → List SafeBag → List ContentInfo
two_contents r d c gs = sealed_content r d c ∷ content.Data (bags_canon gs) ∷ []

-- the store of two contents under the password p, whose MAC is under this salt
abbrev pub store_of : ℕ → List ℕ → List ℕ → List ContentInfo → PFX
store_of r p salt cs = record {
  version = 3;
  auth_safe = content.Data (contents_canon cs);
  mac_data = Some (mac_of Sha256 (bmp_password p) (contents_canon cs) salt r);
}

-- The text b is that of the store of these keys and certificates under the password p and r rounds,
-- by the octets that were drawn.
pub record Creates (keys : List KeyEntry) (certificates : List CertificateEntry) (p : List ℕ) (r : ℕ)
    (drawn b : List ℕ) : Type 0 where
  pub are_keys : All HasKeyText keys
  pub key_names : All IsNamedInText keys
  pub certificate_names : All IsCertificateNamedInText certificates
  -- what was drawn for the keys, for the certificates and for the MAC
  pub of_keys : List IvAndSalt
  pub of_certificates : IvAndSalt
  pub salt : List ℕ
  pub order : drawn ≡ octets_of of_keys ++ (of_certificates.iv ++ of_certificates.salt) ++ salt
  pub keys_of_16 : All AreOf16 of_keys
  pub certificates_of_16 : AreOf16 of_certificates
  pub salt_of_8 : length salt ≡ 8
  -- what is encrypted of the certificates, and the bags of the keys
  pub sealed : List ℕ
  pub bags : List SafeBag
  pub certificates_sealed : Seals r p of_certificates
      (bags_canon (certificate_bags keys certificates)) sealed
  pub keys_sealed : KeysSealed r p keys of_keys bags
  pub is : b ≡ store_canon (store_of r p salt (two_contents r of_certificates sealed bags))
  pub short : length b ≤ store_limit

-- The text is that of the store by the next octets of the draw, and as long as it is stated.
pub record DrawsAndCreates (keys : List KeyEntry) (certificates : List CertificateEntry)
    (p : List ℕ) (r : ℕ) (left left_after : Option (List ℕ)) (b : List ℕ) : Type 0 where
  pub drawn : List ℕ
  pub exactly : length drawn ≡ created_draws keys
  pub took : Consumes left left_after drawn
  pub creates : Creates keys certificates p r drawn b
  pub sized : length b ≡ created_size r keys certificates

-- No store is made, by cases on the error: the first cause in this order, or running out of memory
-- at any point.
abbrev pub RefusesToCreate : List KeyEntry → List CertificateEntry → ℕ → ℕ → ℕ → Option (List ℕ)
    → CreateError → Type 0
RefusesToCreate keys certificates r before now left Malformed = ¬ (All HasKeyText keys)
RefusesToCreate keys certificates r before now left Rng = All HasKeyText keys
    × Lacks before now left (created_draws keys)
RefusesToCreate keys certificates r before now left TooLong = All HasKeyText keys
    × AreEnough left (created_draws keys) × (store_limit < created_size r keys certificates)
RefusesToCreate keys certificates r before now left Memory = ⊤
