-- How long the text of a store is: as that of a store in which salts, IVs, ciphertexts and the digest
-- are only counted.
use Rattle.std.specs.Prelude.{ℕ, List, [], ◌∷◌, length, map, replicate, Some}
use Rattle.p12.specs.Canonical.{bags_canon, contents_canon, store_canon}
use Rattle.p12.specs.declared.algorithm_identifier.AlgorithmIdentifier.TheVariants.{Sha256}
use Rattle.p12.specs.declared.content_info.ContentInfo.{ContentInfo}
use Rattle.p12.specs.declared.content_info.ContentInfo.TheVariants as content
use Rattle.p12.specs.declared.mac_data.MacData.{MacData}
use Rattle.p12.specs.declared.pfx.PFX.{PFX}
use Rattle.p12.specs.declared.safe_bag.SafeBag.{SafeBag}
use Rattle.create_core.specs.Bags.{certificate_bags, key_bag}
use Rattle.create_core.specs.Parts.{sealed_length, under}
use Rattle.sealing_core.specs.declared.drawn.IvAndSalt.{IvAndSalt}
use Rattle.create_core.specs.declared.entry.CertificateEntry.{CertificateEntry}
use Rattle.create_core.specs.declared.entry.KeyEntry.{KeyEntry}

-- n octets that are only counted
abbrev pub blank : ℕ → List ℕ
blank n = replicate n 0

abbrev pub blank_part : IvAndSalt
blank_part = record { iv = blank 16; salt = blank 16 }

-- what is encrypted of a text
abbrev pub blank_sealed : List ℕ → List ℕ
blank_sealed m = blank (sealed_length (length m))

abbrev pub blank_key_bag : ℕ → KeyEntry → SafeBag
blank_key_bag r e = key_bag r e blank_part (blank_sealed e.key)

-- the text of the bags of the keys
abbrev pub blank_keys : ℕ → List KeyEntry → List ℕ
blank_keys r keys = bags_canon (map (blank_key_bag r) keys)

abbrev pub blank_contents : ℕ → List KeyEntry → List CertificateEntry → List ContentInfo
blank_contents r keys certificates =
    content.EncryptedData
    (record {
      encrypted_content_info = record {
        content_encryption_algorithm = under r blank_part;
        encrypted_content = blank_sealed (bags_canon (certificate_bags keys certificates));
      };
    }) ∷ content.Data (blank_keys r keys) ∷ []

abbrev pub blank_mac : ℕ → MacData
blank_mac r = record {
  mac = record { digest_algorithm = Sha256; digest = blank 32 };
  salt = blank 8;
  iterations = r;
}

abbrev pub blank_store : ℕ → List KeyEntry → List CertificateEntry → PFX
blank_store r keys certificates = record {
  version = 3;
  auth_safe = content.Data (contents_canon (blank_contents r keys certificates));
  mac_data = Some (blank_mac r);
}

-- how many octets the text of the store has
unfoldable pub created_size : ℕ → List KeyEntry → List CertificateEntry → ℕ
created_size r keys certificates = length (store_canon (blank_store r keys certificates))
