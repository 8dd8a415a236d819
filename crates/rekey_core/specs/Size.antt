-- How long the text of a changed store is: as that of a store in which salts, IVs, ciphertexts and
-- the digest are only counted.
use Rattle.std.specs.Prelude.{ℕ, ◌+◌, List, [], ◌∷◌, length, map, replicate, Option, Some, None}
use Rattle.mac_modes.specs.Padding.{pad_count}
use Rattle.p12.specs.Canonical.{bags_canon, contents_canon, store_canon}
use Rattle.p12.specs.declared.algorithm_identifier.AlgorithmIdentifier.{AlgorithmIdentifier}
use Rattle.p12.specs.declared.algorithm_identifier.AlgorithmIdentifier.TheVariants.{Sha1, Sha256, PbewithSHAAnd40BitRC2CBC, PbeWithSHAAnd3KeyTripleDESCBC, Pbes2, OtherAlg}
use Rattle.p12.specs.declared.content_info.ContentInfo.{ContentInfo}
use Rattle.p12.specs.declared.content_info.ContentInfo.TheVariants as content
use Rattle.p12.specs.declared.encrypted_private_key_info.EncryptedPrivateKeyInfo.{EncryptedPrivateKeyInfo}
use Rattle.p12.specs.declared.mac_data.MacData.{MacData}
use Rattle.p12.specs.declared.pfx.PFX.{PFX}
use Rattle.p12.specs.declared.safe_bag.SafeBag.{SafeBag}
use Rattle.p12.specs.declared.safe_bag.SafeBagKind.{SafeBagKind}
use Rattle.p12.specs.declared.safe_bag.SafeBagKind.TheVariants as kind
use Rattle.rekey_core.specs.Anew.{anew, drawn_for}
use Rattle.rekey_core.specs.Kinds.{MacKind, kind_for, mac_salt}
use Rattle.rekey_core.specs.Unlocking.{Unlocking}
use Rattle.rekey_core.specs.declared.kinds.Kinds.{Kinds}

-- n octets that are only counted
abbrev pub blank : ℕ → List ℕ
blank n = replicate n 0

abbrev pub blank_algorithm : AlgorithmIdentifier → AlgorithmIdentifier
blank_algorithm a = anew a (blank (drawn_for a))

-- how many octets a text of n has once it is sealed under an algorithm of the kind of this one:
-- padded up to a multiple of 8 under Triple DES, of 16 under AES
abbrev pub sealed_size : AlgorithmIdentifier → ℕ → ℕ
sealed_size Sha1 n = 0
sealed_size Sha256 n = 0
sealed_size (PbewithSHAAnd40BitRC2CBC p) n = 0
sealed_size (PbeWithSHAAnd3KeyTripleDESCBC p) n = n + pad_count 8 n
sealed_size (Pbes2 par) n = n + pad_count 16 n
sealed_size (OtherAlg o) n = 0

-- how many octets a text has that may be there
abbrev pub size_in : Option (List ℕ) → ℕ
size_in None = 0
size_in (Some m) = length m

abbrev pub blank_key : Kinds → Unlocking → EncryptedPrivateKeyInfo → EncryptedPrivateKeyInfo
blank_key to u k = record {
  encryption_algorithm = blank_algorithm (kind_for to k.encryption_algorithm);
  encrypted_data = blank
      (sealed_size (kind_for to k.encryption_algorithm)
      (size_in (u k.encryption_algorithm k.encrypted_data)));
}

abbrev pub blank_kind : Kinds → Unlocking → SafeBagKind → SafeBagKind
blank_kind to u (kind.CertBag c) = kind.CertBag c
blank_kind to u (kind.OtherBagKind o) = kind.OtherBagKind o
blank_kind to u (kind.Pkcs8ShroudedKeyBag k) = kind.Pkcs8ShroudedKeyBag (blank_key to u k)

abbrev pub blank_bag : Kinds → Unlocking → SafeBag → SafeBag
blank_bag to u g = record { bag = blank_kind to u g.bag; attributes = g.attributes }

-- the text of bags whose keys open by u, once they are sealed anew
abbrev pub blank_text : Kinds → Unlocking → List SafeBag → List ℕ
blank_text to u gs = bags_canon (map (blank_bag to u) gs)

-- a content that holds these bags
abbrev pub blank_content : Kinds → Unlocking → ContentInfo → List SafeBag → ContentInfo
blank_content to u (content.Data v) gs = content.Data (blank_text to u gs)
blank_content to u (content.EncryptedData d) gs =
    let a = kind_for to d.encrypted_content_info.content_encryption_algorithm in
    content.EncryptedData
    (record {
      encrypted_content_info =
          record {
            content_encryption_algorithm = blank_algorithm a;
            encrypted_content = blank (sealed_size a (length (blank_text to u gs)));
          };
    })
blank_content to u (content.OtherContext o) gs = content.OtherContext o

abbrev pub blank_contents : Kinds → Unlocking → List ContentInfo → List (List SafeBag)
    → List ContentInfo
blank_contents to u [] gss = []
blank_contents to u (c ∷ cs) [] = []
blank_contents to u (c ∷ cs) (gs ∷ gss) =
    blank_content to u c gs ∷ blank_contents to u cs gss

-- how many octets a digest has
abbrev pub digest_size : AlgorithmIdentifier → ℕ
digest_size Sha1 = 20
digest_size Sha256 = 32
digest_size (PbewithSHAAnd40BitRC2CBC p) = 0
digest_size (PbeWithSHAAnd3KeyTripleDESCBC p) = 0
digest_size (Pbes2 par) = 0
digest_size (OtherAlg o) = 0

abbrev pub blank_mac : Kinds → MacKind → MacData
blank_mac to k = record {
  mac = record {
    digest_algorithm = k.digest;
    digest = blank (digest_size k.digest);
  };
  salt = blank (mac_salt to);
  iterations = k.count;
}

-- a store of this version and MAC, whose contents hold these bags as u opens them, once it is
-- changed
abbrev pub blank_store : Kinds → ℕ → MacKind → Unlocking → List ContentInfo → List (List SafeBag)
    → PFX
blank_store to version k u cs gss =
    record {
      version = version;
      auth_safe = content.Data (contents_canon (blank_contents to u cs gss));
      mac_data = Some (blank_mac to k);
    }

-- how many octets its text has
unfoldable pub changed_size : Kinds → ℕ → MacKind → Unlocking → List ContentInfo
    → List (List SafeBag) → ℕ
changed_size to version k u cs gss = length (store_canon (blank_store to version k u cs gss))
