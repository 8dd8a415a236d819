-- Of what kind the parts and the MAC of a changed store are.
use Rattle.std.specs.Prelude.{ℕ, []}
use Rattle.pkcs5.specs.Generation.{pbkdf2_sha256}
use Rattle.pkcs5.specs.declared.pbes2.encryption_scheme.EncryptionScheme.TheVariants.{Aes256Cbc}
use Rattle.p12.specs.declared.algorithm_identifier.AlgorithmIdentifier.{AlgorithmIdentifier}
use Rattle.p12.specs.declared.algorithm_identifier.AlgorithmIdentifier.TheVariants.{Sha1, Sha256, Pbes2}
use Rattle.p12.specs.declared.mac_data.MacData.{MacData}
use Rattle.rekey_core.specs.declared.kinds.Kinds.{Kinds}
use Rattle.rekey_core.specs.declared.kinds.Kinds.TheVariants.{Kept, Renewed}
use Rattle.rekey_core.specs.declared.kinds.MacAnew.{MacAnew}
use Rattle.rekey_core.specs.declared.kinds.MacAnew.TheVariants as made
use Rattle.rekey_core.specs.declared.kinds.Rounds.{Rounds}

-- the kind of PBKDF2 with HMAC-SHA-256 in so many rounds and of AES-256-CBC, whatever the salt and
-- the IV
abbrev pub renewed : ℕ → AlgorithmIdentifier
renewed rounds = Pbes2 (pbkdf2_sha256 rounds [] (Aes256Cbc []))

-- the algorithm whose kind is that of a part, sealed anew, that was under this one
abbrev pub kind_for : Kinds → AlgorithmIdentifier → AlgorithmIdentifier
kind_for Kept a = a
kind_for (Renewed rounds) a = renewed rounds.count

-- the digest of the MAC, its count, and how many octets its salt has
abbrev pub digest_for : Kinds → MacData → AlgorithmIdentifier
digest_for Kept m = m.mac.digest_algorithm
digest_for (Renewed rounds) m = Sha256

abbrev pub count_for : Kinds → MacData → ℕ
count_for Kept m = m.iterations
count_for (Renewed rounds) m = rounds.count

-- what a MAC is made with
pub record MacKind : Type 0 where
  pub digest : AlgorithmIdentifier
  pub count : ℕ

abbrev pub mac_for : Kinds → MacData → MacKind
mac_for to m = record { digest = digest_for to m; count = count_for to m }

abbrev pub renewed_mac : Rounds → MacKind
renewed_mac rounds = record { digest = Sha256; count = rounds.count }

-- what the MAC that is asked for is made with
abbrev pub mac_kind : MacAnew → MacKind
mac_kind (made.Sha1 rounds) = record { digest = Sha1; count = rounds.count }
mac_kind (made.Sha256 rounds) = record { digest = Sha256; count = rounds.count }

abbrev pub mac_salt : Kinds → ℕ
mac_salt Kept = 8
mac_salt (Renewed rounds) = 16
