-- How long what opens is, beside what it is opened from.
use Rattle.std.proofs.Common.{◌≡◌, ℕ, ◌+◌, ◌<◌, ◌≤◌, Bool, true, false, List, [], ◌∷◌, ◌++◌, length, Option, Some, None, refl, sym, ap, ◌∙◌, arith, length-append}
use Rattle.std.specs.Prelude.{if◌then◌else◌}
use Rattle.asn1_core.specs.Der.{el, oid, octets, shortest, uint}
use Rattle.asn1_core.specs.DigitLaws.{shortest_one}
use Rattle.asn1_core.specs.Oid.{oid_octets}
use Rattle.pkcs5.specs.Opening.{ciphertext_size}
use Rattle.pkcs5.specs.OpeningLaws.{opened_is}
use Rattle.pkcs5.specs.declared.pbes2.encryption_scheme.EncryptionScheme.{EncryptionScheme}
use Rattle.pkcs5.specs.declared.pbes2.encryption_scheme.EncryptionScheme.TheVariants.{Aes128Cbc, Aes192Cbc, Aes256Cbc, Aes128Gcm, Aes256Gcm, DesEde3Cbc, DesCbc}
use Rattle.pkcs5.specs.declared.pbes2.parameters.Parameters.{Parameters}
use Rattle.pkcs5.proofs.Openings.{length_opens}
use Rattle.pkcs8.specs.Seen.{AnyPrivateKey}
use Rattle.pkcs8.specs.Spelling.{key_parts, private_key_text}
use Rattle.pkcs12_kdf.specs.Password.{bmp_password}
use Rattle.p12.specs.declared.algorithm_identifier.AlgorithmIdentifier.{AlgorithmIdentifier}
use Rattle.p12.specs.declared.algorithm_identifier.AlgorithmIdentifier.TheVariants.{Sha1, Sha256, PbewithSHAAnd40BitRC2CBC, PbeWithSHAAnd3KeyTripleDESCBC, Pbes2, OtherAlg}
use Rattle.p12.specs.declared.encrypted_private_key_info.EncryptedPrivateKeyInfo.{EncryptedPrivateKeyInfo}
use Rattle.p12.specs.declared.pkcs12_pbe_params.Pkcs12PbeParams.{Pkcs12PbeParams}
use Rattle.p12.specs.AlgorithmIdentifier.{ciphertext_length, unlock, unlock_pbe, unlock_pbes2}
use Rattle.p12.proofs.Pbes2.{unlock_pbes2-is}
use Rattle.spki.specs.Spelling.{algorithm_text, parameters_text}
use Rattle.transfer.specs.Opening.{KeyOpens}
use Rattle.pkcs12_c.proofs.BagLengths.{algorithm_room, key_room}
use Rattle.pkcs12_c.proofs.DocumentLengths.{KeysAreShortest}
use Rattle.pkcs12_c.proofs.ElementLengths.{el_least, el_short}

-- The length of a ciphertext under Triple DES: the law `p12::uniqueness::ciphertexts_have_one_length`.
abbrev pub TripleDesLengths : Type 0
TripleDesLengths = (p : Pkcs12PbeParams) (q c m : List ℕ) → unlock_pbe (PbeWithSHAAnd3KeyTripleDESCBC p) q c ≡ Some m → length c ≡ ciphertext_length (length m)

longer : (e : EncryptionScheme) (n : ℕ) → n + 1 ≤ ciphertext_size e n
longer (Aes128Cbc iv) n = omega arith
longer (Aes192Cbc iv) n = omega arith
longer (Aes256Cbc iv) n = omega arith
longer (Aes128Gcm nonce) n = omega arith
longer (Aes256Gcm nonce) n = omega arith
longer (DesEde3Cbc iv) n = omega arith
longer (DesCbc iv) n = omega arith

if_some : (t : Bool) (r : Option (List ℕ)) (m : List ℕ) → (if t then r else None) ≡ Some m → r ≡ Some m
if_some true r m e = e
if_some false r m e = absurd cc

pbes2_longer : (par : Parameters) (p c m : List ℕ) → unlock_pbes2 par p c ≡ Some m → length m + 1 ≤ length c
pbes2_longer par p c m e = omega (arith, length_opens par p c m (opened_is par p c m (if_some _ _ m (sym (unlock_pbes2-is par p c) ∙ e))), longer par.encryption (length m))

-- A text is shorter than what is opened to it, and its algorithm has its octets.
pub opened_shorter : TripleDesLengths → (a : AlgorithmIdentifier) (p c m : List ℕ) → unlock a p c ≡ Some m → (length m + 1 ≤ length c) × (algorithm_room a ≡ 20)
unfolding unlock
opened_shorter triple Sha1 p c m e = absurd cc
opened_shorter triple Sha256 p c m e = absurd cc
opened_shorter triple (PbewithSHAAnd40BitRC2CBC params) p c m e = absurd cc
opened_shorter triple (PbeWithSHAAnd3KeyTripleDESCBC params) p c m e = (omega (arith, triple params (bmp_password p) c m e), refl)
opened_shorter triple (Pbes2 par) p c m e = (pbes2_longer par p c m e, refl)
opened_shorter triple (OtherAlg o) p c m e = absurd cc

parts_least : (k : AnyPrivateKey) → 11 ≤ length (private_key_text k)
parts_least k = by_public k.public_key
  where
    number_is : (n : ℕ) → n < 128 → length (uint n) ≡ 3
    number_is n lt = omega (arith, ap length (shortest_one n lt), el_short 0x02 (shortest n) (omega (arith, ap length (shortest_one n lt))))

    algorithm_is : 4 ≤ length (algorithm_text k.algorithm)
    algorithm_is =
        let named = oid (oid_octets k.algorithm.oid) in
        omega (arith, el_least 0x30 (named ++ parameters_text k.algorithm.parameters), length-append named (parameters_text k.algorithm.parameters), el_least 0x06 (oid_octets k.algorithm.oid))

    by_public : (q : Option (ℕ × List ℕ)) → 11 ≤ length (key_parts k.algorithm k.private_key q [] [])
    by_public None =
        let front = uint 0 ++ algorithm_text k.algorithm in
        let text = front ++ octets k.private_key ++ [] ++ [] in
        omega (
          arith,
          el_least 0x30 text,
          length-append (front ++ octets k.private_key ++ []) [],
          length-append (front ++ octets k.private_key) [],
          length-append front (octets k.private_key),
          length-append (uint 0) (algorithm_text k.algorithm),
          number_is 0 (omega arith),
          algorithm_is,
          el_least 0x04 k.private_key,
        )
    by_public (Some q) =
        let front = uint 1 ++ algorithm_text k.algorithm in
        let public = el 0x81 (q.0 ∷ q.1) in
        let text = front ++ octets k.private_key ++ [] ++ public ++ [] in
        omega (
          arith,
          el_least 0x30 text,
          length-append (front ++ octets k.private_key ++ [] ++ public) [],
          length-append (front ++ octets k.private_key ++ []) public,
          length-append (front ++ octets k.private_key) [],
          length-append front (octets k.private_key),
          length-append (uint 1) (algorithm_text k.algorithm),
          number_is 1 (omega arith),
          algorithm_is,
          el_least 0x04 k.private_key,
        )

-- A key has at least 11 octets, and at least 41 more are in its bag, where its ciphertext is longer than it.
pub record KeyTakes (k : EncryptedPrivateKeyInfo) (m : List ℕ) : Type 0 where
  pub some : 11 ≤ length m
  pub longer : length m + 42 ≤ key_room k

pub key_takes : KeysAreShortest → TripleDesLengths → (p : List ℕ) (k : EncryptedPrivateKeyInfo) (m : List ℕ) → KeyOpens p k m → KeyTakes k m
key_takes shortest triple p k m o =
    let shorter = opened_shorter triple k.encryption_algorithm p k.encrypted_data m o.0 in
    let key = o.1 in
    record { some = omega (arith, parts_least key.0, shortest m key.0 key.1); longer = omega (arith, shorter.0, shorter.1) }
