-- Keys that are derived before their parts are sealed.
use Rattle.std.proofs.Common.{◌≡◌, ℕ, ◌<◌, List, length, map, take, drop, Some, refl, ap, subst, sym, ◌∙◌, arith}
use Rattle.std.specs.List.{slice_get}
use Rattle.std.specs.Option.{option_map}
use Rattle.std.proofs.lemmas.Bool.{lt-ltb}
use Rattle.std.proofs.lemmas.Option.{slice_get-map}
use Rattle.mac_modes.specs.Hmac.{hmac}
use Rattle.mac_modes.specs.HmacLaws.{length-hmac}
use Rattle.pbkdf2.proofs.Xors.{has_its_length}
use Rattle.sha2.specs.Sha256.{sha256}
use Rattle.sha2.proofs.Facts256.{length-sha256}
use Rattle.pkcs5.specs.Kinds.{key_size, rounds_of}
use Rattle.pkcs5.specs.Opening.{OpensBy, ciphertext_size, derived, key_under, prf_of, sha256_key}
use Rattle.pkcs5.specs.OpeningLaws.{opened_some}
use Rattle.pkcs5.specs.declared.pbes2.encryption_scheme.EncryptionScheme.TheVariants.{Aes256Cbc}
use Rattle.pkcs5.specs.declared.pbes2.parameters.Parameters.{Parameters}
use Rattle.p12.specs.AlgorithmIdentifier.{count, unlock}
use Rattle.p12.proofs.Pbes2.{unlock_pbes2-is}
use Rattle.p12.specs.declared.algorithm_identifier.AlgorithmIdentifier.{AlgorithmIdentifier}
use Rattle.p12.specs.declared.algorithm_identifier.AlgorithmIdentifier.TheVariants.{Sha1, Sha256, PbewithSHAAnd40BitRC2CBC, PbeWithSHAAnd3KeyTripleDESCBC, Pbes2, OtherAlg}
use Rattle.rekey_core.specs.Anew.{anew, drawn_for, pbes2_rounds, sha256_anew}
use Rattle.rekey_core.specs.Kinds.{renewed}
use Rattle.rekey_core.specs.Sealing.{IsKeyAnew}
use Rattle.rekey_core.specs.Size.{sealed_size}

-- a derived key has 32 octets
length-sha256_key : (rounds : ℕ) (q salt : List ℕ) → length (sha256_key rounds q salt) ≡ 32
length-sha256_key rounds q salt = has_its_length (hmac sha256 64 q) 32 salt rounds 32 (omega arith) (length-hmac sha256 64 32 length-sha256 q)

-- as many as the cipher takes
pub key_fits : (made : Parameters) (r : ℕ) (z key : List ℕ) → made ≡ sha256_anew r z → (q : List ℕ) × IsKeyAnew r z q key → length key ≡ key_size made.encryption
key_fits made r z key e (q, is) = rw (e) (ap length is ∙ length-sha256_key r q (drop 16 z))

-- what is encrypted under it opens under the password that it was derived from
pub opens_by_key : (made : Parameters) (r : ℕ) (z key c m : List ℕ) → made ≡ sha256_anew r z → 0 < r → OpensBy made.encryption key c m
    → (q : List ℕ) → IsKeyAnew r z q key → unlock (Pbes2 made) q c ≡ Some m
unfolding unlock key_under derived prf_of
opens_by_key made r z key c m same some h q is =
    let under = subst (λ (k : List ℕ). OpensBy (Aes256Cbc (take 16 z)) k c m) is (subst (λ (p : Parameters). OpensBy p.encryption key c m) same h) in
    rw (same, unlock_pbes2-is (sha256_anew r z) q c, lt-ltb 0 r some) (opened_some (sha256_anew r z) q c m under)

-- and it is as long as under the password
pub size_by_key : (made : Parameters) (r : ℕ) (z c m : List ℕ) → made ≡ sha256_anew r z → length c ≡ ciphertext_size made.encryption (length m) → length c ≡ sealed_size (renewed r) (length m)
size_by_key made r z c m e is = is ∙ ap (λ (p : Parameters). ciphertext_size p.encryption (length m)) e

some_same : (x y : List ℕ) → Some x ≡ Some y → x ≡ y
some_same x y e = cc

-- the key at a place is that of the salt there
pub key_at_place : (f : List ℕ → List ℕ) (salts keys : List (List ℕ)) (i : ℕ) (salt key : List ℕ) → keys ≡ map f salts → slice_get salts i ≡ Some salt → slice_get keys i ≡ Some key → key ≡ f salt
key_at_place f salts keys i salt key e at there =
    some_same key (f salt) (sym there ∙ ap (λ (l : List (List ℕ)). slice_get l i) e ∙ slice_get-map f salts i ∙ ap (option_map f) at)

-- the same key under equal names
pub same_key : (r rounds : ℕ) (q password own salt key : List ℕ) → key ≡ sha256_key r q own → r ≡ rounds → q ≡ password → own ≡ salt → key ≡ sha256_key rounds password salt
same_key r rounds q password own salt key is a b c =
    is ∙ ap (λ (n : ℕ). sha256_key n q own) a ∙ ap (λ (p : List ℕ). sha256_key rounds p own) b ∙ ap (λ (s : List ℕ). sha256_key rounds password s) c

-- ---- what is sealed under PBES2

pub rounds_draw : (a : AlgorithmIdentifier) (r : ℕ) → Some r ≡ pbes2_rounds a → drawn_for a ≡ 32
rounds_draw Sha1 r e = absurd cc
rounds_draw Sha256 r e = absurd cc
rounds_draw (PbewithSHAAnd40BitRC2CBC p) r e = absurd cc
rounds_draw (PbeWithSHAAnd3KeyTripleDESCBC p) r e = absurd cc
rounds_draw (Pbes2 par) r e = refl
rounds_draw (OtherAlg o) r e = absurd cc

pub rounds_count : (a : AlgorithmIdentifier) (r : ℕ) → Some r ≡ pbes2_rounds a → count a ≡ r
rounds_count Sha1 r e = absurd cc
rounds_count Sha256 r e = absurd cc
rounds_count (PbewithSHAAnd40BitRC2CBC p) r e = absurd cc
rounds_count (PbeWithSHAAnd3KeyTripleDESCBC p) r e = absurd cc
rounds_count (Pbes2 par) r e = cc
rounds_count (OtherAlg o) r e = absurd cc

pub rounds_are_anew : (a : AlgorithmIdentifier) (r : ℕ) (z : List ℕ) → Some r ≡ pbes2_rounds a → Pbes2 (sha256_anew r z) ≡ anew a z
rounds_are_anew Sha1 r z e = absurd cc
rounds_are_anew Sha256 r z e = absurd cc
rounds_are_anew (PbewithSHAAnd40BitRC2CBC p) r z e = absurd cc
rounds_are_anew (PbeWithSHAAnd3KeyTripleDESCBC p) r z e = absurd cc
rounds_are_anew (Pbes2 par) r z e = let same : r ≡ rounds_of par.kdf = cc in ap (λ (n : ℕ). Pbes2 (sha256_anew n z)) same
rounds_are_anew (OtherAlg o) r z e = absurd cc

pub rounds_size : (a : AlgorithmIdentifier) (r n : ℕ) → Some r ≡ pbes2_rounds a → sealed_size (renewed r) n ≡ sealed_size a n
rounds_size Sha1 r n e = absurd cc
rounds_size Sha256 r n e = absurd cc
rounds_size (PbewithSHAAnd40BitRC2CBC p) r n e = absurd cc
rounds_size (PbeWithSHAAnd3KeyTripleDESCBC p) r n e = absurd cc
rounds_size (Pbes2 par) r n e = refl
rounds_size (OtherAlg o) r n e = absurd cc
