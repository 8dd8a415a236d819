-- Parts that are sealed under the keys that were derived for them.
use Rattle.std.proofs.Common.{◌≡◌, ℕ, ◌<◌, ◌≤◌, ◌^◌, List, length, map, Some, ap, subst, sym, ◌∙◌, arith}
use Rattle.std.specs.Prelude.{All}
use Rattle.std.specs.List.{slice_get}
use Rattle.std.specs.Option.{option_map}
use Rattle.std.proofs.lemmas.Bool.{lt-ltb}
use Rattle.std.proofs.lemmas.Option.{slice_get-map}
use Rattle.mac_modes.specs.Hmac.{hmac}
use Rattle.mac_modes.specs.HmacLaws.{length-hmac}
use Rattle.pbkdf2.proofs.Xors.{has_its_length}
use Rattle.sha2.specs.Sha256.{sha256}
use Rattle.sha2.proofs.Facts256.{length-sha256}
use Rattle.pkcs5.specs.Kinds.{key_size}
use Rattle.pkcs5.specs.Opening.{OpensBy, derived, key_under, prf_of, sha256_key}
use Rattle.pkcs5.specs.OpeningLaws.{opened_some}
use Rattle.pkcs5.specs.declared.pbes2.parameters.Parameters.{Parameters}
use Rattle.p12.specs.AlgorithmIdentifier.{unlock}
use Rattle.p12.proofs.Pbes2.{unlock_pbes2-is}
use Rattle.p12.specs.declared.algorithm_identifier.AlgorithmIdentifier.TheVariants.{Pbes2}
use Rattle.pkcs12_kdf.specs.Password.{bmp_password}
use Rattle.pkcs12_kdf.proofs.PasswordSizes.{password_fits}
use Rattle.create_core.specs.Parts.{IsSealedAt, parameters_under, under}
use Rattle.sealing_core.specs.declared.drawn.IvAndSalt.{IvAndSalt}

some_same : (x y : List ℕ) → Some x ≡ Some y → x ≡ y
some_same x y e = cc

-- a derived key has 32 octets
length-sha256_key : (rounds : ℕ) (q salt : List ℕ) → length (sha256_key rounds q salt) ≡ 32
length-sha256_key rounds q salt = has_its_length (hmac sha256 64 q) 32 salt rounds 32 (omega arith) (length-hmac sha256 64 32 length-sha256 q)

-- the key at a place is that of what was drawn there
pub key_at_place : (f : IvAndSalt → List ℕ) (drawn : List IvAndSalt) (keys : List (List ℕ)) (i : ℕ) (d : IvAndSalt) (key : List ℕ) → keys ≡ map f drawn → slice_get drawn i ≡ Some d → slice_get keys i ≡ Some key → key ≡ f d
key_at_place f drawn keys i d key e at there =
    some_same key (f d) (sym there ∙ ap (λ (l : List (List ℕ)). slice_get l i) e ∙ slice_get-map f drawn i ∙ ap (option_map f) at)

-- it has as many octets as the cipher takes
pub key_fits : (par : Parameters) (r : ℕ) (p : List ℕ) (d : IvAndSalt) (key : List ℕ) → par ≡ parameters_under r d → key ≡ sha256_key r p d.salt → length key ≡ key_size par.encryption
key_fits par r p d key e is = rw e (ap length is ∙ length-sha256_key r p d.salt)

-- what is encrypted under it opens under the password
opens_by_key : (r : ℕ) (p : List ℕ) (d : IvAndSalt) (key c m : List ℕ) → 1 ≤ r → key ≡ sha256_key r p d.salt → OpensBy (parameters_under r d).encryption key c m → unlock (under r d) p c ≡ Some m
unfolding unlock key_under derived prf_of
opens_by_key r p d key c m some is h =
    let under_key = subst (λ (k : List ℕ). OpensBy (parameters_under r d).encryption k c m) is h in
    rw (unlock_pbes2-is (parameters_under r d) p c, lt-ltb 0 r (omega (arith, some))) (opened_some (parameters_under r d) p c m under_key)

pub part_sealed : (par : Parameters) (r : ℕ) (p : List ℕ) (drawn : List IvAndSalt) (place : ℕ) (d : IvAndSalt) (key c seen m : List ℕ) → slice_get drawn place ≡ Some d → par ≡ parameters_under r d → 1 ≤ r → key ≡ sha256_key r p d.salt
    → OpensBy par.encryption key c m → seen ≡ c → All (λ octet. octet < 256) seen → IsSealedAt r p drawn place m (Pbes2 par) c
part_sealed par r p drawn place d key c seen m at e some is h same octets = record {
  part = d;
  at = at;
  algorithm = ap Pbes2 e;
  seals = record {
    opens = opens_by_key r p d key c m some is (subst (λ (x : Parameters). OpensBy x.encryption key c m) e h);
    octets = subst (All (λ octet. octet < 256)) same octets;
  };
}

pub units_fit : (p q : List ℕ) → q ≡ bmp_password p → length p < 2 ^ 57 → length q < 2 ^ 59
units_fit p q e h = omega (arith, ap length e, password_fits p, h)
