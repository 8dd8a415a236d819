-- A text has one ciphertext.
use Rattle.std.proofs.Common.{◌≡◌, ℕ, ◌≤◌, ◌<◌, ◌%◌, ◌==◌, ◌&&◌, Bool, true, false, List, length, take, drop, Option, Some, None, refl, sym, ◌∙◌, arith, nat_lt}
use Rattle.std.specs.Prelude.{All, if◌then◌else◌}
use Rattle.std.proofs.lemmas.Bool.{ltb-true, eqb-true}
use Rattle.asn1_core.specs.OctetLaws.{both}
use Rattle.sha1.specs.Sha1.{sha1}
use Rattle.block_core.specs.Des.{round_keys}
use Rattle.block_core.specs.Tdes.{back_under_three, inv_tdes, under_three}
use Rattle.block_core.specs.TdesLaws.{tdes_laws}
use Rattle.mac_modes.specs.Cbc.{uncbc}
use Rattle.mac_modes.specs.Padding.{padded}
use Rattle.mac_modes.specs.Sha1Laws.{length-sha1}
use Rattle.mac_modes.proofs.Uniqueness.{one_ciphertext}
use Rattle.pkcs5.proofs.Openings.{length_8, tdes_blocks}
use Rattle.pkcs12_kdf.specs.Derivation.{derive12}
use Rattle.pkcs5.specs.Opening.{unpadded}
use Rattle.p12.specs.AlgorithmIdentifier.{ciphertext_length, is_blocks, triple_des_text, unlock_pbe}
use Rattle.p12.specs.declared.pkcs12_pbe_params.Pkcs12PbeParams.{Pkcs12PbeParams}
use Rattle.p12.specs.declared.algorithm_identifier.AlgorithmIdentifier.TheVariants.{PbeWithSHAAnd3KeyTripleDESCBC}
use Rattle.p12.proofs.Paddings.{unpadded_is}
use Rattle.pkcs12_kdf.proofs.Texts.{length-derive12}

abbrev Octets : List ℕ → Type 0
Octets c = All (λ octet. octet < 256) c

-- under Triple DES with a key and an IV
under_key : (key iv c d : List ℕ) → length iv ≡ 8 → Octets c → length c % 8 ≡ 0 → Octets d → length d % 8 ≡ 0 → uncbc (inv_tdes key) 8 iv c ≡ uncbc (inv_tdes key) 8 iv d → c ≡ d
unfolding inv_tdes back_under_three
under_key key iv c d long oc wc od wd e =
    let k1 = round_keys (take 8 key) in
    let k2 = round_keys (take 8 (drop 8 key)) in
    let k3 = round_keys (take 8 (drop 16 key)) in
    one_ciphertext (Unit {0}) 8 (λ s. under_three k1 k2 k3) (λ s. back_under_three k1 k2 k3) (tdes_laws (Unit {0}) (λ s. k1) (λ s. k2) (λ s. k3)) tt iv long c d oc wc od wd e

if_value : (t : Bool) (r : Option (List ℕ)) (m : List ℕ) → (if t then r else None) ≡ Some m → (t ≡ true) × (r ≡ Some m)
if_value true r m e = (refl, e)
if_value false r m e = absurd cc

record Opened (p : Pkcs12PbeParams) (q c m : List ℕ) : Type 0 where
  rounds : 1 ≤ p.iterations
  some : 0 < length c
  whole : length c % 8 ≡ 0
  text : triple_des_text q p.salt p.iterations c ≡ padded m 8

opened : (p : Pkcs12PbeParams) (q c m : List ℕ) → unlock_pbe (PbeWithSHAAnd3KeyTripleDESCBC p) q c ≡ Some m → Opened p q c m
unfolding unlock_pbe
opened p q c m e =
    let t = if_value (nat_lt 0 p.iterations && is_blocks c) (unpadded 8 (triple_des_text q p.salt p.iterations c)) m e in
    let u = both (nat_lt 0 p.iterations) (is_blocks c) t.0 in
    let v = both (nat_lt 0 (length c)) (length c % 8 == 0) u.1 in
    record { rounds = omega (arith, ltb-true 0 p.iterations u.0); some = ltb-true 0 (length c) v.0; whole = eqb-true (length c % 8) 0 v.1; text = sym (unpadded_is 8 _ m t.1) }

pub triple_des_sole : (p : Pkcs12PbeParams) (q c d m : List ℕ) → Octets c → Octets d → unlock_pbe (PbeWithSHAAnd3KeyTripleDESCBC p) q c ≡ Some m → unlock_pbe (PbeWithSHAAnd3KeyTripleDESCBC p) q d ≡ Some m → c ≡ d
unfolding triple_des_text
triple_des_sole p q c d m oc od h k =
    let a = opened p q c m h in
    let b = opened p q d m k in
    under_key (derive12 sha1 20 q p.salt p.iterations 1 24) (derive12 sha1 20 q p.salt p.iterations 2 8) c d
    (length-derive12 sha1 q p.salt p.iterations 2 8 a.rounds length-sha1) oc a.whole od b.whole (a.text ∙ sym b.text)

-- a ciphertext is as long as its text makes it
pub triple_des_length : (p : Pkcs12PbeParams) (q c m : List ℕ) → unlock_pbe (PbeWithSHAAnd3KeyTripleDESCBC p) q c ≡ Some m → length c ≡ ciphertext_length (length m)
unfolding triple_des_text
triple_des_length p q c m h =
    let a = opened p q c m h in
    length_8 _ (tdes_blocks (derive12 sha1 20 q p.salt p.iterations 1 24)) (derive12 sha1 20 q p.salt p.iterations 2 8) c m
    (record { blocks = record { some = a.some; whole = a.whole }; text = a.text })
