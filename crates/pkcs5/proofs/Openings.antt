-- The lengths of texts that open.
use Rattle.std.proofs.Common.{◌≡◌, ◌∙◌, sym, ap, mul-suc, ℕ, zero, suc, ◌+◌, ◌*◌, ◌/◌, ◌%◌, ◌≤◌, List, ◌++◌, length, drop, replicate, bit_xor, arith}
use Rattle.std.specs.Prelude.{slice_index}
use Rattle.std.proofs.lemmas.List.{length-append, length-take-le, length-drop, length-replicate}
use Rattle.std.proofs.lemmas.List.FromFn.{length-map-range_with_len}
use Rattle.block_core.specs.AesRounds.{add_round_key, inv_rounds, decrypt_with}
use Rattle.block_core.specs.Bits.{xor_each}
use Rattle.block_core.specs.BitsLaws.{length-octets_of_bits, length-xor_each}
use Rattle.block_core.specs.Des.{inv_des, under_keys}
use Rattle.block_core.specs.Tdes.{inv_tdes}
use Rattle.mac_modes.specs.Cbc.{block, opened}
use Rattle.mac_modes.specs.Padding.{pad_count}
use Rattle.pkcs5.specs.Opening.{Decrypts, Opens, OpensBy, ciphertext_size, key_under}
use Rattle.pkcs5.specs.declared.pbes2.encryption_scheme.EncryptionScheme.{EncryptionScheme}
use Rattle.pkcs5.specs.declared.pbes2.encryption_scheme.EncryptionScheme.TheVariants.{Aes128Cbc, Aes192Cbc, Aes256Cbc, Aes128Gcm, Aes256Gcm, DesEde3Cbc, DesCbc}
use Rattle.pkcs5.specs.declared.pbes2.parameters.Parameters.{Parameters}

-- a function whose answers are blocks of n octets
abbrev pub GivesBlocks : ℕ → (List ℕ → List ℕ) → Type 0
GivesBlocks n D = (b : List ℕ) → length (D b) ≡ n

length_inv_rounds : (keys : List ℕ) (n : ℕ) (s : List ℕ) → length (inv_rounds keys n s) ≡ 16
unfolding inv_rounds add_round_key
length_inv_rounds keys zero s = length-map-range_with_len (λ (i : ℕ). bit_xor (slice_index s i) (slice_index keys (16 * 0 + i))) 0 16
length_inv_rounds keys (suc n) s = length_inv_rounds keys n _

aes_blocks : (keys : List ℕ) (n : ℕ) → GivesBlocks 16 (decrypt_with keys n)
unfolding decrypt_with
aes_blocks keys n b = length_inv_rounds keys n _

des_blocks : (key : List ℕ) → GivesBlocks 8 (inv_des key)
unfolding under_keys
des_blocks key b = length-octets_of_bits 8 _

pub tdes_blocks : (key : List ℕ) → GivesBlocks 8 (inv_tdes key)
unfolding inv_tdes under_keys
tdes_blocks key b = length-octets_of_bits 8 _

module _ (n : ℕ) (D : List ℕ → List ℕ) (blocks : GivesBlocks n D) (iv c : List ℕ) where
  -- the first k blocks decrypt to as many octets
  length_opened : (k : ℕ) → n * k ≤ length c → length (opened D n iv k c) ≡ n * k
  unfolding opened
  length_opened zero room = omega arith
  length_opened (suc k) room =
      let m : n * suc k ≡ n * k + n = mul-suc n k in
      let before : length (block n k (iv ++ c)) ≡ n = length-take-le n (drop (n * k) (iv ++ c)) (omega (arith, m, length-drop (n * k) (iv ++ c), length-append iv c)) in
      let last : length (xor_each (D (block n k c)) (block n k (iv ++ c))) ≡ n = length-xor_each (D (block n k c)) (block n k (iv ++ c)) (blocks (block n k c) ∙ sym before) ∙ blocks (block n k c) in
      omega (arith, m, length-append (opened D n iv k c) (xor_each (D (block n k c)) (block n k (iv ++ c))), length_opened k (omega (arith, m)), last)

length_16 : (D : List ℕ → List ℕ) → GivesBlocks 16 D → (iv c m : List ℕ) → Decrypts 16 D iv c m → length c ≡ length m + pad_count 16 (length m)
length_16 D blocks iv c m h =
    let whole : length c % 16 ≡ 0 = h.blocks.whole in
    let all : 16 * (length c / 16) ≡ length c = omega arith in
    sym (length_opened 16 D blocks iv c (length c / 16) (omega arith) ∙ all) ∙ ap length h.text
    ∙ length-append m (replicate (pad_count 16 (length m)) (pad_count 16 (length m))) ∙ ap (λ (n : ℕ). length m + n) (length-replicate (pad_count 16 (length m)) (pad_count 16 (length m)))

pub length_8 : (D : List ℕ → List ℕ) → GivesBlocks 8 D → (iv c m : List ℕ) → Decrypts 8 D iv c m → length c ≡ length m + pad_count 8 (length m)
length_8 D blocks iv c m h =
    let whole : length c % 8 ≡ 0 = h.blocks.whole in
    let all : 8 * (length c / 8) ≡ length c = omega arith in
    sym (length_opened 8 D blocks iv c (length c / 8) (omega arith) ∙ all) ∙ ap length h.text
    ∙ length-append m (replicate (pad_count 8 (length m)) (pad_count 8 (length m))) ∙ ap (λ (n : ℕ). length m + n) (length-replicate (pad_count 8 (length m)) (pad_count 8 (length m)))

pub length_by : (e : EncryptionScheme) (key c m : List ℕ) → OpensBy e key c m → length c ≡ ciphertext_size e (length m)
unfolding OpensBy
length_by (Aes128Cbc iv) key c m h = length_16 _ (aes_blocks _ _) iv c m h
length_by (Aes192Cbc iv) key c m h = length_16 _ (aes_blocks _ _) iv c m h
length_by (Aes256Cbc iv) key c m h = length_16 _ (aes_blocks _ _) iv c m h
length_by (Aes128Gcm nonce) key c m h = h.long
length_by (Aes256Gcm nonce) key c m h = h.long
length_by (DesEde3Cbc iv) key c m h = length_8 _ (tdes_blocks key) iv c m h
length_by (DesCbc iv) key c m h = length_8 _ (des_blocks key) iv c m h

-- a ciphertext is as long as its cipher makes it
pub length_opens : (par : Parameters) (q c m : List ℕ) → Opens par q c m → length c ≡ ciphertext_size par.encryption (length m)
length_opens par q c m h = length_by par.encryption (key_under par q) c m h
