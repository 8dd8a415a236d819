-- Triple DES (FIPS 46-3, the Triple Data Encryption Algorithm) with three keys of 8 octets, one
-- after the other.
use Rattle.std.specs.Prelude.{ℕ, List, take, drop, reverse}
use Rattle.block_core.specs.Des.{des, inv_des, under_keys}

-- encryption with the first key, decryption with the second, encryption with the third
unfoldable pub tdes : List ℕ → List ℕ → List ℕ
tdes key block = des (take 8 (drop 16 key)) (inv_des (take 8 (drop 8 key)) (des (take 8 key) block))

-- its inverse: decryption with the third key, encryption with the second, decryption with the first
unfoldable pub inv_tdes : List ℕ → List ℕ → List ℕ
inv_tdes key block =
    inv_des (take 8 key) (des (take 8 (drop 8 key)) (inv_des (take 8 (drop 16 key)) block))

-- encryption under the round keys of three keys
unfoldable pub under_three : List (List ℕ) → List (List ℕ) → List (List ℕ) → List ℕ → List ℕ
under_three first second third block =
    under_keys third (under_keys (reverse second) (under_keys first block))

-- decryption under the round keys of three keys
unfoldable pub back_under_three : List (List ℕ) → List (List ℕ) → List (List ℕ) → List ℕ → List ℕ
back_under_three first second third block =
    under_keys (reverse first) (under_keys second (under_keys (reverse third) block))
