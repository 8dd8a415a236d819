-- A buffer that was decrypted in place holds the opened text.
use Rattle.std.proofs.Common.{◌≡◌, ℕ, List, length, take, drop, Some, sym, ap, ◌∙◌, arith}
use Rattle.std.proofs.lemmas.List.{take_at}
use Rattle.sha1.specs.Sha1.{sha1}
use Rattle.block_core.specs.Tdes.{inv_tdes}
use Rattle.mac_modes.specs.Cbc.{uncbc}
use Rattle.octet_core.specs.Lending.{written_over}
use Rattle.mac_modes.specs.Padding.{padded}
use Rattle.p12.proofs.Paddings.{unpadded_some}
use Rattle.pkcs12_kdf.specs.Derivation.{derive12}
use Rattle.pkcs5.specs.Opening.{unpadded}
use Rattle.p12.specs.AlgorithmIdentifier.{triple_des_text}

-- octets that are written over as many are those octets
whole_over : (base t : List ℕ) → length t ≡ length base → written_over base t ≡ t
whole_over base t size = take_at t (drop (length t) base) (length base) size

pub front_of : (base t after : List ℕ) (len : ℕ) → length t ≡ length base → after ≡ take len (written_over base t) → after ≡ take len t
front_of base t after len size is = is ∙ ap (take len) (whole_over base t size)

-- what blocks decrypt to under a key and an IV that were derived
pub text_of_keys : (q salt : List ℕ) (r : ℕ) (b key iv : List ℕ) → key ≡ derive12 sha1 20 q salt r 1 24 → iv ≡ derive12 sha1 20 q salt r 2 8 → uncbc (inv_tdes key) 8 iv b ≡ triple_des_text q salt r b
unfolding triple_des_text
text_of_keys q salt r b key iv k v = ap (λ (x : List ℕ). uncbc (inv_tdes x) 8 iv b) k ∙ ap (λ (x : List ℕ). uncbc (inv_tdes (derive12 sha1 20 q salt r 1 24)) 8 x b) v

-- what was encrypted under them opens to its text
pub sealed_opens : (q salt : List ℕ) (r : ℕ) (key iv b c t m : List ℕ) → key ≡ derive12 sha1 20 q salt r 1 24 → iv ≡ derive12 sha1 20 q salt r 2 8 → c ≡ b → t ≡ m
    → uncbc (inv_tdes key) 8 iv b ≡ padded t 8 → unpadded 8 (triple_des_text q salt r c) ≡ Some m
sealed_opens q salt r key iv b c t m k v same front e =
    let text : triple_des_text q salt r c ≡ padded m 8 = ap (triple_des_text q salt r) same ∙ sym (text_of_keys q salt r b key iv k v) ∙ e ∙ ap (λ (x : List ℕ). padded x 8) front in
    unpadded_some 8 (triple_des_text q salt r c) m (omega arith) (sym text)
