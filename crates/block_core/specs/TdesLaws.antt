-- lemmas only: nothing to believe here
-- Triple DES: a cipher turned round is a cipher, and so is one cipher after another.
use Rattle.std.proofs.Common.{◌∙◌, ap, ℕ, List, reverse}
use Rattle.block_core.specs.BlockCipher.{CipherLaws}
use Rattle.block_core.specs.Des.{under_keys}
use Rattle.block_core.specs.Tdes.{under_three, back_under_three}
use Rattle.block_core.specs.DesLaws.{des_laws}

-- a cipher used the other way round
pub turned : (S : Type 0) (n : ℕ) (e d : S → List ℕ → List ℕ) → CipherLaws S n e d → CipherLaws S n d e
turned S n e d laws = record {
  low = laws.low;
  high = laws.high;
  encrypted = laws.decrypted;
  decrypted = laws.encrypted;
  undoes = laws.undone;
  undone = laws.undoes;
}

-- one cipher and then another
pub composed : (S : Type 0) (n : ℕ) (e d f g : S → List ℕ → List ℕ) → CipherLaws S n e d → CipherLaws S n f g
    → CipherLaws S n (λ s b. f s (e s b)) (λ s b. d s (g s b))
composed S n e d f g one two = record {
  low = one.low;
  high = one.high;
  encrypted = λ s b is. two.encrypted s (e s b) (one.encrypted s b is);
  decrypted = λ s b is. one.decrypted s (g s b) (two.decrypted s b is);
  undoes = λ s b is. ap (d s) (two.undoes s (e s b) (one.encrypted s b is)) ∙ one.undoes s b is;
  undone = λ s b is. ap (f s) (one.undone s (g s b) (two.decrypted s b is)) ∙ two.undone s b is;
}

-- Triple DES
pub tdes_laws : (S : Type 0) (k1 k2 k3 : S → List (List ℕ))
    → CipherLaws S 8 (λ s. under_three (k1 s) (k2 s) (k3 s)) (λ s. back_under_three (k1 s) (k2 s) (k3 s))
unfolding under_three back_under_three
tdes_laws S k1 k2 k3 =
    composed S 8
    (λ s b. under_keys (reverse (k2 s)) (under_keys (k1 s) b))
    (λ s b. under_keys (reverse (k1 s)) (under_keys (k2 s) b))
    (λ s. under_keys (k3 s))
    (λ s. under_keys (reverse (k3 s)))
    (composed S 8
    (λ s. under_keys (k1 s))
    (λ s. under_keys (reverse (k1 s)))
    (λ s. under_keys (reverse (k2 s)))
    (λ s. under_keys (k2 s))
    (des_laws S k1)
    (turned S 8 (λ s. under_keys (k2 s)) (λ s. under_keys (reverse (k2 s))) (des_laws S k2)))
    (des_laws S k3)
