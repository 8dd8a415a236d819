-- A ciphertext is the only one that decrypts to its text.
use Rattle.std.proofs.Common.{◌≡◌, ◌∙◌, sym, ap, ap₂, ℕ, zero, suc, ◌+◌, ◌*◌, ◌/◌, ◌%◌, ◌<◌, ◌≤◌, List, ◌++◌, length, take, drop, arith}
use Rattle.std.specs.List.{All}
use Rattle.std.proofs.lemmas.List.{take_at, drop_at, take_all, length-append, length-take-le, length-drop, get_or-take, get_or-drop}
use Rattle.std.proofs.lemmas.List.Elements.{All-get_or}
use Rattle.std.proofs.lemmas.Nat.{div-add-mod'}
use Rattle.std.proofs.Math.Nat.{mul-suc, mul_comm}
use Rattle.block_core.specs.BlockCipher.{IsBlock, CipherLaws}
use Rattle.block_core.specs.Bits.{xor_each}
use Rattle.block_core.specs.BitsLaws.{xor_twice, length-xor_each}
use Rattle.mac_modes.specs.Cbc.{block, opened, uncbc}
use Rattle.mac_modes.proofs.Chains.{before_same, take_add}

module _ (S : Type 0) (n : ℕ) (E D : S → List ℕ → List ℕ) (laws : CipherLaws S n E D) (s : S) (iv : List ℕ) (liv : length iv ≡ n) where
  -- block k of a text of octets is a block
  is_block : (k : ℕ) (c : List ℕ) → All (λ x. x < 256) c → n * k + n ≤ length c → IsBlock n (block n k c)
  is_block k c octets room = record {
    long = length-take-le n (drop (n * k) c) (omega (arith, length-drop (n * k) c));
    octets = λ i h. rw (get_or-take n (drop (n * k) c) i 0 h, get_or-drop (n * k) c i 0) (All-get_or (λ x. x < 256) c (n * k + i) 0 (omega arith) octets);
  }

  long_before : (k : ℕ) (c : List ℕ) → n * k + n ≤ length c → length (block n k (iv ++ c)) ≡ n
  long_before k c room = length-take-le n (drop (n * k) (iv ++ c)) (omega (arith, length-drop (n * k) (iv ++ c), length-append iv c))

  long_sum : (k : ℕ) (c : List ℕ) → All (λ x. x < 256) c → n * k + n ≤ length c → length (xor_each (D s (block n k c)) (block n k (iv ++ c))) ≡ n
  long_sum k c octets room =
      let d : length (D s (block n k c)) ≡ n = (laws.decrypted s (block n k c) (is_block k c octets room)).long in
      length-xor_each (D s (block n k c)) (block n k (iv ++ c)) (d ∙ sym (long_before k c room)) ∙ d

  -- the first k blocks decrypt to as many octets
  long_opened : (k : ℕ) (c : List ℕ) → All (λ x. x < 256) c → n * k ≤ length c → length (opened (D s) n iv k c) ≡ n * k
  unfolding opened
  long_opened zero c octets room = omega arith
  long_opened (suc k) c octets room =
      let m : n * suc k ≡ n * k + n = mul-suc n k in
      omega (arith, length-append (opened (D s) n iv k c) (xor_each (D s (block n k c)) (block n k (iv ++ c))), long_opened k c octets (omega arith), long_sum k c octets (omega arith))

  -- where the first k blocks decrypt to the same, they are the same
  fronts : (c d : List ℕ) → All (λ x. x < 256) c → All (λ x. x < 256) d → length c ≡ length d → (k : ℕ) → n * k ≤ length c
      → opened (D s) n iv k c ≡ opened (D s) n iv k d → take (n * k) c ≡ take (n * k) d
  unfolding opened
  fronts c d tc td l zero room e =
      let z : n * 0 ≡ 0 = omega arith in
      ap (λ (j : ℕ). take j c) z ∙ ap (λ (j : ℕ). take j d) (sym z)
  fronts c d tc td l (suc k) room e =
      let m : n * suc k ≡ n * k + n = mul-suc n k in
      let rc : n * k + n ≤ length c = omega arith in
      let rd : n * k + n ≤ length d = omega arith in
      let oc : List ℕ = opened (D s) n iv k c in
      let od : List ℕ = opened (D s) n iv k d in
      let pc : List ℕ = block n k (iv ++ c) in
      let pd : List ℕ = block n k (iv ++ d) in
      let xc : List ℕ = xor_each (D s (block n k c)) pc in
      let xd : List ℕ = xor_each (D s (block n k d)) pd in
      let lc : length oc ≡ n * k = long_opened k c tc (omega arith) in
      let ld : length od ≡ n * k = long_opened k d td (omega arith) in
      let same : oc ≡ od = sym (take_at oc xc (n * k) lc) ∙ ap (take (n * k)) e ∙ take_at od xd (n * k) ld in
      let last : xc ≡ xd = sym (drop_at oc xc (n * k) lc) ∙ ap (drop (n * k)) e ∙ drop_at od xd (n * k) ld in
      let front : take (n * k) c ≡ take (n * k) d = fronts c d tc td l k (omega arith) same in
      let before : pc ≡ pd = before_same n k iv c d liv front in
      let bc = is_block k c tc rc in
      let bd = is_block k d td rd in
      let dc : D s (block n k c) ≡ xor_each xc pc =
      sym (xor_twice (D s (block n k c)) pc ((laws.decrypted s (block n k c) bc).long ∙ sym (long_before k c rc))) in
      let dd : xor_each xd pd ≡ D s (block n k d) =
      xor_twice (D s (block n k d)) pd ((laws.decrypted s (block n k d) bd).long ∙ sym (long_before k d rd)) in
      let plain : D s (block n k c) ≡ D s (block n k d) = dc ∙ ap₂ xor_each last before ∙ dd in
      let here : block n k c ≡ block n k d =
      sym (laws.undone s (block n k c) bc) ∙ ap (E s) plain ∙ laws.undone s (block n k d) bd in
      ap (λ (j : ℕ). take j c) m ∙ take_add (n * k) n c ∙ ap₂ (λ (x y : List ℕ). x ++ y) front here
      ∙ sym (take_add (n * k) n d) ∙ ap (λ (j : ℕ). take j d) (sym m)

  whole_blocks : (c : List ℕ) → length c % n ≡ 0 → n * (length c / n) ≡ length c
  whole_blocks c whole = mul_comm n (length c / n) ∙ omega (arith, div-add-mod' (length c) n)

  long_uncbc : (c : List ℕ) → All (λ x. x < 256) c → length c % n ≡ 0 → length (uncbc (D s) n iv c) ≡ length c
  long_uncbc c octets whole =
      let all : n * (length c / n) ≡ length c = whole_blocks c whole in
      long_opened (length c / n) c octets (omega arith) ∙ all

  pub one_ciphertext : (c d : List ℕ) → All (λ x. x < 256) c → length c % n ≡ 0 → All (λ x. x < 256) d → length d % n ≡ 0
      → uncbc (D s) n iv c ≡ uncbc (D s) n iv d → c ≡ d
  one_ciphertext c d tc wc td wd e =
      let l : length c ≡ length d = sym (long_uncbc c tc wc) ∙ ap length e ∙ long_uncbc d td wd in
      let all : n * (length c / n) ≡ length c = whole_blocks c wc in
      sym (take_all (n * (length c / n)) c (omega arith))
      ∙ fronts c d tc td l (length c / n) (omega arith) (e ∙ ap (λ (j : ℕ). opened (D s) n iv (j / n) d) (sym l))
      ∙ take_all (n * (length c / n)) d (omega arith)
