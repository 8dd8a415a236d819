-- A text xored with a key stream, block by block.
use Rattle.std.proofs.Common.{◌≡◌, ◌∙◌, sym, ap, ap₂, ℕ, zero, suc, ◌+◌, ◌-◌, ◌*◌, ◌/◌, ◌%◌, ◌^◌, ◌<◌, ◌≤◌, List, [], ◌∷◌, ◌++◌, length, get_or, take, drop, refl, arith, inl, inr, bit_xor}
use borrow.Rule.Slice.PartMut.{put_mid}
use Rattle.std.proofs.lemmas.List.{take-append-drop, length-take-le, length-drop, length-append, take_all, append-nil, drop-drop}
use Rattle.std.proofs.lemmas.Slice.{take-put_mid, drop-put_mid}
use Rattle.std.proofs.lemmas.Bool.{cases_lt}
use Rattle.std.proofs.Common.{lit<}
use Rattle.std.specs.Int.{w32, to_be_bytes}
use Rattle.block_core.specs.BlockCipher.{CipherLaws}
use Rattle.block_core.specs.Bits.{xor_each}
use Rattle.block_core.specs.BitsLaws.{length-xor_each}
use Rattle.std.proofs.Math.ListN.{drop_of_length-le}
use Rattle.mac_modes.proofs.Chains.{take_add}
use Rattle.mac_modes.specs.Gcm.{key_stream, counter, blocks_of}

-- two parts xored
pub parts : (a b c d : List ℕ) → length a ≡ length c → xor_each (a ++ b) (c ++ d) ≡ xor_each a c ++ xor_each b d
unfolding xor_each
parts [] b [] d l = refl
parts [] b (y ∷ c) d l = absurd (omega arith)
parts (x ∷ a) b [] d l = absurd (omega arith)
parts (x ∷ a) b (y ∷ c) d l = ap (λ (t : List ℕ). bit_xor x y ∷ t) (parts a b c d (omega arith))

-- what a longer list has more takes no part
pub cut_short : (a c d : List ℕ) → length a ≡ length c → xor_each a (c ++ d) ≡ xor_each a c
unfolding xor_each
cut_short [] [] d l = refl
cut_short [] (y ∷ c) d l = absurd (omega arith)
cut_short (x ∷ a) [] d l = absurd (omega arith)
cut_short (x ∷ a) (y ∷ c) d l = ap (λ (t : List ℕ). bit_xor x y ∷ t) (cut_short a c d (omega arith))

-- the state of the loop after i blocks
pub record Streamed (E : List ℕ → List ℕ) (nonce t : List ℕ) (i : ℕ) (b : List ℕ) : Type 0 where
  pub front : take (16 * i) b ≡ xor_each (take (16 * i) t) (key_stream E nonce i)
  pub rest : drop (16 * i) b ≡ drop (16 * i) t

pub streamed_none : (E : List ℕ → List ℕ) (nonce t : List ℕ) → Streamed E nonce t 0 t
unfolding xor_each key_stream
streamed_none E nonce t = record { front = refl; rest = refl }

pub streamed_more : (E : List ℕ → List ℕ) (nonce t b text bl : List ℕ) (i k : ℕ) → 16 * i + 16 ≤ length t → length b ≡ length t → k ≡ 16
    → bl ≡ E (counter nonce ((i + 2) % 2 ^ 32)) → length bl ≡ 16 → length (key_stream E nonce i) ≡ 16 * i
    → text ≡ xor_each (take k (drop (16 * i) b)) bl → Streamed E nonce t i b → Streamed E nonce t (i + 1) (put_mid (16 * i) k b text)
unfolding key_stream
streamed_more E nonce t b text bl i k room same ek eb lb ls et o =
    let e : 16 * (i + 1) ≡ 16 * i + 16 = omega arith in
    let s : suc i ≡ i + 1 = omega arith in
    let ks : List ℕ = key_stream E nonce i in
    let a : List ℕ = take (16 * i) t in
    let m : List ℕ = take 16 (drop (16 * i) t) in
    let la : length a ≡ 16 * i = length-take-le (16 * i) t (omega arith) in
    let lm : length m ≡ 16 = length-take-le 16 (drop (16 * i) t) (omega (arith, length-drop (16 * i) t)) in
    let piece : text ≡ xor_each m bl = et ∙ ap₂ (λ (n : ℕ) (x : List ℕ). xor_each (take n x) bl) ek o.rest in
    let lt : length text ≡ 16 = ap length piece ∙ length-xor_each m bl (lm ∙ sym lb) ∙ lm in
    record {
      front =
          take-put_mid (16 * i) k b text (16 * (i + 1)) (omega arith) (omega arith)
          ∙ ap₂ (λ (x y : List ℕ). x ++ y) o.front piece
          ∙ sym (parts a m ks bl (la ∙ sym ls))
          ∙ ap₂ (λ (x y : List ℕ). xor_each x y)
          (sym (take_add (16 * i) 16 t) ∙ ap (λ (n : ℕ). take n t) (sym e))
          (ap (λ (x : List ℕ). ks ++ x) eb ∙ ap (key_stream E nonce) s);
      rest =
          drop-put_mid (16 * i) k b text (16 * (i + 1)) (omega arith) (omega arith) (omega arith)
          ∙ ap (λ (n : ℕ). drop n b) e ∙ sym (drop-drop 16 (16 * i) b) ∙ ap (drop 16) o.rest ∙ drop-drop 16 (16 * i) t ∙ ap (λ (n : ℕ). drop n t) (sym e);
    }

pub streamed_all : (E : List ℕ → List ℕ) (nonce t b rest bl : List ℕ) (i j k n : ℕ) → i ≡ length t / 16 → j ≡ 16 * i → length b ≡ length t → k ≡ length b - j
    → n ≡ length t - 16 * i
    → bl ≡ E (counter nonce ((i + 2) % 2 ^ 32)) → length bl ≡ 16 → length (key_stream E nonce i) ≡ 16 * i
    → rest ≡ xor_each (take k (drop j b)) (take n bl) → Streamed E nonce t i b
    → put_mid j k b rest ≡ xor_each t (key_stream E nonce (blocks_of (length t)))
unfolding key_stream xor_each
streamed_all E nonce t b rest bl i j k n ei ej same ek en eb lb ls er o =
    let ks : List ℕ = key_stream E nonce i in
    let a : List ℕ = take (16 * i) t in
    let d : List ℕ = drop (16 * i) t in
    let la : length a ≡ 16 * i = length-take-le (16 * i) t (omega arith) in
    let ld : length d ≡ length t - 16 * i = length-drop (16 * i) t in
    let less : length d < 16 = omega (arith, ld) in
    let lc : length (take n bl) ≡ n = length-take-le n bl (omega arith) in
    let whole : take k (drop j b) ≡ d =
    ap (λ (m : ℕ). take k (drop m b)) ej ∙ ap (take k) o.rest ∙ take_all k d (omega (arith, ld)) in
    let piece : rest ≡ xor_each d (take n bl) = er ∙ ap (λ (x : List ℕ). xor_each x (take n bl)) whole in
    let lr : length rest ≡ length d = ap length piece ∙ length-xor_each d (take n bl) (ld ∙ sym en ∙ sym lc) in
    let end : ℕ = j + length rest in
    let full : length rest ≡ k = lr ∙ omega (arith, ld) in
    let nothing_left : drop end b ≡ [] = drop_of_length-le b {i = end} (omega (arith, full)) in
    sym (take-append-drop end (put_mid j k b rest))
    ∙ ap₂ (λ (x y : List ℕ). x ++ y)
    (take-put_mid j k b rest end refl (omega arith))
    (drop-put_mid j k b rest end (omega (arith, full)) (omega arith) full ∙ nothing_left)
    ∙ append-nil (take j b ++ rest)
    ∙ ap₂ (λ (x y : List ℕ). x ++ y) (ap (λ (m : ℕ). take m b) ej ∙ o.front) piece
    ∙ elim (cases_lt 0 (length d)) [
      | inl more ↦
          let one : suc i ≡ blocks_of (length t) = omega (arith, ld) in
          ap (λ (x : List ℕ). xor_each a ks ++ x) (sym (cut_short d (take n bl) (drop n bl) (ld ∙ sym en ∙ sym lc)) ∙ ap (xor_each d) (take-append-drop n bl))
          ∙ sym (parts a d ks bl (la ∙ sym ls))
          ∙ ap₂ (λ (x y : List ℕ). xor_each x y) (take-append-drop (16 * i) t) (ap (λ (x : List ℕ). ks ++ x) eb ∙ ap (key_stream E nonce) one)
      | inr nothing ↦
          let same_count : i ≡ blocks_of (length t) = omega (arith, ld) in
          let empty : d ≡ [] = drop_of_length-le t (omega (arith, ld)) in
          let all : a ≡ t = take_all (16 * i) t (omega (arith, ld)) in
          ap (λ (x : List ℕ). xor_each a ks ++ xor_each x (take n bl)) empty ∙ append-nil (xor_each a ks)
          ∙ ap₂ (λ (x : List ℕ) (m : ℕ). xor_each x (key_stream E nonce m)) all same_count
    ]

octets_append : (xs ys : List ℕ) → ((i : ℕ) → get_or xs i 0 < 256) → ((i : ℕ) → get_or ys i 0 < 256) → (i : ℕ) → get_or (xs ++ ys) i 0 < 256
octets_append [] ys hx hy i = hy i
octets_append (x ∷ xs) ys hx hy zero = hx 0
octets_append (x ∷ xs) ys hx hy (suc i) = octets_append xs ys (λ j. hx (suc j)) hy i

word_octets : (n i : ℕ) → get_or (to_be_bytes w32 n) i 0 < 256
word_octets n zero = let e : n / 256 ^ 3 % 256 < 256 = omega arith in e
word_octets n (suc zero) = let e : n / 256 ^ 2 % 256 < 256 = omega arith in e
word_octets n (suc (suc zero)) = let e : n / 256 ^ 1 % 256 < 256 = omega arith in e
word_octets n (suc (suc (suc zero))) = let e : n % 256 < 256 = omega arith in e
word_octets n (suc (suc (suc (suc i)))) = lit< tt

-- the cipher takes a counter block to sixteen octets
pub counter-length : (S : Type 0) (n : ℕ) (E D : S → List ℕ → List ℕ) → CipherLaws S n E D → n ≡ 16 → (s : S) (nonce : List ℕ) → length nonce ≡ 12
    → ((i : ℕ) → get_or nonce i 0 < 256) → (m : ℕ) → length (E s (counter nonce m)) ≡ 16
counter-length S n E D laws e s nonce l o m =
    let long : length (counter nonce m) ≡ n = length-append nonce (to_be_bytes w32 m) ∙ omega (arith, l) in
    (laws.encrypted s (counter nonce m) (record { long = long; octets = λ i h. octets_append nonce (to_be_bytes w32 m) o (word_octets m) i })).long ∙ e
