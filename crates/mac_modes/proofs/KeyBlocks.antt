-- The blocks that HMAC makes of a key.
use Rattle.std.proofs.Common.{◌≡◌, ℕ, ◌+◌, ◌-◌, ◌<◌, ◌≤◌, List, ◌++◌, length, take, drop, replicate, sym, refl, ap, ◌∙◌, subst, arith, nat_lt, false, bit_xor}
use Rattle.std.proofs.lemmas.List.{drop-replicate, take-replicate, take_at, take-map}
use Rattle.std.proofs.Math.Seq.{take-append-add}
use Rattle.std.proofs.lemmas.Bool.Decides.{nat_tests}
use Rattle.std.proofs.lemmas.Bool.{lt-ltb}
use Rattle.mac_modes.specs.Hmac.{key_block, short_key, masked, inner_block, outer_block, hmac}

-- a piece over the front of n zeros, cut to b octets
pub front_of_zeros : (s : List ℕ) (b n : ℕ) → length s ≤ b → b ≤ n → take b (s ++ drop (length s) (replicate n 0)) ≡ s ++ replicate (b - length s) 0
front_of_zeros s b n h l =
    rw (drop-replicate {X = ℕ} (length s) n 0)
    (subst (λ (k : ℕ). take k (s ++ replicate (n - length s) 0) ≡ s ++ replicate (b - length s) 0)
    (let e : length s + (b - length s) ≡ b = omega arith in e)
    (take-append-add s (replicate (n - length s) 0) (b - length s) ∙ ap (λ t. s ++ t) (take-replicate {X = ℕ} (b - length s) (n - length s) 0 (omega arith))))

short_key-long : (h : List ℕ → List ℕ) (b : ℕ) (k : List ℕ) → b < length k → short_key h b k ≡ h k
short_key-long h b k l = rw (lt-ltb b (length k) l) refl

short_key-short : (h : List ℕ → List ℕ) (b : ℕ) (k : List ℕ) → length k ≤ b → short_key h b k ≡ k
short_key-short h b k l = let e : nat_lt b (length k) ≡ false = grind (arith, nat_tests) in rw e refl

-- the front of 128 octets that begin with the digest of a long key, from the front of `out`
pub long_key : (h : List ℕ → List ℕ) (b u u' : ℕ) (k out z block : List ℕ) → u' ≡ u → length (h k) ≡ u → u ≤ b → b ≤ 128 → b < length k →
    out ≡ h k ++ z → block ≡ take u' out ++ drop (length (take u' out)) (replicate 128 0) → take b block ≡ key_block h b k
long_key h b u u' k out z block eu len small fits long answer whole =
    let digest : take u' out ≡ h k = ap (λ n. take n out) (eu ∙ sym len) ∙ ap (take (length (h k))) answer ∙ take_at (h k) z (length (h k)) refl in
    ap (take b) (whole ∙ ap (λ s. s ++ drop (length s) (replicate 128 0)) digest)
    ∙ front_of_zeros (h k) b 128 (omega (arith, len)) fits
    ∙ ap (λ s. s ++ replicate (b - length s) 0) (sym (short_key-long h b k long))

-- the front of 128 octets that begin with a short key
pub whole_key : (h : List ℕ → List ℕ) (b : ℕ) (k block : List ℕ) → b ≤ 128 → length k ≤ b →
    block ≡ k ++ drop (length k) (replicate 128 0) → take b block ≡ key_block h b k
whole_key h b k block fits short whole =
    ap (take b) whole ∙ front_of_zeros k b 128 short fits ∙ ap (λ s. s ++ replicate (b - length s) 0) (sym (short_key-short h b k short))

-- masking 128 octets masks their front
pub masked_front : (h : List ℕ → List ℕ) (b mask : ℕ) (k block made : List ℕ) → take b block ≡ key_block h b k → made ≡ masked mask block → take b made ≡ masked mask (key_block h b k)
masked_front h b mask k block made front e = ap (take b) e ∙ take-map (λ x. bit_xor x mask) b block ∙ ap (masked mask) front

-- what the outer hash takes: the outer block, and the inner answer from the front of `out`
pub outer_is : (h : List ℕ → List ℕ) (b u u' : ℕ) (k m out z : List ℕ) → u' ≡ u → length (h (inner_block h b k ++ m)) ≡ u →
    out ≡ h (inner_block h b k ++ m) ++ z → h (outer_block h b k ++ take u' out) ≡ hmac h b k m
unfolding hmac
outer_is h b u u' k m out z eu len answer =
    let inner = h (inner_block h b k ++ m) in
    let front : take u' out ≡ inner = ap (λ n. take n out) (eu ∙ sym len) ∙ ap (take (length inner)) answer ∙ take_at inner z (length inner) refl in
    ap (λ x. h (outer_block h b k ++ x)) front
