-- Powers of two, and texts that are filled up to whole blocks.
use Rattle.std.proofs.Common.{◌≡◌, ◌∙◌, ap, sym, subst, ℕ, zero, suc, ◌+◌, ◌-◌, ◌*◌, ◌/◌, ◌%◌, ◌^◌, ◌<◌, ◌≤◌, List, length, length-append, refl, arith}
use Rattle.std.proofs.lemmas.List.{length-replicate}
use Rattle.std.proofs.lemmas.Nat.{pow_pos, mod-mul-add, div-add-mod', mod_below}
use Rattle.std.proofs.Math.Nat.{pow-succ'}
use Rattle.mac_modes.specs.Padding.{padded}
use Rattle.scrypt_core.specs.Params.{Lawful}

-- a power of two is that of one number
pub pow_same : (a b : ℕ) → 2 ^ a ≡ 2 ^ b → a ≡ b
pow_same zero zero e = refl
pow_same zero (suc b) e = let s : 2 ^ suc b ≡ 2 * 2 ^ b = pow-succ' 2 b in absurd (omega (arith, s, pow_pos b, e))
pow_same (suc a) zero e = let s : 2 ^ suc a ≡ 2 * 2 ^ a = pow-succ' 2 a in absurd (omega (arith, s, pow_pos a, e))
pow_same (suc a) (suc b) e =
    let s : 2 ^ suc a ≡ 2 * 2 ^ a = pow-succ' 2 a in
    let t : 2 ^ suc b ≡ 2 * 2 ^ b = pow-succ' 2 b in
    ap suc (pow_same a b (omega (arith, s, t, e)))

-- costs that are refused at the one power that they are, are refused
pub no_costs : (n k r p x y : ℕ) → 2 ^ k ≡ n → x ≡ r → y ≡ p → (Lawful k x y → ⊥) → (log_n : ℕ) × (n ≡ 2 ^ log_n) × Lawful log_n r p → ⊥
no_costs n k r p x y is ex ey none (j, e, h) =
    none (subst (λ (a : ℕ). Lawful k x a) (sym ey) (subst (λ (a : ℕ). Lawful k a p) (sym ex) (subst (λ (a : ℕ). Lawful a r p) (sym (pow_same k j (is ∙ e))) h)))

-- a padded text is whole blocks
pub padded_whole : (m : List ℕ) (n : ℕ) → 1 ≤ n → length (padded m n) % n ≡ 0
padded_whole m n low =
    let below : length m % n < n = mod_below (length m) n low in
    let q : ℕ = length m / n in
    let all : q * n + length m % n ≡ length m = div-add-mod' (length m) n in
    let more : (q + 1) * n ≡ q * n + n = omega arith in
    let long : length (padded m n) ≡ (q + 1) * n + 0 =
    length-append m _ ∙ ap (λ (x : ℕ). length m + x) (length-replicate (n - length m % n) (n - length m % n)) ∙ omega arith in
    ap (λ (x : ℕ). x % n) long ∙ mod-mul-add (q + 1) n 0 low
