-- The three cases of the word that the key expansion of AES xors in.
use Rattle.std.proofs.Common.{◌≡◌, ap, ap₂, ◌-◌, ◌*◌, ◌%◌, ℕ, List, Bool, true, false, cond, ◌==◌, ◌&&◌, eq-eqb, sym, ◌≢◌}
use Rattle.std.proofs.lemmas.Bool.{ne_eqb, and_from}
use Rattle.block_core.specs.AesKey.{word_at, sub_word, turned_word, scheduled}

-- the words of the three cases, by the two tests
abbrev chosen : ℕ → List ℕ → ℕ → Bool → Bool → List ℕ
chosen k w i b c =
    cond b (turned_word k w (4 * (i - 1))) (cond c (sub_word w (4 * (i - 1))) (word_at w (4 * (i - 1))))

pub scheduled_turned : (words k : ℕ) (w : List ℕ) (i : ℕ) → i % words ≡ 0
    → turned_word k w (4 * (i - 1)) ≡ scheduled words k w i
unfolding scheduled
scheduled_turned words k w i h =
    let e : true ≡ (i % words == 0) = sym (eq-eqb (i % words) 0 h) in
    ap (λ (b : Bool). chosen k w i b ((words == 8) && (i % words == 4))) e

pub scheduled_substituted : (words k : ℕ) (w : List ℕ) (i : ℕ) → i % words ≢ 0 → words ≡ 8 → i % words ≡ 4
    → sub_word w (4 * (i - 1)) ≡ scheduled words k w i
unfolding scheduled
scheduled_substituted words k w i n h m =
    let e : false ≡ (i % words == 0) = sym (ne_eqb (i % words) 0 n) in
    let f : true ≡ ((words == 8) && (i % words == 4)) =
    sym (and_from (words == 8) (i % words == 4) (eq-eqb words 8 h) (eq-eqb (i % words) 4 m)) in
    ap₂ (chosen k w i) e f

pub scheduled_before : (words k : ℕ) (w : List ℕ) (i : ℕ) → i % words ≢ 0 → ((words == 8) && (i % words == 4)) ≡ false
    → word_at w (4 * (i - 1)) ≡ scheduled words k w i
unfolding scheduled
scheduled_before words k w i n h =
    let e : false ≡ (i % words == 0) = sym (ne_eqb (i % words) 0 n) in
    ap₂ (chosen k w i) e (sym h)
