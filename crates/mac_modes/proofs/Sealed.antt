-- A text under the stream in the front of a buffer, and its tag after it.
use Rattle.std.proofs.Common.{◌≡◌, ◌∙◌, sym, ap, ℕ, ◌+◌, ◌-◌, ◌≤◌, List, ◌++◌, length, take, drop, refl, arith}
use borrow.Rule.Slice.PartMut.{put_mid}
use Rattle.std.proofs.lemmas.List.{take_at, length-append, drop-drop, drop_at, length-take-le, take-append-drop}
use Rattle.std.proofs.lemmas.Slice.{take-put_mid, drop-put_mid}
use Rattle.mac_modes.specs.Gcm.{gcm, tag, under_stream, counter}
use Rattle.mac_modes.specs.GcmLaws.{under-length, under_twice, tag-length}

pub sealed : (b t tag : List ℕ) (pos k : ℕ) → length t ≡ pos → k ≡ 16 → pos + 16 ≤ length b → length tag ≡ 16
    → take (pos + 16) (put_mid pos k (t ++ drop pos b) tag) ≡ t ++ tag
sealed b t tag pos k lt ek room l =
    take-put_mid pos k (t ++ drop pos b) tag (pos + 16) (omega arith) (omega (arith, length-append t (drop pos b), lt))
    ∙ ap (λ (x : List ℕ). x ++ tag) (take_at t (drop pos b) pos lt)

pub behind : (b t tag : List ℕ) (pos k : ℕ) → length t ≡ pos → k ≡ 16 → pos + 16 ≤ length b → length tag ≡ 16
    → drop (pos + 16) (put_mid pos k (t ++ drop pos b) tag) ≡ drop (pos + 16) b
behind b t tag pos k lt ek room l =
    drop-put_mid pos k (t ++ drop pos b) tag (pos + 16) (omega arith) (omega (arith, length-append t (drop pos b), lt)) (omega arith)
    ∙ sym (drop-drop 16 pos (t ++ drop pos b)) ∙ ap (drop 16) (drop_at t (drop pos b) pos lt) ∙ drop-drop 16 pos b

-- what opens ends in its tag
pub tagged : (E : List ℕ → List ℕ) (nonce : List ℕ) → ((n : ℕ) → length (E (counter nonce n)) ≡ 16) → (m b : List ℕ) → gcm E nonce m ≡ b
    → drop (length b - 16) b ≡ tag E nonce (take (length b - 16) b)
unfolding gcm
tagged E nonce l m b e =
    let u : List ℕ = under_stream E nonce m in
    let v : List ℕ = tag E nonce u in
    let lb : length b ≡ length u + length v = ap length (sym e) ∙ length-append u v in
    let lu : length u ≡ length b - 16 = omega (arith, lb, tag-length E nonce l u) in
    ap (drop (length b - 16)) (sym e) ∙ drop_at u v (length b - 16) lu
    ∙ ap (tag E nonce) (sym (take_at u v (length b - 16) lu) ∙ ap (take (length b - 16)) e)

pub opened : (E : List ℕ → List ℕ) (nonce : List ℕ) → ((n : ℕ) → length (E (counter nonce n)) ≡ 16) → (b t : List ℕ) → 16 ≤ length b
    → t ≡ under_stream E nonce (take (length b - 16) b) → drop (length b - 16) b ≡ tag E nonce (take (length b - 16) b)
    → gcm E nonce (take (length b - 16) (t ++ drop (length b - 16) b)) ≡ b
unfolding gcm
opened E nonce l b t room et is =
    let n : ℕ = length b - 16 in
    let x : List ℕ = take n b in
    let lx : length x ≡ n = length-take-le n b (omega arith) in
    let lt : length t ≡ n = ap length et ∙ under-length E nonce l x ∙ lx in
    let back : under_stream E nonce (take n (t ++ drop n b)) ≡ x =
    ap (under_stream E nonce) (take_at t (drop n b) n lt ∙ et) ∙ under_twice E nonce l x in
    ap (λ (y : List ℕ). y ++ tag E nonce y) back ∙ ap (λ (y : List ℕ). x ++ y) (sym is) ∙ take-append-drop n b

-- a sealed text is that of one text
pub one_sealed : (E : List ℕ → List ℕ) (nonce : List ℕ) → ((n : ℕ) → length (E (counter nonce n)) ≡ 16) → (m k : List ℕ)
    → gcm E nonce m ≡ gcm E nonce k → m ≡ k
unfolding gcm
one_sealed E nonce l m k e =
    let u : List ℕ = under_stream E nonce m in
    let v : List ℕ = under_stream E nonce k in
    let lengths_same : length u + length (tag E nonce u) ≡ length v + length (tag E nonce v) =
    sym (length-append u (tag E nonce u)) ∙ ap length e ∙ length-append v (tag E nonce v) in
    let long : length v ≡ length u = omega (arith, lengths_same, tag-length E nonce l u, tag-length E nonce l v) in
    let same : u ≡ v = sym (take_at u (tag E nonce u) (length u) refl) ∙ ap (take (length u)) e ∙ take_at v (tag E nonce v) (length u) long in
    sym (under_twice E nonce l m) ∙ ap (under_stream E nonce) same ∙ under_twice E nonce l k
