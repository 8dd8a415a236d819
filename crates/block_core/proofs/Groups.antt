-- Lists of bits, group by group.
use Rattle.std.proofs.Common.{◌≡◌, ◌∙◌, sym, ap, ap₂, ℕ, zero, suc, ◌+◌, ◌*◌, ◌<◌, ◌≤◌, List, [], ◌∷◌, ◌++◌, length, get_or, take, drop, refl, arith, map}
use borrow.Rule.Slice.PartMut.{put_mid}
use Rattle.std.specs.List.{flat_map}
use Rattle.std.proofs.lemmas.List.{take_at, drop_at, take_all, length-map, append_assoc, same_lists, get_or-map, get_or_default, drop_more, take_more, drop-drop, append-nil}
use Rattle.std.proofs.Math.ListN.{drop_of_length-le}
use Rattle.std.proofs.lemmas.Slice.{take-put_mid}
use Rattle.block_core.specs.Bits.{AreBits, pick, bits_of, number_of, number_from, cut, bits_of_octets, octets_of_bits, rotated}
use Rattle.block_core.specs.Des.{Halves, round, rounds, keys_of, keys_from, round_keys}
use Rattle.block_core.specs.DesTables.{permuted_choice_1, permuted_choice_2, left_shifts}
use Rattle.block_core.specs.BitsLaws.{length-pick, bits_pick, bits_append, bits_take, bits_drop, bits_none, bits_octets}

pub mapped_by : (f : ℕ → ℕ) (xs table : List ℕ) → length xs ≡ length table
    → ((k : ℕ) → k < length table → get_or xs k 0 ≡ f (get_or table k 0)) → xs ≡ map f table
mapped_by f xs table l here =
    same_lists xs (map f table) (l ∙ sym (length-map table f)) (λ k d h.
    let lt : k < length table = omega (arith, l) in
    sym (get_or_default xs k 0 d h) ∙ here k lt ∙ sym (get_or-map f table k 0 d lt))

number_snoc : (xs : List ℕ) (b n : ℕ) → number_from n (xs ++ b ∷ []) ≡ 2 * number_from n xs + b
unfolding number_from
number_snoc [] b n = refl
number_snoc (x ∷ xs) b n = number_snoc xs b (2 * n + x)

pub number_more : (bs : List ℕ) (i : ℕ) → i < length bs → 2 * number_of (take i bs) + get_or bs i 0 ≡ number_of (take (i + 1) bs)
unfolding number_of
number_more bs i h = sym (ap (number_from 0) (take_more bs i 0 h) ∙ number_snoc (take i bs) (get_or bs i 0) 0)

drop_to : {X : Type 0} (m n k : ℕ) (xs : List X) → m + n ≡ k → drop n (drop m xs) ≡ drop k xs
drop_to m n k xs e = drop-drop n m xs ∙ ap (λ (j : ℕ). drop j xs) e

pub cut_at : {X : Type 0} (w n : ℕ) (xs : List X) (k : ℕ) → k < n → get_or (cut w n xs) k [] ≡ take w (drop (w * k) xs)
unfolding cut
cut_at w zero xs k h = absurd (omega arith)
cut_at w (suc n) xs zero h = let e : 0 ≡ w * 0 = omega arith in ap (λ (j : ℕ). take w (drop j xs)) e
cut_at w (suc n) xs (suc k) h = cut_at w n (drop w xs) k (omega arith) ∙ ap (take w) (drop_to w (w * k) (w * suc k) xs (omega arith))

pub length-cut : {X : Type 0} (w n : ℕ) (xs : List X) → length (cut w n xs) ≡ n
unfolding cut
length-cut w zero xs = refl
length-cut w (suc n) xs = ap suc (length-cut w n (drop w xs))

pub octets_by_group : (n : ℕ) (os bs : List ℕ) → length os ≡ n
    → ((k : ℕ) → k < n → get_or os k 0 ≡ number_of (take 8 (drop (8 * k) bs))) → os ≡ octets_of_bits n bs
unfolding octets_of_bits
octets_by_group n os bs l here =
    same_lists os (map number_of (cut 8 n bs)) (l ∙ sym (length-map (cut 8 n bs) number_of ∙ length-cut 8 n bs)) (λ k d h.
    let lt : k < n = omega (arith, l) in
    sym (get_or_default os k 0 d h) ∙ here k lt ∙ ap number_of (sym (cut_at 8 n bs k lt))
    ∙ sym (get_or-map number_of (cut 8 n bs) k [] d (omega (arith, lt, length-cut 8 n bs))))

-- a loop that writes w places at a time: what is written, and what the rest will be
pub written : (a k m : ℕ) (buffer new rest next all : List ℕ) → m ≡ a + length new → a ≤ length buffer → rest ≡ new ++ next
    → take a buffer ++ rest ≡ all → take m (put_mid a k buffer new) ++ next ≡ all
written a k m buffer new rest next all e h step before =
    ap (λ (x : List ℕ). x ++ next) (take-put_mid a k buffer new m e h)
    ∙ append_assoc (take a buffer) new next
    ∙ ap (λ (x : List ℕ). take a buffer ++ x) (sym step)
    ∙ before

pub octets_step : (os : List ℕ) (i : ℕ) → i < length os → bits_of_octets (drop i os) ≡ bits_of 8 (get_or os i 0) ++ bits_of_octets (drop (i + 1) os)
unfolding bits_of_octets
octets_step os i h = ap (flat_map (bits_of 8)) (drop_more os i 0 h)

pub rounds_step : (ks : List (List ℕ)) (i : ℕ) (h : Halves) → i < length ks
    → rounds (drop i ks) h ≡ rounds (drop (i + 1) ks) (round (get_or ks i []) h)
unfolding rounds
rounds_step ks i h lt = ap (λ (js : List (List ℕ)). rounds js h) (drop_more ks i [] lt)

-- lists one after the other
abbrev pub flat : List (List ℕ) → List ℕ
flat [] = []
flat (xs ∷ xss) = xs ++ flat xss

pub cut_flat : (ns c d : List ℕ) → cut 48 (length ns) (flat (keys_from ns c d)) ≡ keys_from ns c d
unfolding cut keys_from
cut_flat [] c d = refl
cut_flat (n ∷ ns) c d =
    let k : List ℕ = pick permuted_choice_2 (rotated n c ++ rotated n d) in
    let rest : List ℕ = flat (keys_from ns (rotated n c) (rotated n d)) in
    let l : length k ≡ 48 = length-pick permuted_choice_2 (rotated n c ++ rotated n d) in
    ap₂ (λ (x : List ℕ) (y : List ℕ). x ∷ cut 48 (length ns) y) (take_at k rest 48 l) (drop_at k rest 48 l)
    ∙ ap (λ (ks : List (List ℕ)). k ∷ ks) (cut_flat ns (rotated n c) (rotated n d))

pub bits_flat : (ns c d : List ℕ) → AreBits c → AreBits d → AreBits (flat (keys_from ns c d))
unfolding keys_from
bits_flat [] c d hc hd = bits_none
bits_flat (n ∷ ns) c d hc hd =
    let rc = bits_append (drop n c) (take n c) (bits_drop n c hc) (bits_take n c hc) in
    let rd = bits_append (drop n d) (take n d) (bits_drop n d hd) (bits_take n d hd) in
    bits_append (pick permuted_choice_2 (rotated n c ++ rotated n d)) (flat (keys_from ns (rotated n c) (rotated n d)))
    (bits_pick permuted_choice_2 (rotated n c ++ rotated n d) (bits_append (rotated n c) (rotated n d) rc rd))
    (bits_flat ns (rotated n c) (rotated n d) rc rd)

pub keys_step : (i : ℕ) (c d : List ℕ) → i < 16
    → flat (keys_from (drop i left_shifts) c d)
    ≡ pick permuted_choice_2 (rotated (get_or left_shifts i 0) c ++ rotated (get_or left_shifts i 0) d)
    ++ flat (keys_from (drop (i + 1) left_shifts) (rotated (get_or left_shifts i 0) c) (rotated (get_or left_shifts i 0) d))
unfolding keys_from
keys_step i c d h = ap (λ (ns : List ℕ). flat (keys_from ns c d)) (drop_more left_shifts i 0 h)

-- all round keys written: the list is the round keys one after the other
pub keys_written : (keys key c d : List ℕ) (i : ℕ) → length keys ≤ 48 * i → 16 ≤ i
    → take (48 * i) keys ++ flat (keys_from (drop i left_shifts) c d) ≡ flat (round_keys key) → keys ≡ flat (round_keys key)
unfolding keys_from
keys_written keys key c d i l h e =
    let done : drop i left_shifts ≡ [] = drop_of_length-le left_shifts {i = i} h in
    sym (take_all (48 * i) keys l) ∙ sym (append-nil (take (48 * i) keys))
    ∙ ap (λ (x : List ℕ). take (48 * i) keys ++ flat (keys_from x c d)) (sym done) ∙ e

pub keys_of_round_keys : (key : List ℕ) → keys_of (flat (round_keys key)) ≡ round_keys key
unfolding round_keys
keys_of_round_keys key =
    let k : List ℕ = pick permuted_choice_1 (bits_of_octets key) in
    cut_flat left_shifts (take 28 k) (drop 28 k)

pub bits_round_keys : (key : List ℕ) → AreBits (flat (round_keys key))
unfolding round_keys
bits_round_keys key =
    let k : List ℕ = pick permuted_choice_1 (bits_of_octets key) in
    let h : AreBits k = bits_pick permuted_choice_1 (bits_of_octets key) (bits_octets key) in
    bits_flat left_shifts (take 28 k) (drop 28 k) (bits_take 28 k h) (bits_drop 28 k h)
