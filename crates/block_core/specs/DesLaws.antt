-- lemmas only: nothing to believe here
-- DES: the round keys backwards undo it, whatever they are.
use Rattle.std.proofs.Common.{lit≤, ◌≡◌, ◌∙◌, sym, ◌-◌, ◌*◌, ◌<◌, ap, ap₂, ℕ, Bool, true, List, [], ◌∷◌, ◌++◌, refl, get_or, length, take, drop, reverse, arith, ◌&&◌, ◌==◌, nat_lt, map}
use Rattle.std.proofs.lemmas.Bool.{and_parts, eqb-true}
use Rattle.std.proofs.lemmas.Bool.Decides.{Decides-ltb}
use Rattle.std.proofs.lemmas.List.{take_at, drop_at, length-map, length-append, length-take-le, length-drop, take-append-drop, reverse-append, same_lists, get_or-map, get_or_default}
use Rattle.block_core.specs.TableLaws.{all_below, all_below_at}
use Rattle.block_core.specs.BlockCipher.{IsBlock, CipherLaws}
use Rattle.block_core.specs.Bits.{pick, xor_each, AreBits, bits_of_octets, octets_of_bits}
use Rattle.block_core.specs.DesTables.{initial_permutation, expansion, permutation, s_boxes}
use Rattle.block_core.specs.Des.{place_of, final_permutation, substitute, substitute_all, cipher_function, Halves, halves_of, round, rounds, enciphered, under_keys}
use Rattle.block_core.specs.BitsLaws.{xor_twice, length-xor_each, length-pick, reverse_twice, bits_none, bits_append, bits_take, bits_drop, bits_xor_each, bits_pick, bits_bits_of, bits_octets, length-bits_of_octets, octets-bits, bits-octets, octets-lt, length-octets_of_bits}

pub length-cipher_function : (half key : List ℕ) → length (cipher_function half key) ≡ 32
unfolding cipher_function pick
length-cipher_function half key =
    length-map permutation (λ p. get_or (substitute_all s_boxes (xor_each (map (λ q. get_or half (q - 1) 0) expansion) key)) (p - 1) 0)

-- halves, exchanged
abbrev exchanged : Halves → Halves
exchanged h = record { left = h.right; right = h.left }

-- a round, undone by the same key between two exchanges
unround : (key : List ℕ) (h : Halves) → length h.left ≡ 32 → round key (exchanged (round key h)) ≡ exchanged h
unround key h l =
    ap (λ (x : List ℕ). let r : Halves = record { left = h.right; right = x } in r)
    (xor_twice h.left (cipher_function h.right key) (l ∙ sym (length-cipher_function h.right key)))

rounds-append : (ks js : List (List ℕ)) (h : Halves) → rounds (ks ++ js) h ≡ rounds js (rounds ks h)
unfolding rounds
rounds-append [] js h = refl
rounds-append (k ∷ ks) js h = rounds-append ks js (round k h)

pub length-rounds : (ks : List (List ℕ)) (h : Halves) → length h.left ≡ 32 → length h.right ≡ 32 → (length (rounds ks h).left ≡ 32) × (length (rounds ks h).right ≡ 32)
unfolding rounds
length-rounds [] h l r = (l, r)
length-rounds (k ∷ ks) h l r =
    length-rounds ks (round k h) r (length-xor_each h.left (cipher_function h.right k) (l ∙ sym (length-cipher_function h.right k)) ∙ l)

-- the rounds undone by the keys backwards
unrounds : (ks : List (List ℕ)) (h : Halves) → length h.left ≡ 32 → length h.right ≡ 32
    → rounds (reverse ks) (exchanged (rounds ks h)) ≡ exchanged h
unfolding rounds
unrounds [] h l r = refl
unrounds (k ∷ ks) h l r =
    let next : length (round k h).right ≡ 32 =
    length-xor_each h.left (cipher_function h.right k) (l ∙ sym (length-cipher_function h.right k)) ∙ l in
    ap (λ (js : List (List ℕ)). rounds js (exchanged (rounds ks (round k h)))) (reverse-append (k ∷ []) ks)
    ∙ rounds-append (reverse ks) (k ∷ []) (exchanged (rounds ks (round k h)))
    ∙ ap (rounds (k ∷ [])) (unrounds ks (round k h) r next)
    ∙ unround k h l

-- picking by ps undoes picking by qs at each place
undoes_at : List ℕ → List ℕ → ℕ → Bool
undoes_at ps qs i = nat_lt (get_or ps i 0 - 1) 64 && (get_or qs (get_or ps i 0 - 1) 0 - 1 == i)

pick_pick : (ps qs bs : List ℕ) → length ps ≡ 64 → length qs ≡ 64 → all_below (undoes_at ps qs) 64 ≡ true → length bs ≡ 64
    → pick ps (pick qs bs) ≡ bs
unfolding pick undoes_at
pick_pick ps qs bs lp lq t l =
    let f : ℕ → ℕ = λ p. get_or bs (p - 1) 0 in
    let g : ℕ → ℕ = λ p. get_or (map f qs) (p - 1) 0 in
    same_lists (map g ps) bs (length-map ps g ∙ lp ∙ sym l) (λ i d h.
    let lt : i < 64 = omega (arith, length-map ps g) in
    let place : ℕ = get_or ps i 0 - 1 in
    let both = and_parts (nat_lt place 64) (get_or qs place 0 - 1 == i) (all_below_at (undoes_at ps qs) 64 t i lt) in
    get_or-map g ps i 0 d (omega arith)
    ∙ get_or-map f qs (get_or ps i 0 - 1) 0 0 (omega (arith, (Decides-ltb _ _).0 both.0))
    ∙ ap (λ (j : ℕ). get_or bs j 0) (eqb-true _ _ both.1)
    ∙ get_or_default bs i 0 d (omega arith))

final-initial_table : all_below (undoes_at final_permutation initial_permutation) 64 ≡ true
unfolding undoes_at final_permutation place_of
final-initial_table = refl

initial-final_table : all_below (undoes_at initial_permutation final_permutation) 64 ≡ true
unfolding undoes_at final_permutation place_of
initial-final_table = refl

pub length-final : length final_permutation ≡ 64
unfolding final_permutation place_of
length-final = refl

pub final-initial : (bs : List ℕ) → length bs ≡ 64 → pick final_permutation (pick initial_permutation bs) ≡ bs
final-initial bs l = pick_pick final_permutation initial_permutation bs length-final refl final-initial_table l

pub initial-final : (bs : List ℕ) → length bs ≡ 64 → pick initial_permutation (pick final_permutation bs) ≡ bs
initial-final bs l = pick_pick initial_permutation final_permutation bs refl length-final initial-final_table l

-- all of it, under any round keys
pub deciphered : (keys : List (List ℕ)) (bs : List ℕ) → length bs ≡ 64 → enciphered (reverse keys) (enciphered keys bs) ≡ bs
unfolding enciphered
deciphered keys bs l =
    let b : List ℕ = pick initial_permutation bs in
    let h : Halves = halves_of b in
    let lb : length b ≡ 64 = length-pick initial_permutation bs in
    let ll : length (take 32 b) ≡ 32 = length-take-le 32 b (omega arith) in
    let lr : length (drop 32 b) ≡ 32 = length-drop 32 b ∙ omega arith in
    let o : Halves = rounds keys h in
    let lo = length-rounds keys h ll lr in
    let both : List ℕ = o.right ++ o.left in
    let long : length both ≡ 64 = length-append o.right o.left ∙ omega (arith, lo.0, lo.1) in
    let split : halves_of both ≡ exchanged o =
    ap₂ (λ (x y : List ℕ). let r : Halves = record { left = x; right = y } in r)
    (take_at o.right o.left 32 lo.1) (drop_at o.right o.left 32 lo.1) in
    let done = λ (x : Halves). pick final_permutation (x.right ++ x.left) in
    ap (λ (x : List ℕ). done (rounds (reverse keys) (halves_of x))) (initial-final both long)
    ∙ ap (λ (x : Halves). done (rounds (reverse keys) x)) split
    ∙ ap done (unrounds keys h ll lr)
    ∙ ap (pick final_permutation) (take-append-drop 32 b)
    ∙ final-initial bs l

pub bits_substitute_all : (bxs : List (List ℕ)) (bs : List ℕ) → AreBits (substitute_all bxs bs)
unfolding substitute_all substitute
bits_substitute_all [] bs = bits_none
bits_substitute_all (box ∷ rest) bs = bits_append (substitute box (take 6 bs)) (substitute_all rest (drop 6 bs)) (bits_bits_of 4 _) (bits_substitute_all rest (drop 6 bs))

pub bits_cipher_function : (half key : List ℕ) → AreBits (cipher_function half key)
unfolding cipher_function
bits_cipher_function half key = bits_pick permutation (substitute_all s_boxes (xor_each (pick expansion half) key)) (bits_substitute_all s_boxes (xor_each (pick expansion half) key))

bits_rounds : (ks : List (List ℕ)) (h : Halves) → AreBits h.left → AreBits h.right → AreBits (rounds ks h).left × AreBits (rounds ks h).right
unfolding rounds
bits_rounds [] h l r = (l, r)
bits_rounds (k ∷ ks) h l r = bits_rounds ks (round k h) r (bits_xor_each h.left (cipher_function h.right k) l (bits_cipher_function h.right k))

pub bits_enciphered : (ks : List (List ℕ)) (bs : List ℕ) → AreBits bs → AreBits (enciphered ks bs)
unfolding enciphered
bits_enciphered ks bs h =
    let b : List ℕ = pick initial_permutation bs in
    let hb = bits_pick initial_permutation bs h in
    let both = bits_rounds ks (halves_of b) (bits_take 32 b hb) (bits_drop 32 b hb) in
    bits_pick final_permutation ((rounds ks (halves_of b)).right ++ (rounds ks (halves_of b)).left)
    (bits_append (rounds ks (halves_of b)).right (rounds ks (halves_of b)).left both.1 both.0)

length-enciphered : (ks : List (List ℕ)) (bs : List ℕ) → length (enciphered ks bs) ≡ 64
unfolding enciphered
length-enciphered ks bs =
    length-pick final_permutation ((rounds ks (halves_of (pick initial_permutation bs))).right ++ (rounds ks (halves_of (pick initial_permutation bs))).left) ∙ length-final

-- a block under keys is a block, and the keys backwards undo it
pub under_keys-block : (keys : List (List ℕ)) (b : List ℕ) → IsBlock 8 b → IsBlock 8 (under_keys keys b)
unfolding under_keys
under_keys-block keys b is = record {
  long = length-octets_of_bits 8 (enciphered keys (bits_of_octets b));
  octets = λ i h. octets-lt 8 (enciphered keys (bits_of_octets b)) (bits_enciphered keys (bits_of_octets b) (bits_octets b)) i;
}

pub under_keys-undone : (keys : List (List ℕ)) (b : List ℕ) → IsBlock 8 b → under_keys (reverse keys) (under_keys keys b) ≡ b
unfolding under_keys
under_keys-undone keys b is =
    let bs : List ℕ = bits_of_octets b in
    let ps : List ℕ = enciphered keys bs in
    let long : length bs ≡ 64 = length-bits_of_octets b ∙ ap (λ (n : ℕ). 8 * n) is.long in
    ap (λ (x : List ℕ). octets_of_bits 8 (enciphered (reverse keys) x)) (bits-octets 8 ps (length-enciphered keys bs) (bits_enciphered keys bs (bits_octets b)))
    ∙ ap (octets_of_bits 8) (deciphered keys bs long)
    ∙ ap (λ (n : ℕ). octets_of_bits n bs) (sym is.long)
    ∙ octets-bits b (λ i h. is.octets i (omega (arith, is.long)))

pub des_laws : (S : Type 0) (keys : S → List (List ℕ))
    → CipherLaws S 8 (λ s. under_keys (keys s)) (λ s. under_keys (reverse (keys s)))
des_laws S keys = record {
  low = lit≤ tt;
  high = lit≤ tt;
  encrypted = λ s b is. under_keys-block (keys s) b is;
  decrypted = λ s b is. under_keys-block (reverse (keys s)) b is;
  undoes = λ s b is. under_keys-undone (keys s) b is;
  undone = λ s b is.
      ap (λ (ks : List (List ℕ)). under_keys ks (under_keys (reverse (keys s)) b)) (sym (reverse_twice (keys s)))
      ∙ under_keys-undone (reverse (keys s)) b is;
}
