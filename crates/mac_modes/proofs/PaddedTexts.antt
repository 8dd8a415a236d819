-- The padding, from what is read at the text's end.
use Rattle.std.proofs.Common.{◌≡◌, ◌∙◌, sym, ap, ℕ, zero, suc, ◌+◌, ◌-◌, ◌*◌, ◌/◌, ◌%◌, ◌<◌, ◌≤◌, List, ◌++◌, length, get_or, take, drop, replicate, refl, arith}
use Rattle.std.proofs.lemmas.List.{same_lists, get_or_default, get_or-replicate, get_or-drop, length-drop, length-take, take_at, length-take-le, length-append, length-replicate, take-append-drop, drop_at, get_or-append-add, take_rest}
use Rattle.std.proofs.lemmas.Nat.{mod-mul-add, div-add-mod', mod_below}
use Rattle.std.proofs.lemmas.Slice.{take-put_mid, drop-put_mid}
use borrow.Rule.Slice.PartMut.{put_mid}
use Rattle.mac_modes.specs.Cbc.{uncbc}
use Rattle.mac_modes.specs.Padding.{padded}

one_at_least : (q n : ℕ) → 1 ≤ q * n → 1 ≤ q
one_at_least zero n h = let e : 0 * n ≡ 0 = omega arith in omega arith
one_at_least (suc q) n h = omega arith

minus_one : (q n c len : ℕ) → 1 ≤ q → q * n ≡ len → c ≤ n → (q - 1) * n + (n - c) ≡ len - c
minus_one zero n c len h e l = absurd (omega arith)
minus_one (suc q) n c len h e l =
    let p : suc q - 1 ≡ q = omega arith in
    let m : suc q * n ≡ q * n + n = omega arith in
    ap (λ (x : ℕ). x * n + (n - c)) p ∙ omega arith

-- the number of octets that fill up a text which is c short of a multiple
pub fill : (len n c : ℕ) → len % n ≡ 0 → 1 ≤ c → c ≤ n → c ≤ len → n - (len - c) % n ≡ c
fill len n c whole low high room =
    let q : ℕ = len / n in
    let all : q * n ≡ len = omega (arith, div-add-mod' len n) in
    let one : 1 ≤ q = one_at_least q n (omega arith) in
    let split : (q - 1) * n + (n - c) ≡ len - c = minus_one q n c len one all high in
    let r : (len - c) % n ≡ n - c = ap (λ (x : ℕ). x % n) (sym split) ∙ mod-mul-add (q - 1) n (n - c) (omega arith) in
    omega arith

-- a list whose octets are all v
pub all_same : (xs : List ℕ) (v : ℕ) → ((k : ℕ) → k < length xs → get_or xs k 0 ≡ v) → xs ≡ replicate (length xs) v
all_same xs v e =
    same_lists xs (replicate (length xs) v) (sym (length-replicate (length xs) v)) (λ k d h.
    get_or_default xs k d 0 h ∙ e k h ∙ sym (get_or-replicate (length xs) k v d h))

-- the octets of the text from c before its end on
abbrev pub tail : ℕ → List ℕ → List ℕ
tail c t = take (length t - (length t - c)) (drop (length t - c) t)

pub is_padded : (t : List ℕ) (n c : ℕ) → length t % n ≡ 0 → 1 ≤ c → c ≤ n → n ≤ length t
    → ((k : ℕ) → k < length (tail c t) → get_or (tail c t) k 0 ≡ c)
    → t ≡ padded (take (length t - c) t) n
is_padded t n c whole low high room e =
    let end : ℕ = length t - c in
    let rest : tail c t ≡ drop end t = take_rest t end in
    let long : length (drop end t) ≡ c = length-drop end t ∙ omega arith in
    let front : length (take end t) ≡ end = length-take-le end t (omega arith) in
    let count : n - length (take end t) % n ≡ c = ap (λ (x : ℕ). n - x % n) front ∙ fill (length t) n c whole low high (omega arith) in
    sym (take-append-drop end t)
    ∙ ap (λ (x : List ℕ). take end t ++ x) (sym rest ∙ all_same (tail c t) c e ∙ ap (λ (x : List ℕ). replicate (length x) c) rest ∙ ap (λ (x : ℕ). replicate x c) long ∙ ap (λ (x : ℕ). replicate x x) (sym count))

-- what a padded text ends in
pub padded_end : (m t : List ℕ) (n : ℕ) → 1 ≤ n → padded m n ≡ t → (c : ℕ) → c ≡ n - length m % n
    → (length t ≡ length m + c) × (1 ≤ c) × (c ≤ n) × ((k : ℕ) → k < c → get_or t (length m + k) 0 ≡ c)
padded_end m t n low e c ec =
    let below : length m % n < n = mod_below (length m) n low in (
      sym (ap length e) ∙ length-append m _ ∙ ap (λ (x : ℕ). length m + x) (length-replicate (n - length m % n) (n - length m % n) ∙ sym ec),
      omega arith,
      omega arith,
      λ k h.
          ap (λ (x : List ℕ). get_or x (length m + k) 0) (sym e)
          ∙ get_or-append-add m (replicate (n - length m % n) (n - length m % n)) k 0
          ∙ get_or-replicate (n - length m % n) k (n - length m % n) 0 (omega arith) ∙ sym ec,
    )

-- where a text is padded, its last octet c is the number of octets of value c that it ends in
pub last_count : (m t : List ℕ) (n : ℕ) → 1 ≤ n → padded m n ≡ t → get_or t (length t - 1) 0 ≡ n - length m % n
last_count m t n low e =
    let c : ℕ = n - length m % n in
    let f = padded_end m t n low e c refl in
    let at : length t - 1 ≡ length m + (c - 1) = omega (arith, f.0, f.1) in
    ap (λ (j : ℕ). get_or t j 0) at ∙ f.3 (c - 1) (omega (arith, f.1))

pub each_end : (m t : List ℕ) (n c : ℕ) → 1 ≤ n → padded m n ≡ t → get_or t (length t - 1) 0 ≡ c
    → (1 ≤ c) × (c ≤ n) × ((i : ℕ) → i < length (tail c t) → get_or (tail c t) i 0 ≡ c)
each_end m t n c low e is =
    let ec : c ≡ n - length m % n = sym is ∙ last_count m t n low e in
    let f = padded_end m t n low e c ec in
    let end : length t - c ≡ length m = omega (arith, f.0) in
    let rest : tail c t ≡ drop (length t - c) t = take_rest t (length t - c) in (
      f.1,
      f.2,
      λ i h.
          ap (λ (x : List ℕ). get_or x i 0) rest
          ∙ get_or-drop (length t - c) t i 0
          ∙ ap (λ (j : ℕ). get_or t (j + i) 0) end
          ∙ f.3 i (omega (arith, ap length rest, length-drop (length t - c) t, f.0)),
    )

-- a padded text is whole blocks
pub padded_whole : (m : List ℕ) (n : ℕ) → 1 ≤ n → length (padded m n) % n ≡ 0
padded_whole m n low =
    let below : length m % n < n = mod_below (length m) n low in
    let q : ℕ = length m / n in
    let all : q * n + length m % n ≡ length m = div-add-mod' (length m) n in
    let more : (q + 1) * n ≡ q * n + n = omega arith in
    let long : length (padded m n) ≡ (q + 1) * n + 0 =
    length-append m _ ∙ ap (λ (x : ℕ). length m + x) (length-replicate (n - length m % n) (n - length m % n)) ∙ omega arith in
    ap (λ (x : ℕ). x % n) long ∙ mod-mul-add (q + 1) n 0 low

-- the buffer b with the padding of its first pos octets written after them
pub filled : (b made : List ℕ) (pos n k count : ℕ) → 1 ≤ n → pos ≤ length b → count ≡ n - pos % n → count ≤ length b - pos → k ≡ count
    → made ≡ replicate (length (take k (drop pos b))) count
    → (take (pos + count) (put_mid pos k b made) ≡ padded (take pos b) n)
    × (drop (pos + count) (put_mid pos k b made) ≡ drop (pos + count) b)
    × (length (put_mid pos k b made) ≡ length b)
filled b made pos n k count low le ec room ek written =
    let is : made ≡ replicate count count = written ∙ ap (λ (x : ℕ). replicate x count) (omega (arith, length-take k (drop pos b), length-drop pos b)) in
    let long : length made ≡ count = ap length is ∙ length-replicate count count in
    let front : length (take pos b) ≡ pos = length-take-le pos b le in
    let e : count ≡ n - length (take pos b) % n = ec ∙ ap (λ (x : ℕ). n - x % n) (sym front) in (
      take-put_mid pos k b made (pos + count) (omega arith) le
          ∙ ap (λ (x : List ℕ). take pos b ++ x) (is ∙ ap (λ (x : ℕ). replicate x x) e),
      drop-put_mid pos k b made (pos + count) (omega arith) le (omega arith),
      omega (
        arith,
        length-append (take pos b) (made ++ drop k (drop pos b)),
        length-append made (drop k (drop pos b)),
        length-drop k (drop pos b),
        length-drop pos b,
      ),
    )

-- what is in the buffer when its front p of length end has been encrypted into new
pub sealed : (D : List ℕ → List ℕ) (n : ℕ) (iv m b p new : List ℕ) (end : ℕ)
    → length new ≡ length (take end p) → end ≤ length p → length p ≡ length b
    → uncbc D n iv new ≡ take end p → take end p ≡ padded m n → drop end p ≡ drop end b
    → (k : ℕ) → end ≡ k
    → (k ≤ length b) × (k ≡ length (padded m n)) × (uncbc D n iv (take k (new ++ drop end p)) ≡ padded m n) × (drop k (new ++ drop end p) ≡ drop k b)
sealed D n iv m b p new end long room same opens front rest k e =
    let le : length (take end p) ≡ end = length-take-le end p room in
    let ln : length new ≡ k = long ∙ le ∙ e in (
      omega arith,
      sym e ∙ sym le ∙ ap length front,
      ap (uncbc D n iv) (take_at new (drop end p) k ln) ∙ opens ∙ front,
      drop_at new (drop end p) k ln ∙ rest ∙ ap (λ (j : ℕ). drop j b) e,
    )

-- two texts that are the same with their padding are the same
pub one_text : (n : ℕ) (m k : List ℕ) → 1 ≤ n → padded m n ≡ padded k n → m ≡ k
one_text n m k low e =
    let t : List ℕ = padded k n in
    let counts : n - length m % n ≡ n - length k % n = sym (last_count m t n low e) ∙ last_count k t n low refl in
    let fm = padded_end m t n low e (n - length m % n) refl in
    let fk = padded_end k t n low refl (n - length k % n) refl in
    let long : length m ≡ length k = omega (arith, fm.0, fk.0, counts) in
    sym (take_at m (replicate (n - length m % n) (n - length m % n)) (length m) refl)
    ∙ ap (take (length m)) e
    ∙ take_at k (replicate (n - length k % n) (n - length k % n)) (length m) (sym long)
