-- Blocks of a text, one after the other.
use Rattle.std.proofs.Common.{◌≡◌, ◌∙◌, sym, ap, ap₂, ℕ, zero, suc, ◌+◌, ◌-◌, ◌*◌, ◌/◌, ◌%◌, ◌<◌, ◌≤◌, List, ◌++◌, length, take, drop, refl, arith}
use Rattle.std.proofs.lemmas.List.{drop-drop, drop_at, take_at, take_all, drop-take, take-append-drop, length-drop, length-take, length-take-le, take-take}
use Rattle.std.proofs.lemmas.Slice.{take-put_mid, take-put_mid_below, drop-put_mid}
use borrow.Rule.Slice.PartMut.{put_mid}
use Rattle.std.proofs.Math.Nat.{mul-le-mul_left, mul-div-le, mul-suc, mul_comm}
use Rattle.std.proofs.lemmas.Nat.{div-add-mod'}
use Rattle.std.proofs.Math.Seq.{take-append-add}
use Rattle.block_core.specs.Bits.{xor_each}
use Rattle.block_core.specs.BitsLaws.{xor_twice}
use Rattle.mac_modes.specs.Cbc.{block, opened, uncbc}

-- after i blocks of c: the front of b is opened, the rest is as it was, and the block before is kept
pub record Opening (D : List ℕ → List ℕ) (n : ℕ) (iv c : List ℕ) (i : ℕ) (b kept : List ℕ) : Type 0 where
  pub front : take (n * i) b ≡ opened D n iv i c
  pub rest : drop (n * i) b ≡ drop (n * i) c
  pub before : kept ≡ block n i (iv ++ c)

add-one' : (i : ℕ) → suc i ≡ i + 1
add-one' i = omega arith

-- past a front of n
after_front : (xs ys : List ℕ) (n j : ℕ) → length xs ≡ n → drop (n + j) (xs ++ ys) ≡ drop j ys
after_front xs ys n j l = sym (drop-drop j n (xs ++ ys)) ∙ ap (drop j) (drop_at xs ys n l)

take_past : (xs ys : List ℕ) (n j : ℕ) → length xs ≡ n → take (j + n) (xs ++ ys) ≡ xs ++ take j ys
take_past xs ys n j l =
    let e : j + n ≡ length xs + j = omega arith in
    ap (λ (m : ℕ). take m (xs ++ ys)) e ∙ take-append-add xs ys j

pub take_add : (a k : ℕ) (xs : List ℕ) → take (a + k) xs ≡ take a xs ++ take k (drop a xs)
take_add a k xs =
    sym (take-append-drop a (take (a + k) xs))
    ∙ ap₂ (λ (x y : List ℕ). x ++ y) (take-take a (a + k) xs (omega arith)) (drop-take a k xs)

pub opening_none : (D : List ℕ → List ℕ) (n : ℕ) (iv c kept : List ℕ) → length iv ≡ n → kept ≡ iv → Opening D n iv c 0 c kept
unfolding opened
opening_none D n iv c kept l is =
    let e : n * 0 ≡ 0 = omega arith in
    record {
      front = ap (λ (j : ℕ). take j c) e;
      rest = refl;
      before = is ∙ sym (take_at iv c n l) ∙ ap (λ (j : ℕ). take n (drop j (iv ++ c))) (sym e);
    }

pub opening_more : (D : List ℕ → List ℕ) (n : ℕ) (iv c b kept text mid mid' : List ℕ) (i a k : ℕ)
    → length iv ≡ n → n * i + n ≤ length c → length b ≡ length c → a ≡ n * i → k ≡ n → length text ≡ length (take k (drop a b))
    → mid ≡ take k (drop a b) → mid' ≡ mid
    → Opening D n iv c i b kept → text ≡ xor_each (D mid) kept
    → Opening D n iv c (i + 1) (put_mid a k b text) mid'
unfolding opened
opening_more D n iv c b kept text mid mid' i a k liv room same ea ek long is is' o made =
    let lt : length text ≡ n = omega (arith, length-take k (drop a b), length-drop a b) in
    let next : n * (i + 1) ≡ n * i + n = omega arith in
    let mid_is : mid ≡ block n i c = is ∙ ap₂ (λ (x y : ℕ). take x (drop y b)) ek ea ∙ ap (take n) o.rest in
    let whole : text ≡ xor_each (D (block n i c)) (block n i (iv ++ c)) = made ∙ ap₂ (λ (x y : List ℕ). xor_each (D x) y) mid_is o.before in
    record {
      front =
          take-put_mid a k b text (n * (i + 1)) (omega arith) (omega arith)
          ∙ ap (λ (j : ℕ). take j b ++ text) ea
          ∙ ap₂ (λ (x y : List ℕ). x ++ y) o.front whole
          ∙ ap (λ (j : ℕ). opened D n iv j c) (add-one' i);
      rest =
          drop-put_mid a k b text (n * (i + 1)) (omega arith) (omega arith) (omega arith)
          ∙ ap (λ (j : ℕ). drop j b) next ∙ sym (drop-drop n (n * i) b) ∙ ap (drop n) o.rest ∙ drop-drop n (n * i) c
          ∙ ap (λ (j : ℕ). drop j c) (sym next);
      before =
          is' ∙ mid_is
          ∙ ap (take n) (sym (after_front iv c n (n * i) liv) ∙ ap (λ (j : ℕ). drop j (iv ++ c)) (let e : n + n * i ≡ n * (i + 1) = omega arith in e));
    }

-- room for block i
pub block_room : (n len i : ℕ) → i < len / n → n * i + n ≤ len
block_room n len i h =
    omega (arith, mul-le-mul_left n h, mul-div-le len n, mul-suc n i)

-- it has n octets, where it is cut out by its place
pub block_length : (n m len i : ℕ) (b : List ℕ) → m ≡ n → i < len / m → length b ≡ len → length (take (i * m + m - i * m) (drop (i * m) b)) ≡ n
block_length n m len i b is h same =
    let room : m * i + m ≤ len = block_room m len i h in
    omega (arith, mul_comm m i, length-take (i * m + m - i * m) (drop (i * m) b), length-drop (i * m) b)

pub opening_all : (D : List ℕ → List ℕ) (n : ℕ) (iv c b kept : List ℕ) (i m : ℕ)
    → m ≡ n → length c % n ≡ 0 → length b ≡ length c → length c / m ≤ i → i ≤ length c / m
    → Opening D n iv c i b kept → b ≡ uncbc D n iv c
opening_all D n iv c b kept i m em whole same low high o =
    let here : i ≡ length c / m = omega arith in
    let e : i ≡ length c / n = here ∙ ap (λ (j : ℕ). length c / j) em in
    let all : n * i ≡ length c =
    ap (λ (j : ℕ). n * j) e ∙ mul_comm n (length c / n) ∙ omega (arith, div-add-mod' (length c) n) in
    sym (take_all (n * i) b (omega arith)) ∙ o.front ∙ ap (λ (j : ℕ). opened D n iv j c) e

-- a block, and the block before it, depend on the text as far as they go
pub block_same : (n k : ℕ) (c d : List ℕ) → take (n * k + n) c ≡ take (n * k + n) d → block n k c ≡ block n k d
block_same n k c d e = sym (drop-take (n * k) n c) ∙ ap (drop (n * k)) e ∙ drop-take (n * k) n d

pub before_same : (n k : ℕ) (iv c d : List ℕ) → length iv ≡ n → take (n * k) c ≡ take (n * k) d → block n k (iv ++ c) ≡ block n k (iv ++ d)
before_same n k iv c d l e =
    block_same n k (iv ++ c) (iv ++ d)
    (take_past iv c n (n * k) l ∙ ap (λ (x : List ℕ). iv ++ x) e ∙ sym (take_past iv d n (n * k) l))

-- what the first k blocks open to depends on them alone
pub opened_same : (D : List ℕ → List ℕ) (n : ℕ) (iv c d : List ℕ) → length iv ≡ n → (k : ℕ)
    → take (n * k) c ≡ take (n * k) d → opened D n iv k c ≡ opened D n iv k d
unfolding opened
opened_same D n iv c d l zero e = refl
opened_same D n iv c d l (suc k) e =
    let m : n * suc k ≡ n * k + n = mul-suc n k in
    let front : take (n * k) c ≡ take (n * k) d =
    sym (take-take (n * k) (n * suc k) c (omega arith)) ∙ ap (take (n * k)) e ∙ take-take (n * k) (n * suc k) d (omega arith) in
    ap₂ (λ (x y : List ℕ). x ++ y) (opened_same D n iv c d l k front)
    (ap₂ (λ (x y : List ℕ). xor_each (D x) y)
    (block_same n k c d (ap (λ (j : ℕ). take j c) (sym m) ∙ e ∙ ap (λ (j : ℕ). take j d) m))
    (before_same n k iv c d l front))

-- after i blocks: the front of b opens to that of m, the rest is as it was, and the block before is kept
pub record Closing (D : List ℕ → List ℕ) (n : ℕ) (iv m : List ℕ) (i : ℕ) (b kept : List ℕ) : Type 0 where
  pub front : opened D n iv i b ≡ take (n * i) m
  pub rest : drop (n * i) b ≡ drop (n * i) m
  pub before : kept ≡ block n i (iv ++ b)

pub closing_none : (D : List ℕ → List ℕ) (n : ℕ) (iv m kept : List ℕ) → length iv ≡ n → kept ≡ iv → Closing D n iv m 0 m kept
unfolding opened
closing_none D n iv m kept l is =
    let e : n * 0 ≡ 0 = omega arith in
    record {
      front = ap (λ (j : ℕ). take j m) (sym e);
      rest = refl;
      before = is ∙ sym (take_at iv m n l) ∙ ap (λ (j : ℕ). take n (drop j (iv ++ m))) (sym e);
    }

pub closing_more : (D : List ℕ → List ℕ) (n : ℕ) (iv m b kept text kept' : List ℕ) (i a k : ℕ)
    → length iv ≡ n → n * i + n ≤ length m → length b ≡ length m → a ≡ n * i → k ≡ n → length text ≡ length (take k (drop a b))
    → length kept ≡ n
    → D text ≡ xor_each (take k (drop a b)) kept
    → kept' ≡ text
    → Closing D n iv m i b kept
    → Closing D n iv m (i + 1) (put_mid a k b text) kept'
unfolding opened
closing_more D n iv m b kept text kept' i a k liv room same ea ek long lk made is' o =
    let lt : length text ≡ n = omega (arith, length-take k (drop a b), length-drop a b) in
    let next : n * (i + 1) ≡ n * i + n = omega arith in
    let b' : List ℕ = put_mid a k b text in
    let same_front : take (n * i) b' ≡ take (n * i) b = take-put_mid_below a k b text (n * i) (omega arith) (omega arith) in
    let past : take (n * i + n) b' ≡ take a b ++ text = take-put_mid a k b text (n * i + n) (omega arith) (omega arith) in
    let here : block n i b' ≡ text =
    sym (drop-take (n * i) n b') ∙ ap (drop (n * i)) past
    ∙ drop_at (take a b) text (n * i) (length-take-le a b (omega arith) ∙ ea) in
    let kept_is : block n i (iv ++ b') ≡ kept = before_same n i iv b' b liv same_front ∙ sym o.before in
    let mid_is : take k (drop a b) ≡ take n (drop (n * i) m) = ap₂ (λ (x y : ℕ). take x (drop y b)) ek ea ∙ ap (take n) o.rest in
    let lm : length (take k (drop a b)) ≡ length kept = omega arith in
    record {
      front =
          ap (λ (j : ℕ). opened D n iv j b') (sym (add-one' i))
          ∙ ap₂ (λ (x y : List ℕ). x ++ y)
          (opened_same D n iv b' b liv i same_front ∙ o.front)
          (ap₂ (λ (x y : List ℕ). xor_each (D x) y) here kept_is
          ∙ ap (λ (x : List ℕ). xor_each x kept) made ∙ xor_twice (take k (drop a b)) kept lm ∙ mid_is)
          ∙ sym (take_add (n * i) n m) ∙ ap (λ (j : ℕ). take j m) (sym next);
      rest =
          drop-put_mid a k b text (n * (i + 1)) (omega arith) (omega arith) (omega arith)
          ∙ ap (λ (j : ℕ). drop j b) next ∙ sym (drop-drop n (n * i) b) ∙ ap (drop n) o.rest ∙ drop-drop n (n * i) m
          ∙ ap (λ (j : ℕ). drop j m) (sym next);
      before =
          is' ∙ sym here
          ∙ ap (take n) (sym (after_front iv b' n (n * i) liv) ∙ ap (λ (j : ℕ). drop j (iv ++ b')) (let e : n + n * i ≡ n * (i + 1) = omega arith in e));
    }

pub closing_all : (D : List ℕ → List ℕ) (n : ℕ) (iv m b kept : List ℕ) (i k : ℕ)
    → k ≡ n → length m % n ≡ 0 → length b ≡ length m → length m / k ≤ i → i ≤ length m / k
    → Closing D n iv m i b kept → uncbc D n iv b ≡ m
closing_all D n iv m b kept i k em whole same low high o =
    let here : i ≡ length m / k = omega arith in
    let e : i ≡ length m / n = here ∙ ap (λ (j : ℕ). length m / j) em in
    let all : n * i ≡ length m =
    ap (λ (j : ℕ). n * j) e ∙ mul_comm n (length m / n) ∙ omega (arith, div-add-mod' (length m) n) in
    ap (λ (j : ℕ). opened D n iv (j / n) b) same ∙ ap (λ (j : ℕ). opened D n iv j b) (sym e) ∙ o.front
    ∙ take_all (n * i) m (omega arith)
