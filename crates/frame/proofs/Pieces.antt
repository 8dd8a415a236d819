-- Hexadecimal text that is decoded piece by piece.
use Rattle.std.proofs.Common.{◌≡◌, ℕ, ◌+◌, ◌*◌, ◌/◌, ◌%◌, ◌≤◌, List, [], ◌∷◌, ◌++◌, length, take, drop, refl, sym, ap, subst, arith, ◌∙◌, Some, None, Ok, Err}
use Rattle.std.specs.Prelude.{Option, Result}
use Rattle.std.proofs.lemmas.List.{drop-drop, drop-take, length-append, length-drop, length-take, take-take, take_all, take_at}
use Rattle.std.proofs.lemmas.List.Elements.{All-drop, All-take}
use Rattle.std.specs.List.{All}
use Rattle.std.proofs.Math.Seq.{take-add}
use Rattle.std.proofs.lemmas.Slice.{take-put_mid, drop-put_mid}
use borrow.Rule.Slice.PartMut.{put_mid}
use Rattle.hex.specs.Hex.{decode_pairs, digit_or_error, hex_digit_value, pair_value, value_at, ◌>>=◌}
use Rattle.hex.specs.declared.error.FromHexError.{FromHexError}
use Rattle.hex.proofs.HexLemmas.{decode_of-even, decode_of-ok}
use Rattle.hex.proofs.Pairs.{cons_byte, decode_pairs-ok_pair}
use Rattle.frame.specs.InputText.{Ends, IsHex, IsNoInput, bare, fed}
use Rattle.frame.specs.TwoLines.{IsSplit, IsUnsplit}
use Rattle.frame.proofs.Lines.{no_first, spells_none}

-- Pairs of digits, and the octets that they spell, wherever they stand.
Spells : List ℕ → List ℕ → Type 0
Spells [] v = v ≡ []
Spells (a ∷ []) v = ⊥
Spells (a ∷ b ∷ rest) v = (x : ℕ) × (y : ℕ) × (w : List ℕ) × (hex_digit_value a ≡ Some x) × (hex_digit_value b ≡ Some y) × Spells rest w × (v ≡ (x * 16 + y) ∷ w)

bound : {A B : Type 0} (r : Result A FromHexError) (f : A → Result B FromHexError) (y : B) → (r >>= f) ≡ Ok y → (x : A) × (r ≡ Ok x) × (f x ≡ Ok y)
bound (Ok x) f y h = (x, refl, h)
bound (Err e) f y h = cc

read : (c i : ℕ) (o : Option ℕ) (v : ℕ) → digit_or_error c i o ≡ Ok v → o ≡ Some v
read c i (Some w) v h = cc
read c i None v h = cc

one : {A : Type 0} (r : Result A FromHexError) (x y : A) → r ≡ Ok x → r ≡ Ok y → y ≡ x
one r x y p q = cc

spelled : (i : ℕ) (s v : List ℕ) → decode_pairs i s ≡ Ok v → Spells s v
unfolding decode_pairs Spells
spelled i [] v h = one (decode_pairs i []) [] v refl h
spelled i (a ∷ []) v h = cc
spelled i (a ∷ b ∷ rest) v h =
    let p = bound (pair_value a b i) _ v h in
    let high = bound (value_at a i) _ p.0 p.1 in
    let low = bound (value_at b (i + 1)) _ p.0 high.2 in
    let more = bound (decode_pairs (i + 2) rest) _ v p.2 in
    let octet : p.0 ≡ high.0 * 16 + low.0 = one (Ok (high.0 * 16 + low.0)) (high.0 * 16 + low.0) p.0 refl low.2 in (
      high.0,
      low.0,
      more.0,
      read a i (hex_digit_value a) high.0 high.1,
      read b (i + 1) (hex_digit_value b) low.0 low.1,
      spelled (i + 2) rest more.0 more.1,
      one (Ok (p.0 ∷ more.0)) (p.0 ∷ more.0) v refl more.2 ∙ ap (λ (o : ℕ). o ∷ more.0) octet,
    )

decodes : (i : ℕ) (s v : List ℕ) → Spells s v → decode_pairs i s ≡ Ok v
unfolding decode_pairs Spells
decodes i [] v h = ap Ok (sym h)
decodes i (a ∷ []) v h = absurd h
decodes i (a ∷ b ∷ rest) v (x, y, w, p, q, more, is) =
    let pair : pair_value a b i ≡ Ok (x * 16 + y) = rw (p, q) refl in
    decode_pairs-ok_pair i a b (x * 16 + y) rest pair ∙ ap (cons_byte (x * 16 + y)) (decodes (i + 2) rest w more) ∙ ap Ok (sym is)

both : (a b v w : List ℕ) → Spells a v → Spells b w → Spells (a ++ b) (v ++ w)
unfolding Spells
both [] b v w h k = rw h k
both (c ∷ []) b v w h k = absurd h
both (c ∷ d ∷ a) b v w (x, y, u, p, q, more, is) k = (x, y, u ++ w, p, q, both a b u w more k, ap (λ (l : List ℕ). l ++ w) is)

-- the digits of two texts, one after the other
pub joined : (a b v w : List ℕ) → IsHex a v → IsHex b w → IsHex (a ++ b) (v ++ w)
joined a b v w h k =
    let p = decode_of-ok a v h in
    let q = decode_of-ok b w k in
    let size = length-append a b in
    let s = spelled 0 a v (sym (decode_of-even a p.0) ∙ h) in
    let t = spelled 0 b w (sym (decode_of-even b q.0) ∙ k) in
    decode_of-even (a ++ b) (omega (arith, size, p.0, q.0)) ∙ decodes 0 (a ++ b) (v ++ w) (both a b v w s t)

-- The octets of a piece, where it still stands as it did.
pub piece_hex : (old text octets decoded : List ℕ) (done n more : ℕ) → n ≡ more → drop done text ≡ drop done old → octets ≡ decoded → IsHex (take n (drop done text)) decoded → IsHex (take more (drop done old)) octets
piece_hex old text octets decoded done n more is rest same hex = rw (← is, ← rest, same) hex

pub piece_size : (old octets : List ℕ) (done more : ℕ) → done + more ≤ length old → IsHex (take more (drop done old)) octets → length octets ≡ more / 2
piece_size old octets done more within hex =
    omega (arith, (decode_of-ok (take more (drop done old)) octets hex).2, length-take more (drop done old), length-drop done old)

-- One piece more is decoded: its octets come after those before it.
pub piece_more : (old text octets : List ℕ) (done more k : ℕ) → done % 2 ≡ 0 → more % 2 ≡ 0 → done + more ≤ length old → length text ≡ length old → k ≡ more / 2
    → IsHex (take done old) (take (done / 2) text) → IsHex (take more (drop done old)) octets
    → IsHex (take (done + more) old) (take ((done + more) / 2) (put_mid (done / 2) k text octets))
piece_more old text octets done more k even pair within size is front piece =
    let n = piece_size old octets done more within piece in
    let whole = take-add done more old in
    let made : take ((done + more) / 2) (put_mid (done / 2) k text octets) ≡ take (done / 2) text ++ octets =
    take-put_mid (done / 2) k text octets ((done + more) / 2) (omega (arith, n, even, pair)) (omega (arith, size, within)) in
    rw (whole, made) (joined (take done old) (take more (drop done old)) (take (done / 2) text) octets front piece)

pub piece_rest : (old text octets : List ℕ) (done more k : ℕ) → done + more ≤ length old → length text ≡ length old → drop done text ≡ drop done old → length octets ≡ k → k ≡ more / 2
    → drop (done + more) (put_mid (done / 2) k text octets) ≡ drop (done + more) old
piece_rest old text octets done more k within size rest n is =
    drop-put_mid (done / 2) k text octets (done + more) (omega (arith, is)) (omega (arith, size, within)) n
    ∙ sym (drop-drop more done text) ∙ ap (drop more) rest ∙ drop-drop more done old

-- The digits of a piece are among those of the whole.
pub piece_digits : (P : ℕ → Type 0) (old text : List ℕ) (done n count : ℕ) → done + n ≤ count → drop done text ≡ drop done old → All P (take count old) → All P (take n (drop done text))
piece_digits P old text done n count within rest all =
    let fewer : All P (take (done + n) old) = subst (All P) (take-take (done + n) count old within) (All-take P (done + n) (take count old) all) in
    subst (λ (l : List ℕ). All P l) (drop-take done n old ∙ ap (take n) (sym rest)) (All-drop P done (take (done + n) old) fewer)

pub nothing_yet : IsHex [] []
unfolding decode_pairs
nothing_yet = refl

-- ---- The first line of a text, by the number of its digits

line_front : (x digits : List ℕ) → Ends x digits → take (length digits) x ≡ digits
line_front x digits (fed e) = ap (take (length digits)) e ∙ take_at digits (10 ∷ []) (length digits) refl
line_front x digits (bare e last) = ap (take (length digits)) e ∙ take_all (length digits) digits (omega arith)

pub no_only_line : (x held digits : List ℕ) → held ≡ x → IsUnsplit held → Ends held digits → ((octets : List ℕ) → IsHex (take (length digits) x) octets → ⊥) → IsNoInput x
no_only_line x held digits e one ends none =
    let whole = subst (λ (t : List ℕ). Ends t digits) e ends in
    spells_none x digits (subst IsUnsplit e one) whole (λ store hex. none store (subst (λ (t : List ℕ). IsHex t store) (sym (line_front x digits whole)) hex))

pub no_first_line : (x held a b : List ℕ) → held ≡ x → IsSplit held a b → ((octets : List ℕ) → IsHex (take (length a) x) octets → ⊥) → IsNoInput x
no_first_line x held a b e split none =
    let p = subst (λ (t : List ℕ). IsSplit t a b) e split in
    no_first x a b p (λ store hex. none store (subst (λ (t : List ℕ). IsHex t store) (sym (ap (take (length a)) p.parts ∙ take_at a (10 ∷ b) (length a) refl)) hex))
