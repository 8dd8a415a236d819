-- The words of an identifier's text are its arcs.
use Rattle.std.proofs.Common.{◌≡◌, ◌≢◌, ℕ, zero, suc, add-one, append_assoc, ◌+◌, ◌*◌, ◌/◌, ◌%◌, ◌^◌, ◌<◌, ◌≤◌, false, List, [], ◌∷◌, ◌++◌, length, map, take, set, get_or, refl, sym, ap, subst, ◌∙◌, arith, length-append, All}
use Rattle.std.specs.Prelude.{IsTrue, slice_get, Option, Some, None, MatchOption, Result, Ok, Err, IfOk, IfErr, decimal, ◌==◌}
use Rattle.std.specs.List.{join_with_byte}
use Rattle.std.specs.Str.Parse.{AllDigits, digits_value}
use Rattle.std.proofs.lemmas.Str.Parse.{IsNumeralModel, numerals_by_value, tells_digits, digit_at}
use Rattle.std.proofs.lemmas.Fmt.{digits_decimal, decimal_injective}
use Rattle.std.proofs.lemmas.List.{length-map, length-take-le, take_more_set}
use Rattle.std.proofs.lemmas.List.Elements.{All-from_get_or}
use Rattle.std.proofs.lemmas.List.Splits.{slice_split_none, slice_split_at, join_with_byte-slice_split, length-slice_split}
use Rattle.std.proofs.lemmas.Bool.Decides.{nat_tests}
use Rattle.std.proofs.lemmas.Grind.{common_steps}
use Rattle.asn1_core.specs.Identifier.{high, sub, subs, AllUnder, is_identifier}
use Rattle.asn1_core.specs.Arcs.{HasArcs, NoneHas, arcs, arcs_text, IsText, NoneReads, words, arc_text}
use Rattle.asn1_core.specs.Oid.{oid_octets}
use Rattle.asn1_core.specs.declared.identifier.ObjectIdentifier.{ObjectIdentifier}
use Rattle.asn1_core.specs.declared.error.Error.{Error}
use Rattle.asn1_core.specs.declared.error.Error.TheVariants.{Malformed}
use Rattle.asn1_core.proofs.ArcsRead.{arcs_found}
use denote.Ref.{Bor}

-- ---- the first word

other : (b : ℕ) → b ≢ 46 → (b == 46) ≡ false
other b h = grind (arith, nat_tests, h)

plain : (bs : List ℕ) → ((i : ℕ) → i < length bs → get_or bs i 0 ≢ 46) → All (λ b. (b == 46) ≡ false) bs
plain bs h = All-from_get_or (λ b. (b == 46) ≡ false) bs 0 (λ i lt. other (get_or bs i 0) (h i lt))

pub first_words : (bs : List ℕ) (r : Option (Bor (List ℕ) × Bor (List ℕ)))
    → MatchOption r ((i : ℕ) → i < length bs → get_or bs i 0 ≢ 46) (λ x. (bs ≡ x.0.now ++ (46 ∷ x.1.now)) × ((i : ℕ) → i < length x.0.now → get_or x.0.now i 0 ≢ 46))
    → MatchOption r (words bs ≡ bs ∷ []) (λ x. (words bs ≡ x.0.now ∷ words x.1.now) × (length x.1.now < length bs))
first_words bs None h = slice_split_none (λ b. b == 46) bs (plain bs h)
first_words bs (Some x) h = (
  ap words h.0 ∙ slice_split_at (λ b. b == 46) x.0.now 46 x.1.now (plain x.0.now h.1) refl,
  (let e = ap length h.0 ∙ length-append x.0.now (46 ∷ x.1.now) in omega (arith, e)),
)

-- ---- the words of a text of arcs

own : IsNumeralModel (AllDigits 10) (digits_value 10)
own = numerals_by_value (AllDigits 10) tells_digits

decimal_plain : (n : ℕ) → n < 2 ^ 32 → All (λ b. (b == 46) ≡ false) (decimal n)
decimal_plain n small = plain (decimal n) (λ i lt e. omega (arith, (digit_at (decimal n) i (digits_decimal own n (omega (arith, small))) lt).0, e))

pub words_text : (n : ℕ) (ns : List ℕ) → AllUnder (2 ^ 32) (n ∷ ns) → words (arcs_text (n ∷ ns)) ≡ map decimal (n ∷ ns)
words_text n [] h = slice_split_none (λ b. b == 46) (decimal n) (decimal_plain n h.0)
words_text n (m ∷ ns) h =
    slice_split_at (λ b. b == 46) (decimal n) 46 (arcs_text (m ∷ ns)) (decimal_plain n h.0) refl ∙ ap (λ (ws : List (List ℕ)). decimal n ∷ ws) (words_text m ns h.1)

pub text_words : (t list : List ℕ) → words t ≡ map decimal list → t ≡ arcs_text list
text_words t list e = sym (join_with_byte-slice_split 46 t) ∙ ap (join_with_byte 46) e

pub same_arcs : (xs ys : List ℕ) → AllUnder (2 ^ 32) xs → AllUnder (2 ^ 32) ys → map decimal xs ≡ map decimal ys → xs ≡ ys
same_arcs [] [] h i e = refl
same_arcs [] (y ∷ ys) h i e = absurd cc
same_arcs (x ∷ xs) [] h i e = absurd cc
same_arcs (x ∷ xs) (y ∷ ys) h i e =
    let f : decimal x ≡ decimal y = cc in
    let g : map decimal xs ≡ map decimal ys = cc in
    let one : x ≡ y = decimal_injective x y (let s = h.0 in omega (arith, s)) (let s = i.0 in omega (arith, s)) f in
    let rest = same_arcs xs ys h.1 i.1 g in
    cc

-- ---- reading word by word

under_push : (xs : List ℕ) (a : ℕ) → AllUnder (2 ^ 32) xs → a < 2 ^ 32 → AllUnder (2 ^ 32) (xs ++ a ∷ [])
under_push [] a u h = (h, tt)
under_push (x ∷ xs) a u h = (u.0, under_push xs a u.1 h)

-- one arc more
pub under_more : (xs : List ℕ) (n a : ℕ) → n < length xs → a < 2 ^ 32 → AllUnder (2 ^ 32) (take n xs) → AllUnder (2 ^ 32) (take (n + 1) (set xs n a))
under_more xs n a h lt u = rw (take_more_set xs n a h) (under_push (take n xs) a u lt)

pub word_more : (all arcs left more w : List ℕ) (n a : ℕ) → n < length arcs → w ≡ decimal a → words all ≡ map decimal (take n arcs) ++ words left → words left ≡ w ∷ words more
    → words all ≡ map decimal (take (n + 1) (set arcs n a)) ++ words more
word_more all arcs left more w n a h is so_far first = grind (arith, common_steps)

pub word_last : (all arcs left : List ℕ) (n a : ℕ) → n < length arcs → left ≡ decimal a → words all ≡ map decimal (take n arcs) ++ words left → words left ≡ left ∷ []
    → words all ≡ map decimal (take (n + 1) (set arcs n a))
word_last all arcs left n a h is so_far first = grind (arith, common_steps)

-- a word that writes no arc
bad_word : (xs list : List ℕ) (ws : List (List ℕ)) (w : List ℕ) → ((n : ℕ) → n < 2 ^ 32 → w ≡ decimal n → ⊥) → AllUnder (2 ^ 32) list → map decimal xs ++ w ∷ ws ≡ map decimal list → ⊥
bad_word [] [] ws w bad h e = absurd cc
bad_word [] (n ∷ ns) ws w bad h e = bad n h.0 cc
bad_word (x ∷ xs) [] ws w bad h e = absurd cc
bad_word (x ∷ xs) (n ∷ ns) ws w bad h e = bad_word xs ns ws w bad h.1 cc

-- the words that are left begin with one that writes no arc
pub word_refused : (all xs list left w : List ℕ) (ws : List (List ℕ)) → ((n : ℕ) → n < 2 ^ 32 → w ≡ decimal n → ⊥)
    → words all ≡ map decimal xs ++ words left → words left ≡ w ∷ ws → AllUnder (2 ^ 32) list → words all ≡ map decimal list → ⊥
word_refused all xs list left w ws bad is first h e = bad_word xs list ws w bad h (sym (is ∙ ap (λ (v : List (List ℕ)). map decimal xs ++ v) first) ∙ e)

-- after 39 arcs there are two words at least
pub words_many : (all arcs list left more w : List ℕ) → length arcs ≡ 40 → words all ≡ map decimal (take 39 arcs) ++ words left → words left ≡ w ∷ words more
    → length list ≤ 40 → words all ≡ map decimal list → ⊥
words_many all arcs list left more w n is first le e =
    let a : length (map decimal (take 39 arcs) ++ w ∷ words more) ≡ length (map decimal list) = ap length (sym (is ∙ ap (λ (v : List (List ℕ)). map decimal (take 39 arcs) ++ v) first) ∙ e) in
    let t : length (take 39 arcs) ≡ 39 = length-take-le 39 arcs (omega (arith, n)) in
    omega (arith, a, t, length-append (map decimal (take 39 arcs)) (w ∷ words more), length-map (take 39 arcs) decimal, length-map list decimal, length-slice_split (λ b. b == 46) more)

-- ---- what the arcs of a text make

sub_some : (n : ℕ) → 0 < length (sub n)
sub_some n = omega (arith, length-append (high (n / 128)) ((n % 128) ∷ []))

subs_long : (ns : List ℕ) → length ns ≤ length (subs ns)
subs_long [] = omega arith
subs_long (n ∷ ns) = omega (arith, subs_long ns, length-append (sub n) (subs ns), sub_some n)

-- an identifier has at most 40 arcs
pub arcs_few : (o list : List ℕ) → HasArcs o list → (length list ≤ 40) × (2 ≤ length list)
arcs_few o list (a, b, ns, is, two, small, u, o_is, le) =
    let l = ap length is in
    let m = ap length o_is in
    let k = subs_long ((40 * a + b) ∷ ns) in
    (omega (arith, l, m, k, le), omega (arith, l))

pub arcs_within : (o : List ℕ) → IsTrue (is_identifier o) → (2 ≤ length (arcs o)) × (length (arcs o) ≤ 40)
arcs_within o h = let few = arcs_few o (arcs o) (arcs_found o h) in (few.1, few.0)

pub arcs_under : (o list : List ℕ) → HasArcs o list → AllUnder (2 ^ 32) list
arcs_under o list (a, b, ns, is, two, small, u, o_is, le) =
    let s = u.0 in
    let both : AllUnder (2 ^ 32) (a ∷ b ∷ ns) = (omega (arith, two), (omega (arith, s), u.1)) in
    subst (λ (xs : List ℕ). AllUnder (2 ^ 32) xs) (sym is) both

words_all : (list : List ℕ) → 0 < length list → AllUnder (2 ^ 32) list → words (arcs_text list) ≡ map decimal list
words_all [] h u = absurd (omega (arith, h))
words_all (n ∷ ns) h u = words_text n ns u

text_read : (t o : List ℕ) (h : IsText t o) → words t ≡ map decimal h.0
text_read t o h = ap words h.2 ∙ words_all h.0 (let two = (arcs_few o h.0 h.1).1 in omega (arith, two)) (arcs_under o h.0 h.1)

pub reads_none : (t : List ℕ) → ((list : List ℕ) → length list ≤ 40 → AllUnder (2 ^ 32) list → words t ≡ map decimal list → ⊥) → NoneReads t
reads_none t none o h = none h.0 (arcs_few o h.0 h.1).0 (arcs_under o h.0 h.1) (text_read t o h)

pub reads_ok : (r : Result ObjectIdentifier Error) (t list : List ℕ) → words t ≡ map decimal list → IfOk r (λ o. HasArcs (oid_octets o) list) → IfOk r (λ o. IsText t (oid_octets o))
reads_ok (Ok o) t list e h = (list, h, text_words t list e)
reads_ok (Err f) t list e h = tt

pub reads_err : (r : Result ObjectIdentifier Error) (t list : List ℕ) → words t ≡ map decimal list → AllUnder (2 ^ 32) list → IfErr r (λ e. (e ≡ Malformed) × NoneHas list) → IfErr r (λ e. (e ≡ Malformed) × NoneReads t)
reads_err (Ok o) t list e u h = tt
reads_err (Err f) t list e u h = (
  h.0,
  λ o is. h.1 o (subst (λ (xs : List ℕ). HasArcs o xs) (same_arcs is.0 list (arcs_under o is.0 is.1) u (sym (text_read t o is) ∙ e)) is.1),
)

-- ---- text, arcs and octets are three forms of one value

-- one text is that of one list of arcs
pub one_list : (t : List ℕ) (o p : List ℕ) (h : IsText t o) (i : IsText t p) → h.0 ≡ i.0
one_list t o p h i = same_arcs h.0 i.0 (arcs_under o h.0 h.1) (arcs_under p i.0 i.1) (sym (text_read t o h) ∙ text_read t p i)

-- ---- writing arc by arc

text_next : (i : ℕ) (list : List ℕ) (a : ℕ) → slice_get list i ≡ Some a → arcs_text (take i list) ++ arc_text i a ≡ arcs_text (take (suc i) list)
text_next i [] a e = absurd cc
text_next zero (n ∷ ns) a e = let f : n ≡ a = cc in ap decimal (sym f)
text_next (suc i) (n ∷ []) a e = absurd cc
text_next (suc zero) (n ∷ m ∷ ms) a e = let f : m ≡ a = cc in ap (λ (x : ℕ). decimal n ++ 46 ∷ decimal x) (sym f)
text_next (suc (suc i)) (n ∷ m ∷ ms) a e =
    append_assoc (decimal n) (46 ∷ arcs_text (m ∷ take i ms)) (46 ∷ decimal a) ∙ ap (λ (t : List ℕ). decimal n ++ 46 ∷ t) (text_next (suc i) (m ∷ ms) a e)

pub text_more : (i : ℕ) (list : List ℕ) (a : ℕ) → slice_get list i ≡ Some a → arcs_text (take i list) ++ arc_text i a ≡ arcs_text (take (i + 1) list)
text_more i list a e = text_next i list a e ∙ ap (λ (k : ℕ). arcs_text (take k list)) (sym (add-one i))

all_taken : (i : ℕ) (list : List ℕ) → slice_get list i ≡ None → take i list ≡ list
all_taken zero [] e = refl
all_taken (suc i) [] e = refl
all_taken zero (n ∷ ns) e = absurd cc
all_taken (suc i) (n ∷ ns) e = ap (λ (xs : List ℕ). n ∷ xs) (all_taken i ns e)

pub text_end : (i : ℕ) (list : List ℕ) → slice_get list i ≡ None → arcs_text (take i list) ≡ arcs_text list
text_end i list e = ap arcs_text (all_taken i list e)
