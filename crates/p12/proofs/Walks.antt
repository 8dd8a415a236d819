-- A walk goes on over what is left to read, and each part stands where it says.
use Rattle.std.proofs.Common.{◌≡◌, ◌==◌, ℕ, zero, suc, ◌-◌, ◌<◌, ◌≤◌, List, [], ◌∷◌, ◌++◌, length, take, drop, Result, Ok, Err, refl, sym, ap, ◌∙◌, append_assoc, arith, length-append, take-append-drop}
use Rattle.std.proofs.lemmas.List.{append-nil}
use Rattle.std.proofs.Math.Seq.{drop-append_seam, take-append_seam}
use Rattle.asn1_core.specs.Der.{el, len}
use Rattle.asn1_core.specs.Reading.{All, Fault, Front, Head, ◌>>=◌, ended, header_at, left, many_in, many, slice_at, valued, where_ok, whole, within}
use Rattle.asn1_core.specs.Texts.{Exact, Taken, Inside}
use Rattle.asn1_core.specs.ExactLaws.{bind_ok, ended_ok, ok_is}
use Rattle.asn1_core.specs.Gives.{Fails}
use Rattle.asn1_core.specs.Reading.{Bad}
use Rattle.asn1_core.specs.Fields.{latest}
use Rattle.asn1_core.proofs.PartLoops.{latest_fails}
use Rattle.asn1_core.specs.declared.error.Error.{Error}
use Rattle.asn1_core.specs.declared.error.Error.TheVariants as errors
use Rattle.p12.specs.Place.{Part}
use Rattle.p12.specs.Walk.{IsWalk, read_or_none}

-- ---- suffixes

abbrev pub Tail : List ℕ → List ℕ → Type 0
Tail x b = (front : List ℕ) × (b ≡ front ++ x)

pub over : (x y z : List ℕ) → Tail x y → Tail y z → Tail x z
over x y z (f, e) (g, h) = (g ++ f, h ∙ ap (λ t. g ++ t) e ∙ sym (append_assoc g f x))

pub value_tail : (tag : ℕ) (v b : List ℕ) → b ≡ el tag v → Tail v b
unfolding el
value_tail tag v b e = (tag ∷ len (length v), e)

pub inside_tail : (tag : ℕ) (b v : List ℕ) → Inside tag b v → Tail v b
inside_tail tag b v r = let t = value_tail tag r.0 b r.2 in (t.0, t.1 ∙ ap (λ x. t.0 ++ x) (sym r.1))

pub end_tail : (x y b : List ℕ) → y ≡ [] → b ≡ x ++ y → Tail x b
end_tail x y b n e = ([], e ∙ ap (λ t. x ++ t) n ∙ append-nil x)

pub drop_to : (front b bytes : List ℕ) → bytes ≡ front ++ b → drop (length bytes - length b) bytes ≡ b
drop_to front b bytes e =
    let n : length bytes - length b ≡ length front = omega (arith, ap length e, length-append front b) in
    rw n (ap (drop (length front)) e ∙ drop-append_seam front b)

pub front_of : (b bytes : List ℕ) → drop (length bytes - length b) bytes ≡ b → bytes ≡ take (length bytes - length b) bytes ++ b
front_of b bytes e = sym (take-append-drop (length bytes - length b) bytes) ∙ ap (λ t. take (length bytes - length b) bytes ++ t) e

-- ---- reading on

same_bind : {A B : Type 0} (r : Result A Fault) (f g : A → Result B Fault) → ((x : A) → r ≡ Ok x → f x ≡ g x) → (r >>= f) ≡ (r >>= g)
same_bind (Ok x) f g h = h x refl
same_bind (Err e) f g h = refl

abbrev pub Shrinks : {A : Type 0} → Front A → Type 0
Shrinks {A} p = (b : List ℕ) (v : A) (rest : List ℕ) → p b ≡ Ok (v, rest) → length rest < length b

some_text : {A : Type 0} (R : List ℕ → A → Type 0) → ((v : A) → R [] v → ⊥) → (t : List ℕ) (v : A) → R t v → 0 < length t
some_text R none [] v r = absurd (none v r)
some_text R none (b ∷ bs) v r = omega arith

pub shrinks : {A : Type 0} (R : List ℕ → A → Type 0) (p : Front A) → Exact R p → ((v : A) → R [] v → ⊥) → Shrinks p
shrinks R p exact none b v rest e = let f = exact.found b v rest e in omega (arith, some_text R none f.text v f.holds, ap length f.is, length-append f.text rest)

more_fuel : {A : Type 0} (p : Front A) → Shrinks p → (j k : ℕ) (b : List ℕ) → length b ≤ j → length b ≤ k → many_in p j b ≡ many_in p k b
more_fuel p s zero zero [] h i = refl
more_fuel p s zero (suc k) [] h i = refl
more_fuel p s (suc j) zero [] h i = refl
more_fuel p s (suc j) (suc k) [] h i = refl
more_fuel p s zero k (b ∷ bs) h i = absurd (omega (arith, h))
more_fuel p s (suc j) zero (b ∷ bs) h i = absurd (omega (arith, i))
more_fuel p s (suc j) (suc k) (b ∷ bs) h i =
    same_bind (p (b ∷ bs)) _ _ (λ x e.
    let less = s (b ∷ bs) x.0 x.1 e in
    ap (λ (r : Result (List _) Fault). r >>= λ vs. Ok (x.0 ∷ vs)) (more_fuel p s j k x.1 (omega (arith, less, h)) (omega (arith, less, i))))

-- what is left after the first part
pub behind : {A : Type 0} (p : Front A) → Shrinks p → (rest after : List ℕ) (v : A) (xs : List A) → p rest ≡ Ok (v, after) → many p rest ≡ Ok xs → (ys : List A) × (many p after ≡ Ok ys) × (xs ≡ v ∷ ys)
behind p s [] after v xs e all = absurd (omega (arith, s [] v after e))
behind p s (b ∷ bs) after v xs e all =
    let less = s (b ∷ bs) v after e in
    let step : (many_in p (length bs) after >>= λ vs. Ok (v ∷ vs)) ≡ Ok xs = sym (ap (λ (r : Result (_ × List ℕ) Fault). r >>= λ x. many_in p (length bs) x.1 >>= λ vs. Ok (x.0 ∷ vs)) e) ∙ all in
    let y = bind_ok (many_in p (length bs) after) (λ vs. Ok (v ∷ vs)) xs step in
    (y.0, more_fuel p s (length after) (length bs) after (omega arith) (omega (arith, less)) ∙ y.1, sym (ok_is (v ∷ y.0) xs y.2))

-- ---- walks

pub starts : {A : Type 0} (p : Front A) (bytes body rest : List ℕ) (xs : List A) → Taken (Inside 0x30) bytes body rest → rest ≡ [] → many p body ≡ Ok xs → IsWalk p bytes body
starts p bytes body rest xs t none all =
    let a = inside_tail 0x30 t.text body t.holds in
    let b = over body t.text bytes a (end_tail t.text rest bytes none t.is) in
    (drop_to b.0 body bytes b.1, all ∙ ap (λ (r : Result (List _) Fault). Ok (read_or_none r)) (sym all))

-- the value of an element in front, and then reading it
pub within_left : {A : Type 0} (tag : ℕ) (q : All A) (b v rest : List ℕ) → within tag left b ≡ Ok (v, rest)
    → within tag q b ≡ (q v >>= λ x. Ok (x, rest))
within_left {A} tag q b v rest e =
    let head = bind_ok (header_at b) _ (v, rest) e in
    let tagged = bind_ok (where_ok (head.0.0.tag == tag) head.0) _ (v, rest) head.2 in
    let value = bind_ok (slice_at tagged.0.0.size tagged.0.1) _ (v, rest) tagged.2 in
    ap (λ (r : Result (Head × List ℕ) Fault). r >>= λ h. where_ok (h.0.tag == tag) h >>= λ h. valued q h.0.size h.1) head.1
    ∙ ap (λ (r : Result (Head × List ℕ) Fault). r >>= λ h. valued q h.0.size h.1) tagged.1
    ∙ ap (λ (r : Result (List ℕ × List ℕ) Fault). r >>= λ w. q w.0 >>= λ x. Ok (x, w.1)) value.1
    ∙ ap (λ (w : List ℕ × List ℕ). q w.0 >>= λ x. Ok (x, w.1)) (ok_is value.0 (v, rest) value.2)

-- an element that is read is one whose value can be taken
pub left_of : {A : Type 0} (tag : ℕ) (q : All A) (b : List ℕ) (x : A) → whole (within tag q) b ≡ Ok x
    → (v : List ℕ) × (rest : List ℕ) × (within tag left b ≡ Ok (v, rest))
left_of {A} tag q b x all =
    let outer = bind_ok (within tag q b) (λ x. ended x.0 x.1) x all in
    let head = bind_ok (header_at b) _ outer.0 outer.1 in
    let tagged = bind_ok (where_ok (head.0.0.tag == tag) head.0) _ outer.0 head.2 in
    let value = bind_ok (slice_at tagged.0.0.size tagged.0.1) _ outer.0 tagged.2 in (
      value.0.0,
      value.0.1,
      ap (λ (r : Result (Head × List ℕ) Fault). r >>= λ h. where_ok (h.0.tag == tag) h >>= λ h. valued left h.0.size h.1) head.1
          ∙ ap (λ (r : Result (Head × List ℕ) Fault). r >>= λ h. valued left h.0.size h.1) tagged.1
          ∙ ap (λ (r : Result (List ℕ × List ℕ) Fault). r >>= λ w. left w.0 >>= λ x. Ok (x, w.1)) value.1,
    )

-- what is read does not fail
pub never_fails : {Y : Type 0} (r : Result Y Fault) (y : Y) (e : Error) → r ≡ Ok y → Fails ⊥ e r → ⊥
never_fails r y errors.Malformed h f = absurd (let t = sym f ∙ h in cc)
never_fails r y (errors.OidUnknown o) h f = absurd (let t = sym f ∙ h in cc)
never_fails r y errors.Overlength h f = f
never_fails r y errors.NoRoom h f = f
never_fails r y errors.File h f = f
never_fails r y errors.Memory h f = f

-- where an element is all of a text, its value is read to its end
pub whole_within : {A : Type 0} (tag : ℕ) (q : All A) (b v rest : List ℕ) (x : A) → within tag left b ≡ Ok (v, rest)
    → whole (within tag q) b ≡ Ok x → (rest ≡ []) × (q v ≡ Ok x)
whole_within {A} tag q b v rest x e all =
    let outer = bind_ok (within tag q b) (λ x. ended x.0 x.1) x all in
    let inner = bind_ok (q v) (λ y. Ok (y, rest)) outer.0 (sym (within_left tag q b v rest e) ∙ outer.1) in
    let same = ok_is (inner.0, rest) outer.0 inner.2 in
    let end = ended_ok outer.0.0 x outer.0.1 outer.2 in
    (ap (λ (p : A × List ℕ). p.1) same ∙ end.0, inner.1 ∙ ap Ok (ap (λ (p : A × List ℕ). p.0) same ∙ end.1))

-- a walk over bags, or what else is listed so, that were read before
pub starts_again : {A : Type 0} (p : Front A) (bytes body rest : List ℕ) (xs : List A) → Taken (Inside 0x30) bytes body rest
    → within 0x30 left bytes ≡ Ok (body, rest) → whole (within 0x30 (many p)) bytes ≡ Ok xs
    → IsWalk p bytes body × (read_or_none (many p body) ≡ xs)
starts_again p bytes body rest xs t e all =
    let w = whole_within 0x30 (many p) bytes body rest xs e all in
    (starts p bytes body rest xs t w.0 w.1, ap read_or_none w.1)

pub goes : {A : Type 0} (R : List ℕ → A → Type 0) (p : Front A) → Exact R p → Shrinks p → (bytes rest after : List ℕ) (v : A) → IsWalk p bytes rest → p rest ≡ Ok (v, after) → IsWalk p bytes after
goes R p exact s bytes rest after v w e =
    let f = exact.found rest v after e in
    let t = over after rest bytes (f.text, f.is) (_, front_of rest bytes w.0) in
    let l = behind p s rest after v _ e w.1 in
    (drop_to t.0 after bytes t.1, l.1 ∙ ap (λ (r : Result (List _) Fault). Ok (read_or_none r)) (sym l.1))

pub lends : {A : Type 0} (p : Front A) → Shrinks p → (bytes rest after : List ℕ) (v : A) → IsWalk p bytes rest → p rest ≡ Ok (v, after) → read_or_none (many p rest) ≡ v ∷ read_or_none (many p after)
lends p s bytes rest after v w e = let l = behind p s rest after v _ e w.1 in l.2 ∙ ap (λ (r : Result (List _) Fault). v ∷ read_or_none r) (sym l.1)

-- ---- parts, with what comes after them

pub deeper : (x y z a b : List ℕ) → Part y x a → Part z y b → Part z x (b ++ a)
deeper x y z a b (f, e) (g, h) =
    let inner : y ++ a ≡ g ++ (z ++ (b ++ a)) = ap (λ t. t ++ a) h ∙ append_assoc g (z ++ b) a ∙ ap (λ t. g ++ t) (append_assoc z b a) in
    (f ++ g, e ∙ ap (λ t. f ++ t) inner ∙ sym (append_assoc f g (z ++ (b ++ a))))

pub taken_part : (tag : ℕ) (b v rest : List ℕ) → Taken (Inside tag) b v rest → Part v b rest
taken_part tag b v rest t = let i = inside_tail tag t.text v t.holds in (i.0, t.is ∙ ap (λ x. x ++ rest) i.1 ∙ append_assoc i.0 v rest)

pub rest_part : {A : Type 0} (R : List ℕ → A → Type 0) (b : List ℕ) (v : A) (rest : List ℕ) → Taken R b v rest → Part rest b []
rest_part R b v rest t = (t.text, t.is ∙ ap (λ x. t.text ++ x) (sym (append-nil rest)))

-- ---- calls that keep nothing

pub latest_fails_free : {A : Type 0} (p : Front A) (b : List ℕ) (e : Error) → p [] ≡ Err Bad → Fails ⊥ e (p b) → Fails ⊥ e (latest p b)
latest_fails_free p b errors.Malformed none h = latest_fails ⊥ p b errors.Malformed none h
latest_fails_free p b (errors.OidUnknown o) none h = latest_fails ⊥ p b (errors.OidUnknown o) none h
latest_fails_free p b errors.Overlength none h = absurd h
latest_fails_free p b errors.NoRoom none h = absurd h
latest_fails_free p b errors.File none h = absurd h
latest_fails_free p b errors.Memory none h = absurd h

-- ---- a part by itself

pub alone : {A : Type 0} (R : List ℕ → A → Type 0) (p : Front A) → Exact R p → (b rest : List ℕ) (v : A) → p b ≡ Ok (v, rest) → p (take (length b - length rest) b) ≡ Ok (v, [])
alone R p exact b rest v e =
    let f = exact.found b v rest e in
    let size : length b - length rest ≡ length f.text = omega (arith, ap length f.is, length-append f.text rest) in
    let front : take (length b - length rest) b ≡ f.text ++ [] =
    ap (λ (n : ℕ). take n b) size ∙ ap (take (length f.text)) f.is ∙ take-append_seam f.text rest ∙ sym (append-nil f.text) in
    rw front (exact.again f.text v [] f.holds f.short)
