-- From the refusal of a part to that of a whole.
use Rattle.std.proofs.Common.{◌≡◌, ℕ, ◌+◌, ◌<◌, ◌≤◌, List, [], ◌∷◌, ◌++◌, length, map, take, drop, get_or, Ok, Err, None, refl, sym, ap, subst, ◌∙◌, arith, append_assoc, append-nil, length-append}
use Rattle.std.specs.Prelude.{Result, All, MatchResult}
use Rattle.std.specs.List.{sum_by}
use Rattle.std.proofs.lemmas.List.{drop_more, map-id}
use Rattle.std.proofs.lemmas.List.Elements.{All-cons}
use Rattle.std.proofs.lemmas.List.Sums.{sum_by-cons}
use Rattle.std.proofs.lemmas.List.Sorted.{sum_by-IsPermutation}
use Rattle.asn1_core.specs.Der.{IsElement, IsShort, el, oid, seq, joined}
use Rattle.asn1_core.specs.Oid.{oid_octets}
use Rattle.asn1_core.specs.Reading.{is_ended, raw_at}
use Rattle.asn1_core.specs.Gives.{Fails, Gives}
use Rattle.asn1_core.specs.ExactLaws.{ended_ok, ok_is}
use Rattle.asn1_core.specs.ElementLaws.{raw-exact}
use Rattle.asn1_core.specs.Sets.{in_order}
use Rattle.asn1_core.specs.WritingLaws.{el_size}
use Rattle.asn1_core.proofs.JoinLaws.{joined_parts}
use Rattle.asn1_core.proofs.SetLaws.{in_order-permutes}
use Rattle.p12.specs.Canonical.{set_of}
use Rattle.asn1_core.specs.Writing.{Cause, IsOverlong}
use Rattle.asn1_core.specs.declared.error.Error.{Error}
use Rattle.asn1_core.specs.declared.error.Error.TheVariants.{Malformed, OidUnknown, Overlength, NoRoom, File, Memory}
use Rattle.p12.specs.declared.attribute.OtherAttribute.{OtherAttribute}
use Rattle.p12.specs.Writing.{RefusesText, MakesText}

-- a part of a text is refused, and so the whole
pub part_refused : (can more : Type 0) (part whole : List ℕ) → (more → can) → length part ≤ length whole → (e : Error) → RefusesText can part e → RefusesText more whole e
part_refused can more part whole f h Malformed c = λ m. c (f m)
part_refused can more part whole f h (OidUnknown o) c = c
part_refused can more part whole f h Overlength c = omega (arith, c, h)
part_refused can more part whole f h NoRoom c = c
part_refused can more part whole f h File c = c
part_refused can more part whole f h Memory c = c

-- a writer into memory refuses
pub memory_refused : (bad can : Type 0) (text : List ℕ) → (bad → ¬ can) → (e : Error) → Cause bad (IsOverlong (length text)) (Unit {0}) None (length text) 0 0 e → RefusesText can text e
memory_refused bad can text f Malformed c = f c
memory_refused bad can text f (OidUnknown o) c = c
memory_refused bad can text f Overlength c = c
memory_refused bad can text f NoRoom c = c
memory_refused bad can text f File c = c
memory_refused bad can text f Memory c = c

-- the same text, by another word for what can be written
pub made_as : (can more : Type 0) (text : List ℕ) → (can → more) → (more → can) → (r : Result (List ℕ) Error) → MakesText can text r → MakesText more text r
made_as can more text f g (Ok t) h = (h.0, h.1, f h.2)
made_as can more text f g (Err e) h = part_refused can more text text g (omega arith) e h

-- a value is no longer than its element
pub inside_refused : (can : Type 0) (tag : ℕ) (v : List ℕ) (e : Error) → RefusesText can v e → RefusesText can (el tag v) e
inside_refused can tag v e c = part_refused can can v (el tag v) (λ h. h) (omega (arith, el_size tag v)) e c

-- ---- a set is as long as its elements, in whatever order

joined_length : (ts : List (List ℕ)) → length (joined ts) ≡ sum_by length ts
joined_length [] = refl
joined_length (t ∷ ts) = omega (arith, length-append t (joined ts), joined_length ts, sum_by-cons length t ts)

order_length : (ts : List (List ℕ)) → length (joined (in_order ts)) ≡ length (joined ts)
order_length ts = joined_length (in_order ts) ∙ sum_by-IsPermutation length ts (in_order ts) (in_order-permutes ts) ∙ sym (joined_length ts)

pub set_refused : (can : Type 0) (ts : List (List ℕ)) (e : Error) → RefusesText can (joined ts) e → RefusesText can (set_of ts) e
set_refused can ts e c = part_refused can can (joined ts) (set_of ts) (λ h. h) (omega (arith, order_length ts, el_size 0x31 (joined (in_order ts)))) e c

-- ---- a list of rows, at the place i

module _ {A : Type 0} (canon : A → List ℕ) (can : A → Type 0) (rows : List A) (i : ℕ) (x : A) (lt : i < length rows) (at : x ≡ get_or rows i x) where
  rest_is : drop i rows ≡ x ∷ drop (i + 1) rows
  rest_is = drop_more rows i x lt ∙ ap (λ (y : A). y ∷ drop (i + 1) rows) (sym at)

  pub each_more : (all : List ℕ) → joined (map canon rows) ≡ all ++ joined (map canon (drop i rows)) → joined (map canon rows) ≡ (all ++ canon x) ++ joined (map canon (drop (i + 1) rows))
  each_more all e = e ∙ ap (λ (l : List A). all ++ joined (map canon l)) rest_is ∙ sym (append_assoc all (canon x) (joined (map canon (drop (i + 1) rows))))

  pub list_more : (all : List (List ℕ)) → map canon rows ≡ all ++ map canon (drop i rows) → map canon rows ≡ (all ++ canon x ∷ []) ++ map canon (drop (i + 1) rows)
  list_more all e = e ∙ ap (λ (l : List A). all ++ map canon l) rest_is ∙ sym (append_assoc all (canon x ∷ []) (map canon (drop (i + 1) rows)))

  pub can_more : can x → (All can (drop i rows) → All can rows) → All can (drop (i + 1) rows) → All can rows
  can_more c f a = f (subst (λ (l : List A). All can l) (sym rest_is) (All-cons can x (drop (i + 1) rows) c a))

  can_one : All can rows → can x
  can_one a = subst can (sym at) (a i x lt)

  pub row_refused : (all : List ℕ) → joined (map canon rows) ≡ all ++ joined (map canon (drop i rows)) → (e : Error) → RefusesText (can x) (canon x) e → RefusesText (All can rows) (joined (map canon rows)) e
  row_refused all is e c =
      let more = each_more all is in
      part_refused (can x) (All can rows) (canon x) (joined (map canon rows)) can_one
      (omega (arith, ap length more, length-append (all ++ canon x) (joined (map canon (drop (i + 1) rows))), length-append all (canon x))) e c

  pub join_refused : (all t : List ℕ) → joined (map canon rows) ≡ all ++ joined (map canon (drop i rows)) → t ≡ canon x → (e : Error) → RefusesText (Unit {0}) (all ++ t) e → RefusesText (All can rows) (joined (map canon rows)) e
  join_refused all t is of e c =
      let more = each_more all is in
      part_refused (Unit {0}) (All can rows) (all ++ t) (joined (map canon rows)) (λ a. tt)
      (omega (arith, ap length more, ap length of, length-append (all ++ canon x) (joined (map canon (drop (i + 1) rows))), length-append all (canon x), length-append all t)) e c

-- a row in a list, where what is before it is not told
module _ {A : Type 0} (canon : A → List ℕ) (can : A → Type 0) (rows : List A) (i : ℕ) (x : A) (lt : i < length rows) (at : x ≡ get_or rows i x) where
  listed_size : length (canon x) ≤ length (joined (map canon rows))
  listed_size =
      let before = joined (map canon (take i rows)) in
      let behind = joined (map canon (drop (i + 1) rows)) in
      let e = joined_parts canon rows i x lt in
      let s : length (canon x) ≡ length (canon (get_or rows i x)) = ap (λ (y : A). length (canon y)) at in
      omega (arith, s, ap length e, length-append before (canon (get_or rows i x) ++ behind), length-append (canon (get_or rows i x)) behind)

  pub listed_refused : (e : Error) → RefusesText (can x) (canon x) e → RefusesText (All can rows) (joined (map canon rows)) e
  listed_refused e c = part_refused (can x) (All can rows) (canon x) (joined (map canon rows)) (λ a. subst can (sym at) (a i x lt)) listed_size e c

-- ---- one whole element

raw_again : (b : List ℕ) → IsElement b × IsShort b → raw_at b ≡ Ok (b, [])
raw_again b h = ap raw_at (sym (append-nil b)) ∙ raw-exact.again b b [] (refl, h.0) h.1

pub no_element : (b : List ℕ) (e : Error) → Fails ⊥ e (raw_at b) → ¬ (IsElement b × IsShort b)
no_element b Malformed f h = let x = sym (raw_again b h) ∙ f in absurd cc
no_element b (OidUnknown o) f h = let x = sym (raw_again b h) ∙ f in absurd cc
no_element b Overlength f h = absurd f
no_element b NoRoom f h = absurd f
no_element b File f h = absurd f
no_element b Memory f h = absurd f

not_ended : (rest : List ℕ) (e : Error) → Fails ⊥ e (is_ended rest) → (e ≡ Malformed) × (rest ≡ [] → ⊥)
not_ended [] Malformed f = absurd cc
not_ended (b ∷ bs) Malformed f = (refl, λ k. absurd cc)
not_ended [] (OidUnknown o) f = absurd cc
not_ended (b ∷ bs) (OidUnknown o) f = absurd cc
not_ended rest Overlength f = absurd f
not_ended rest NoRoom f = absurd f
not_ended rest File f = absurd f
not_ended rest Memory f = absurd f

pub whole_element : (b s rest : List ℕ) → raw_at b ≡ Ok (s, rest) → (r : Result (Unit {0}) Error) → Gives (λ (u : Unit {0}). u) r (is_ended rest)
    → MatchResult r (λ u. IsElement b × IsShort b) (λ e. (e ≡ Malformed) × (¬ (IsElement b × IsShort b)))
whole_element b s rest is (Ok u) g =
    let y = ended_ok tt u rest g in
    let f = raw-exact.found b s rest is in
    let all : b ≡ f.text = f.is ∙ ap (λ (l : List ℕ). f.text ++ l) y.0 ∙ append-nil f.text in
    (subst IsElement (sym all) f.holds.1, subst IsShort (sym all) f.short)
whole_element b s rest is (Err e) g =
    let n = not_ended rest e g in
    (n.0, λ h. n.1 (ap (λ (p : List ℕ × List ℕ). p.1) (ok_is (s, rest) (b, []) (sym is ∙ raw_again b h))))

-- ---- an attribute of another kind: its elements are written as they are

pub other_made : (o : OtherAttribute) (vs : List (List ℕ)) → vs ≡ o.values → (r : Result (List ℕ) Error)
    → MakesText (Unit {0} × All IsElement vs) (seq (oid (oid_octets o.oid) ++ set_of (map (λ (t : List ℕ). t) vs))) r
    → MakesText (All IsElement o.values) (seq (oid (oid_octets o.oid) ++ set_of o.values)) r
other_made o vs e r m =
    subst (λ (ts : List (List ℕ)). MakesText (All IsElement o.values) (seq (oid (oid_octets o.oid) ++ set_of ts)) r) (map-id vs ∙ e)
    (made_as (Unit {0} × All IsElement vs) (All IsElement o.values) (seq (oid (oid_octets o.oid) ++ set_of (map (λ (t : List ℕ). t) vs)))
    (λ h. subst (λ (l : List (List ℕ)). All IsElement l) e h.1) (λ h. (tt, subst (λ (l : List (List ℕ)). All IsElement l) (sym e) h)) r m)
