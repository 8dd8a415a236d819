-- Units that pass are those of a text.
use Rattle.std.proofs.Common.{◌≡◌, ℕ, suc, ◌+◌, ◌*◌, Bool, true, false, List, [], ◌∷◌, Result, Ok, Err, refl, sym, ap, subst, ◌∙◌, arith, inl, inr}
use Rattle.std.specs.Prelude.{◌&&◌, not, nat_le, nat_lt}
use Rattle.std.proofs.lemmas.Bool.Decides.{leb_tells}
use Rattle.std.proofs.lemmas.Bool.{le-leb, lt-leb}
use Rattle.std.specs.Str.{encode_utf8_all}
use Rattle.std.specs.Char.Utf16.{is_low_surrogate, is_high_surrogate, utf16_chars, utf16_lossy_chars, has_unpaired_surrogate}
use Rattle.asn1_core.specs.Reading.{Fault, Bad, ◌>>=◌, where_ok}
use Rattle.asn1_core.specs.Unicode.{units_in, units_text}
use Rattle.p12.specs.Units.{agrees, units_pass}

-- the same of units
abbrev pass : Bool → List ℕ → Bool
pass h [] = not h
pass h (u ∷ us) = agrees h (is_low_surrogate u) && pass (is_high_surrogate u) us

data Kind (u : ℕ) : Type 0 where
  alone : is_high_surrogate u ≡ false → is_low_surrogate u ≡ false → (nat_le 0xD800 u && nat_lt u 0xE000) ≡ false → Kind u
  high : is_high_surrogate u ≡ true → is_low_surrogate u ≡ false → (nat_le 0xD800 u && nat_lt u 0xE000) ≡ true → Kind u
  low : is_high_surrogate u ≡ false → is_low_surrogate u ≡ true → (nat_le 0xD800 u && nat_lt u 0xE000) ≡ true → Kind u

kind_of : (u : ℕ) → Kind u
kind_of u = elim (leb_tells 0xD800 u) [
  | inr l ↦ alone (rw l.0 refl) (rw (lt-leb 0xDC00 u (omega (arith, l.1))) refl) (rw l.0 refl)
  | inl g ↦ elim (leb_tells (suc u) 0xDC00) [
    | inl h ↦ high (rw (g.0, h.0) refl) (rw (lt-leb 0xDC00 u (omega (arith, h.1))) refl) (rw (g.0, le-leb (suc u) 0xE000 (omega (arith, h.1))) refl)
    | inr h ↦ elim (leb_tells (suc u) 0xE000) [
      | inl k ↦ low (rw (g.0, h.0) refl) (rw (le-leb 0xDC00 u (omega (arith, h.1)), k.0) refl) (rw (g.0, k.0) refl)
      | inr k ↦ alone (rw (g.0, h.0) refl) (rw (le-leb 0xDC00 u (omega (arith, h.1)), k.0) refl) (rw (g.0, k.0) refl)
    ]
  ]
]

abbrev Surrogate : ℕ → Type 0
Surrogate u = (nat_le 0xD800 u && nat_lt u 0xE000) ≡ true

abbrev After : List ℕ → Type 0
After us = (u : ℕ) → is_high_surrogate u ≡ true → Surrogate u → has_unpaired_surrogate (u ∷ us) ≡ not (pass true us)

abbrev Both : List ℕ → Type 0
Both us = (has_unpaired_surrogate us ≡ not (pass false us)) × After us

first_by : (v : ℕ) (vs : List ℕ) → Kind v → Both vs → has_unpaired_surrogate (v ∷ vs) ≡ not (pass false (v ∷ vs))
unfolding utf16_chars
first_by v vs (high h l t) p = rw (l, h) (p.1 v h t)
first_by v [] (low h l t) p = rw (l, t) refl
first_by v (w ∷ ws) (low h l t) p = rw (h, l, t) refl
first_by v [] (alone h l t) p = rw (h, l, t) refl
first_by v (w ∷ ws) (alone h l t) p = rw (h, l, t) p.0

next_by : (v : ℕ) (vs : List ℕ) → Kind v → Both vs → After (v ∷ vs)
unfolding utf16_chars
next_by v vs (low i l s) p = λ u h t. rw (h, l, i) p.0
next_by v vs (high i l s) p = λ u h t. rw (h, l, t) refl
next_by v vs (alone i l s) p = λ u h t. rw (h, l, t) refl

both : (us : List ℕ) → Both us
unfolding utf16_chars
both [] = (refl, λ u h t. rw t refl)
both (v ∷ vs) = (first_by v vs (kind_of v) (both vs), next_by v vs (kind_of v) (both vs))

-- ---- octets

abbrev Linked : Bool → List ℕ → Result (List ℕ) Fault → Type 0
Linked h b (Ok us) = units_pass h b ≡ pass h us
Linked h b (Err f) = (units_pass h b ≡ false) × (f ≡ Bad)

and_false : (t : Bool) → (t && false) ≡ false
and_false true = refl
and_false false = refl

one_more : (h : Bool) (a c : ℕ) (bs : List ℕ) (r : Result (List ℕ) Fault) → ((k : Bool) → Linked k bs r) → Linked h (a ∷ c ∷ bs) (r >>= λ us. Ok ((256 * a + c) ∷ us))
unfolding units_pass
one_more h a c bs (Ok us) l = ap (λ (t : Bool). agrees h (is_low_surrogate (256 * a + c)) && t) (l (is_high_surrogate (256 * a + c)))
one_more h a c bs (Err f) l = let k = l (is_high_surrogate (256 * a + c)) in (ap (λ (t : Bool). agrees h (is_low_surrogate (256 * a + c)) && t) k.0 ∙ and_false (agrees h (is_low_surrogate (256 * a + c))), k.1)

linked : (b : List ℕ) (h : Bool) → Linked h b (units_in b)
unfolding units_in units_pass
linked [] h = refl
linked (a ∷ []) h = (refl, refl)
linked (a ∷ c ∷ bs) h = one_more h a c bs (units_in bs) (λ k. linked bs k)

abbrev text_of : Result (List ℕ) Fault → Result (List ℕ) Fault
text_of r = r >>= λ us. where_ok (not (has_unpaired_surrogate us)) (encode_utf8_all (utf16_lossy_chars us))

abbrev ToldOf : Bool → Result (List ℕ) Fault → Type 0
ToldOf true r = (t : List ℕ) × (text_of r ≡ Ok t)
ToldOf false r = text_of r ≡ Err Bad

told_by : (p : Bool) (us : List ℕ) → has_unpaired_surrogate us ≡ not p → ToldOf p (Ok us)
told_by true us e = (encode_utf8_all (utf16_lossy_chars us), rw e refl)
told_by false us e = rw e refl

told_of : (b : List ℕ) (r : Result (List ℕ) Fault) → Linked false b r → ToldOf (units_pass false b) r
told_of b (Ok us) l = subst (λ (p : Bool). ToldOf p (Ok us)) (sym l) (told_by (pass false us) us (both us).0)
told_of b (Err f) l = subst (λ (p : Bool). ToldOf p (Err f)) (sym l.0) (ap (λ (g : Fault). Err g) l.1)

pub units_pass_text : (b : List ℕ) → units_pass false b ≡ true → (t : List ℕ) × (units_text b ≡ Ok t)
units_pass_text b e = subst (λ (p : Bool). ToldOf p (units_in b)) e (told_of b (units_in b) (linked b false))

pub units_fail : (b : List ℕ) → units_pass false b ≡ false → units_text b ≡ Err Bad
units_fail b e = subst (λ (p : Bool). ToldOf p (units_in b)) e (told_of b (units_in b) (linked b false))

pub units_more : (octets rest behind after : List ℕ) (h k : Bool) (a b : ℕ) → units_pass false octets ≡ units_pass h rest → rest ≡ a ∷ behind → behind ≡ b ∷ after → agrees h (is_low_surrogate (256 * a + b)) ≡ true → k ≡ is_high_surrogate (256 * a + b)
    → units_pass false octets ≡ units_pass k after
unfolding units_pass
units_more octets rest behind after h k a b e r s t is =
    let all : rest ≡ a ∷ b ∷ after = r ∙ ap (λ (x : List ℕ). a ∷ x) s in
    e ∙ ap (units_pass h) all ∙ ap (λ (x : Bool). x && units_pass (is_high_surrogate (256 * a + b)) after) t ∙ ap (λ (x : Bool). units_pass x after) (sym is)
