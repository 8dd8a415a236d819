-- Reading texts of characters is exact.
use Rattle.std.proofs.Common.{◌≡◌, ℕ, ◌+◌, ◌*◌, ◌-◌, ◌<◌, ◌≤◌, ◌/◌, ◌%◌, Bool, true, false, List, [], ◌∷◌, ◌++◌, map, Option, Some, None, Ok, refl, sym, ap, subst, ◌∙◌, inl, inr, ◌⊎◌, IsTrue, arith, nat_lt, not, ◌&&◌, ◌||◌}
use Rattle.std.proofs.lemmas.Bool.{cases_lt, lt-ltb, ltb-true, le-ltb, le-leb, lt-leb}
use Rattle.std.proofs.Math.Utf8.{encode, scalar, scalar_cases}
use Rattle.std.specs.Str.{encode_utf8_all, all_scalars, IsUtf8}
use Rattle.std.specs.Char.Escape.{encode_utf16}
use Rattle.std.specs.Char.Utf16.{utf16_chars, utf16_lossy_chars, has_unpaired_surrogate, lone_unit_char, surrogate_pair_char}
use Rattle.std.specs.List.{flat_map, list_any}
use Rattle.std.specs.Option.{is_some, unwrap_or}
use Rattle.std.proofs.lemmas.Str.{utf16_chars-nil, utf16_chars_lone, utf16_chars_pair}
use Rattle.asn1_core.specs.Reading.{◌>>=◌, where_ok, are_octets}
use Rattle.asn1_core.specs.Texts.{Exact, ExactAll}
use Rattle.asn1_core.specs.OctetLaws.{IsOctets, is_octets, octet}
use Rattle.asn1_core.specs.ExactLaws.{bind_ok, ok_is, where_holds, where_true}
use Rattle.asn1_core.specs.Unicode.{Bmp, Ia5, Units, Ascii, bmp_at, ia5_at, unit_octets, units_in, units_all, ascii_all, is_ascii_text}
use Rattle.asn1_core.specs.FieldLaws.{inside}

ascii-exact : ExactAll Ascii ascii_all
ascii-exact = record {
  found = λ b v e. let w = where_holds (is_ascii_text b) b v e in (w.1, subst (λ (t : List ℕ). IsTrue (is_ascii_text t)) w.1 w.0);
  again = λ b v r short. rw (r.0) (where_true (is_ascii_text v) v r.1);
}

pub ia5-exact : Exact Ia5 ia5_at
unfolding ia5_at
ia5-exact = inside 0x16 refl ascii-exact

-- ---- units and octets

-- each is a unit of 16 bits
abbrev AreUnits : List ℕ → Type 0
AreUnits [] = Unit {0}
AreUnits (u ∷ us) = (u < 0x1_0000) × AreUnits us

units_found : (b us : List ℕ) → IsOctets b → units_in b ≡ Ok us → (b ≡ unit_octets us) × AreUnits us
unfolding units_in unit_octets
units_found [] us octets e = subst (λ (x : List ℕ). ([] ≡ unit_octets x) × AreUnits x) (ok_is [] us e) (refl, tt)
units_found (x ∷ []) us octets e = absurd cc
units_found (x ∷ y ∷ bs) us octets e =
    let r = bind_ok (units_in bs) (λ us. Ok ((256 * x + y) ∷ us)) us e in
    let f = units_found bs r.0 octets.1.1 r.1 in
    let high : (256 * x + y) / 256 ≡ x = omega (arith, octets.1.0) in
    let low : (256 * x + y) % 256 ≡ y = omega (arith, octets.1.0) in
    let is : x ∷ y ∷ bs ≡ unit_octets ((256 * x + y) ∷ r.0) = rw (high, low) (ap (λ (l : List ℕ). x ∷ y ∷ l) f.0) in
    let fits : 256 * x + y < 0x1_0000 = omega (arith, octets.0, octets.1.0) in
    subst (λ (l : List ℕ). (x ∷ y ∷ bs ≡ unit_octets l) × AreUnits l) (ok_is ((256 * x + y) ∷ r.0) us r.2) (is, (fits, f.1))

units_again : (us : List ℕ) → units_in (unit_octets us) ≡ Ok us
unfolding units_in unit_octets
units_again [] = refl
units_again (u ∷ us) = let is : 256 * (u / 256) + u % 256 ≡ u = omega arith in rw (units_again us, is) refl

-- ---- units and characters

-- the units us spell the characters cs
abbrev Spells : List ℕ → List ℕ → Type 0
Spells us cs = (all_scalars cs ≡ true) × (us ≡ flat_map encode_utf16 cs)

both : (a b : Bool) → (a && b) ≡ true → (a ≡ true) × (b ≡ true)
both true b e = (refl, e)
both false b e = absurd cc

or_none : (a b : Bool) → (a || b) ≡ false → (a ≡ false) × (b ≡ false)
or_none true b e = absurd cc
or_none false b e = (refl, e)

lone_spells : (u : ℕ) (us cs : List ℕ) → u < 0x1_0000 → (u < 0xD800) ⊎ (0xE000 ≤ u) → Spells us cs → Spells (u ∷ us) (u ∷ cs)
lone_spells u us cs fits (inl low) (s, e) = (rw (lt-ltb u 0xD800 low) s, rw (lt-ltb u 0x1_0000 fits) (ap (λ (l : List ℕ). u ∷ l) e))
lone_spells u us cs fits (inr high) (s, e) = (rw (le-ltb u 0xD800 (omega arith), le-leb 0xE000 u high, lt-ltb u 0x11_0000 (omega arith)) s, rw (lt-ltb u 0x1_0000 fits) (ap (λ (l : List ℕ). u ∷ l) e))

abbrev Pair : ℕ → ℕ → Type 0
Pair u v = (0xD800 ≤ u) × (u < 0xDC00) × (0xDC00 ≤ v) × (v < 0xE000)

pair_spells : (u v : ℕ) (us cs : List ℕ) → Pair u v → Spells us cs → Spells (u ∷ v ∷ us) (surrogate_pair_char u v ∷ cs)
pair_spells u v us cs pair (s, e) =
    let c = surrogate_pair_char u v in
    let high : 0xD800 + (c - 0x1_0000) / 0x400 ≡ u = omega (arith, pair.0, pair.1, pair.2, pair.3) in
    let low : 0xDC00 + (c - 0x1_0000) % 0x400 ≡ v = omega (arith, pair.0, pair.1, pair.2, pair.3) in
    let from : 0x1_0000 ≤ c = omega arith in
    let below : c < 0x11_0000 = omega (arith, pair.0, pair.1, pair.2, pair.3) in
    (rw (le-ltb c 0xD800 (omega arith), le-leb 0xE000 c (omega arith), lt-ltb c 0x11_0000 below) s, rw (le-ltb c 0x1_0000 from, high, low) (ap (λ (l : List ℕ). u ∷ v ∷ l) e))

abbrev unpaired : Option ℕ → Bool
unpaired o = not (is_some o)

abbrev kept : Option ℕ → ℕ
kept o = unwrap_or o 0xFFFD

lone_low : (u : ℕ) → u < 0xD800 → lone_unit_char u ≡ Some u
lone_low u below = rw (lt-leb 0xD800 u below) refl

lone_high : (u : ℕ) → 0xE000 ≤ u → lone_unit_char u ≡ Some u
lone_high u from = rw (le-leb 0xD800 u (omega arith), le-ltb u 0xE000 from) refl

lone_none : (u : ℕ) → 0xD800 ≤ u → u < 0xE000 → lone_unit_char u ≡ None
lone_none u from below = rw (le-leb 0xD800 u from, lt-ltb u 0xE000 below) refl

lone_of : (u : ℕ) → unpaired (lone_unit_char u) ≡ false → ((u < 0xD800) ⊎ (0xE000 ≤ u)) × (lone_unit_char u ≡ Some u)
lone_of u e = elim (cases_lt u 0xD800) [
  | inl low ↦ (inl low, lone_low u low)
  | inr from ↦ elim (cases_lt u 0xE000) [
    | inl below ↦ let none = ap unpaired (lone_none u from below) in absurd cc
    | inr high ↦ (inr high, lone_high u high)
  ]
]

Spelt : List ℕ → Type 0
Spelt us = list_any unpaired (utf16_chars us) ≡ false → Spells us (map kept (utf16_chars us))

lone_step : (u : ℕ) (us : List ℕ) → u < 0x1_0000 → utf16_chars (u ∷ us) ≡ lone_unit_char u ∷ utf16_chars us → Spelt us → Spelt (u ∷ us)
unfolding Spelt
lone_step u us fits is rest none =
    let n = or_none (unpaired (lone_unit_char u)) (list_any unpaired (utf16_chars us)) (ap (list_any unpaired) (sym is) ∙ none) in
    let l = lone_of u n.0 in
    let cs = map kept (utf16_chars us) in
    let same : map kept (utf16_chars (u ∷ us)) ≡ u ∷ cs = ap (map kept) is ∙ ap (λ (o : Option ℕ). kept o ∷ cs) l.1 in
    subst (Spells (u ∷ us)) (sym same) (lone_spells u us cs fits l.0 (rest n.1))

pair_step : (u v : ℕ) (us : List ℕ) → Pair u v → Spelt us → Spelt (u ∷ v ∷ us)
unfolding Spelt
pair_step u v us pair rest none =
    let is = utf16_chars_pair u v us pair in
    let cs = map kept (utf16_chars us) in
    let n : list_any unpaired (utf16_chars us) ≡ false = ap (list_any unpaired) (sym is) ∙ none in
    subst (Spells (u ∷ v ∷ us)) (sym (ap (map kept) is)) (pair_spells u v us cs pair (rest n))

pair_or_not : (u v : ℕ) → Pair u v ⊎ (Pair u v → ⊥)
pair_or_not u v = elim (cases_lt u 0xD800) [
  | inl a ↦ inr (λ p. omega (arith, p.0, a))
  | inr a ↦ elim (cases_lt u 0xDC00) [
    | inr b ↦ inr (λ p. omega (arith, p.1, b))
    | inl b ↦ elim (cases_lt v 0xDC00) [
      | inl c ↦ inr (λ p. omega (arith, p.2, c))
      | inr c ↦ elim (cases_lt v 0xE000) [
        | inr d ↦ inr (λ p. omega (arith, p.3, d))
        | inl d ↦ inl (a, b, c, d)
      ]
    ]
  ]
]

spelt : (us : List ℕ) → AreUnits us → Spelt us
unfolding Spelt
spelt [] fits none = rw utf16_chars-nil (refl, refl)
spelt (u ∷ []) fits none = lone_step u [] fits.0 (utf16_chars_lone u [] (λ p. omega (arith, p.2))) (spelt [] tt) none
spelt (u ∷ v ∷ us) fits none = elim (pair_or_not u v) [
  | inl p ↦ pair_step u v us p (spelt us fits.1.1) none
  | inr p ↦ lone_step u (v ∷ us) fits.0 (utf16_chars_lone u (v ∷ us) p) (spelt (v ∷ us) fits.1) none
]

-- the units of characters are read as these characters
chars_again : (cs : List ℕ) → all_scalars cs ≡ true → utf16_chars (flat_map encode_utf16 cs) ≡ map (λ (c : ℕ). Some c) cs
chars_again [] h = utf16_chars-nil
chars_again (c ∷ cs) h =
    let b = both (scalar c) (all_scalars cs) h in
    let us = flat_map encode_utf16 cs in
    let rest = chars_again cs b.1 in
    let tail : lone_unit_char c ∷ utf16_chars us ≡ lone_unit_char c ∷ map (λ (c : ℕ). Some c) cs = ap (λ (l : List (Option ℕ)). lone_unit_char c ∷ l) rest in
    elim (scalar_cases c b.0) [
      | inl low ↦ rw (lt-ltb c 0x1_0000 (omega arith)) (utf16_chars_lone c us (λ p. omega (arith, p.0)) ∙ tail ∙ ap (λ (o : Option ℕ). o ∷ map (λ (c : ℕ). Some c) cs) (lone_low c low))
      | inr high ↦ elim (cases_lt c 0x1_0000) [
        | inl small ↦ rw (lt-ltb c 0x1_0000 small) (utf16_chars_lone c us (λ p. omega (arith, p.1, high.0)) ∙ tail ∙ ap (λ (o : Option ℕ). o ∷ map (λ (c : ℕ). Some c) cs) (lone_high c high.0))
        | inr large ↦
            let u = 0xD800 + (c - 0x1_0000) / 0x400 in
            let v = 0xDC00 + (c - 0x1_0000) % 0x400 in
            let pair : Pair u v = (omega arith, omega (arith, high.1), omega arith, omega arith) in
            let is : surrogate_pair_char u v ≡ c = omega (arith, large) in
            rw (le-ltb c 0x1_0000 large) (utf16_chars_pair u v us pair ∙ ap (λ (d : ℕ). Some d ∷ utf16_chars us) is ∙ ap (λ (l : List (Option ℕ)). Some c ∷ l) rest)
      ]
    ]

all_paired : (cs : List ℕ) → list_any unpaired (map (λ (c : ℕ). Some c) cs) ≡ false
all_paired [] = refl
all_paired (c ∷ cs) = all_paired cs

all_kept : (cs : List ℕ) → map kept (map (λ (c : ℕ). Some c) cs) ≡ cs
all_kept [] = refl
all_kept (c ∷ cs) = ap (λ (l : List ℕ). c ∷ l) (all_kept cs)

not_true : (b : Bool) → not b ≡ true → b ≡ false
not_true true e = absurd cc
not_true false e = refl

-- the octets of units are octets
units_are : (us : List ℕ) → AreUnits us → IsTrue (are_octets (unit_octets us))
unfolding unit_octets
units_are [] h = refl
units_are (u ∷ us) h = octet (u / 256) (u % 256 ∷ unit_octets us) (omega (arith, h.0)) (octet (u % 256) (unit_octets us) (omega arith) (units_are us h.1))

encoded_units : (c : ℕ) (us : List ℕ) → IsTrue (scalar c) → AreUnits us → AreUnits (encode_utf16 c ++ us)
encoded_units c us s h = elim (cases_lt c 0x1_0000) [
  | inl small ↦ rw (lt-ltb c 0x1_0000 small) (small, h)
  | inr large ↦ elim (scalar_cases c s) [
    | inl low ↦ absurd (omega (arith, low, large))
    | inr high ↦ rw (le-ltb c 0x1_0000 large) (omega (arith, high.1), (omega arith, h))
  ]
]

all_units : (cs : List ℕ) → all_scalars cs ≡ true → AreUnits (flat_map encode_utf16 cs)
all_units [] h = tt
all_units (c ∷ cs) h = let b = both (scalar c) (all_scalars cs) h in encoded_units c (flat_map encode_utf16 cs) b.0 (all_units cs b.1)

units-exact : ExactAll Units units_all
unfolding Spelt
units-exact = record {
  found = λ b t e.
      let o = bind_ok (where_ok (are_octets b) b) (λ b. units_in b >>= λ us. where_ok (not (has_unpaired_surrogate us)) (encode_utf8_all (utf16_lossy_chars us))) t e in
      let p = where_holds (are_octets b) b o.0 o.1 in
      let q : (units_in b >>= λ us. where_ok (not (has_unpaired_surrogate us)) (encode_utf8_all (utf16_lossy_chars us))) ≡ Ok t = subst (λ (c : List ℕ). (units_in c >>= λ us. where_ok (not (has_unpaired_surrogate us)) (encode_utf8_all (utf16_lossy_chars us))) ≡ Ok t) (sym p.1) o.2 in
      let x = bind_ok (units_in b) (λ us. where_ok (not (has_unpaired_surrogate us)) (encode_utf8_all (utf16_lossy_chars us))) t q in
      let w = where_holds (not (has_unpaired_surrogate x.0)) (encode_utf8_all (utf16_lossy_chars x.0)) t x.2 in
      let f = units_found b x.0 (is_octets b p.0) x.1 in
      let s = spelt x.0 f.1 (not_true (has_unpaired_surrogate x.0) w.0) in
      (utf16_lossy_chars x.0, s.0, w.1, f.0 ∙ ap unit_octets s.1);
  again = λ b t r short.
      let us = flat_map encode_utf16 r.0 in
      let c = chars_again r.0 r.1 in
      let none : has_unpaired_surrogate us ≡ false = ap (list_any unpaired) c ∙ all_paired r.0 in
      let same : encode_utf8_all (utf16_lossy_chars us) ≡ t = ap (λ (l : List ℕ). encode_utf8_all l) (ap (map kept) c ∙ all_kept r.0) ∙ r.2 in
      rw (r.3, units_are us (all_units r.0 r.1), units_again us, same) (where_true (not (has_unpaired_surrogate us)) t (ap not none));
}

pub bmp-exact : Exact Bmp bmp_at
unfolding bmp_at
bmp-exact = inside 0x1e refl units-exact

ascii_is : (bs : List ℕ) → IsTrue (is_ascii_text bs) → (all_scalars bs ≡ true) × (encode_utf8_all bs ≡ bs)
unfolding encode
ascii_is [] h = (refl, refl)
ascii_is (c ∷ cs) h =
    let b = both (nat_lt c 128) (is_ascii_text cs) h in
    let r = ascii_is cs b.1 in
    let low : c < 0xD800 = omega (arith, ltb-true c 128 b.0) in
    (rw (lt-ltb c 0xD800 low) r.0, rw b.0 (ap (λ (l : List ℕ). c ∷ l) r.1))

pub ascii_utf8 : (bs : List ℕ) → IsTrue (is_ascii_text bs) → IsUtf8 bs
ascii_utf8 bs h = let r = ascii_is bs h in (bs, (r.0, r.1))

pub ascii_read : (b t : List ℕ) → IsTrue (is_ascii_text b) → (IsUtf8 b → t ≡ b) → ascii_all b ≡ Ok t
ascii_read b t ok h = rw (h (ascii_utf8 b ok)) (where_true (is_ascii_text b) b ok)
