-- White space at the end of a line
use Rattle.std.proofs.Common.{◌≡◌, ◌++◌, ◌∷◌, [], ℕ, refl, ◌∙◌, sym, ap, List, true, false}
use Rattle.std.specs.Prelude.{reverse}
use Rattle.std.proofs.lemmas.List.{reverse-append, reverse-reverse}
use Rattle.pem_text.specs.Reading.{is_blank, skip_blanks, without_end_blanks}

turned : (line front : List ℕ) (c : ℕ) → line ≡ front ++ c ∷ [] → reverse line ≡ c ∷ reverse front
turned line front c e = ap reverse e ∙ reverse-append front (c ∷ [])

skip_one : (c : ℕ) (cs : List ℕ) → is_blank c ≡ true → skip_blanks (c ∷ cs) ≡ skip_blanks cs
unfolding skip_blanks
skip_one c cs h = rw h refl

pub keep_one : (c : ℕ) (cs : List ℕ) → is_blank c ≡ false → skip_blanks (c ∷ cs) ≡ c ∷ cs
unfolding skip_blanks
keep_one c cs h = rw h refl

-- white space at the end does not matter
pub skip_last : (line front : List ℕ) (c : ℕ) → line ≡ front ++ c ∷ [] → is_blank c ≡ true
    → skip_blanks (reverse front) ≡ skip_blanks (reverse line)
skip_last line front c e h =
    sym (ap skip_blanks (turned line front c e) ∙ skip_one c (reverse front) h)

-- a line that ends with something else stays
pub keep_last : (line front : List ℕ) (c : ℕ) → line ≡ front ++ c ∷ [] → is_blank c ≡ false → without_end_blanks line ≡ line
keep_last line front c e h =
    let t = turned line front c e in
    ap reverse (ap skip_blanks t ∙ keep_one c (reverse front) h ∙ sym t) ∙ reverse-reverse line

pub keep_none : without_end_blanks [] ≡ []
unfolding skip_blanks
keep_none = refl
