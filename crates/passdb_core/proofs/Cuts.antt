-- The first place of an octet in a text.
use Rattle.std.proofs.Common.{◌≡◌, ◌≢◌, ℕ, List, [], ◌∷◌, ◌++◌, refl, sym, ◌∙◌, arith, All}
use Rattle.std.proofs.lemmas.List.Elements.{All-head, All-tail, All-weaker}
use Rattle.phc_core.specs.Ident.{IsIdent, IsNameOctet}
use Rattle.passdb_core.specs.Commands.{IsPassword, IsVisible}
use Rattle.passdb_core.specs.Reading.{IsCut}

-- The octet is not in the text.
abbrev pub Lacks : ℕ → List ℕ → Type 0
Lacks octet t = All (λ b. b ≢ octet) t

pub one_cut : (o : ℕ) (a c b d : List ℕ) → Lacks o a → Lacks o c → a ++ o ∷ b ≡ c ++ o ∷ d → (a ≡ c) × (b ≡ d)
one_cut o [] [] b d p q e = (refl, cc)
one_cut o [] (y ∷ c) b d p q e = absurd (All-head (λ b. b ≢ o) y c q (let same : y ≡ o = cc in same))
one_cut o (x ∷ a) [] b d p q e = absurd (All-head (λ b. b ≢ o) x a p (let same : x ≡ o = cc in same))
one_cut o (x ∷ a) (y ∷ c) b d p q e =
    let head : x ≡ y = cc in
    let tail : a ++ o ∷ b ≡ c ++ o ∷ d = cc in
    let k = one_cut o a c b d (All-tail (λ b. b ≢ o) x a p) (All-tail (λ b. b ≢ o) y c q) tail in
    let first : a ≡ c = k.0 in
    (cc, k.1)

pub no_cut : (o : ℕ) (t a b : List ℕ) → Lacks o t → t ≡ a ++ o ∷ b → ⊥
no_cut o [] [] b p e = absurd (let k : [] ≡ o ∷ b = e in cc k)
no_cut o [] (x ∷ a) b p e = absurd (let k : [] ≡ x ∷ (a ++ o ∷ b) = e in cc k)
no_cut o (y ∷ t) [] b p e = All-head (λ b. b ≢ o) y t p (let same : y ≡ o = cc in same)
no_cut o (y ∷ t) (x ∷ a) b p e = no_cut o t a b (All-tail (λ b. b ≢ o) y t p) (let same : t ≡ a ++ o ∷ b = cc in same)

-- The parts of a cut are those of the text that has the octet after a part without it.
pub cut_is : (o : ℕ) (t front back a b : List ℕ) → IsCut o t front back → Lacks o a → t ≡ a ++ o ∷ b → (front ≡ a) × (back ≡ b)
cut_is o t front back a b cut plain e = one_cut o front a back b cut.first plain (sym cut.parts ∙ e)

name_colon : (b : ℕ) → IsNameOctet b → b ≢ 58
name_colon b h = λ e. omega (arith, h, e)

name_space : (b : ℕ) → IsNameOctet b → b ≢ 32
name_space b h = λ e. omega (arith, h, e)

pub ident_no_colon : (t : List ℕ) → IsIdent t → Lacks 58 t
ident_no_colon t is = All-weaker IsNameOctet (λ b. b ≢ 58) name_colon t is.2

pub ident_no_space : (t : List ℕ) → IsIdent t → Lacks 32 t
ident_no_space t is = All-weaker IsNameOctet (λ b. b ≢ 32) name_space t is.2

pub password_no_space : (w : List ℕ) → IsPassword w → Lacks 32 w
password_no_space w is = All-weaker IsVisible (λ b. b ≢ 32) (λ b h e. omega (arith, h, e)) w is.2

pub password_no_feed : (w : List ℕ) → IsPassword w → Lacks 10 w
password_no_feed w is = All-weaker IsVisible (λ b. b ≢ 10) (λ b h e. omega (arith, h, e)) w is.2
