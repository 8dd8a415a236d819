-- Texts of characters.
use Rattle.std.proofs.Common.{◌≡◌, ℕ, ◌-◌, List, [], length, take, true, Result, Ok, sym, ap, ◌∙◌}
use Rattle.std.specs.Str.{IsUtf8}
use Rattle.asn1_core.specs.Reading.{Fault, ◌>>=◌, ended}
use Rattle.asn1_core.specs.Unicode.{Bmp, bmp_at, is_ascii_text}
use Rattle.asn1_core.proofs.UnicodeLaws.{ascii_utf8, bmp-exact}
use Rattle.p12.specs.AttributeView.{bmp_text}
use Rattle.p12.specs.Walk.{read_or_none}
use Rattle.p12.proofs.Walks.{alone}

pub ascii_text : (b t : List ℕ) → is_ascii_text b ≡ true → (IsUtf8 b → t ≡ b) → t ≡ b
ascii_text b t ok h = h (ascii_utf8 b ok)

-- a BMPString by itself
pub bmp_alone : (b rest y : List ℕ) → bmp_at b ≡ Ok (y, rest)
    → (bmp_at b ≡ Ok (bmp_text (take (length b - length rest) b), rest)) × (bmp_at (take (length b - length rest) b) ≡ Ok (bmp_text (take (length b - length rest) b), []))
bmp_alone b rest y e =
    let f = take (length b - length rest) b in
    let a : bmp_at f ≡ Ok (y, []) = alone Bmp bmp_at bmp-exact b rest y e in
    let t : bmp_text f ≡ y = ap (λ (r : Result (List ℕ × List ℕ) Fault). read_or_none (r >>= λ x. ended x.0 x.1)) a in
    (e ∙ ap (λ (v : List ℕ). Ok (v, rest)) (sym t), a ∙ ap (λ (v : List ℕ). Ok (v, [])) (sym t))
