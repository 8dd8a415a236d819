-- Types that are read by their tag and value, or whole, with one result.
use Rattle.std.specs.Prelude.{◌≡◌, ℕ, Bool, List}
use Rattle.asn1_core.specs.Reading.{All, Front, made, by_tag}

-- reading a whole element is reading its value by its tag, where the tag is one of the type's; `of`
-- turns what is seen of the one into what is seen of the other
pub record Tied {A V W : Type 0} (seen : A → V) (at : Front V) (can : ℕ → Bool) (seen_value : A → W)
    (value : ℕ → All W) : Type 0 where
  pub of : W → V
  pub sees : (a : A) → seen a ≡ of (seen_value a)
  pub is : (b : List ℕ) → at b ≡ by_tag can (λ t. made of (value t)) b
