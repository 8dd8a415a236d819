-- Any element: its tag octet and its value (X.690 section 8.1).
use Rattle.std.specs.Prelude.{◌≡◌, ℕ, List, Ok}
use Rattle.asn1_core.specs.Reading.{All, Front, by_tag, any_tag}
use Rattle.asn1_core.specs.Texts.{ByTag}

abbrev pub seen_any : ℕ → List ℕ → ℕ × List ℕ
seen_any t v = (t, v)

abbrev pub AnyOf : ℕ → List ℕ → ℕ × List ℕ → Type 0
AnyOf t w v = v ≡ seen_any t w

abbrev pub AnyText : List ℕ → ℕ × List ℕ → Type 0
AnyText = ByTag any_tag AnyOf

-- ---- reading

abbrev pub any_of : ℕ → All (ℕ × List ℕ)
any_of t w = Ok (t, w)

abbrev pub any_at : Front (ℕ × List ℕ)
any_at = by_tag any_tag any_of
