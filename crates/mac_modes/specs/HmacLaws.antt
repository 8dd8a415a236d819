-- lemmas only: nothing to believe here
use Rattle.std.specs.Prelude.{◌≡◌, ℕ, List, length}
use Rattle.mac_modes.specs.HashFn.{HashSizes}
use Rattle.mac_modes.specs.Prf.{PrfSizes}
use Rattle.mac_modes.specs.Hmac.{hmac}

-- an output of HMAC is as long as the hash function's
pub length-hmac : (h : List ℕ → List ℕ) (b u : ℕ) → ((m : List ℕ) → length (h m) ≡ u) → (k m : List ℕ) → length (hmac h b k m) ≡ u
unfolding hmac
length-hmac h b u len k m = len _

-- HMAC's result has a size that a keyed function's may have
pub hmac_sizes : (u b : ℕ) → HashSizes u b → PrfSizes u
hmac_sizes u b sizes = record { some = sizes.some; answer_fits = sizes.answer_fits }
