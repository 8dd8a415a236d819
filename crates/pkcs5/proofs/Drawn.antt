-- What is made of an initialization vector and a salt that were drawn.
use Rattle.std.proofs.Common.{◌≡◌, ◌∙◌, ap, List, ℕ, Option}
use Rattle.octet_core.specs.Draw.{DrawsIvAndSalt}

-- the same octets, of which something else holds
pub drawn_so : (old new : Option (List ℕ)) (P Q : List ℕ → List ℕ → Type 0) → ((iv salt : List ℕ) → P iv salt → Q iv salt) → DrawsIvAndSalt old new P → DrawsIvAndSalt old new Q
drawn_so old new P Q f d = record { iv = d.iv; salt = d.salt; iv_long = d.iv_long; salt_long = d.salt_long; took = d.took; are = f d.iv d.salt d.are }

-- what a function makes of both
pub made_of : {A : Type 0} (old new : Option (List ℕ)) (make : List ℕ → List ℕ → A) (iv salt : List ℕ) (a : A) → a ≡ make iv salt
    → DrawsIvAndSalt old new (λ x y. (iv ≡ x) × (salt ≡ y)) → DrawsIvAndSalt old new (λ x y. a ≡ make x y)
made_of old new make iv salt a is d =
    drawn_so old new (λ x y. (iv ≡ x) × (salt ≡ y)) (λ x y. a ≡ make x y) (λ x y h. is ∙ ap (λ (z : List ℕ). make z salt) h.0 ∙ ap (make x) h.1) d
