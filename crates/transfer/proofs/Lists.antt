-- Lists of parts.
use Rattle.std.proofs.Common.{List, [], ◌∷◌, ◌++◌}
use Rattle.asn1_core.specs.Sets.{Each}

pub each_append : {A B : Type 0} (P : A → B → Type 0) (xs : List A) (ys : List B) (zs : List A) (ws : List B) → Each P xs ys → Each P zs ws → Each P (xs ++ zs) (ys ++ ws)
each_append P [] [] zs ws h k = k
each_append P [] (y ∷ ys) zs ws h k = absurd h
each_append P (x ∷ xs) [] zs ws h k = absurd h
each_append P (x ∷ xs) (y ∷ ys) zs ws h k = (h.0, each_append P xs ys zs ws h.1 k)
