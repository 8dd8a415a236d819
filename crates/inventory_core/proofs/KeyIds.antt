-- The first certificate with a local key id.
use Rattle.std.proofs.Common.{◌≡◌, ◌<◌, ℕ, zero, suc, List, [], ◌∷◌, length, arith}
use Rattle.std.specs.Prelude.{true, false, Option}
use Rattle.std.specs.List.{slice_get}
use Rattle.inventory_core.specs.Lines.{has_key_id}

pub id_below : (ids : List (Option (List ℕ))) (q : List ℕ) (k : ℕ) → has_key_id (slice_get ids k) q ≡ true → k < length ids
id_below [] q k h = absurd (let e : false ≡ true = h in cc)
id_below (id ∷ ids) q zero h = omega arith
id_below (id ∷ ids) q (suc k) h = let l = id_below ids q k h in omega (arith, l)
