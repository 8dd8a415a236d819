-- How the MAC of a store is made, by its digest.
use Rattle.std.proofs.Common.{◌≡◌, ◌∙◌, ℕ, List, Bool, subst, sym, ap}
use Rattle.std.specs.Prelude.{Option, Some, Result, IfOk}
use Rattle.p12.specs.declared.mac_data.MacData.{MacData}
use Rattle.legacy_store.specs.declared.mac.MacScheme.{MacScheme}
use Rattle.legacy_store.specs.Forms.{Forms}
use Rattle.legacy_store.specs.Mac.{agrees_by, cost_by, count_by, legacy_agrees, mac_cost, mac_count, mac_scheme}

-- What is made in this way is what the digest says.
module _ (m : MacData) (o : Option MacScheme) (x s : MacScheme) (of : o ≡ mac_scheme m.mac.digest_algorithm) (some : o ≡ Some x) (is : x ≡ s) where
  made_so : Some s ≡ mac_scheme m.mac.digest_algorithm
  made_so = sym (some ∙ ap Some is) ∙ of

  pub count_is : count_by (Some s) m ≡ mac_count m
  unfolding mac_count
  count_is = ap (λ y. count_by y m) made_so

  pub cost_is : cost_by (Some s) m ≡ mac_cost m
  unfolding mac_cost
  cost_is = ap (λ y. cost_by y m) made_so

  pub agrees_as : {E : Type 0} (r : Result Bool E) (f : Forms) (v : List ℕ) → IfOk r (λ a. a ≡ agrees_by (Some s) m f v) → IfOk r (λ a. a ≡ legacy_agrees m f v)
  unfolding legacy_agrees
  agrees_as r f v k = subst (λ (y : Option MacScheme). IfOk r (λ a. a ≡ agrees_by y m f v)) made_so k
