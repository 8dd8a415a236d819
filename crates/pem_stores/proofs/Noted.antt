-- Maps that tell what is in a list.
use Rattle.std.proofs.Common.{◌≡◌, ℕ, Bool, true, false, cond, List, [], ◌∷◌, ◌++◌, refl, sym, ap, ◌∙◌}
use Rattle.std.specs.Prelude.{◌||◌, Option, Some, None}
use Rattle.std.specs.List.{list_any}
use Rattle.std.specs.Option.{is_some}
use Rattle.std.proofs.lemmas.List.Folds.{list_any-append}
use Rattle.pem_stores.specs.EachOnce.{has_octets, with_one}

some_more : {X : Type 0} (t : Bool) (v : X) (o : Option X) → is_some (cond t (Some v) o) ≡ (is_some o || (t || false))
some_more true v None = refl
some_more true v (Some x) = refl
some_more false v None = refl
some_more false v (Some x) = refl

-- one more key is noted
pub noted_more : {K X : Type 0} (e : K → K → Bool) (old new : K → Option X) (ks : List K) (k : K) (v : X) → ((q : K) → new q ≡ cond (e k q) (Some v) (old q))
    → ((q : K) → is_some (old q) ≡ list_any (λ i. e i q) ks) → (q : K) → is_some (new q) ≡ list_any (λ i. e i q) (ks ++ k ∷ [])
noted_more e old new ks k v u h q =
    ap is_some (u q) ∙ some_more (e k q) v (old q) ∙ ap (λ t. t || (e k q || false)) (h q) ∙ sym (list_any-append (λ i. e i q) ks (k ∷ []))

-- a certificate that is there, and one that is not
pub one_there : (bs : List (List ℕ)) (b : List ℕ) → has_octets bs b ≡ true → bs ≡ with_one bs b
one_there bs b h = sym (ap (λ t. cond t bs (bs ++ b ∷ [])) h)

pub one_new : (bs : List (List ℕ)) (b : List ℕ) → has_octets bs b ≡ false → bs ++ b ∷ [] ≡ with_one bs b
one_new bs b h = sym (ap (λ t. cond t bs (bs ++ b ∷ [])) h)
