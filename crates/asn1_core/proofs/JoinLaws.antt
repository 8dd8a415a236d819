-- Texts one after the other, in a walk through a list of them.
use Rattle.std.proofs.Common.{◌≡◌, ℕ, ◌+◌, ◌<◌, List, [], ◌∷◌, ◌++◌, length, take, drop, map, get_or, refl, sym, ap, ◌∙◌, append_assoc}
use Rattle.std.proofs.lemmas.List.{append-nil, drop_more, take_more, take-append-drop, map-append}
use Rattle.asn1_core.specs.Der.{joined}

joined-append : (xs ys : List (List ℕ)) → joined (xs ++ ys) ≡ joined xs ++ joined ys
joined-append [] ys = refl
joined-append (x ∷ xs) ys = ap (λ (l : List ℕ). x ++ l) (joined-append xs ys) ∙ sym (append_assoc x (joined xs) (joined ys))

module _ {A : Type 0} (f : A → List ℕ) (xs : List A) (i : ℕ) (d : A) (h : i < length xs) where
  pub joined_more : joined (map f (take (i + 1) xs)) ≡ joined (map f (take i xs)) ++ f (get_or xs i d)
  joined_more =
      ap (λ (l : List A). joined (map f l)) (take_more xs i d h) ∙ ap joined (map-append f (take i xs) (get_or xs i d ∷ []))
      ∙ joined-append (map f (take i xs)) (f (get_or xs i d) ∷ []) ∙ ap (λ (l : List ℕ). joined (map f (take i xs)) ++ l) (append-nil (f (get_or xs i d)))

  pub joined_parts : joined (map f xs) ≡ joined (map f (take i xs)) ++ (f (get_or xs i d) ++ joined (map f (drop (i + 1) xs)))
  joined_parts =
      ap (λ (l : List A). joined (map f l)) (sym (take-append-drop i xs)) ∙ ap joined (map-append f (take i xs) (drop i xs))
      ∙ joined-append (map f (take i xs)) (map f (drop i xs)) ∙ ap (λ (l : List A). joined (map f (take i xs)) ++ joined (map f l)) (drop_more xs i d h)
