use Rattle.std.proofs.Common.{Option, Some, ◌≡◌, ◌∷◌, ◌++◌, List, ℕ, ap, sym, refl, ◌∙◌}
use Rattle.std.proofs.lemmas.Grind.{put_two}
use Rattle.phc_core.specs.PasswordHash.{base64, tail, hash_rest, salt_rest}
use Rattle.phc_core.proofs.writing.write_salt.Goals as goal

-- the symbols of a salt after a `$`, and the hash
salt_text : (s h : Option (List ℕ)) (o x d : List ℕ) → s ≡ Some o → d ≡ base64 x → x ≡ o → (36 ∷ d) ++ tail (hash_rest h) ≡ tail (salt_rest s h)
salt_text s h o x d is shown same =
    ap (λ t. (36 ∷ t) ++ tail (hash_rest h)) (shown ∙ ap base64 same) ∙ ap (λ t. tail (salt_rest t h)) (sym is)

pub returns : goal.returns
returns g c = λ plain ok.
    let salt = c.in_ok-write.ensures.writes plain refl in
    let hash = c.write_hash.ensures salt.plain ok in
    put_two g.W.Write.write_str_gives _ _ _ _ _ _ salt hash
    (salt_text c.args.salt c.args.hash _ c.as_ref.result.now _ c.in-Some.is c.new-symbols.ensures c.as_ref.ensures.value)
