use Rattle.std.proofs.Common.{ℕ, ◌%◌, ◌∷◌, [], ◌++◌, length, map, get_or, ap, ◌∙◌, sym, refl, append_assoc}
use Rattle.std.specs.List.{range_with_len}
use Rattle.std.proofs.lemmas.List.FromFn.{map-range_with_len_more}
use Rattle.std.proofs.lemmas.Slice.{pushed}
use Rattle.pkcs12_kdf.proofs.derivation.push_filled.Goals as goal

pub loop-i-preserved : goal.loop-i-preserved
loop-i-preserved c =
    let f = λ (i : ℕ). get_or c.args.text.now (i % length c.args.text.now) 0 in
    pushed (f c.loop-i.i ∷ []) c.loop-i.invariant c.in_ok-push.was c.push.ensures.items
    ∙ (append_assoc c.args.out.now.items (map f (range_with_len 0 c.loop-i.i)) (f c.loop-i.i ∷ []) ∙ ap (λ xs. c.args.out.now.items ++ xs) (sym (map-range_with_len_more f 0 c.loop-i.i c.loop-i.i (Rattle.std.proofs.Common.zero-add c.loop-i.i))))
