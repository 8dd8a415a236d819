use Rattle.std.proofs.Common.{[], ◌++◌, ◌∙◌, ◌≡◌, ℕ, List, ap, append_assoc, arith, length, refl, rules, subst, sym}
use Rattle.std.specs.Prelude.{All}
use Rattle.std.proofs.lemmas.List.{length-map}
use Rattle.std.proofs.lemmas.Result.{err_from_is_err_and}
use Rattle.std.specs.Slice.Iter.{chunks_rest}
use Rattle.transfer.specs.InPlace.{IsOpenedKey, texts_of}
use Rattle.transfer.specs.Opening.{IsStoredKey}
use Rattle.transfer.specs.declared.store.key_text.OpenedKey.{OpenedKey}
use Rattle.sealing_core.proofs.Draws.{lacks_all}
use Rattle.transfer.proofs.Drawn.{all_group, group_fits, seals_both, seals_none}
use Rattle.transfer.proofs.Faults.{refused_as}
use Rattle.transfer.proofs.store.seal.seal_all.Goals as goal

pub loop-group-init : goal.loop-group-init
loop-group-init g c = record {
  size = search rules;
  done = [];
  split = search rules;
  sealed = rw (c.new-documents.ensures) (seals_none c.args.rounds c.args.new_password.now (g.D.Draw.left c.args.draw.now));
  faults = search rules;
}

pub read_keys-requires : goal.read_keys-requires
read_keys-requires g c =
    let i = c.loop-group.invariant in
    all_group IsStoredKey c.args.texts.now i.done (chunks_rest c.loop-group.group-iterator) c.in-Some.group.now (chunks_rest c.next.new.self)
    i.split c.in-Some.ensures.steps.1.0 c.requires.texts

pub seal_group-requires-clause-keys : goal.seal_group-requires-clause-keys
seal_group-requires-clause-keys g c = subst (All IsOpenedKey) (sym c.as_slice.ensures) c.in_ok-keys.ensures.keys

pub returns-in_err-sealed-clause-cause : goal.returns-in_err-sealed-clause-cause
returns-in_err-sealed-clause-cause g c =
    let i = c.loop-group.invariant in
    let p = err_from_is_err_and c.from_residual-in_err-sealed.result c.from_residual-in_err-sealed.ensures.1 in
    let fits = group_fits c.args.texts.now i.done (chunks_rest c.loop-group.group-iterator) c.in-Some.group.now (chunks_rest c.next.new.self)
    i.split c.in-Some.ensures.steps.1.0 (length i.sealed.drawn) i.sealed.each_32 in
    let many : length c.as_slice.result.now ≡ length c.in-Some.group.now =
    ap length c.as_slice.ensures ∙ sym (length-map c.in_ok-keys.keys (λ (k : OpenedKey). k.text.now)) ∙ ap length c.in_ok-keys.ensures.texts in
    rw (p.1, p.2) (refused_as (λ e. ⊥) (λ e. ⊥) _ _ (λ e h. h)
    (lacks_all _ _ _ _ _ i.sealed.drawn _ _ i.faults i.sealed.took (omega (arith, fits, many))) c.in_err-sealed.field-0.0 c.in_err-sealed.ensures.cause)

pub loop-group-preserved : goal.loop-group-preserved
loop-group-preserved g c =
    let i = c.loop-group.invariant in
    let steps = c.in-Some.ensures.steps in
    let group = c.in-Some.group.now in
    let more : List (List ℕ) = i.done ++ group in
    let same : texts_of c.as_slice.result.now ≡ group = ap texts_of c.as_slice.ensures ∙ c.in_ok-keys.ensures.texts in
    record {
      size = steps.0 ∙ i.size;
      done = more;
      split = i.split ∙ ap (λ rest. i.done ++ rest) steps.1.0 ∙ sym (append_assoc i.done group (chunks_rest c.next.new.self));
      sealed = rw (c.in_ok-add_documents.ensures.ok) (seals_both c.args.rounds c.args.new_password.now _ _ _ i.done group more c.loop-group.documents c.in_ok-sealed.sealed _
          i.sealed (rw (sym same) c.in_ok-sealed.ensures.sealed) refl refl);
      faults = c.in_ok-sealed.ensures.no_fault ∙ i.faults;
    }
