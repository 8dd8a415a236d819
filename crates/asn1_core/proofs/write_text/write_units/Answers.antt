use Rattle.std.proofs.Common.{ap, sym, subst, ◌∙◌, ◌∷◌, [], ◌++◌, ◌+◌, List, ℕ, drop, length, append_assoc}
use Rattle.std.specs.List.{flat_map}
use Rattle.std.specs.Str.{chars}
use Rattle.std.proofs.lemmas.Result.{err_from_is_err_and}
use Rattle.std.proofs.lemmas.Iterator.{YieldsList-from_chars}
use Rattle.std.proofs.lemmas.Iterator.Consumers.{YieldsList-end, YieldsList-so_far, YieldsList-turn}
use Rattle.std.proofs.lemmas.Grind.{flat_map-append}
use Rattle.std.proofs.lemmas.List.{append-nil, map-id}
use Rattle.asn1_core.specs.Unicode.{char_units}
use Rattle.asn1_core.specs.Writing.{Wrote, Stopped}
use Rattle.asn1_core.specs.WritingLaws.{stopped_first, stopped_then, wrote_then}
use Rattle.asn1_core.proofs.TextLaws.{parts}
use Rattle.asn1_core.proofs.write_text.write_units.Goals as goal

pub returns-in_err-write : goal.returns-in_err-write
returns-in_err-write g c =
    let q = err_from_is_err_and c.from_residual.result c.from_residual.ensures.1 in
    let sink = g.W.Writer.sink in
    let all = chars c.args.text.now in
    let xs = c.loop-character.yielded in
    let x = c.in-Some.character in
    let road = YieldsList-from_chars c.args.text.now c.utf8.text cc in
    let p = parts char_units all xs x (YieldsList-so_far road xs _ c.loop-character.yielded_by) (YieldsList-turn road xs _ c.loop-character.yielded_by _ _ _ c.in-Some.is c.next.ensures.steps) in
    let before = flat_map char_units xs in
    let rest = flat_map char_units (drop (length xs + 1) all) in
    let piece = subst (λ (t : List ℕ). Stopped sink ⊥ ⊥ t c.loop-character.w c.in_err-write.field-0.0 c.write.new.self) c.units_of_char-n.ensures.units c.in_err-write.ensures in
    let more = stopped_then sink before (char_units x) c.args.w.now c.loop-character.w c.write.new.self ⊥ ⊥ ⊥ ⊥ _ (λ h. h) (λ h. h) c.loop-character.invariant piece in
    let whole = stopped_first sink (before ++ char_units x) rest c.args.w.now c.write.new.self c.write.new.self ⊥ ⊥ ⊥ ⊥ _ (λ h. h) (λ h. h) more in
    rw (q.1, q.2) (subst (λ (t : List ℕ). Stopped sink ⊥ ⊥ t c.args.w.now c.in_err-write.field-0.0 c.write.new.self) (append_assoc before (char_units x) rest ∙ sym p) whole)

pub returns : goal.returns
returns g c =
    let all = (YieldsList-end (YieldsList-from_chars c.args.text.now c.utf8.text cc) c.loop-character.yielded _ c.loop-character.yielded_by _ _ c.in-None.is c.next.ensures.steps).0 in
    subst (λ (l : List ℕ). Wrote g.W.Writer.sink (flat_map char_units l) c.args.w.now c.loop-character.w) (sym (map-id c.loop-character.yielded) ∙ all) c.loop-character.invariant

pub loop-character-preserved : goal.loop-character-preserved
loop-character-preserved g c =
    let sink = g.W.Writer.sink in
    let xs = c.loop-character.yielded in
    let x = c.in-Some.character in
    let before = flat_map char_units xs in
    let piece = subst (λ (t : List ℕ). Wrote sink t c.loop-character.w c.write.new.self) c.units_of_char-n.ensures.units c.in_ok-write.ensures in
    let more = ap (λ (l : List ℕ). before ++ l) (append-nil (char_units x)) in
    subst (λ (t : List ℕ). Wrote sink t c.args.w.now c.write.new.self) (sym (flat_map-append char_units xs (x ∷ []) ∙ more)) (wrote_then sink before (char_units x) c.args.w.now c.loop-character.w c.write.new.self c.loop-character.invariant piece)
