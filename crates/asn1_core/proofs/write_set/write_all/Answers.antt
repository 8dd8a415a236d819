use Rattle.std.proofs.Common.{sym, subst, ◌∙◌, ◌+◌, List, ℕ, take, drop, map, append_assoc}
use Rattle.std.proofs.lemmas.Result.{err_from_is_err_and}
use Rattle.asn1_core.specs.Der.{joined}
use Rattle.asn1_core.specs.Writing.{Wrote, Stopped}
use Rattle.asn1_core.specs.WritingLaws.{stopped_first, stopped_then, wrote_then}
use Rattle.asn1_core.proofs.JoinLaws.{joined_more, joined_parts}
use Rattle.asn1_core.proofs.write_set.write_all.Goals as goal

pub returns-in_err-write : goal.returns-in_err-write
returns-in_err-write g c =
    let q = err_from_is_err_and c.from_residual.result c.from_residual.ensures.1 in
    let sink = g.W.Writer.sink in
    let i = c.loop-text.text-index in
    let texts = c.args.texts.now in
    let before = joined (map (λ t. t.now) (take i texts)) in
    let rest = joined (map (λ t. t.now) (drop (i + 1) texts)) in
    let more = stopped_then sink before _ c.args.w.now c.loop-text.w c.write.new.self ⊥ ⊥ ⊥ ⊥ _ (λ h. h) (λ h. h) c.loop-text.invariant c.in_err-write.ensures in
    let whole = stopped_first sink _ rest c.args.w.now c.write.new.self c.write.new.self ⊥ ⊥ ⊥ ⊥ _ (λ h. h) (λ h. h) more in
    rw (q.1, q.2) (subst (λ (t : List ℕ). Stopped sink ⊥ ⊥ t c.args.w.now c.in_err-write.field-0.0 c.write.new.self) (append_assoc before _ rest ∙ sym (joined_parts (λ t. t.now) texts i _ c.loop-text-test.true)) whole)

pub loop-text-preserved : goal.loop-text-preserved
loop-text-preserved g c =
    let sink = g.W.Writer.sink in
    let i = c.loop-text.text-index in
    let texts = c.args.texts.now in
    let more = wrote_then sink (joined (map (λ t. t.now) (take i texts))) _ c.args.w.now c.loop-text.w c.write.new.self c.loop-text.invariant c.in_ok-write.ensures in
    subst (λ (t : List ℕ). Wrote sink t c.args.w.now c.write.new.self) (sym (joined_more (λ t. t.now) texts i _ c.loop-text-test.true)) more
