use Rattle.std.proofs.Common.{◌≤◌, ℕ, List, [], ◌∷◌, arith, length, subst, sym, take}
use Rattle.std.specs.Prelude.{All}
use Rattle.std.proofs.lemmas.List.{take_all}
use Rattle.std.proofs.lemmas.List.Elements.{All-append, All-cons, All-nil}
use Rattle.transfer.specs.Limits.{store_limit}
use Rattle.transfer.proofs.Faults.{take_one}
use Rattle.legacy_store.proofs.open.are_short.Goals as goal

Short : List ℕ → Type 0
Short text = length text ≤ store_limit

pub loop-text-preserved : goal.loop-text-preserved
unfolding Short
loop-text-preserved c =
    let texts = c.args.texts.now in
    let at = c.loop-text.text-index in
    let text = c.text-item.result in
    record {
      short = subst (All Short) (sym (take_one texts at text (omega arith) c.text-item.is))
          (All-append Short (take at texts) (text ∷ []) c.loop-text.invariant.short (All-cons Short text [] (grind (arith, c.len.ensures, c.if-len-gt-STORE_LIMIT.false)) (All-nil Short)));
    }

pub returns : goal.returns
unfolding Short
returns c t = subst (All Short) (take_all c.loop-text.text-index c.args.texts.now (omega arith)) c.loop-text.invariant.short
