use Rattle.std.proofs.Common.{◌≡◌, ◌%◌, length, take, get_or, arith, ◌∙◌}
use Rattle.std.proofs.lemmas.List.{length-set, length-take-le, get_or-take}
use Rattle.std.proofs.lemmas.List.Edits.{fill_by_more}
use Rattle.std.proofs.lemmas.List.FromFn.{fill_by_all}
use Rattle.pkcs12_kdf.proofs.derivation.repeated.Goals as goal

pub loop-i-preserved : goal.loop-i-preserved
loop-i-preserved c = record {
  long = length-set c.loop-i.octets c.loop-i.i _ ∙ c.loop-i.invariant.long;
  done = fill_by_more (λ k. get_or c.args.text.now (k % length c.args.text.now) 0) c.loop-i.octets c.loop-i.i 0 (omega arith) c.loop-i.invariant.done;
}

pub returns : goal.returns
returns c =
    let v = c.args.block in
    let size : length (take v c.loop-i.octets) ≡ v = length-take-le v c.loop-i.octets (omega (arith, c.loop-i.invariant.long)) in
    fill_by_all (λ k. get_or c.args.text.now (k % length c.args.text.now) 0) (take v c.loop-i.octets) v 0 size
    (λ k lt. get_or-take v c.loop-i.octets k 0 lt ∙ c.loop-i.invariant.done k (omega (arith, lt)))
