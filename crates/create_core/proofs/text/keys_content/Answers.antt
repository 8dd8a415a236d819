use Rattle.std.proofs.Common.{List, length, subst, sym, take}
use Rattle.std.specs.Prelude.{All}
use Rattle.std.proofs.lemmas.List.Elements.{All-take}
use Rattle.p12.specs.Canonical.{WritableBag}
use Rattle.p12.specs.declared.safe_bag.SafeBag.{SafeBag}
use Rattle.sealing_core.specs.Drawn.{AreOf16}
use Rattle.create_core.proofs.BagLoops.{keys_write}
use Rattle.create_core.proofs.Steps.{long_keys}
use Rattle.create_core.proofs.text.keys_content.Goals as goal

pub text_of-requires : goal.text_of-requires
text_of-requires c =
    let s = c.args.sealing.now in
    let n = length c.args.keys.now in
    subst (λ (l : List SafeBag). All WritableBag l) (sym c.as_slice.ensures) (keys_write s.rounds s.password.now c.args.keys.now (take n s.drawn) c.in_ok-bags.bags s.few_rounds (All-take AreOf16 n s.drawn s.are_drawn) c.in_ok-bags.ensures.ok)

pub returns-clause-err : goal.returns-clause-err
returns-clause-err c =
    let s = c.args.sealing.now in
    long_keys s.rounds s.password.now c.args.keys.now s.drawn c.in_ok-bags.bags c.as_slice.result.now c.in-Err.error s.are_drawn c.in_ok-bags.ensures.ok c.as_slice.ensures c.in-Err.ensures.err
