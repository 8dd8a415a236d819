use Rattle.std.proofs.Common.{◌≡◌, ◌∷◌, ◌++◌, ◌∙◌, [], ℕ, List, ap, sym, arith, rules}
use Rattle.std.specs.List.{range_with_len}
use Rattle.std.proofs.lemmas.Grind.{common_steps}
use Rattle.pem_stores.proofs.Orders.{range_ends, range_step}
use Rattle.pem_stores.proofs.chain_order.places_from.Goals as goal

pub loop-place-preserved : goal.loop-place-preserved
loop-place-preserved c =
    let pushed : c.push.new.self.items ≡ c.loop-place.places.items ++ c.loop-place.place ∷ [] = first_of (cc, search rules, grind (arith, common_steps)) in
    record {
      all = pushed ∙ ap (λ (l : List ℕ). l ++ c.loop-place.place ∷ []) c.loop-place.invariant.all ∙ sym (range_step c.args.own c.loop-place.place (omega arith));
      still = λ h. absurd (omega arith);
    }

pub returns : goal.returns
returns c = c.loop-place.invariant.all ∙ ap (λ (n : ℕ). range_with_len c.args.own n)
    (range_ends c.args.own c.args.count c.loop-place.place (omega arith) (omega arith) c.loop-place.auto.place-end c.loop-place.invariant.still)
