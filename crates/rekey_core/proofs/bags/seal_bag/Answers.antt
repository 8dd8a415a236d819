use Rattle.std.proofs.Common.{List, ℕ, ◌∷◌, ◌++◌, ◌∙◌, ap, refl, sym}
use Rattle.p12.specs.declared.safe_bag.SafeBag.{SafeBag}
use Rattle.std.proofs.lemmas.Result.{err_from_is_err_and}
use Rattle.rekey_core.proofs.Supplying.{bag_opens, key_bag, key_long, long_map}
use Rattle.rekey_core.proofs.bags.seal_bag.Goals as goal

pub seal-requires-clause-opens : goal.seal-requires-clause-opens
seal-requires-clause-opens c = (bag_opens c.args.to c.args.bag.now c.in-Pkcs8ShroudedKeyBag.key c.args.supply.now.keys.now c.in-Pkcs8ShroudedKeyBag.is c.requires.open).0

pub seal-requires-clause-rounds : goal.seal-requires-clause-rounds
seal-requires-clause-rounds c = (bag_opens c.args.to c.args.bag.now c.in-Pkcs8ShroudedKeyBag.key c.args.supply.now.keys.now c.in-Pkcs8ShroudedKeyBag.is c.requires.open).1

pub returns-in_err-sealed-clause-err : goal.returns-in_err-sealed-clause-err
returns-in_err-sealed-clause-err c =
    let p = err_from_is_err_and c.from_residual.result c.from_residual.ensures.1 in
    rw (p.1, p.2) (long_map _ _ c.in_err-sealed.field-0.0
    (λ h u more s. key_long c.args.to u c.args.bag.now c.in-Pkcs8ShroudedKeyBag.key c.as_slice.result.now c.args.supply.now.keys.now c.next_key-text.new.self.keys.now more c.in-Pkcs8ShroudedKeyBag.is (sym c.next_part-part.ensures.keys ∙ c.next_key-text.ensures.front ∙ ap (λ t. t ∷ c.next_key-text.new.self.keys.now) (sym c.as_slice.ensures)) s h)
    c.in_err-sealed.ensures.err)

pub returns-clause-sealed : goal.returns-clause-sealed
returns-clause-sealed c = λ u more s. (
    let keys = sym c.next_part-part.ensures.keys ∙ c.next_key-text.ensures.front ∙ ap (λ t. t ∷ c.next_key-text.new.self.keys.now) (sym c.as_slice.ensures) in
    let k = key_bag c.args.to u c.args.new.now c.next_part-part.result.drawn.now c.args.bag.now _ c.in-Pkcs8ShroudedKeyBag.key _ c.as_slice.result.now c.args.supply.now.keys.now c.next_key-text.new.self.keys.now more
    c.in-Pkcs8ShroudedKeyBag.is refl (ap (λ (g : SafeBag). g.attributes) c.in-Ok.ensures.ok) keys s c.in_ok-sealed.ensures.anew c.in_ok-sealed.ensures.opens in
    (k.0, c.next_part-part.result.drawn.now, c.next_part-part.ensures.front ∙ ap (λ (l : List ℕ). c.next_part-part.result.drawn.now ++ l) (sym c.next_key-text.ensures.drawn), k.1)
    )
