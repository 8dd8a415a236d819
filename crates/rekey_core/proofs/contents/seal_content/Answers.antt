use Rattle.std.proofs.Common.{List, ℕ, ◌≡◌, ◌<◌, ◌^◌, length, Some, ◌∙◌, ap, refl, subst, sym}
use Rattle.std.specs.Prelude.{All}
use Rattle.p12.specs.Canonical.{WritableBag, bags_canon}
use Rattle.p12.specs.declared.safe_bag.SafeBag.{SafeBag}
use Rattle.std.proofs.lemmas.Result.{err_from_is_err_and}
use Rattle.rekey_core.proofs.OneContent.{can_write, content_opens, encrypted_sealed, long_bags, long_sealed, long_text, plain_sealed}
use Rattle.rekey_core.proofs.contents.seal_content.Goals as goal

pub returns-in_err-bags-in-Data-clause-err : goal.returns-in_err-bags-in-Data-clause-err
returns-in_err-bags-in-Data-clause-err c =
    let p = err_from_is_err_and c.from_residual.result c.from_residual.ensures.1 in
    rw (p.1, p.2) (long_bags c.args.to c.args.content.now c.args.bags.now c.args.supply.now.keys.now c.args.supply.now.keys.now c.in_err-bags-in-Data.field-0.0 refl c.requires.open c.in_err-bags-in-Data.ensures.err)

pub text_of-requires : goal.text_of-requires
text_of-requires c = subst (λ (l : List SafeBag). All WritableBag l) (sym c.as_slice.ensures)
    (can_write c.args.to c.args.new.now c.args.content.now c.args.bags.now c.in_ok-bags-in-Data.bags c.args.supply.now.keys.now c.args.supply.now.keys.now c.seal_bags.new.supply.keys.now c.args.supply.now.drawn.now c.seal_bags.new.supply.drawn.now refl c.requires.open c.in_ok-bags-in-Data.ensures.sealed)

pub returns-in_ok-text-in-Data-clause-sealed : goal.returns-in_ok-text-in-Data-clause-sealed
returns-in_ok-text-in-Data-clause-sealed c =
    let text = subst (λ (l : List SafeBag). (c.in_ok-text-in-Data.text ≡ bags_canon l) × (length c.in_ok-text-in-Data.text < 2 ^ 32)) c.as_slice.ensures c.in_ok-text-in-Data.ensures.ok in
    plain_sealed c.args.to c.args.new.now c.args.content.now c.in-Data.field-0 c.args.bags.now c.in_ok-bags-in-Data.bags c.args.supply.now.keys.now c.seal_bags.new.supply.keys.now c.args.supply.now.drawn.now c.seal_bags.new.supply.drawn.now c.in_ok-text-in-Data.text
    c.in-Data.is c.in_ok-bags-in-Data.ensures.sealed text

pub returns-in_err-text-in-Data-clause-err : goal.returns-in_err-text-in-Data-clause-err
returns-in_err-text-in-Data-clause-err c =
    let p = err_from_is_err_and c.from_residual-in_err-text-in-Data.result c.from_residual-in_err-text-in-Data.ensures.1 in
    rw (p.1, p.2) (long_text c.args.to c.args.new.now c.args.content.now c.args.bags.now c.as_slice.result.now c.args.supply.now.keys.now c.args.supply.now.keys.now c.seal_bags.new.supply.keys.now c.args.supply.now.drawn.now
    c.seal_bags.new.supply.drawn.now c.in_err-text-in-Data.field-0.0 refl c.requires.open (rw (c.as_slice.ensures) c.in_ok-bags-in-Data.ensures.sealed) c.in_err-text-in-Data.ensures.err)

pub returns-in_err-bags-in-EncryptedData-clause-err : goal.returns-in_err-bags-in-EncryptedData-clause-err
returns-in_err-bags-in-EncryptedData-clause-err c =
    let p = err_from_is_err_and c.from_residual-in_err-bags-in-EncryptedData.result c.from_residual-in_err-bags-in-EncryptedData.ensures.1 in
    rw (p.1, p.2) (long_bags c.args.to c.args.content.now c.args.bags.now c.args.supply.now.keys.now c.next_part-part.new.self.keys.now c.in_err-bags-in-EncryptedData.field-0.0 c.next_part-part.ensures.keys c.requires.open c.in_err-bags-in-EncryptedData.ensures.err)

pub text_of-requires-in-EncryptedData : goal.text_of-requires-in-EncryptedData
text_of-requires-in-EncryptedData c = subst (λ (l : List SafeBag). All WritableBag l) (sym c.as_slice-in-EncryptedData.ensures)
    (can_write c.args.to c.args.new.now c.args.content.now c.args.bags.now c.in_ok-bags-in-EncryptedData.bags c.args.supply.now.keys.now c.next_part-part.new.self.keys.now c.seal_bags-in-EncryptedData.new.supply.keys.now
    c.next_part-part.new.self.drawn.now c.seal_bags-in-EncryptedData.new.supply.drawn.now c.next_part-part.ensures.keys c.requires.open c.in_ok-bags-in-EncryptedData.ensures.sealed)

pub returns-in_err-text-in-EncryptedData-clause-err : goal.returns-in_err-text-in-EncryptedData-clause-err
returns-in_err-text-in-EncryptedData-clause-err c =
    let p = err_from_is_err_and c.from_residual-in_err-text-in-EncryptedData.result c.from_residual-in_err-text-in-EncryptedData.ensures.1 in
    rw (p.1, p.2) (long_text c.args.to c.args.new.now c.args.content.now c.args.bags.now c.as_slice-in-EncryptedData.result.now c.args.supply.now.keys.now c.next_part-part.new.self.keys.now
    c.seal_bags-in-EncryptedData.new.supply.keys.now c.next_part-part.new.self.drawn.now c.seal_bags-in-EncryptedData.new.supply.drawn.now c.in_err-text-in-EncryptedData.field-0.0 c.next_part-part.ensures.keys c.requires.open
    (rw (c.as_slice-in-EncryptedData.ensures) c.in_ok-bags-in-EncryptedData.ensures.sealed) c.in_err-text-in-EncryptedData.ensures.err)

pub seal-requires-clause-opens : goal.seal-requires-clause-opens
seal-requires-clause-opens c = (content_opens c.args.to c.args.content.now c.in-EncryptedData.data c.args.bags.now c.args.supply.now.keys.now c.in-EncryptedData.is c.requires.open).0

pub seal-requires-clause-rounds : goal.seal-requires-clause-rounds
seal-requires-clause-rounds c = (content_opens c.args.to c.args.content.now c.in-EncryptedData.data c.args.bags.now c.args.supply.now.keys.now c.in-EncryptedData.is c.requires.open).1

pub returns-in_err-sealed-in-EncryptedData-clause-err : goal.returns-in_err-sealed-in-EncryptedData-clause-err
returns-in_err-sealed-in-EncryptedData-clause-err c =
    let p = err_from_is_err_and c.from_residual-in_err-sealed-in-EncryptedData.result c.from_residual-in_err-sealed-in-EncryptedData.ensures.1 in
    rw (p.1, p.2) (long_sealed c.args.to c.args.new.now c.args.content.now c.in-EncryptedData.data c.args.bags.now c.as_slice-in-EncryptedData.result.now c.args.supply.now.keys.now c.next_part-part.new.self.keys.now
    c.seal_bags-in-EncryptedData.new.supply.keys.now c.next_part-part.new.self.drawn.now c.seal_bags-in-EncryptedData.new.supply.drawn.now c.as_slice-in-EncryptedData-2.result.now c.in_err-sealed-in-EncryptedData.field-0.0 c.in-EncryptedData.is
    c.next_part-part.ensures.keys (rw (c.as_slice-in-EncryptedData.ensures) c.in_ok-bags-in-EncryptedData.ensures.sealed) (c.as_slice-in-EncryptedData-2.ensures ∙ c.in_ok-text-in-EncryptedData.ensures.ok.0) c.in_err-sealed-in-EncryptedData.ensures.err)

pub returns-in_ok-sealed-in-EncryptedData-clause-sealed : goal.returns-in_ok-sealed-in-EncryptedData-clause-sealed
returns-in_ok-sealed-in-EncryptedData-clause-sealed c =
    let text = subst (λ (l : List SafeBag). (c.in_ok-text-in-EncryptedData.text ≡ bags_canon l) × (length c.in_ok-text-in-EncryptedData.text < 2 ^ 32)) c.as_slice-in-EncryptedData.ensures c.in_ok-text-in-EncryptedData.ensures.ok in
    encrypted_sealed c.args.to c.args.new.now c.args.content.now c.in-EncryptedData.data _ c.args.bags.now c.in_ok-bags-in-EncryptedData.bags c.args.supply.now.keys.now c.next_part-part.new.self.keys.now
    c.seal_bags-in-EncryptedData.new.supply.keys.now c.args.supply.now.drawn.now c.next_part-part.result.drawn.now c.next_part-part.new.self.drawn.now c.seal_bags-in-EncryptedData.new.supply.drawn.now c.in_ok-text-in-EncryptedData.text
    c.in-EncryptedData.is c.next_part-part.ensures.keys c.next_part-part.ensures.front c.in_ok-bags-in-EncryptedData.ensures.sealed text c.in_ok-sealed-in-EncryptedData.ensures.anew
    (c.in_ok-sealed-in-EncryptedData.ensures.opens ∙ ap (λ (x : List ℕ). Some x) c.as_slice-in-EncryptedData-2.ensures)
