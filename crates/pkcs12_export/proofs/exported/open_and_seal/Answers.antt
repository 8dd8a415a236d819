use Rattle.std.proofs.Common.{ℕ, ◌≡◌, ◌≤◌, ◌⊎◌, inl, inr, List, [], length, refl, subst, sym}
use Rattle.std.specs.Prelude.{IfNone, IfSome, IsTrue, None, Option, Some}
use Rattle.std.specs.Option.{ForSome}
use Rattle.std.proofs.lemmas.Result.{err_from_is_err_and}
use Rattle.p12.specs.declared.safe_bag.SafeBag.{SafeBag}
use Rattle.pkcs12_inspection.specs.Listed.{others_in}
use Rattle.pkcs12_arguments.specs.declared.export.Export.{Export}
use Rattle.pkcs12_export.specs.Exports.{Exports, FailsToExport, FailsToSeal, IsOutside, IsWithin, keys_in}
use Rattle.pkcs12_opening.specs.Opens.{Opens}
use Rattle.pkcs12_opening.specs.declared.ending.Ending.{Ending}
use Rattle.pkcs12_opening.specs.declared.ending.Ending.TheVariants.{Memory}
use Rattle.transfer.specs.Opening.{all_certificates}
use Rattle.transfer.specs.Transferred.{SealsOpened}
use Rattle.pkcs12_export.proofs.exported.open_and_seal.Goals as goal

-- Under equal numbers of other bags, certificates and keys.
by_numbers : (P : ℕ → ℕ → ℕ → Type 0) (a b c x y z : ℕ) → a ≡ x → b ≡ y → c ≡ z → P a b c → P x y z
by_numbers P a b c x y z d e f h = subst (P x y) f (subst (λ b. P x b c) e (subst (λ a. P a b c) d h))

-- A store that opens, and the part of it that is asked for.
module _ (asked : Export) (new_password : Option (List ℕ)) (store password : List ℕ) (contents : List (List SafeBag)) (all_keys keys : List (List ℕ)) (work : ℕ)
    (opens : Opens asked.accepted store password contents all_keys work) (within : work ≤ asked.limit) (part : keys ≡ keys_in asked.target.part all_keys) where
  bounds_fail : (ending : Ending) → (ending ≡ Memory) ⊎ IsOutside asked (length (others_in contents)) (length (all_certificates contents)) (length keys) ending → FailsToExport asked new_password store password ending
  bounds_fail ending (inl memory) = inl (inl memory)
  bounds_fail ending (inr outside) = inr (record { contents = contents; all_keys = all_keys; work = work; opens = opens; within = within; keys = keys; part = part; fails = inl outside })

  module _ (bounded : IsWithin asked (length (others_in contents)) (length (all_certificates contents)) (length keys)) where
    sealing_fails : (ending : Ending) → (ending ≡ Memory) ⊎ FailsToSeal new_password keys ending → FailsToExport asked new_password store password ending
    sealing_fails ending (inl memory) = inl (inl memory)
    sealing_fails ending (inr fails) = inr (record { contents = contents; all_keys = all_keys; work = work; opens = opens; within = within; keys = keys; part = part; fails = inr (bounded, fails) })

    bounded_by : (certificates : List (List ℕ)) → certificates ≡ all_certificates contents → IsWithin asked (length (others_in contents)) (length certificates) (length keys)
    bounded_by certificates is = subst (λ (cs : List (List ℕ)). IsWithin asked (length (others_in contents)) (length cs) (length keys)) (sym is) bounded

exports_so : (asked : Export) (new_password : Option (List ℕ)) (store password : List ℕ) (contents : List (List SafeBag)) (all_keys keys : List (List ℕ)) (work : ℕ)
    → Opens asked.accepted store password contents all_keys work → work ≤ asked.limit → keys ≡ keys_in asked.target.part all_keys
    → IsWithin asked (length (others_in contents)) (length (all_certificates contents)) (length keys) → ForSome new_password (λ q. length q ≡ 0 → IsTrue asked.allow_empty)
    → (certificates documents : List (List ℕ)) → IfSome new_password (λ q. SealsOpened asked.rounds q None None contents keys certificates documents)
    → IfNone new_password ((keys ≡ []) × (documents ≡ []) × (certificates ≡ all_certificates contents)) → Exports asked new_password store password certificates documents
exports_so asked None store password contents all_keys keys work opens within part bounded not_empty certificates documents sealed keyless = record {
  contents = contents;
  all_keys = all_keys;
  work = work;
  opens = opens;
  within = within;
  in_order = keyless.2;
  keys = keys;
  part = part;
  bounded = bounded_by asked None store password contents all_keys keys work opens within part bounded certificates keyless.2;
  not_empty = tt;
  sealed = tt;
  keyless = (keyless.0, keyless.1);
}
exports_so asked (Some q) store password contents all_keys keys work opens within part bounded not_empty certificates documents sealed keyless = record {
  contents = contents;
  all_keys = all_keys;
  work = work;
  opens = opens;
  within = within;
  in_order = sealed.in_order;
  keys = keys;
  part = part;
  bounded = bounded_by asked (Some q) store password contents all_keys keys work opens within part bounded certificates sealed.in_order;
  not_empty = not_empty q refl;
  sealed = sealed.sealed;
  keyless = tt;
}

pub returns-in_err-within_bounds-clause-err : goal.returns-in_err-within_bounds-clause-err
returns-in_err-within_bounds-clause-err g c =
    let p = err_from_is_err_and c.from_residual-in_err-within_bounds.result c.from_residual-in_err-within_bounds.ensures.1 in
    let o = c.in_ok-opened.ensures.ok in
    let asked = c.args.asked.now in
    let s = c.in_ok-opened.opened.safe in
    let keys = c.part_of-opened.result.keys in
    let ending = c.in_err-within_bounds.field-0.0.ending in
    rw (p.1, p.2) (bounds_fail asked c.args.new_password.now c.args.given.store.items c.args.given.password s.contents s.keys keys o.0 o.1 o.2 c.part_of-opened.ensures.keys ending
    (by_numbers (λ a b c. (ending ≡ Memory) ⊎ IsOutside asked a b c ending) _ _ _ _ _ _ c.in_ok-found.ensures.others c.in_ok-found.ensures.certificates c.number_of_keys.ensures c.in_err-within_bounds.ensures.err))

pub returns-in_err-transferred-clause-err : goal.returns-in_err-transferred-clause-err
returns-in_err-transferred-clause-err g c =
    let p = err_from_is_err_and c.from_residual-in_err-transferred.result c.from_residual-in_err-transferred.ensures.1 in
    let o = c.in_ok-opened.ensures.ok in
    let asked = c.args.asked.now in
    let s = c.in_ok-opened.opened.safe in
    let keys = c.part_of-opened.result.keys in
    let bounded = by_numbers (IsWithin asked) _ _ _ _ _ _ c.in_ok-found.ensures.others c.in_ok-found.ensures.certificates c.number_of_keys.ensures c.in_ok-within_bounds.ensures.ok in
    rw (p.1, p.2) (sealing_fails asked c.args.new_password.now c.args.given.store.items c.args.given.password s.contents s.keys keys o.0 o.1 o.2 c.part_of-opened.ensures.keys bounded
    c.in_err-transferred.field-0.0.ending c.in_err-transferred.ensures.err)

pub returns-clause-ok : goal.returns-clause-ok
returns-clause-ok g c =
    let o = c.in_ok-opened.ensures.ok in
    let asked = c.args.asked.now in
    let s = c.in_ok-opened.opened.safe in
    let part = c.part_of-opened.result in
    let t = c.in_ok-transferred.transferred in
    let new_password = c.args.new_password.now in
    let bounded = by_numbers (IsWithin asked) _ _ _ _ _ _ c.in_ok-found.ensures.others c.in_ok-found.ensures.certificates c.number_of_keys.ensures c.in_ok-within_bounds.ensures.ok in
    let sealed = subst (λ (cs : List (List SafeBag)). IfSome new_password (λ q. SealsOpened asked.rounds q None None cs part.keys t.certificates t.documents)) c.part_of-opened.ensures.contents c.in_ok-transferred.ensures.sealed in
    let keyless = subst (λ (cs : List (List SafeBag)). IfNone new_password ((part.keys ≡ []) × (t.documents ≡ []) × (t.certificates ≡ all_certificates cs))) c.part_of-opened.ensures.contents c.in_ok-transferred.ensures.keyless in
    exports_so asked new_password c.args.given.store.items c.args.given.password s.contents s.keys part.keys o.0 o.1 o.2 c.part_of-opened.ensures.keys bounded c.requires t.certificates t.documents sealed keyless
